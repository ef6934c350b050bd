-- A judgement of `Shown` says that every obligation is true.
use Rattle.std.proofs.Common.{◌≡◌, Bool, true, ◌&&◌, List, [], ◌∷◌, ◌++◌, map, refl, sym, ◌∙◌, ap}
use Rattle.std.specs.List.{list_all, AllByRecursion}
use Rattle.std.proofs.lemmas.List.Folds.{list_all-append, list_all-map}
use Rattle.tree_visits.specs.Forests.{are_trees}
use Rattle.cert_model.specs.declared.Check.{Check}
use Rattle.cert_model.specs.declared.Check.TheVariants.{True, False, Wide}
use Rattle.cert_model.specs.Sums.{is_true}
use Rattle.cert_model.specs.Nets.{Counts, Instance, Net, Reach}
use Rattle.cert_model.specs.Facts.{Fact, base_checks, step_check, fact_checks, facts_checks_from}
use Rattle.cert_model.specs.Formulas.{truth}
use Rattle.cert_model.specs.Trees.{Node, Arrival, branches_of, walk, node_check}
use Rattle.cert_model.specs.Judging.{Stated, Section, Base, Step, AtNode, Obligation, Judged, Shown, NotShown, Range, facts_of, fact_obligations, facts_obligations, section_obligations, judgement_of, and_then, facts_judgement, section_judgement, sections_judgement, judgement}
use Rattle.cert_model.proofs.Walks.{shown_is_invariant}

abbrev holds : Obligation → Bool
holds o = is_true o.check

both_shown : (first second : Judged) → and_then first second ≡ Shown → (first ≡ Shown) × (second ≡ Shown)
both_shown Shown second h = (refl, h)
both_shown (NotShown line spot) second h = absurd cc
both_shown (Range line spot) second h = absurd cc

all_true : (os : List Obligation) → judgement_of os ≡ Shown → list_all holds os ≡ true
all_true [] h = refl
all_true (o ∷ os) h = from o.check h (all_true os)
  where
    from : (check : Check) → judgement_of (record { line = o.line; spot = o.spot; check = check } ∷ os) ≡ Shown → (judgement_of os ≡ Shown → list_all holds os ≡ true)
        → (is_true check && list_all holds os) ≡ true
    from True h rest = rest h
    from False h rest = absurd cc
    from Wide h rest = absurd cc

one_fact : (net : Net) (earlier : List Fact) (s : Stated) → list_all holds (fact_obligations net earlier s) ≡ list_all is_true (fact_checks net earlier s.fact)
one_fact net earlier s =
    let base : Check → Obligation = λ c. record { line = s.line; spot = Base; check = c } in
    let step : Instance → Obligation = λ i. record { line = s.line; spot = Step i.number; check = step_check net earlier s.fact i } in
    list_all-append holds (map base (base_checks net s.fact)) (map step net.kept)
    ∙ ap (λ b. b && list_all holds (map step net.kept)) (list_all-map holds base (base_checks net s.fact))
    ∙ ap (λ b. list_all is_true (base_checks net s.fact) && b) (list_all-map holds step net.kept ∙ sym (list_all-map is_true (step_check net earlier s.fact) net.kept))
    ∙ sym (list_all-append is_true (base_checks net s.fact) (map (step_check net earlier s.fact) net.kept))

all_facts : (net : Net) (earlier : List Fact) (stated : List Stated) → list_all holds (facts_obligations net earlier stated) ≡ list_all is_true (facts_checks_from net earlier (facts_of stated))
all_facts net earlier [] = refl
all_facts net earlier (s ∷ more) =
    list_all-append holds (fact_obligations net earlier s) (facts_obligations net (earlier ++ s.fact ∷ []) more)
    ∙ ap (λ b. b && list_all holds (facts_obligations net (earlier ++ s.fact ∷ []) more)) (one_fact net earlier s)
    ∙ ap (λ b. list_all is_true (fact_checks net earlier s.fact) && b) (all_facts net (earlier ++ s.fact ∷ []) more)
    ∙ sym (list_all-append is_true (fact_checks net earlier s.fact) (facts_checks_from net (earlier ++ s.fact ∷ []) (facts_of more)))

pub shown_sections_hold : (net : Net) (stated : List Stated) (section : Section) → are_trees branches_of 1 section.tree ≡ true → section_judgement net stated section ≡ Shown
    → (m : Counts) → Reach net m → truth net m section.invariant ≡ true
shown_sections_hold net stated section whole shown =
    let both = both_shown (facts_judgement net stated) (judgement_of (section_obligations net (facts_of stated) section)) shown in
    let visited : (Node × Arrival) → Obligation = λ v. record { line = v.0.line; spot = AtNode; check = node_check net (facts_of stated) v.1.state v.0.kind } in
    let vs : List (Node × Arrival) = walk net section.invariant section.tree in
    shown_is_invariant net (facts_of stated) section.invariant section.tree whole
    (sym (all_facts net [] stated) ∙ all_true (facts_obligations net [] stated) both.0)
    (list_all-map is_true (λ (v : Node × Arrival). node_check net (facts_of stated) v.1.state v.0.kind) vs ∙ sym (list_all-map holds visited vs) ∙ all_true (section_obligations net (facts_of stated) section) both.1)

each_section : (net : Net) (stated : List Stated) (sections : List Section) → facts_judgement net stated ≡ Shown → sections_judgement net (facts_of stated) sections ≡ Shown
    → AllByRecursion (λ section. section_judgement net stated section ≡ Shown) sections
each_section net stated [] facts shown = tt
each_section net stated (section ∷ more) facts shown =
    let both = both_shown (judgement_of (section_obligations net (facts_of stated) section)) (sections_judgement net (facts_of stated) more) shown in
    (ap (λ j. and_then j (judgement_of (section_obligations net (facts_of stated) section))) facts ∙ both.0, each_section net stated more facts both.1)

pub shown_is_shown : (net : Net) (stated : List Stated) (sections : List Section) → judgement net stated sections ≡ Shown
    → AllByRecursion (λ section. section_judgement net stated section ≡ Shown) sections
shown_is_shown net stated sections shown =
    let both = both_shown (facts_judgement net stated) (sections_judgement net (facts_of stated) sections) shown in
    each_section net stated sections both.0 both.1
