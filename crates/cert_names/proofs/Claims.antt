-- What facts and splits say of a reached marking.
use Rattle.std.proofs.Common.{◌≡◌, ◌<◌, ℕ, ◌-◌, Bool, true, ◌&&◌, List, [], ◌∷◌, ◌++◌, map, filter, sum_by, ℤ, pos, negsuc, ◌+ℤ◌, ◌*ℤ◌, neg_ℤ, refl, ap, sym, ◌∙◌, arith, slice_index}
use Rattle.std.specs.Prelude.{int_le, int_lt}
use Rattle.std.specs.List.{AllByRecursion, list_all, range_with_len}
use Rattle.std.proofs.lemmas.Int.{ints}
use Rattle.std.proofs.lemmas.List.Folds.{list_all-append, list_all-map}
use Rattle.pt_net.specs.Numbering.{NetNumbering}
use Rattle.pt_net.specs.Systems.{NetSystem, IsSystem, PtReach, places}
use Rattle.reductions.specs.Laws.{KeepsConstants}
use Rattle.reductions.specs.Rounds.{rounds}
use Rattle.reductions.specs.Reduced.{last_active, kept, reduced, reduced_by, without_constants}
use Rattle.reductions.specs.Slots.{last_constant}
use Rattle.reductions.proofs.Runs.{enabled_active}
use Rattle.reductions.proofs.Reduces.{reach_down}
use Rattle.line_words.specs.declared.items.PlaceRef.{PlaceRef}
use Rattle.line_words.specs.declared.items.Weight.{Weight}
use Rattle.cert_lines.specs.declared.certificates.Fact.{Fact}
use Rattle.cert_lines.specs.declared.certificates.FactKind.TheVariants.{Flow, Trap, Bound}
use Rattle.cert_model.specs.declared.Check.{Check}
use Rattle.cert_model.specs.declared.Check.TheVariants as check
use Rattle.cert_model.specs.Sums.{is_true, sum_of, products}
use Rattle.cert_model.specs.Nets.{Instance, Net, all_places}
use Rattle.cert_model.specs.Forms.{Form, value_at}
use Rattle.cert_model.specs.Facts as facts
use Rattle.cert_model.specs.Facts.{IsMet, base_checks, step_check, fact_checks, facts_checks_from}
use Rattle.cert_model.specs.Trees.{at_most, above}
use Rattle.cert_model.specs.Judging.{Stated, Base, Step, Obligation, Shown, facts_of, fact_obligations, facts_obligations, judgement_of}
use Rattle.cert_model.proofs.Weights.{sum_of-append, sum_of-neg, products-neg}
use Rattle.cert_model.proofs.Holding.{facts_hold}
use Rattle.cert_laws.specs.PlainNets.{plain_reduced, kept_counts, kept_place, kept_places, last_live}
use Rattle.cert_laws.specs.Reducing.{reduced_form}
use Rattle.cert_laws.proofs.Firing.{as_many, kept-count}
use Rattle.cert_laws.proofs.Lists.{map-read}
use Rattle.cert_laws.proofs.Reaching.{reach_reduced}
use Rattle.cert_laws.proofs.Values.{same_value}
use Rattle.cert_names.specs.Numbers.{names_of}
use Rattle.cert_names.specs.Sections.{coefficient, is_listed, weighted, below, fact_of, stated}
use Rattle.cert_names.specs.Meanings.{weighted_sum, Claims, FactsAreClaims, SplitsAreClaims, ClaimsHold}
use Rattle.cert_names.proofs.Sums.{unit, unit_sum, weighted_is}

keeps : (net : NetSystem) (marking : List ℕ) → IsSystem net → PtReach net marking → KeepsConstants net (last_constant net) marking
keeps net marking is_system reach = (reach_down net (last_active net) marking is_system (enabled_active net (rounds net - 1)) reach).0

keeps_first : (net : NetSystem) → KeepsConstants net (last_constant net) net.initial
keeps_first net = record { as_long = refl; same = λ p still. refl }

-- the initial marking without the constant places
first_counts : (net : NetSystem) (still ks : List Bool) → (reduced_by net still ks).initial ≡ without_constants net still net.initial
unfolding reduced_by without_constants
first_counts net still ks = refl

-- the value of the weighted sum on the places that stay
value_is : (l : NetNumbering) (net : NetSystem) (weights : List Weight) (marking : List ℕ) → KeepsConstants net (last_constant net) marking
    → value_at (plain_reduced net) (reduced_form net (weighted l weights)) (kept_counts net marking) ≡ weighted_sum l net weights marking
value_is l net weights marking still =
    let sum = weighted_is l net weights marking in
    let same = same_value net marking (weighted l weights) still in
    omega (arith, ints, sum, same)

-- a flow
flow-is : (l : NetNumbering) (net : NetSystem) (weights : List Weight) (marking : List ℕ) → KeepsConstants net (last_constant net) marking
    → value_at (plain_reduced net) (facts.slack (plain_reduced net) (facts.Flow (λ q. coefficient l weights (kept_place net q)))) (kept_counts net marking)
    ≡ weighted_sum l net weights marking +ℤ neg_ℤ (weighted_sum l net weights net.initial)
flow-is l net weights marking still =
    let places : List ℕ = all_places (plain_reduced net) in
    let y : ℕ → ℤ = λ q. coefficient l weights (kept_place net q) in
    let now = value_is l net weights marking still in
    let first = value_is l net weights net.initial (keeps_first net) in
    let initial : sum_of (products places y (slice_index (reduced net).initial)) ≡ sum_of (products places y (kept_counts net net.initial)) =
    ap (λ (m : List ℕ). sum_of (products places y (slice_index m))) (first_counts net (last_constant net) (kept net (last_constant net) (last_live net))) in
    let negated = sum_of-neg (products places y (slice_index (reduced net).initial)) in
    omega (arith, ints, now, first, initial, negated)

flow-from : (z w v : ℤ) → z ≡ w +ℤ neg_ℤ v → z ≡ pos 0 → w ≡ v
flow-from z w v is none = omega (arith, ints, is, none)

flow-to : (z w v : ℤ) → z ≡ w +ℤ neg_ℤ v → w ≡ v → z ≡ pos 0
flow-to z w v is same = omega (arith, ints, is, same)

-- a bound
bound-is : (l : NetNumbering) (net : NetSystem) (limit : ℤ) (weights : List Weight) (marking : List ℕ) → KeepsConstants net (last_constant net) marking
    → value_at (plain_reduced net) (reduced_form net (below l limit weights)) (kept_counts net marking) ≡ limit +ℤ neg_ℤ (weighted_sum l net weights marking)
bound-is l net limit weights marking still =
    let sum = weighted_is l net weights marking in
    let negated = products-neg (range_with_len 0 (places net)) (coefficient l weights) (slice_index marking) in
    let same = same_value net marking (below l limit weights) still in
    omega (arith, ints, sum, negated, same)

bound-from : (z w limit : ℤ) → z ≡ limit +ℤ neg_ℤ w → int_le (pos 0) z ≡ true → int_le w limit ≡ true
bound-from z w limit is holds = grind (arith, ints)

bound-to : (z w limit : ℤ) → z ≡ limit +ℤ neg_ℤ w → int_le w limit ≡ true → int_le (pos 0) z ≡ true
bound-to z w limit is holds = grind (arith, ints)

-- a trap
trap-is : (l : NetNumbering) (net : NetSystem) (listed : List PlaceRef) (marking : List ℕ)
    → sum_of (products (all_places (plain_reduced net)) (λ q. unit (is_listed l listed (kept_place net q))) (kept_counts net marking))
    ≡ pos (sum_by (slice_index marking) (filter (is_listed l listed) (kept_places net)))
trap-is l net listed marking =
    ap sum_of (map-read (λ q. unit (is_listed l listed (kept_place net q)) *ℤ pos (kept_counts net marking q)) (λ p. unit (is_listed l listed p) *ℤ pos (slice_index marking p)) (kept_places net) (places (reduced net)) (pos 0) (as_many net)
    (λ q low. ap (λ n. unit (is_listed l listed (kept_place net q)) *ℤ pos n) (kept-count net marking q low)))
    ∙ unit_sum (is_listed l listed) (slice_index marking) (kept_places net)

trap-from : (z : ℤ) (n : ℕ) → z ≡ pos n → int_le (pos 0) (z +ℤ negsuc 0) ≡ true → 0 < n
trap-from z n is holds = grind (arith, ints)

trap-to : (z : ℤ) (n : ℕ) → z ≡ pos n → 0 < n → int_le (pos 0) (z +ℤ negsuc 0) ≡ true
trap-to z n is some = grind (arith, ints)

pub facts_are_claims : (l : NetNumbering) (net : NetSystem) → IsSystem net → FactsAreClaims l net
facts_are_claims l net is_system names (Flow weights) marking reach =
    let is = flow-is l net weights marking (keeps net marking is_system reach) in (
      flow-from _ (weighted_sum l net weights marking) (weighted_sum l net weights net.initial) is,
      flow-to _ (weighted_sum l net weights marking) (weighted_sum l net weights net.initial) is,
    )
facts_are_claims l net is_system names (Trap listed) marking reach =
    let is = trap-is l net listed marking in (trap-from _ _ is, trap-to _ _ is)
facts_are_claims l net is_system names (Bound limit weights steps) marking reach =
    let is = bound-is l net limit weights marking (keeps net marking is_system reach) in (
      bound-from _ (weighted_sum l net weights marking) limit is,
      bound-to _ (weighted_sum l net weights marking) limit is,
    )

-- the halves of a split
at_most-is : (net : Net) (form : Form) (limit : ℤ) (m : ℕ → ℕ) → value_at net (at_most form limit) m ≡ limit +ℤ neg_ℤ (value_at net form m)
at_most-is net form limit m =
    let negated = products-neg (all_places net) form.coefficient m in
    let constant = sum_of-neg form.constant in
    omega (arith, ints, negated, constant)

above-is : (net : Net) (form : Form) (limit : ℤ) (m : ℕ → ℕ) → value_at net (above form limit) m ≡ (value_at net form m +ℤ neg_ℤ limit) +ℤ negsuc 0
above-is net form limit m =
    let constant = sum_of-append form.constant (neg_ℤ limit ∷ negsuc 0 ∷ []) in
    omega (arith, ints, constant)

above-from : (z w limit : ℤ) → z ≡ (w +ℤ neg_ℤ limit) +ℤ negsuc 0 → int_le (pos 0) z ≡ true → int_lt limit w ≡ true
above-from z w limit is holds = grind (arith, ints)

above-to : (z w limit : ℤ) → z ≡ (w +ℤ neg_ℤ limit) +ℤ negsuc 0 → int_lt limit w ≡ true → int_le (pos 0) z ≡ true
above-to z w limit is holds = grind (arith, ints)

pub splits_are_claims : (l : NetNumbering) (net : NetSystem) → IsSystem net → SplitsAreClaims l net
splits_are_claims l net is_system = record {
  first = λ limit weights marking reach.
      let now = value_is l net weights marking (keeps net marking is_system reach) in
      let is = at_most-is (plain_reduced net) (reduced_form net (weighted l weights)) limit (kept_counts net marking) ∙ ap (λ w. limit +ℤ neg_ℤ w) now in
      (bound-from _ (weighted_sum l net weights marking) limit is, bound-to _ (weighted_sum l net weights marking) limit is);
  second = λ limit weights marking reach.
      let now = value_is l net weights marking (keeps net marking is_system reach) in
      let is = above-is (plain_reduced net) (reduced_form net (weighted l weights)) limit (kept_counts net marking) ∙ ap (λ w. (w +ℤ neg_ℤ limit) +ℤ negsuc 0) now in
      (above-from _ (weighted_sum l net weights marking) limit is, above-to _ (weighted_sum l net weights marking) limit is);
}

-- where the facts are judged shown, all that they owe is true
all_true : (os : List Obligation) → judgement_of os ≡ Shown → list_all (λ o. is_true o.check) os ≡ true
all_true [] h = refl
all_true (o ∷ os) h = from o.check h (all_true os)
  where
    from : (check : Check) → judgement_of (record { line = o.line; spot = o.spot; check = check } ∷ os) ≡ Shown → (judgement_of os ≡ Shown → list_all (λ o. is_true o.check) os ≡ true)
        → (is_true check && list_all (λ o. is_true o.check) os) ≡ true
    from check.True h rest = rest h
    from check.False h rest = absurd cc
    from check.Wide h rest = absurd cc

one_fact : (net : Net) (earlier : List facts.Fact) (s : Stated) → list_all (λ o. is_true o.check) (fact_obligations net earlier s) ≡ list_all is_true (fact_checks net earlier s.fact)
one_fact net earlier s =
    let base : Check → Obligation = λ c. record { line = s.line; spot = Base; check = c } in
    let step : Instance → Obligation = λ i. record { line = s.line; spot = Step i.number; check = step_check net earlier s.fact i } in
    list_all-append (λ o. is_true o.check) (map base (base_checks net s.fact)) (map step net.kept)
    ∙ ap (λ b. b && list_all (λ o. is_true o.check) (map step net.kept)) (list_all-map (λ o. is_true o.check) base (base_checks net s.fact))
    ∙ ap (λ b. list_all is_true (base_checks net s.fact) && b) (list_all-map (λ o. is_true o.check) step net.kept ∙ sym (list_all-map is_true (step_check net earlier s.fact) net.kept))
    ∙ sym (list_all-append is_true (base_checks net s.fact) (map (step_check net earlier s.fact) net.kept))

all_facts : (net : Net) (earlier : List facts.Fact) (all : List Stated)
    → list_all (λ o. is_true o.check) (facts_obligations net earlier all) ≡ list_all is_true (facts_checks_from net earlier (facts_of all))
all_facts net earlier [] = refl
all_facts net earlier (s ∷ more) =
    list_all-append (λ o. is_true o.check) (fact_obligations net earlier s) (facts_obligations net (earlier ++ s.fact ∷ []) more)
    ∙ ap (λ b. b && list_all (λ o. is_true o.check) (facts_obligations net (earlier ++ s.fact ∷ []) more)) (one_fact net earlier s)
    ∙ ap (λ b. list_all is_true (fact_checks net earlier s.fact) && b) (all_facts net (earlier ++ s.fact ∷ []) more)
    ∙ sym (list_all-append is_true (fact_checks net earlier s.fact) (facts_checks_from net (earlier ++ s.fact ∷ []) (facts_of more)))

each_claims : (l : NetNumbering) (net : NetSystem) → IsSystem net → (names : List (List ℕ)) (marking : List ℕ) → PtReach net marking → (xs : List Fact)
    → AllByRecursion (λ fact. IsMet (plain_reduced net) fact (kept_counts net marking)) (facts_of (map (λ fact. record { line = fact.line; fact = fact_of l net names fact.kind }) xs))
    → AllByRecursion (λ fact. Claims l net marking fact.kind) xs
each_claims l net is_system names marking reach [] met = tt
each_claims l net is_system names marking reach (x ∷ xs) met =
    ((facts_are_claims l net is_system names x.kind marking reach).0 met.0, each_claims l net is_system names marking reach xs met.1)

pub claims_hold : (l : NetNumbering) (net : NetSystem) → IsSystem net → ClaimsHold l net
claims_hold l net is_system all shown marking reach =
    let given : List Stated = stated l net all in
    each_claims l net is_system (names_of all) marking reach all
    (facts_hold (plain_reduced net) (facts_of given) (sym (all_facts (plain_reduced net) [] given) ∙ all_true (facts_obligations (plain_reduced net) [] given) shown)
    (kept_counts net marking) (reach_reduced net marking is_system reach))
