-- Where all obligations of a tree are true, no marking meets the state in which it is entered.
use Rattle.std.proofs.Common.{◌≡◌, ℕ, Bool, true, false, List, [], ◌∷◌, map, length, inl, inr, refl, sym, ◌∙◌, arith, nat_eq}
use Rattle.std.specs.Prelude.{cond, Option, Some, None}
use Rattle.std.specs.List.{list_all, AllByRecursion}
use Rattle.std.proofs.lemmas.Bool.Decides.{nat_tests}
use Rattle.std.proofs.lemmas.List.{length-map}
use Rattle.std.proofs.lemmas.List.Folds.{list_all-map}
use Rattle.tree_visits.specs.Forests.{are_trees, forest_of, Some_of}
use Rattle.tree_visits.proofs.Refuting.{AreSized, spelled, refuted}
use Rattle.cert_model.specs.Sums.{is_true}
use Rattle.cert_model.specs.Nets.{Counts, Net, Reach}
use Rattle.cert_model.specs.Facts.{Fact, IsMet, facts_checks}
use Rattle.cert_model.specs.Formulas.{Formula, truth}
use Rattle.cert_model.specs.Paths.{Item, State, nothing_supposed, size, opened, entered, Meets}
use Rattle.cert_model.specs.Trees.{Kind, Close, Clash, Split, Cases, Each, Node, branch_count, branches_of, node_check, case_rounds, each_rounds, rounds, numbered, Arrival, arrivals, arrival_rounds, walk, tree_checks}
use Rattle.cert_model.proofs.Opening.{opened_meets}
use Rattle.cert_model.proofs.Branches.{nodes_leave_none_out}
use Rattle.cert_model.proofs.Holding.{facts_hold}

-- each round has a state for each branch
sized : (net : Net) (s : State) (kind : Kind) → AreSized (branch_count kind) (rounds net s kind)
sized net s (Close multipliers) = tt
sized net s (Clash places) = tt
sized net s (Split form limit) = (refl, tt)
sized net s (Cases choice count) = cases (numbered s.choices choice)
  where
    fits : (items : List Item) (b : Bool) → nat_eq (length items) count ≡ b → AreSized count (cond b (map (λ item. entered net item s) items ∷ []) [])
    fits items true is = (length-map items (λ item. entered net item s) ∙ grind (arith, nat_tests), tt)
    fits items false is = tt

    cases : (choice : Option (List Item)) → AreSized count (case_rounds net s count choice)
    cases None = tt
    cases (Some items) = fits items (nat_eq (length items) count) refl
sized net s (Each choice) = cases (numbered s.choices choice)
  where
    each : (items : List Item) → AreSized 1 (map (λ item. entered net item s ∷ []) items)
    each [] = tt
    each (item ∷ items) = (refl, each items)

    cases : (choice : Option (List Item)) → AreSized 1 (each_rounds net s choice)
    cases None = tt
    cases (Some items) = each items

-- the same of arrivals
arrivals-sized : (n : ℕ) (s : State) (lists : List (List State)) → AreSized n lists → AreSized n (map (arrivals s) lists)
arrivals-sized n s [] all = tt
arrivals-sized n s (states ∷ lists) all = (length-map states (λ (t : State). record { before = size s; state = t }) ∙ all.0, arrivals-sized n s lists all.1)

abbrev Met : Net → Counts → Arrival → Type 0
Met net m arrival = Meets net m arrival.state

arrived : (net : Net) (m : Counts) (s : State) (states : List State) → Some_of (Meets net m) states → Some_of (Met net m) (arrivals s states)
arrived net m s [] none = none
arrived net m s (t ∷ states) (inl here) = inl here
arrived net m s (t ∷ states) (inr later) = inr (arrived net m s states later)

arrived_round : (net : Net) (m : Counts) (s : State) (lists : List (List State)) → Some_of (Some_of (Meets net m)) lists → Some_of (Some_of (Met net m)) (map (arrivals s) lists)
arrived_round net m s [] none = none
arrived_round net m s (states ∷ lists) (inl here) = inl (arrived net m s states here)
arrived_round net m s (states ∷ lists) (inr later) = inr (arrived_round net m s lists later)

all_none : (net : Net) (m : Counts) → Meets net m nothing_supposed
all_none net m = record { hypotheses = tt; choices = tt; lowers = tt; uppers = tt }

pub trees_refute : (net : Net) (facts : List Fact) (m : Counts) → AllByRecursion (λ f. IsMet net f m) facts
    → (invariant : Formula) (nodes : List Node) → are_trees branches_of 1 nodes ≡ true → list_all is_true (tree_checks net facts invariant nodes) ≡ true
    → truth net m invariant ≡ true
trees_refute net facts m known invariant nodes whole holds = decided (truth net m invariant) refl
  where
    decided : (b : Bool) → truth net m invariant ≡ b → b ≡ true
    decided true is = refl
    decided false is =
        absurd (refuted branches_of (arrival_rounds net) (λ v. is_true (node_check net facts v.1.state v.0.kind)) (Met net m)
        (λ node a. arrivals-sized (branch_count node.kind) a.state (rounds net a.state node.kind) (sized net a.state node.kind))
        (λ node a true_here met. arrived_round net m a.state (rounds net a.state node.kind) (nodes_leave_none_out net facts m known a.state node.kind true_here met))
        (forest_of branches_of nodes) (arrivals nothing_supposed (opened net invariant false nothing_supposed ∷ [])) (spelled branches_of 1 nodes whole)
        (sym (list_all-map is_true (λ (v : Node × Arrival). node_check net facts v.1.state v.0.kind) (walk net invariant nodes)) ∙ holds)
        (inl (opened_meets net m invariant false nothing_supposed is (all_none net m))))

pub shown_is_invariant : (net : Net) (facts : List Fact) (invariant : Formula) (nodes : List Node) → are_trees branches_of 1 nodes ≡ true
    → list_all is_true (facts_checks net facts) ≡ true → list_all is_true (tree_checks net facts invariant nodes) ≡ true
    → (m : Counts) → Reach net m → truth net m invariant ≡ true
shown_is_invariant net facts invariant nodes whole known holds m reached = trees_refute net facts m (facts_hold net facts known m reached) invariant nodes whole holds
