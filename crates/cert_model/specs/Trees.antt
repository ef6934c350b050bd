-- Trees in prefix order, the visits of their walk, and the obligation of each (this project's own).
use Rattle.std.specs.Prelude.{ℕ, zero, suc, ◌+◌, ◌-◌, List, [], ◌∷◌, ◌++◌, map, length, Bool, true, false, ◌&&◌, nat_eq, nat_lt, if◌then◌else◌, ℤ, pos, negsuc, ◌*ℤ◌, neg_ℤ, int_le, int_lt, Option, Some, None}
use Rattle.std.specs.List.{list_all, list_any}
use Rattle.tree_visits.specs.Forests.{forest_of, visits}
use Rattle.cert_model.specs.declared.Check.{Check}
use Rattle.cert_model.specs.declared.Check.TheVariants.{True}
use Rattle.cert_model.specs.Sums.{sum_of, judged}
use Rattle.cert_model.specs.Nets.{Net, all_places}
use Rattle.cert_model.specs.Forms.{Form, zero_form, Part, mixed, mixed_sums}
use Rattle.cert_model.specs.Facts.{Factor, Fact, element, slack_of, is_signed_well}
use Rattle.cert_model.specs.Formulas.{Formula}
use Rattle.cert_model.specs.Paths.{Item, State, nothing_supposed, lower_of, upper_of, with_hypothesis, opened, entered, size}

-- one summand of `close`
pub data Multiplier : Type 0 where
  OfFact : Factor → Multiplier
  -- the multiplier and the hypothesis, numbered from 1
  OfHypothesis : ℤ → ℕ → Multiplier

pub data Kind : Type 0 where
  Close : List Multiplier → Kind
  -- the named places
  Clash : List ℕ → Kind
  Split : Form → ℤ → Kind
  -- a choice, numbered from 1, and how many branches follow
  Cases : ℕ → ℕ → Kind
  Each : ℕ → Kind

pub record Node : Type 0 where
  pub line : ℕ
  pub kind : Kind

-- what follows a node before the next one of its own rank
abbrev pub branch_count : Kind → ℕ
branch_count (Close multipliers) = 0
branch_count (Clash places) = 0
branch_count (Split form limit) = 2
branch_count (Cases choice count) = count
branch_count (Each choice) = 1

-- hypotheses and choices are numbered from 1
abbrev pub numbered : {X : Type 0} → List X → ℕ → Option X
numbered xs zero = None
numbered xs (suc n) = element xs n

abbrev pub form_or_zero : Option Form → Form
form_or_zero None = zero_form
form_or_zero (Some form) = form

abbrev pub is_there : {X : Type 0} → Option X → Bool
is_there None = false
is_there (Some x) = true

abbrev pub part_of : Net → List Fact → State → Multiplier → Part
part_of net facts s (OfFact factor) = record { multiplier = factor.value; form = slack_of net (element facts factor.fact) }
part_of net facts s (OfHypothesis value number) = record { multiplier = value; form = form_or_zero (numbered s.hypotheses number) }

abbrev pub is_multiplied_well : List Fact → State → Multiplier → Bool
is_multiplied_well facts s (OfFact factor) = is_signed_well facts factor
is_multiplied_well facts s (OfHypothesis value number) = is_there (numbered s.hypotheses number) && int_le (pos 0) value

-- the greatest that a coefficient times a count within the bounds can be
abbrev pub greatest_term : ℤ → ℕ → Option ℕ → ℤ
greatest_term coefficient lower None = coefficient *ℤ pos lower
greatest_term coefficient lower (Some upper) = if int_le coefficient (pos 0) then coefficient *ℤ pos lower else coefficient *ℤ pos upper

-- where the coefficient is positive there is an upper bound
abbrev pub is_bounded : ℤ → Option ℕ → Bool
is_bounded coefficient None = int_le coefficient (pos 0)
is_bounded coefficient (Some upper) = true

abbrev pub greatest_terms : Net → State → Form → List ℤ
greatest_terms net s form = sum_of form.constant ∷ map (λ p. greatest_term (form.coefficient p) (lower_of s.lowers p) (upper_of s.uppers p)) (all_places net)

abbrev pub is_bounded_above : Net → State → Form → Bool
is_bounded_above net s form = list_all (λ p. is_bounded (form.coefficient p) (upper_of s.uppers p)) (all_places net)

abbrev pub close_check : Net → List Fact → State → List Multiplier → Check
close_check net facts s multipliers =
    judged (list_all (is_multiplied_well facts s) multipliers)
    (mixed_sums net (map (part_of net facts s) multipliers)
    ++ (if is_bounded_above net s (mixed (map (part_of net facts s) multipliers)) then greatest_terms net s (mixed (map (part_of net facts s) multipliers)) ∷ [] else []))
    (is_bounded_above net s (mixed (map (part_of net facts s) multipliers)) && int_lt (sum_of (greatest_terms net s (mixed (map (part_of net facts s) multipliers)))) (pos 0))

abbrev pub is_crossed : ℕ → Option ℕ → Bool
is_crossed lower None = false
is_crossed lower (Some upper) = nat_lt upper lower

abbrev pub has_count : ℕ → Option (List Item) → Bool
has_count count None = false
has_count count (Some items) = nat_eq (length items) count

-- a node's obligation at a state
abbrev pub node_check : Net → List Fact → State → Kind → Check
node_check net facts s (Close multipliers) = close_check net facts s multipliers
node_check net facts s (Clash places) = judged true [] (list_any (λ p. is_crossed (lower_of s.lowers p) (upper_of s.uppers p)) places)
node_check net facts s (Split form limit) = True
node_check net facts s (Cases choice count) = judged true [] (has_count count (numbered s.choices choice))
node_check net facts s (Each choice) = judged true [] (is_there (numbered s.choices choice))

-- `limit - form`
abbrev pub at_most : Form → ℤ → Form
at_most form limit = record { coefficient = λ p. neg_ℤ (form.coefficient p); constant = limit ∷ map neg_ℤ form.constant }

-- `form - limit - 1`
abbrev pub above : Form → ℤ → Form
above form limit = record { coefficient = form.coefficient; constant = form.constant ++ neg_ℤ limit ∷ negsuc 0 ∷ [] }

-- all items of a choice, one after the other; where it has another number of items, none
abbrev pub case_rounds : Net → State → ℕ → Option (List Item) → List (List State)
case_rounds net s count None = []
case_rounds net s count (Some items) = if nat_eq (length items) count then map (λ item. entered net item s) items ∷ [] else []

-- one item of a choice at a time
abbrev pub each_rounds : Net → State → Option (List Item) → List (List State)
each_rounds net s None = []
each_rounds net s (Some items) = map (λ item. entered net item s ∷ []) items

-- the states in which a node's branches are entered: one list for each time that all its branches
-- are walked
abbrev pub rounds : Net → State → Kind → List (List State)
rounds net s (Close multipliers) = []
rounds net s (Clash places) = []
rounds net s (Split form limit) = (with_hypothesis (at_most form limit) s ∷ with_hypothesis (above form limit) s ∷ []) ∷ []
rounds net s (Cases choice count) = case_rounds net s count (numbered s.choices choice)
rounds net s (Each choice) = each_rounds net s (numbered s.choices choice)

-- a state that is entered, and the size of the one before it
pub record Arrival : Type 0 where
  pub before : ℕ
  pub state : State

abbrev pub arrivals : State → List State → List Arrival
arrivals s states = map (λ t. record { before = size s; state = t }) states

abbrev pub arrival_rounds : Net → Arrival → Node → List (List Arrival)
arrival_rounds net arrival node = map (arrivals arrival.state) (rounds net arrival.state node.kind)

abbrev pub branches_of : Node → ℕ
branches_of node = branch_count node.kind

-- the walk of a section, in prefix order: its invariant is supposed false
abbrev pub walk : Net → Formula → List Node → List (Node × Arrival)
walk net invariant nodes = visits (arrival_rounds net) (forest_of branches_of nodes) (arrivals nothing_supposed (opened net invariant false nothing_supposed ∷ []))

-- what a visit costs
abbrev pub cost : Arrival → ℕ
cost arrival = 1 + (size arrival.state - arrival.before)

-- the obligations of a section
abbrev pub tree_checks : Net → List Fact → Formula → List Node → List Check
tree_checks net facts invariant nodes = map (λ visit. node_check net facts visit.1.state visit.0.kind) (walk net invariant nodes)
