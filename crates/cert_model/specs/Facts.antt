-- Facts of a certificate, and their obligations. Flows are place invariants, and traps are those of Murata 1989; bounds are
-- this project's own, after the lemma of Farkas, in whole numbers.
use Rattle.std.specs.Prelude.{◌≡◌, ℕ, zero, suc, List, [], ◌∷◌, ◌++◌, map, Bool, true, false, ◌&&◌, nat_eq, nat_le, if◌then◌else◌, ℤ, pos, negsuc, neg_ℤ, int_le, unsigned_abs, Option, Some, None}
use Rattle.std.specs.List.{list_all, list_any}
use Rattle.cert_model.specs.declared.Check.{Check}
use Rattle.cert_model.specs.Sums.{sum_of, products, judged}
use Rattle.cert_model.specs.Nets.{Counts, Instance, Net, all_places}
use Rattle.cert_model.specs.Forms.{Form, zero_form, value_at, NotNegative, Part, mixed, mixed_sums}

-- a multiple of the fact with this number
pub record Factor : Type 0 where
  pub value : ℤ
  pub fact : ℕ

-- a step line of a bound
pub record StepLine : Type 0 where
  pub scale : ℤ
  pub keep : ℤ
  pub factors : List Factor

pub data Fact : Type 0 where
  -- a weight per place
  Flow : (ℕ → ℤ) → Fact
  -- a set of places
  Trap : (ℕ → Bool) → Fact
  -- a weight per place, the terms of the limit, and a step line per instance
  Bound : (ℕ → ℤ) → List ℤ → (ℕ → StepLine) → Fact

-- the element with this number, from 0
abbrev pub element : {X : Type 0} → List X → ℕ → Option X
element [] n = None
element (x ∷ xs) zero = Some x
element (x ∷ xs) (suc n) = element xs n

abbrev pub slack : Net → Fact → Form
slack net (Flow weight) = record { coefficient = weight; constant = map neg_ℤ (products (all_places net) weight net.initial) }
slack net (Trap has) = record { coefficient = λ p. if has p then pos 1 else pos 0; constant = negsuc 0 ∷ [] }
slack net (Bound weight limit lines) = record { coefficient = λ p. neg_ℤ (weight p); constant = limit }

-- what a fact says of a marking
abbrev pub IsMet : Net → Fact → Counts → Type 0
IsMet net (Flow weight) marking = value_at net (slack net (Flow weight)) marking ≡ pos 0
IsMet net (Trap has) marking = NotNegative (value_at net (slack net (Trap has)) marking)
IsMet net (Bound weight limit lines) marking = NotNegative (value_at net (slack net (Bound weight limit lines)) marking)

-- the slack form of the fact with this number
abbrev pub slack_of : Net → Option Fact → Form
slack_of net None = zero_form
slack_of net (Some fact) = slack net fact

abbrev pub is_flow : Option Fact → Bool
is_flow None = false
is_flow (Some (Flow weight)) = true
is_flow (Some (Trap has)) = false
is_flow (Some (Bound weight limit lines)) = false

-- a multiplier on a trap or bound is at least 0
abbrev pub is_signed_well : List Fact → Factor → Bool
is_signed_well facts factor = if is_flow (element facts factor.fact) then true else int_le (pos 0) factor.value

-- what an instance adds to a weighted sum, place by place
abbrev pub step_terms : Net → (ℕ → ℤ) → Instance → List ℤ
step_terms net weight i = products (all_places net) weight i.post ++ map neg_ℤ (products (all_places net) weight i.pre)

-- the residual of a bound's step: the scale times the slack after the step, minus `keep` times the
-- slack before it, minus each factor times the slack of its fact
abbrev pub step_parts : Net → List Fact → Form → (ℕ → ℤ) → Instance → StepLine → List Part
step_parts net earlier bound weight i line =
    record { multiplier = line.scale; form = bound }
    ∷ record { multiplier = line.scale; form = record { coefficient = λ p. pos 0; constant = neg_ℤ (sum_of (step_terms net weight i)) ∷ [] } }
    ∷ record { multiplier = neg_ℤ line.keep; form = bound }
    ∷ map (λ factor. record { multiplier = neg_ℤ factor.value; form = slack_of net (element earlier factor.fact) }) line.factors

-- no coefficient is negative, and the value is not negative where just the instance's inputs are
abbrev pub is_kept_up : Net → Form → Counts → Bool
is_kept_up net residual pre = list_all (λ p. int_le (pos 0) (residual.coefficient p)) (all_places net) && int_le (pos 0) (value_at net residual pre)

-- the sums of a step of a bound
abbrev pub step_sums : Net → (ℕ → ℤ) → Instance → List Part → List (List ℤ)
step_sums net weight i parts =
    step_terms net weight i ∷ mixed_sums net parts
    ++ (products (all_places net) (mixed parts).coefficient i.pre ++ sum_of (mixed parts).constant ∷ []) ∷ []

abbrev pub is_signed_line : List Fact → StepLine → Bool
is_signed_line earlier line = int_le (pos 1) line.scale && int_le (pos 0) line.keep && list_all (is_signed_well earlier) line.factors

abbrev pub takes : List ℕ → (ℕ → Bool) → Counts → Bool
takes places has row = list_any (λ p. has p && nat_le 1 (row p)) places

-- what is owed at the initial marking; a flow owes nothing
abbrev pub base_checks : Net → Fact → List Check
base_checks net (Flow weight) = []
base_checks net (Trap has) = judged true [] (int_le (pos 0) (value_at net (slack net (Trap has)) net.initial)) ∷ []
base_checks net (Bound weight limit lines) =
    judged true (limit ∷ (products (all_places net) (λ p. neg_ℤ (weight p)) net.initial ++ sum_of limit ∷ []) ∷ [])
    (int_le (pos 0) (value_at net (slack net (Bound weight limit lines)) net.initial)) ∷ []

-- what is owed for a kept instance
abbrev pub step_check : Net → List Fact → Fact → Instance → Check
step_check net earlier (Flow weight) i = judged true (step_terms net weight i ∷ []) (nat_eq (unsigned_abs (sum_of (step_terms net weight i))) 0)
step_check net earlier (Trap has) i = judged true [] (if takes (all_places net) has i.pre then takes (all_places net) has i.post else true)
step_check net earlier (Bound weight limit lines) i =
    judged (is_signed_line earlier (lines i.number))
    (step_sums net weight i (step_parts net earlier (slack net (Bound weight limit lines)) weight i (lines i.number)))
    (is_kept_up net (mixed (step_parts net earlier (slack net (Bound weight limit lines)) weight i (lines i.number))) i.pre)

-- a fact's obligations: first the base and then each kept instance
abbrev pub fact_checks : Net → List Fact → Fact → List Check
fact_checks net earlier fact = base_checks net fact ++ map (step_check net earlier fact) net.kept

-- the obligations of facts, each with the facts before it
abbrev pub facts_checks_from : Net → List Fact → List Fact → List Check
facts_checks_from net earlier [] = []
facts_checks_from net earlier (fact ∷ facts) = fact_checks net earlier fact ++ facts_checks_from net (earlier ++ fact ∷ []) facts

abbrev pub facts_checks : Net → List Fact → List Check
facts_checks net facts = facts_checks_from net [] facts
