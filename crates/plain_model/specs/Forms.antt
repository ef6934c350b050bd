-- Forms: a whole number per place and a constant. A slack form is one of a fact or a hypothesis
-- whose value is 0 (a flow) or at least 0 (a hypothesis) wherever that holds (Murata 1989, S-invariants).
use Rattle.std.specs.Prelude.{ℕ, ◌+◌, List, [], ◌∷◌, ◌++◌, map, bytes_eq, if◌then◌else◌, ℤ, pos, negsuc, ◌+ℤ◌, ◌-ℤ◌, neg_ℤ}
use Rattle.plain_model.specs.declared.nets.PlainNet.{PlainNet}
use Rattle.plain_model.specs.declared.properties.Property.{Property}
use Rattle.plain_model.specs.declared.properties.Count.{Count}
use Rattle.plain_model.specs.declared.properties.Count.TheVariants.{Number, Tokens}
use Rattle.plain_model.specs.declared.certificates.Weight.{Weight}
use Rattle.plain_model.specs.declared.certificates.Flow.{Flow}
use Rattle.plain_model.specs.declared.certificates.Multiplier.{Multiplier}
use Rattle.plain_model.specs.declared.certificates.Multiplier.TheVariants.{Fact, Hypothesis}
use Rattle.plain_model.specs.Firing.{initial}
use Rattle.plain_model.specs.Sums.{sum_of, products}

pub record Form : Type 0 where
  -- the coefficient on the place with this id
  pub coefficient : List ℕ → ℤ
  -- the terms that add up to the constant
  pub constant : List ℤ

-- the coefficients, one per place of the net
abbrev pub coefficients : PlainNet → Form → List ℤ
coefficients net form = map (λ place. form.coefficient place.id) net.places

-- the value of a form at a marking
abbrev pub value_at : PlainNet → Form → List ℕ → ℤ
value_at net form marking = sum_of (products (coefficients net form) marking) +ℤ sum_of form.constant

-- what the weights say of the place with this id, added up
abbrev pub weight_on : List Weight → List ℕ → ℤ
weight_on [] id = pos 0
weight_on (weight ∷ weights) id = (if bytes_eq id weight.place then weight.value else pos 0) +ℤ weight_on weights id

-- the coefficients of the flow, and minus its value at the initial marking: it equals 0
abbrev pub flow_slack : PlainNet → Flow → Form
flow_slack net flow = record {
  coefficient = weight_on flow.weights;
  constant = map neg_ℤ (products (map (λ place. weight_on flow.weights place.id) net.places) (initial net));
}

-- how often the id stands in the list
abbrev pub times_in : List (List ℕ) → List ℕ → ℕ
times_in [] id = 0
times_in (listed ∷ ids) id = (if bytes_eq id listed then 1 else 0) + times_in ids id

-- how often the count lists the place with this id
abbrev pub times_listed : Count → List ℕ → ℕ
times_listed (Number number) id = 0
times_listed (Tokens ids) id = times_in ids id

-- the numbers of a count
abbrev pub numbers : Count → List ℤ
numbers (Number number) = pos number ∷ []
numbers (Tokens ids) = []

-- the negated invariant, `left - right - 1`: it is at least 0
abbrev pub hypothesis_slack : Property → Form
hypothesis_slack property = record {
  coefficient = λ id. pos (times_listed property.left id) -ℤ pos (times_listed property.right id);
  constant = numbers property.left ++ map neg_ℤ (numbers property.right) ++ negsuc 0 ∷ [];
}

abbrev pub zero_form : Form
zero_form = record { coefficient = λ id. pos 0; constant = [] }

-- the slack form of the flow with this name, the first of that name
abbrev pub flow_slack_of : PlainNet → List Flow → List ℕ → Form
flow_slack_of net [] name = zero_form
flow_slack_of net (flow ∷ flows) name = if bytes_eq name flow.name then flow_slack net flow else flow_slack_of net flows name

-- the slack form that a summand of `close` multiplies
abbrev pub slack_of : PlainNet → Property → List Flow → Multiplier → Form
slack_of net property flows (Fact factor) = flow_slack_of net flows factor.fact
slack_of net property flows (Hypothesis value number) = hypothesis_slack property

abbrev pub multiplier_of : Multiplier → ℤ
multiplier_of (Fact factor) = factor.value
multiplier_of (Hypothesis value number) = value
