-- State formulas on the unfolded net, over the numbers of the place instances (this project's own).
use Rattle.std.specs.Prelude.{ℕ, List, [], ◌∷◌, ◌++◌, map, nat_eq, ℤ, pos, ◌+ℤ◌, neg_ℤ, slice_index_or}
use Rattle.std.specs.List.{count_by}
use Rattle.cert_model.specs.Forms.{Form}
use Rattle.cert_model.specs.Formulas as on_places
use Rattle.net_firing.specs.Coloured.{ColouredNet}
use Rattle.net_firing.specs.Markings.{pairs}
use Rattle.mcc_model.specs.declared.formulas.Count.{Count}
use Rattle.mcc_model.specs.declared.formulas.Count.TheVariants.{Number, Tokens}
use Rattle.net_props.specs.Properties.{StateFormula, StateFormulas, AtMost, Fireable, Not, And, Or, End, More}

-- the place of a place instance
abbrev pub owner : ColouredNet → ℕ → ℕ
owner net q = (slice_index_or (pairs net) q (0, 0)).0

-- how often the place of an instance is listed, and the numbers that aren't counts of tokens
abbrev pub weight : ColouredNet → Count → ℕ → ℕ
weight net (Number n) q = 0
weight net (Tokens ps) q = count_by (λ p. nat_eq p (owner net q)) ps

abbrev pub constants : Count → List ℤ
constants (Number n) = pos n ∷ []
constants (Tokens ps) = []

-- `b - a`
abbrev pub difference : ColouredNet → Count → Count → Form
difference net a b = record {
  coefficient = λ q. pos (weight net b q) +ℤ neg_ℤ (pos (weight net a q));
  constant = constants b ++ map neg_ℤ (constants a);
}

abbrev mutual
  pub resolved : ColouredNet → StateFormula → on_places.Formula
  resolved net (AtMost a b) = on_places.Compare (difference net a b)
  resolved net (Fireable transitions) = on_places.Fireable transitions
  resolved net (Not f) = on_places.Not (resolved net f)
  resolved net (And fs) = on_places.And (resolved_all net fs)
  resolved net (Or fs) = on_places.Or (resolved_all net fs)

  pub resolved_all : ColouredNet → StateFormulas → on_places.Formulas
  resolved_all net End = on_places.End
  resolved_all net (More f fs) = on_places.More (resolved net f) (resolved_all net fs)
