-- Forms and formulas over all places of a net, on the places of the reduced net (this project's own).
use Rattle.std.specs.Prelude.{ℕ, List, ◌++◌, slice_index}
use Rattle.pt_net.specs.Systems.{NetSystem, places}
use Rattle.trap_siphon.specs.Sets.{has}
use Rattle.reductions.specs.Numbers.{numbers}
use Rattle.reductions.specs.Slots.{last_constant}
use Rattle.cert_model.specs.Sums.{products}
use Rattle.cert_model.specs.Forms.{Form}
use Rattle.cert_model.specs.Formulas.{Formula, Formulas, Compare, Fireable, Not, And, Or, End, More}
use Rattle.cert_laws.specs.PlainNets.{kept_place}

abbrev pub constant_places : NetSystem → List ℕ
constant_places net = numbers (places net) (has (last_constant net))

-- a coefficient on a constant place, times the count there, is a term of the constant
abbrev pub reduced_form : NetSystem → Form → Form
reduced_form net form = record {
  coefficient = λ q. form.coefficient (kept_place net q);
  constant = form.constant ++ products (constant_places net) form.coefficient (slice_index net.initial);
}

abbrev mutual
  pub reduced_formula : NetSystem → Formula → Formula
  reduced_formula net (Compare form) = Compare (reduced_form net form)
  reduced_formula net (Fireable transitions) = Fireable transitions
  reduced_formula net (Not f) = Not (reduced_formula net f)
  reduced_formula net (And fs) = And (reduced_formulas net fs)
  reduced_formula net (Or fs) = Or (reduced_formulas net fs)

  pub reduced_formulas : NetSystem → Formulas → Formulas
  reduced_formulas net End = End
  reduced_formulas net (More f fs) = More (reduced_formula net f) (reduced_formulas net fs)
