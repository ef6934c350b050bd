-- The checks of obligations over a place/transition net, by the definitions of `cert_model`.
use Rattle.std.specs.Prelude.{ℕ, [], ◌∷◌, ◌++◌, map, Bool, true, ℤ, pos, ◌*ℤ◌, int_le, slice_index}
use Rattle.std.specs.List.{range_with_len}
use Rattle.wide_sums.specs.declared.rows.Cell.{Cell}
use Rattle.pt_net.specs.Systems.{NetSystem, places, size, pre, post}
use Rattle.cert_model.specs.declared.Check.{Check}
use Rattle.cert_model.specs.Sums.{sum_of, products, judged}
use Rattle.cert_model.specs.Nets.{Instance, Net, all_places}
use Rattle.cert_model.specs.Forms.{Form, value_at}
use Rattle.linear_cert.specs.declared.forms.Term.{Term}
use Rattle.linear_cert.specs.Fitting.{signed}

abbrev pub instance_of : NetSystem → ℕ → Instance
instance_of net i = record { number = i; pre = λ p. pre net i p; post = λ p. post net i p }

-- the net with all its instances
abbrev pub net_of : NetSystem → Net
net_of net = record { places = places net; initial = λ p. slice_index net.initial p; kept = map (instance_of net) (range_with_len 0 (size net)); live = [] }

-- a bound, or a trap, with this slack form holds at the initial marking
abbrev pub base_check : Net → Form → Check
base_check net form =
    judged true (form.constant ∷ (products (all_places net) form.coefficient net.initial ++ sum_of form.constant ∷ []) ∷ [])
    (int_le (pos 0) (value_at net form net.initial))

-- the count of a cell times the coefficient of its place
abbrev pub cell_term : Bool → (ℕ → ℤ) → Cell → ℤ
cell_term is_taken coefficient cell = signed is_taken (coefficient cell.at *ℤ pos cell.count)

-- the coefficient of a term times the count of its place
abbrev pub weighted : (ℕ → ℕ) → Term → ℤ
weighted counts term = term.value *ℤ pos (counts term.place)
