-- A fault that answers all bytes that begin with some answers these too.
use Rattle.std.proofs.Common.{◌≡◌, ℕ, List, [], Option, Some, Result, Err, subst, append-nil}
use Rattle.pnml_inputs.specs.Intake.{TakenBy}

pub faulty : {R V E : Type 0} (stands : R → List ℕ → Type 0) (answers : List ℕ → Result V E → Type 0) (reader : R) {fault : Option E} {f : E} (b : List ℕ)
    → fault ≡ Some f → TakenBy stands answers reader fault b → answers b (Err f)
faulty stands answers reader {fault} {f} b is taken =
    subst (λ l. answers l (Err f)) (append-nil b) (subst (λ o. TakenBy stands answers reader o b) is taken [])
