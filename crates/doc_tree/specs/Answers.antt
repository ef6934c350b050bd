-- That bytes have one answer.
use Rattle.std.specs.Prelude.{◌≡◌, ℕ, List, Result, Err, ⊤}
use Rattle.doc_model.specs.declared.tree.Element.{Element}
use Rattle.doc_tree.specs.declared.faults.DocFault.{DocFault}
use Rattle.doc_tree.specs.declared.faults.DocFault.TheVariants as fault
use Rattle.doc_tree.specs.Reading.{FinishAnswer}

-- an answer that isn't want of memory
abbrev pub IsDecided : Result Element DocFault → Type 0
IsDecided (Err fault.Memory) = ⊥
IsDecided answer = ⊤

-- one such answer is right, and no other
pub record HasOneAnswer (b : List ℕ) : Type 0 where
  pub answer : Result Element DocFault
  pub decided : IsDecided answer
  pub right : FinishAnswer b answer
  pub alone : (other : Result Element DocFault) → IsDecided other → FinishAnswer b other → other ≡ answer
