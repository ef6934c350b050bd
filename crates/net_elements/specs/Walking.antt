-- What a walk finds: the ids that were met, or the first broken rule.
use Rattle.std.specs.Prelude.{◌≡◌, ℕ, ◌-◌, ◌<◌, ◌^◌, List, [], ◌∷◌, ◌++◌, length, slice_get, Some, Result, Ok, Err, if◌then◌else◌}
use Rattle.std.specs.Bool.{⊤}
use Rattle.doc_model.specs.declared.tree.Element.{Element, out-Element}
use Rattle.doc_tree.specs.declared.faults.Fault.{Fault}
use Rattle.doc_tree.specs.declared.faults.Fault.TheVariants as fault
use Rattle.net_elements.specs.declared.faults.ReadFault.{ReadFault}
use Rattle.net_elements.specs.declared.faults.ReadFault.TheVariants.{Structure, Memory}
use Rattle.net_model.specs.declared.kinds.Kind.TheVariants.{Pt}
use Rattle.net_elements.specs.declared.roles.Role.TheVariants.{Pnml}
use Rattle.net_elements.specs.Rules.{Met, Note, broken, final, is_among, node, nothing_met, symbol, walk_of, with_node, with_symbol}

abbrev pub found : Met → List Note → Result Met (ℕ × Fault)
found met [] = Ok met
found met (broken at kind ∷ notes) = Err (at, kind)
found met (final at kind ∷ notes) = Err (at, kind)
found met (node at id ∷ notes) = if is_among met.nodes id then Err (at, fault.DuplicateId) else found (with_node met id) notes
found met (symbol at id ∷ notes) = if is_among met.symbols id then Err (at, fault.DuplicateId) else found (with_symbol met id) notes

-- behind a walk over the tree without a broken rule fewer than 2^32 - 1 ids of nodes and of symbols were met
abbrev pub HasFewIds : Element → Type 0
HasFewIds e = (after : Met) → found nothing_met ((walk_of e).notes Pt Pnml) ≡ Ok after → (length after.nodes < 2 ^ 32 - 1) × (length after.symbols < 2 ^ 32 - 1)

-- a walk behind which these ids were met
abbrev pub Finds : Met → Result Unit ReadFault → Result Met (ℕ × Fault) → Type 0
Finds after (Ok _) found = found ≡ Ok after
Finds after (Err (Structure at kind)) found = found ≡ Err (at, kind)
Finds after (Err Memory) found = ⊤

abbrev pub name_of : Element → List ℕ
name_of e = (out-Element e).name

-- an id that is met in one of the two spaces
abbrev pub met : List (List ℕ) → ℕ → List ℕ → Result (List (List ℕ)) (ℕ × Fault)
met ids at id = if is_among ids id then Err (at, fault.DuplicateId) else Ok (ids ++ id ∷ [])

abbrev pub IsMet : List (List ℕ) → ℕ → List ℕ → List (List ℕ) → Result Unit ReadFault → Type 0
IsMet before at id after (Ok _) = met before at id ≡ Ok after
IsMet before at id after (Err (Structure place kind)) = met before at id ≡ Err (place, kind)
IsMet before at id after (Err Memory) = ⊤

-- a fault is the first broken rule
abbrev pub IsFirst : List (ℕ × Fault) → ReadFault → Type 0
IsFirst rules (Structure at kind) = slice_get rules 0 ≡ Some (at, kind)
IsFirst rules Memory = ⊤
