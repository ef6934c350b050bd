-- What a reader has read.
use Rattle.std.specs.Prelude.{◌≡◌, ℕ, cond, List, [], length, nat_eq, Option, Some, None, Ok, Err}
use Rattle.std.specs.List.{flat_map}
use denote.Ref.{Bor}
use Rattle.doc_model.specs.declared.tree.Element.{Element}
use Rattle.doc_tree.specs.declared.faults.DocFault.{DocFault}
use Rattle.doc_tree.specs.declared.faults.DocFault.TheVariants as fault
use Rattle.doc_tree.specs.declared.places.Open.{Open}
use Rattle.doc_tree.specs.declared.places.Place.{Place}
use Rattle.doc_tree.specs.declared.places.Place.TheVariants as place
use Rattle.doc_tree.specs.declared.places.Part.{Part}
use Rattle.doc_tree.specs.declared.places.Part.TheVariants as part
use Rattle.doc_tree.specs.Machine.{State, state, start, run}
use Rattle.doc_tree.specs.Reading.{FeedAnswer}

-- the fault behind a byte at an offset: it can't stand there, or it ends the first character of a name within 256 open elements
abbrev pub fault_of : Place → Part → List Open → ℕ → Option DocFault
fault_of (place.Refused first) p os at = Some (fault.Malformed at)
fault_of (place.TagName from name) part.Whole os at = cond (nat_eq (length os) 256) (Some (fault.Deep from)) None
fault_of p q os at = None

-- the tree, where the bytes so far are a whole document
abbrev pub ended_of : State → Option Element
ended_of (state place.Between part.Whole [] (Some root)) = Some root
ended_of st = None

-- a reader in this state has read these bytes: without a fault it stands behind them, and they begin a document; a fault is theirs
abbrev pub HasReadBy : Option DocFault → State → ℕ → List ℕ → Type 0
HasReadBy None st count b = (st ≡ run start 0 b) × (count ≡ length b) × FeedAnswer b (Ok tt)
HasReadBy (Some f) st count b = FeedAnswer b (Err f)

-- the bytes of pieces, one behind the other
abbrev pub joined : List (Bor (List ℕ)) → List ℕ
joined pieces = flat_map (λ piece. piece.now) pieces
