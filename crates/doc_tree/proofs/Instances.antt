-- What a reader answers to given bytes, by running it on them.
use Rattle.std.proofs.Common.{◌≡◌, ℕ, suc, List, [], ◌∷◌, ◌++◌, Option, Some, None, Ok, Err, refl, sym, subst, append_assoc, append-nil}
use Rattle.doc_model.specs.declared.tree.Element.{Element}
use Rattle.doc_tree.specs.declared.faults.DocFault.{DocFault}
use Rattle.doc_tree.specs.Documents.{Spells}
use Rattle.doc_tree.specs.Machine.{State, state, start, next, run}
use Rattle.doc_tree.specs.Reading.{FeedAnswer}
use Rattle.doc_tree.specs.Fed.{fault_of, ended_of, HasReadBy}
use Rattle.doc_tree.proofs.Reading.{document_read}
use Rattle.doc_tree.proofs.Answering.{byte_answer, ended_read, fault_stays, nothing_read_yet}

-- the fault behind a state's byte, and the first fault behind bytes
abbrev fault_behind : State → ℕ → Option DocFault
fault_behind (state p part os r) count = fault_of p part os count

abbrev pub first_fault : Option DocFault → State → ℕ → List ℕ → Option DocFault
first_fault (Some f) st count s = Some f
first_fault None st count [] = None
first_fault None (state p part os r) count (c ∷ s) = first_fault (fault_behind (next (state p part os r) count c) count) (next (state p part os r) count c) (suc count) s

abbrev pub IsAnswer : Option DocFault → List ℕ → Type 0
IsAnswer None b = FeedAnswer b (Ok tt)
IsAnswer (Some f) b = FeedAnswer b (Err f)

one_more : (b : List ℕ) (c count : ℕ) (st after : State) → HasReadBy None st count b → after ≡ next st count c → HasReadBy (fault_behind after count) after (suc count) (b ++ c ∷ [])
one_more b c count st (state p part os r) h e = byte_answer b c count st p part os r h e

answered_on : (s b : List ℕ) (count : ℕ) (f : Option DocFault) (st : State) → HasReadBy f st count b → IsAnswer (first_fault f st count s) (b ++ s)
answered_on s b count (Some f) st h = fault_stays f b s h
answered_on [] b count None st h = subst (IsAnswer None) (sym (append-nil b)) h.2
answered_on (c ∷ s) b count None (state p part os r) h =
    let after = next (state p part os r) count c in
    subst (IsAnswer (first_fault (fault_behind after count) after (suc count) s)) (append_assoc b (c ∷ []) s)
    (answered_on s (b ++ c ∷ []) (suc count) (fault_behind after count) after (one_more b c count (state p part os r) after h refl))

pub is_answer : (s : List ℕ) → IsAnswer (first_fault None start 0 s) s
is_answer s = answered_on s [] 0 None start nothing_read_yet

pub is_spelled : (b : List ℕ) (t : Element) → ended_of (run start 0 b) ≡ Some t → Spells b t
is_spelled b t ended = ended_read (run start 0 b) b t (document_read b) ended
