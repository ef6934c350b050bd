-- Each list of bytes has exactly one answer.
use Rattle.std.proofs.Common.{◌≡◌, ℕ, suc, ◌<◌, ◌≤◌, Bool, true, false, cond, List, [], ◌∷◌, ◌++◌, length, take, drop, Option, Some, None, Result, Ok, Err, refl, sym, ap, ◌∙◌, subst, append_assoc, append-nil, arith, nat_eq, nat_lt, take-append-drop}
use Rattle.std.proofs.lemmas.Bool.Decides.{nat_tests}
use Rattle.std.proofs.lemmas.List.{take-take}
use Rattle.doc_model.specs.declared.tree.Element.{Element}
use Rattle.doc_tree.specs.declared.faults.DocFault.{DocFault}
use Rattle.doc_tree.specs.declared.faults.DocFault.TheVariants as fault
use Rattle.doc_tree.specs.declared.places.Open.{Open}
use Rattle.doc_tree.specs.declared.places.Place.{Place}
use Rattle.doc_tree.specs.declared.places.Place.TheVariants.{TagName, Refused}
use Rattle.doc_tree.specs.declared.places.Part.{Part}
use Rattle.doc_tree.specs.declared.places.Part.TheVariants.{Whole}
use Rattle.doc_tree.specs.Machine.{State, state, start, next}
use Rattle.doc_tree.specs.Reading.{Begins, IsFront, FinishAnswer}
use Rattle.doc_tree.specs.Answers.{HasOneAnswer, IsDecided}
use Rattle.doc_tree.specs.Fed.{fault_of, ended_of, HasReadBy}
use Rattle.doc_tree.proofs.Ends.{begins_from}
use Rattle.doc_tree.proofs.Answering.{byte_answer, fault_stays, finish_fault, finish_short, finish_tree, nothing_read_yet, one_tree}

SomeAnswer : List ℕ → Type 0
SomeAnswer b = (answer : Result Element DocFault) × IsDecided answer × FinishAnswer b answer

-- a byte's fault is never want of memory
fault_decided : (p : Place) (part : Part) (os : List Open) (at : ℕ) (f : DocFault) → fault_of p part os at ≡ Some f → IsDecided (Err f)
fault_decided p part os at (fault.Malformed o) h = tt
fault_decided p part os at (fault.Deep o) h = tt
fault_decided (Refused first) part os at fault.Memory h = absurd cc
fault_decided (TagName from name) Whole os at fault.Memory h = pick (nat_eq (length os) 256) h
  where
    pick : (t : Bool) → cond t (Some (fault.Deep from)) None ≡ Some fault.Memory → ⊥
    pick true e = absurd cc
    pick false e = absurd cc
fault_decided p part os at fault.Memory h = absurd cc

at_end : (st : State) (count : ℕ) (b : List ℕ) → HasReadBy None st count b → SomeAnswer b
unfolding SomeAnswer
at_end st count b h = pick (ended_of st) refl
  where
    pick : (found : Option Element) → ended_of st ≡ found → SomeAnswer b
    pick (Some t) e = (Ok t, tt, finish_tree st count b t h e)
    pick None e = (Err (fault.Malformed count), tt, finish_short st count b h e)

one_more : (b : List ℕ) (c count : ℕ) (st : State) (p : Place) (part : Part) (os : List Open) (r : Option Element) (f : Option DocFault) → HasReadBy None st count b → state p part os r ≡ next st count c → fault_of p part os count ≡ f
    → HasReadBy f (state p part os r) (suc count) (b ++ c ∷ [])
one_more b c count st p part os r f h to is = subst (λ x. HasReadBy x (state p part os r) (suc count) (b ++ c ∷ [])) is (byte_answer b c count st p part os r h to)

-- behind one more byte
behind : (b s : List ℕ) (c count : ℕ) (st after : State) → HasReadBy None st count b → after ≡ next st count c → (HasReadBy None after (suc count) (b ++ c ∷ []) → SomeAnswer ((b ++ c ∷ []) ++ s))
    → SomeAnswer (b ++ c ∷ s)
unfolding SomeAnswer
behind b s c count st (state p part os r) h to more = pick (fault_of p part os count) refl
  where
    pick : (f : Option DocFault) → fault_of p part os count ≡ f → SomeAnswer (b ++ c ∷ s)
    pick (Some f) is = (
      Err f,
      fault_decided p part os count f is,
      subst (λ bytes. FinishAnswer bytes (Err f)) (append_assoc b (c ∷ []) s)
          (finish_fault f ((b ++ c ∷ []) ++ s) (fault_stays f (b ++ c ∷ []) s (one_more b c count st p part os r (Some f) h to is))),
    )
    pick None is = subst SomeAnswer (append_assoc b (c ∷ []) s) (more (one_more b c count st p part os r None h to is))

some_answer : (s b : List ℕ) (count : ℕ) (st : State) → HasReadBy None st count b → SomeAnswer (b ++ s)
some_answer [] b count st h = subst SomeAnswer (sym (append-nil b)) (at_end st count b h)
some_answer (c ∷ s) b count st h =
    let after = next st count c in
    behind b s c count st after h refl (λ known. some_answer s (b ++ c ∷ []) (suc count) after known)

-- a longer front goes on from a shorter one
longer_front : (b : List ℕ) (n m : ℕ) → n ≤ m → (rest : List ℕ) × (take m b ≡ take n b ++ rest)
longer_front b n m h = (drop n (take m b), sym (take-append-drop n (take m b)) ∙ ap (λ x. x ++ drop n (take m b)) (take-take n m b h))

not_shorter : (b : List ℕ) (n m : ℕ) → IsFront b n → IsFront b m → n < m → ⊥
not_shorter b n m first second h =
    let (rest, is) = longer_front b (suc n) m (omega arith) in
    first.longest (omega (arith, second.within)) (begins_from (take (suc n) b) rest (subst (λ bytes. Begins bytes) is second.begins))

one_front : (b : List ℕ) (n m : ℕ) → IsFront b n → IsFront b m → n ≡ m
one_front b n m first second = pick (nat_lt n m) (nat_lt m n) refl refl
  where
    pick : (x y : Bool) → nat_lt n m ≡ x → nat_lt m n ≡ y → n ≡ m
    pick true y e1 e2 = absurd (not_shorter b n m first second (grind (arith, nat_tests)))
    pick false true e1 e2 = absurd (not_shorter b m n second first (grind (arith, nat_tests)))
    pick false false e1 e2 = grind (arith, nat_tests)

one_answer : (b : List ℕ) (x y : Result Element DocFault) → IsDecided x → IsDecided y → FinishAnswer b x → FinishAnswer b y → x ≡ y
one_answer b (Ok t) (Ok u) d1 d2 h1 h2 = ap (λ e. Ok e) (one_tree b t u h1.1 h2.1)
one_answer b (Ok t) (Err (fault.Malformed o)) d1 d2 h1 h2 = absurd (h2.1 t h1.1)
one_answer b (Ok t) (Err (fault.Deep o)) d1 d2 h1 h2 = absurd (h1.0 o h2.deep)
one_answer b (Err (fault.Malformed n)) (Ok u) d1 d2 h1 h2 = absurd (h1.1 u h2.1)
one_answer b (Err (fault.Malformed n)) (Err (fault.Malformed o)) d1 d2 h1 h2 = ap (λ m. Err (fault.Malformed m)) (one_front b n o h1.2 h2.2)
one_answer b (Err (fault.Malformed n)) (Err (fault.Deep o)) d1 d2 h1 h2 = absurd (h1.0 o h2.deep)
one_answer b (Err (fault.Deep n)) (Ok u) d1 d2 h1 h2 = absurd (h2.0 n h1.deep)
one_answer b (Err (fault.Deep n)) (Err (fault.Malformed o)) d1 d2 h1 h2 = absurd (h2.0 n h1.deep)
one_answer b (Err (fault.Deep n)) (Err (fault.Deep o)) d1 d2 h1 h2 =
    let up : n ≤ o = h1.least o h2.deep in
    let down : o ≤ n = h2.least n h1.deep in
    ap (λ m. Err (fault.Deep m)) (omega arith)
one_answer b (Err fault.Memory) y d1 d2 h1 h2 = absurd d1
one_answer b x (Err fault.Memory) d1 d2 h1 h2 = absurd d2

pub have_one_answer : (b : List ℕ) → HasOneAnswer b
unfolding SomeAnswer
have_one_answer b =
    let (answer, decided, right) = some_answer b [] 0 start nothing_read_yet in
    record { answer = answer; decided = decided; right = right; alone = λ other d h. one_answer b other answer d decided h right }
