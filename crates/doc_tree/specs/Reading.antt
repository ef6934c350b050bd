-- What a reader answers for the bytes that it was fed.
use Rattle.std.specs.Prelude.{◌≡◌, ℕ, suc, ◌+◌, ◌<◌, ◌≤◌, List, ◌∷◌, ◌++◌, length, take, Result, Ok, Err, ⊤}
use Rattle.doc_model.specs.declared.tree.Attribute.{Attribute}
use Rattle.doc_model.specs.declared.tree.Element.{Element}
use Rattle.doc_tree.specs.declared.faults.DocFault.{DocFault}
use Rattle.doc_tree.specs.declared.faults.DocFault.TheVariants as fault
use Rattle.doc_tree.specs.Characters.{is_name_start, IsCharacter}
use Rattle.doc_tree.specs.Documents.{IsWhite, IsName, AreAttributes, IsContent, IsProlog, Spells}

-- some document begins with the bytes
abbrev pub Begins : List ℕ → Type 0
Begins b = (s : List ℕ) × (t : Element) × Spells (b ++ s) t

-- the longest front of the bytes with which a document begins has this length
pub record IsFront (b : List ℕ) (o : ℕ) : Type 0 where
  pub within : o ≤ length b
  pub begins : Begins (take o b)
  pub longest : o < length b → Begins (take (suc o) b) → ⊥

-- the bytes of a document up to a place between two tokens, with so many elements open
pub data IsStem : ℕ → List ℕ → Type 0 where
  root : {b : List ℕ} → IsProlog b → IsStem 0 b
  group : {d : ℕ} {p n a w c cs : List ℕ} {ats : List Attribute} {ks : List Element} → IsStem d p → IsName n → AreAttributes a ats → IsWhite w
      → IsContent (suc (length p + length (60 ∷ n ++ a ++ w))) c ks cs
      → IsStem (suc d) (p ++ (60 ∷ n ++ a ++ w ++ 62 ∷ c))

-- behind a stem of 256 open elements stand `<` and a whole first character of a name; the offset is that of the `<`
pub record BeginsDeep (b : List ℕ) (o : ℕ) : Type 0 where
  pub stem : List ℕ
  pub first : List ℕ
  pub rest : List ℕ
  pub whole : IsStem 256 stem
  pub character : IsCharacter is_name_start first
  pub is : b ≡ stem ++ (60 ∷ first ++ rest)
  pub place : o ≡ length stem

-- the first such place
pub record DeepAt (b : List ℕ) (o : ℕ) : Type 0 where
  pub deep : BeginsDeep b o
  pub least : (m : ℕ) → BeginsDeep b m → o ≤ m

abbrev pub IsShallow : List ℕ → Type 0
IsShallow b = (o : ℕ) → BeginsDeep b o → ⊥

-- the answer to bytes that aren't the whole document yet, and to a whole document
abbrev pub FeedAnswer : List ℕ → Result Unit DocFault → Type 0
FeedAnswer b (Ok u) = IsShallow b × Begins b
FeedAnswer b (Err (fault.Malformed o)) = IsShallow b × IsFront b o × (o < length b)
FeedAnswer b (Err (fault.Deep o)) = DeepAt b o
FeedAnswer b (Err fault.Memory) = ⊤

abbrev pub FinishAnswer : List ℕ → Result Element DocFault → Type 0
FinishAnswer b (Ok t) = IsShallow b × Spells b t
FinishAnswer b (Err (fault.Malformed o)) = IsShallow b × ((t : Element) → Spells b t → ⊥) × IsFront b o
FinishAnswer b (Err (fault.Deep o)) = DeepAt b o
FinishAnswer b (Err fault.Memory) = ⊤
