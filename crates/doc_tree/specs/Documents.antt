-- Which bytes are a document, and its tree.
use Rattle.std.specs.Prelude.{◌≡◌, ℕ, suc, ◌+◌, Bool, true, false, cond, List, [], ◌∷◌, ◌++◌, length}
use Rattle.std.specs.Str.{bytes_eq}
use Rattle.doc_model.specs.declared.tree.Attribute.{Attribute}
use Rattle.doc_model.specs.declared.tree.Element.{Element}
use Rattle.doc_model.specs.Trees.{attribute, element_at}
use Rattle.doc_tree.specs.declared.places.Quote.{Quote}
use Rattle.doc_tree.specs.declared.places.Dashes.{Dashes}
use Rattle.doc_tree.specs.declared.places.Dashes.TheVariants.{Neither, One, Two}
use Rattle.doc_tree.specs.Characters.{is_white, is_text, quote_byte, is_value, is_name_start, is_name_byte, is_comment_byte, is_instruction_byte, IsCharacter, IsReference}

-- white, any number of characters
pub data IsWhite : List ℕ → Type 0 where
  nothing : IsWhite []
  more : (c : ℕ) {w : List ℕ} → IsWhite w → is_white c ≡ true → IsWhite (w ++ c ∷ [])

-- at least one
pub data IsBlank : List ℕ → Type 0 where
  one : (c : ℕ) → is_white c ≡ true → IsBlank (c ∷ [])
  more : (c : ℕ) {w : List ℕ} → IsBlank w → is_white c ≡ true → IsBlank (w ++ c ∷ [])

-- a letter, `_`, `:` or a character past ASCII, then these, digits, `-` and `.`
pub data IsName : List ℕ → Type 0 where
  one : {w : List ℕ} → IsCharacter is_name_start w → IsName w
  more : {n w : List ℕ} → IsName n → IsCharacter is_name_byte w → IsName (n ++ w)

-- what stands between the quotes, and the value
pub data IsValue (q : Quote) : List ℕ → List ℕ → Type 0 where
  nothing : IsValue q [] []
  character : {b v w : List ℕ} → IsValue q b v → IsCharacter (is_value q) w → IsValue q (b ++ w) (v ++ w)
  reference : {b v r w : List ℕ} → IsValue q b v → IsReference r w → IsValue q (b ++ r) (v ++ w)

-- no attribute has the name
abbrev pub is_fresh : List ℕ → List Attribute → Bool
is_fresh name [] = true
is_fresh name (a ∷ rest) = cond (bytes_eq name a.name) false (is_fresh name rest)

-- attributes of distinct names
pub data AreAttributes : List ℕ → List Attribute → Type 0 where
  nothing : AreAttributes [] []
  more : (q : Quote) {a w n u x s v : List ℕ} {ats : List Attribute} → AreAttributes a ats → IsBlank w → IsName n → is_fresh n ats ≡ true
      → IsWhite u → IsWhite x → IsValue q s v
      → AreAttributes (a ++ w ++ n ++ u ++ 61 ∷ x ++ quote_byte q ∷ s ++ quote_byte q ∷ []) (ats ++ attribute n v ∷ [])

-- characters without `-->`, by the dashes at their end
pub data IsCommentText : Dashes → List ℕ → Type 0 where
  nothing : IsCommentText Neither []
  one_dash : {b : List ℕ} → IsCommentText Neither b → IsCommentText One (b ++ 45 ∷ [])
  two_dashes : {b : List ℕ} → IsCommentText One b → IsCommentText Two (b ++ 45 ∷ [])
  more_dashes : {b : List ℕ} → IsCommentText Two b → IsCommentText Two (b ++ 45 ∷ [])
  greater : {b : List ℕ} → IsCommentText Neither b → IsCommentText Neither (b ++ 62 ∷ [])
  dash_greater : {b : List ℕ} → IsCommentText One b → IsCommentText Neither (b ++ 62 ∷ [])
  other : (d : Dashes) {b w : List ℕ} → IsCommentText d b → IsCharacter is_comment_byte w → IsCommentText Neither (b ++ w)

-- characters without `?>`, and whether they end in `?`
pub data IsInstructionText : Bool → List ℕ → Type 0 where
  nothing : IsInstructionText false []
  question : (ends : Bool) {b : List ℕ} → IsInstructionText ends b → IsInstructionText true (b ++ 63 ∷ [])
  greater : {b : List ℕ} → IsInstructionText false b → IsInstructionText false (b ++ 62 ∷ [])
  other : (ends : Bool) {b w : List ℕ} → IsInstructionText ends b → IsCharacter is_instruction_byte w → IsInstructionText false (b ++ w)

-- comments and instructions
pub data IsAside : List ℕ → Type 0 where
  comment : (d : Dashes) {b : List ℕ} → IsCommentText d b → IsAside (60 ∷ 33 ∷ 45 ∷ 45 ∷ b ++ 45 ∷ 45 ∷ 62 ∷ [])
  bare : {n : List ℕ} → IsName n → IsAside (60 ∷ 63 ∷ n ++ 63 ∷ 62 ∷ [])
  instruction : (c : ℕ) (ends : Bool) {n b : List ℕ} → IsName n → is_white c ≡ true → IsInstructionText ends b
      → IsAside (60 ∷ 63 ∷ n ++ c ∷ b ++ 63 ∷ 62 ∷ [])

-- white, comments and instructions, any number, in any order
pub data AreExtras : List ℕ → Type 0 where
  nothing : AreExtras []
  white : (c : ℕ) {b : List ℕ} → AreExtras b → is_white c ≡ true → AreExtras (b ++ c ∷ [])
  aside : {b k : List ℕ} → AreExtras b → IsAside k → AreExtras (b ++ k)

-- the text of an element: nothing where its characters are white only
abbrev pub are_white : List ℕ → Bool
are_white [] = true
are_white (c ∷ cs) = cond (is_white c) (are_white cs) false

abbrev pub shown : List ℕ → List ℕ
shown cs = cond (are_white cs) [] cs

-- an element whose `<` is at this offset, and the content of one that begins at this offset: its children and its own characters
mutual
  pub data IsElement : ℕ → List ℕ → Element → Type 0 where
    empty : (at : ℕ) {n a w : List ℕ} {ats : List Attribute} → IsName n → AreAttributes a ats → IsWhite w
        → IsElement at (60 ∷ n ++ a ++ w ++ 47 ∷ 62 ∷ []) (element_at at n ats [] [])
    full : (at : ℕ) {n a w c cs u : List ℕ} {ats : List Attribute} {ks : List Element} → IsName n → AreAttributes a ats → IsWhite w
        → IsContent (suc (at + length (60 ∷ n ++ a ++ w))) c ks cs → IsWhite u
        → IsElement at (60 ∷ n ++ a ++ w ++ 62 ∷ c ++ 60 ∷ 47 ∷ n ++ u ++ 62 ∷ []) (element_at at n ats ks (shown cs))

  pub data IsContent : ℕ → List ℕ → List Element → List ℕ → Type 0 where
    nothing : (from : ℕ) → IsContent from [] [] []
    character : (from : ℕ) {b cs w : List ℕ} {ks : List Element} → IsContent from b ks cs → IsCharacter is_text w → IsContent from (b ++ w) ks (cs ++ w)
    reference : (from : ℕ) {b cs r w : List ℕ} {ks : List Element} → IsContent from b ks cs → IsReference r w → IsContent from (b ++ r) ks (cs ++ w)
    aside : (from : ℕ) {b cs k : List ℕ} {ks : List Element} → IsContent from b ks cs → IsAside k → IsContent from (b ++ k) ks cs
    child : (from : ℕ) {b cs e : List ℕ} {ks : List Element} {k : Element} → IsContent from b ks cs → IsElement (from + length b) e k
        → IsContent from (b ++ e) (ks ++ k ∷ []) cs

-- what may stand before the root: a byte order mark, and extras
pub data IsProlog : List ℕ → Type 0 where
  plain : {x : List ℕ} → AreExtras x → IsProlog x
  marked : {x : List ℕ} → AreExtras x → IsProlog (239 ∷ 187 ∷ 191 ∷ x)

-- the bytes are a document with this tree
pub data Spells : List ℕ → Element → Type 0 where
  document : {p e x : List ℕ} {t : Element} → IsProlog p → IsElement (length p) e t → AreExtras x → Spells (p ++ e ++ x) t
