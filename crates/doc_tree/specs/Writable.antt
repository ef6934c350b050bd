-- Which trees are written so that they can be read again, and what is kept.
use Rattle.std.specs.Prelude.{◌≡◌, ℕ, true, false, List, [], ◌∷◌, ◌++◌}
use Rattle.doc_model.specs.declared.tree.Attribute.{Attribute}
use Rattle.doc_model.specs.declared.tree.Element.{Element}
use Rattle.doc_model.specs.Trees.{attribute, element_at}
use Rattle.doc_model.specs.Texts.{document_text}
use Rattle.doc_tree.specs.Characters.{is_ascii, IsCharacter}
use Rattle.doc_tree.specs.Documents.{IsName, Spells, are_white, is_fresh}

-- characters that a document may have, in UTF-8
pub data AreCharacters : List ℕ → Type 0 where
  nothing : AreCharacters []
  more : {b w : List ℕ} → AreCharacters b → IsCharacter is_ascii w → AreCharacters (b ++ w)

-- attributes of distinct names
pub data AreWritableAttributes : List Attribute → Type 0 where
  nothing : AreWritableAttributes []
  more : {n v : List ℕ} {ats : List Attribute} → AreWritableAttributes ats → IsName n → is_fresh n ats ≡ true → AreCharacters v
      → AreWritableAttributes (ats ++ attribute n v ∷ [])

-- no element has both children and a text, and a text that isn't empty has a character that isn't white
mutual
  pub data IsWritable : Element → Type 0 where
    bare : (at : ℕ) {n : List ℕ} {ats : List Attribute} → IsName n → AreWritableAttributes ats → IsWritable (element_at at n ats [] [])
    text : (at c : ℕ) {n cs : List ℕ} {ats : List Attribute} → IsName n → AreWritableAttributes ats → AreCharacters (c ∷ cs) → are_white (c ∷ cs) ≡ false
        → IsWritable (element_at at n ats [] (c ∷ cs))
    parent : (at : ℕ) {n : List ℕ} {ats : List Attribute} {k : Element} {ks : List Element} → IsName n → AreWritableAttributes ats → AreWritable (k ∷ ks)
        → IsWritable (element_at at n ats (k ∷ ks) [])

  pub data AreWritable : List Element → Type 0 where
    nothing : AreWritable []
    more : {k : Element} {ks : List Element} → IsWritable k → AreWritable ks → AreWritable (k ∷ ks)

-- trees that differ in offsets alone
mutual
  pub data IsSameTree : Element → Element → Type 0 where
    same : (at bt : ℕ) (n text : List ℕ) (ats : List Attribute) {ks js : List Element} → AreSameTrees ks js → IsSameTree (element_at at n ats ks text) (element_at bt n ats js text)

  pub data AreSameTrees : List Element → List Element → Type 0 where
    nothing : AreSameTrees [] []
    more : {k j : Element} {ks js : List Element} → IsSameTree k j → AreSameTrees ks js → AreSameTrees (k ∷ ks) (j ∷ js)

-- the written text of a tree spells it, offsets aside
abbrev pub WrittenIsSpelled : Type 0
WrittenIsSpelled = (root : Element) → IsWritable root → (t : Element) × Spells (document_text root) t × IsSameTree root t
