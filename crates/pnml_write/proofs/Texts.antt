-- The texts of elements that are written piece by piece.
use Rattle.std.proofs.Common.{◌≡◌, ℕ, ◌<◌, List, [], ◌∷◌, ◌++◌, map, length, codes, append_assoc, refl, ap, sym, ◌∙◌, arith}
use Rattle.std.specs.Fmt.{decimal}
use Rattle.std.proofs.lemmas.List.{append-nil}
use Rattle.std.specs.List.{flat_map}
use Rattle.doc_model.specs.declared.tree.Attribute.{Attribute}
use Rattle.doc_model.specs.declared.tree.Element.{Element}
use Rattle.doc_model.specs.Texts.{attribute_text, content_text, end_text, start_text, text_of}
use Rattle.doc_model.specs.Trees.{leaf}
use Rattle.doc_model.proofs.TextLaws.{text_of-element, text_of-leaf}
use Rattle.doc_model.proofs.Writing.{content-children, five_pieces}
use Rattle.net_elements.specs.declared.roles.Role.{Role}
use Rattle.net_elements.specs.Table.{word_of}
use Rattle.net_elements.specs.declared.roles.Role.TheVariants as role
use Rattle.pnml_write.specs.Canon.{attribute_id, branch, declaration_trees, text_label}

-- an element with children, and one with attributes alone
pub branch_text : (r : Role) (attributes : List Attribute) (children : List Element) → 0 < length children
    → text_of (branch r attributes children)
    ≡ start_text (word_of r) ++ flat_map attribute_text attributes ++ (codes ">\n" ++ flat_map text_of children ++ end_text (word_of r))
branch_text r attributes children some =
    text_of-element (word_of r) attributes children []
    ∙ ap (λ content. start_text (word_of r) ++ flat_map attribute_text attributes ++ content) (content-children (word_of r) children [] some)

pub leaf_text : (r : Role) (attributes : List Attribute) → text_of (branch r attributes []) ≡ start_text (word_of r) ++ flat_map attribute_text attributes ++ codes "/>\n"
leaf_text r attributes = text_of-element (word_of r) attributes [] []

-- one attribute, and what follows it
pub one_attribute : (old s a m k e : List ℕ) {first second third fourth fifth : List ℕ}
    → first ≡ old ++ s → second ≡ first ++ a → third ≡ second ++ m → fourth ≡ third ++ k → fifth ≡ fourth ++ e
    → fifth ≡ old ++ (s ++ (a ++ []) ++ (m ++ k ++ e))
one_attribute old s a m k e h1 h2 h3 h4 h5 =
    five_pieces old s a m k e h1 h2 h3 h4 h5 ∙ ap (λ as_. old ++ (s ++ as_ ++ (m ++ k ++ e))) (sym (append-nil a))

pub attribute_alone : (old s a e : List ℕ) {first second third : List ℕ} → first ≡ old ++ s → second ≡ first ++ a → third ≡ second ++ e
    → third ≡ old ++ (s ++ (a ++ []) ++ e)
attribute_alone old s a e h1 h2 h3 =
    h3 ∙ ap (λ xs. xs ++ e) (h2 ∙ ap (λ xs. xs ++ a) h1) ∙ simp append_assoc refl ∙ ap (λ as_. old ++ (s ++ as_ ++ e)) (sym (append-nil a))

-- two attributes, and two parts of the content
regroup : (old s a b m d p e : List ℕ) → ((((((old ++ s) ++ a) ++ b) ++ m) ++ d) ++ p) ++ e ≡ old ++ (s ++ (a ++ b) ++ (m ++ (d ++ p) ++ e))
regroup old s a b m d p e = simp append_assoc refl

pub two_attributes : (old s a b m d p e : List ℕ) {first second third fourth fifth sixth seventh : List ℕ}
    → first ≡ old ++ s → second ≡ first ++ a → third ≡ second ++ b → fourth ≡ third ++ m → fifth ≡ fourth ++ d → sixth ≡ fifth ++ p → seventh ≡ sixth ++ e
    → seventh ≡ old ++ (s ++ (a ++ (b ++ [])) ++ (m ++ (d ++ (p ++ [])) ++ e))
two_attributes old s a b m d p e h1 h2 h3 h4 h5 h6 h7 =
    h7 ∙ ap (λ xs. xs ++ e) (h6 ∙ ap (λ xs. xs ++ p) (h5 ∙ ap (λ xs. xs ++ d) (h4 ∙ ap (λ xs. xs ++ m) (h3 ∙ ap (λ xs. xs ++ b) (h2 ∙ ap (λ xs. xs ++ a) h1)))))
    ∙ regroup old s a b m d p e
    ∙ ap (λ bs. old ++ (s ++ (a ++ bs) ++ (m ++ (d ++ p) ++ e))) (sym (append-nil b))
    ∙ ap (λ ps. old ++ (s ++ (a ++ (b ++ [])) ++ (m ++ (d ++ ps) ++ e))) (sym (append-nil p))

-- the first line and the root
pub document_pieces : (f s a m n e : List ℕ) {none first second third fourth fifth sixth : List ℕ}
    → none ≡ [] → first ≡ none ++ f → second ≡ first ++ s → third ≡ second ++ a → fourth ≡ third ++ m → fifth ≡ fourth ++ n → sixth ≡ fifth ++ e
    → sixth ≡ f ++ (s ++ (a ++ []) ++ (m ++ (n ++ []) ++ e))
document_pieces f s a m n e h0 h1 h2 h3 h4 h5 h6 =
    one_attribute f s a m n e (h2 ∙ ap (λ xs. xs ++ s) (h1 ∙ ap (λ xs. xs ++ f) h0)) h3 h4 h5 h6
    ∙ ap (λ ns. f ++ (s ++ (a ++ []) ++ (m ++ ns ++ e))) (sym (append-nil n))

-- the label with all declarations, made from the inside
pub declaration_text : (trees declared : List Element) (list structure label : Element) → 0 < length trees → trees ≡ declared
    → list ≡ branch role.Declarations [] trees → structure ≡ branch role.DeclarationStructure [] (list ∷ []) → label ≡ branch role.Declaration [] (structure ∷ [])
    → text_of label ≡ flat_map text_of (declaration_trees declared)
declaration_text trees [] list structure label some is h1 h2 h3 = absurd (omega (arith, some, ap length is))
declaration_text trees (d ∷ ds) list structure label some is h1 h2 h3 =
    ap text_of (h3 ∙ ap (λ s. branch role.Declaration [] (s ∷ [])) (h2 ∙ ap (λ l. branch role.DeclarationStructure [] (l ∷ [])) (h1 ∙ ap (branch role.Declarations []) is)))
    ∙ sym (append-nil (text_of (branch role.Declaration [] (branch role.DeclarationStructure [] (branch role.Declarations [] (d ∷ ds) ∷ []) ∷ []))))

-- what is written in two, three and four goes
pub two_pieces : (old s a : List ℕ) {first second : List ℕ} → first ≡ old ++ s → second ≡ first ++ a → second ≡ old ++ (s ++ a)
two_pieces old s a h1 h2 = h2 ∙ ap (λ xs. xs ++ a) h1 ∙ simp append_assoc refl

pub three_pieces : (old s a b : List ℕ) {first second third : List ℕ} → first ≡ old ++ s → second ≡ first ++ a → third ≡ second ++ b
    → third ≡ old ++ (s ++ (a ++ b))
three_pieces old s a b h1 h2 h3 = h3 ∙ ap (λ xs. xs ++ b) (two_pieces old s a h1 h2) ∙ simp append_assoc refl

pub four_pieces : (old s a b d : List ℕ) {first second third fourth : List ℕ} → first ≡ old ++ s → second ≡ first ++ a → third ≡ second ++ b → fourth ≡ third ++ d
    → fourth ≡ old ++ (s ++ (a ++ (b ++ d)))
four_pieces old s a b d h1 h2 h3 h4 = h4 ∙ ap (λ xs. xs ++ d) (three_pieces old s a b h1 h2 h3) ∙ simp append_assoc refl

-- a label with a number
pub number_label : (r : Role) (n : ℕ)
    → text_of (text_label r n)
    ≡ start_text (word_of r) ++ (codes ">\n" ++ ((start_text (word_of role.Text) ++ content_text (word_of role.Text) [] (decimal n)) ++ end_text (word_of r)))
number_label r n =
    let number = leaf (word_of role.Text) (decimal n) in
    branch_text r [] (number ∷ []) (omega arith)
    ∙ joined (start_text (word_of r)) (codes ">\n") (text_of number) (end_text (word_of r))
    ∙ ap (λ text. start_text (word_of r) ++ (codes ">\n" ++ (text ++ end_text (word_of r)))) (text_of-leaf (word_of role.Text) (decimal n))
  where
    joined : (s m t e : List ℕ) → (s ++ []) ++ ((m ++ (t ++ [])) ++ e) ≡ s ++ (m ++ (t ++ e))
    joined s m t e =
        ap (λ xs. xs ++ ((m ++ (t ++ [])) ++ e)) (append-nil s) ∙ ap (λ xs. s ++ ((m ++ xs) ++ e)) (append-nil t) ∙ simp append_assoc refl

-- an element with an id, and one with three attributes, by what follows the attributes
pub after_id : (r : Role) (id : List ℕ) (children : List Element)
    → (start_text (word_of r) ++ attribute_text (attribute_id id)) ++ content_text (word_of r) (map text_of children) []
    ≡ text_of (branch r (attribute_id id ∷ []) children)
after_id r id children =
    ap (λ as_. (start_text (word_of r) ++ as_) ++ content_text (word_of r) (map text_of children) []) (sym (append-nil (attribute_text (attribute_id id))))
    ∙ sym (text_of-element (word_of r) (attribute_id id ∷ []) children [])

pub after_three : (r : Role) (id : List ℕ) (a b : Attribute) (children : List Element)
    → (start_text (word_of r) ++ attribute_text (attribute_id id))
    ++ (attribute_text a ++ (attribute_text b ++ content_text (word_of r) (map text_of children) []))
    ≡ text_of (branch r (attribute_id id ∷ a ∷ b ∷ []) children)
after_three r id a b children =
    let content = content_text (word_of r) (map text_of children) [] in
    let first = attribute_text (attribute_id id) in
    regrouped (start_text (word_of r)) first (attribute_text a) (attribute_text b) content
    ∙ ap (λ bs. (start_text (word_of r) ++ (first ++ (attribute_text a ++ bs))) ++ content) (sym (append-nil (attribute_text b)))
    ∙ sym (text_of-element (word_of r) (attribute_id id ∷ a ∷ b ∷ []) children [])
  where
    regrouped : (s i a b k : List ℕ) → (s ++ i) ++ (a ++ (b ++ k)) ≡ (s ++ (i ++ (a ++ b))) ++ k
    regrouped s i a b k = simp append_assoc refl
