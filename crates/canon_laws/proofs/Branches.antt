-- Trees of the table's elements that can be written.
use Rattle.std.proofs.Common.{◌≡◌, ℕ, ◌<◌, Bool, true, false, cond, List, [], ◌∷◌, ◌++◌, map, length, codes, refl, ap, arith}
use Rattle.std.proofs.lemmas.Bool.{and_parts}
use Rattle.std.specs.Char.{is_ascii_digit}
use Rattle.std.specs.List.{list_all}
use Rattle.std.specs.Str.{bytes_eq}
use Rattle.doc_model.specs.declared.tree.Attribute.{Attribute}
use Rattle.doc_model.specs.declared.tree.Element.{Element}
use Rattle.doc_model.specs.Trees.{attribute, element}
use Rattle.doc_tree.specs.Characters.{is_name_byte, is_name_start}
use Rattle.doc_tree.specs.Documents.{IsName, are_white}
use Rattle.doc_tree.specs.Writable
use Rattle.doc_tree.specs.Writable.{AreCharacters, AreWritable, AreWritableAttributes, IsWritable}
use Rattle.name_tables.specs.Grammar.{is_id_text}
use Rattle.net_elements.specs.declared.roles.Key.{Key}
use Rattle.net_elements.specs.declared.roles.Key.TheVariants as key
use Rattle.net_elements.specs.declared.roles.Role.{Role}
use Rattle.net_elements.specs.declared.roles.Role.TheVariants as role
use Rattle.net_elements.specs.Table.{key_word_of, word_of}
use Rattle.pnml_write.specs.Canon.{attribute_id, branch, declared_id, holder}
use Rattle.pnml_read.specs.Each.{Each}
use Rattle.pnml_read.proofs.Each.{each_true}
use Rattle.canon_laws.proofs.Characters.{ascii_name, digit_characters, id_characters, is_ascii_name}
use Rattle.canon_laws.proofs.Texts.{digit_is_dark}

-- the names of the table
role_is_name : (r : Role) → is_ascii_name (word_of r) ≡ true
unfolding is_name_byte is_name_start
role_is_name role.Pnml = refl
role_is_name r = refl

role_name : (r : Role) → IsName (word_of r)
role_name r = ascii_name (word_of r) (role_is_name r)

pub key_is_name : (k : Key) → is_ascii_name (key_word_of k) ≡ true
unfolding is_name_byte is_name_start
key_is_name key.AnyId = refl
key_is_name k = refl

name_is_name : is_ascii_name (codes "name") ≡ true
unfolding is_name_byte is_name_start
name_is_name = refl

-- attributes
pub no_attributes : AreWritableAttributes []
no_attributes = Writable.AreWritableAttributes.nothing

pub one_attribute : (n v : List ℕ) → is_ascii_name n ≡ true → AreCharacters v → AreWritableAttributes (attribute n v ∷ [])
one_attribute n v name are = Writable.AreWritableAttributes.more no_attributes (ascii_name n name) refl are

pub two_attributes : (n v m w : List ℕ) → is_ascii_name n ≡ true → AreCharacters v → is_ascii_name m ≡ true → bytes_eq m n ≡ false → AreCharacters w
    → AreWritableAttributes (attribute n v ∷ attribute m w ∷ [])
two_attributes n v m w first one second other two =
    Writable.AreWritableAttributes.more (one_attribute n v first one) (ascii_name m second) (ap (λ b. cond b false true) other) two

pub id_attribute : (id : List ℕ) → is_id_text id ≡ true → AreWritableAttributes (attribute_id id ∷ [])
id_attribute id is = one_attribute (codes "id") id (key_is_name key.NodeId) (id_characters id is)

pub declared_attributes : (id : List ℕ) → is_id_text id ≡ true → AreWritableAttributes (declared_id id)
declared_attributes id is = let are = id_characters id is in two_attributes (codes "id") id (codes "name") id (key_is_name key.SymbolId) are name_is_name refl are

-- elements
pub no_children : AreWritable []
no_children = Writable.AreWritable.nothing

pub one_child : {k : Element} → IsWritable k → AreWritable (k ∷ [])
one_child k = Writable.AreWritable.more k no_children

pub two_children : {k j : Element} → IsWritable k → IsWritable j → AreWritable (k ∷ j ∷ [])
two_children k j = Writable.AreWritable.more k (one_child j)

pub branch_writes : (r : Role) {ats : List Attribute} {ks : List Element} → AreWritableAttributes ats → AreWritable ks → IsWritable (branch r ats ks)
branch_writes r attributes Writable.AreWritable.nothing = Writable.IsWritable.bare 0 (role_name r) attributes
branch_writes r attributes (Writable.AreWritable.more first later) = Writable.IsWritable.parent 0 (role_name r) attributes (Writable.AreWritable.more first later)

pub holder_writes : (r : Role) {ks : List Element} → AreWritable ks → IsWritable (holder r ks)
holder_writes r children = branch_writes r no_attributes children

pub digits_write : (r : Role) (digits : List ℕ) → 0 < length digits → list_all is_ascii_digit digits ≡ true → IsWritable (element (word_of r) [] [] digits)
digits_write r [] some are = absurd (omega (arith, some))
digits_write r (c ∷ cs) some are =
    Writable.IsWritable.text 0 c (role_name r) no_attributes (digit_characters (c ∷ cs) are)
    (ap (λ b. cond b (are_white cs) false) (digit_is_dark c (and_parts (is_ascii_digit c) (list_all is_ascii_digit cs) are).0))

-- lists of elements
pub appended : {ks js : List Element} → AreWritable ks → AreWritable js → AreWritable (ks ++ js)
appended Writable.AreWritable.nothing are = are
appended (Writable.AreWritable.more first later) are = Writable.AreWritable.more first (appended later are)

pub each_writes : {A : Type 0} (tree : A → Element) (P : A → Type 0) → ((x : A) → P x → IsWritable (tree x)) → (xs : List A) → Each P xs → AreWritable (map tree xs)
each_writes tree P each [] h = no_children
each_writes tree P each (x ∷ xs) (first, later) = Writable.AreWritable.more (each x first) (each_writes tree P each xs later)

pub all_write : {A : Type 0} (tree : A → Element) (test : A → Bool) → ((x : A) → test x ≡ true → IsWritable (tree x)) → (xs : List A) → list_all test xs ≡ true
    → AreWritable (map tree xs)
all_write tree test each xs h = each_writes tree (λ x. test x ≡ true) each xs (each_true test xs h)
