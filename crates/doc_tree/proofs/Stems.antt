-- Documents with open elements, and how they grow.
use Rattle.std.proofs.Common.{◌≡◌, ℕ, suc, ◌+◌, true, List, [], ◌∷◌, ◌++◌, length, length-append, Option, Some, None, sym, subst, append_assoc, append-nil, arith}
use Rattle.doc_model.specs.declared.tree.Attribute.{Attribute}
use Rattle.doc_model.specs.declared.tree.Element.{Element}
use Rattle.doc_tree.specs.declared.places.Open.{Open}
use Rattle.doc_tree.specs.Characters.{is_white, is_text, IsCharacter, IsReference}
use Rattle.doc_tree.specs.Documents
use Rattle.doc_tree.specs.Documents.{IsWhite, IsBlank, IsName, AreAttributes, IsAside, AreExtras, IsElement, IsContent, IsProlog, Spells}
use Rattle.doc_tree.specs.Machine.{open_at, with_text, with_child}

-- the bytes of a document up to a place between two tokens: before the root, within open elements, the innermost first, or after
-- the root
pub data Stem : List ℕ → List Open → Option Element → Type 0 where
  root : {b : List ℕ} → IsProlog b → Stem b [] None
  group : {p n a w c cs : List ℕ} {os : List Open} {ats : List Attribute} {ks : List Element} → Stem p os None → IsName n → AreAttributes a ats → IsWhite w
      → IsContent (suc (length p + length (60 ∷ n ++ a ++ w))) c ks cs
      → Stem (p ++ (60 ∷ n ++ a ++ w ++ 62 ∷ c)) (open_at (length p) n ats ks cs ∷ os) None
  ended : {p e x : List ℕ} {t : Element} → IsProlog p → IsElement (length p) e t → AreExtras x → Stem (p ++ e ++ x) [] (Some t)

-- regrouping
pub regroup_group : (p n a w c z : List ℕ) → p ++ (60 ∷ n ++ a ++ w ++ 62 ∷ (c ++ z)) ≡ (p ++ (60 ∷ n ++ a ++ w ++ 62 ∷ c)) ++ z
regroup_group p n a w c z = simp append_assoc

pub regroup_three : (p e x z : List ℕ) → p ++ e ++ (x ++ z) ≡ (p ++ e ++ x) ++ z
regroup_three p e x z = simp append_assoc

pub length_group : (p n a w c : List ℕ) → suc (length p + length (60 ∷ n ++ a ++ w)) + length c ≡ length (p ++ (60 ∷ n ++ a ++ w ++ 62 ∷ c))
length_group p n a w c = simp length-append (omega (arith, length-append {A = ℕ}))

-- the content of the innermost element grows
pub grow : {b cs : List ℕ} {o : Open} {os : List Open} {r : Option Element} {ks : List Element} (z : List ℕ) → Stem b (o ∷ os) r
    → ((from : ℕ) (c : List ℕ) → from + length c ≡ length b → IsContent from c o.children o.text → IsContent from (c ++ z) ks cs)
    → Stem (b ++ z) (open_at o.at o.name o.attributes ks cs ∷ os) r
grow {cs = ds} {ks = js} z (group {p} {n} {a} {w} {c} {os = below} {ats = ats} whole name spelled white content) more =
    subst (λ bytes. Stem bytes (open_at (length p) n ats js ds ∷ below) None) (regroup_group p n a w c z)
    (group whole name spelled white (more _ c (length_group p n a w c) content))

pub stem_text : {b w : List ℕ} {o : Open} {os : List Open} {r : Option Element} → Stem b (o ∷ os) r → IsCharacter is_text w → Stem (b ++ w) (with_text o w ∷ os) r
stem_text {w = w} whole h = grow w whole (λ from c at content. Documents.IsContent.character from content h)

pub stem_reference : {b s w : List ℕ} {o : Open} {os : List Open} {r : Option Element} → Stem b (o ∷ os) r → IsReference s w → Stem (b ++ s) (with_text o w ∷ os) r
stem_reference {s = s} whole h = grow s whole (λ from c at content. Documents.IsContent.reference from content h)

pub stem_child : {b e : List ℕ} {k : Element} {o : Open} {os : List Open} {r : Option Element} → Stem b (o ∷ os) r → IsElement (length b) e k → Stem (b ++ e) (with_child o k ∷ os) r
stem_child {e = e} {k = k} whole h =
    grow e whole (λ from c at content. Documents.IsContent.child from content (subst (λ n. IsElement n e k) (sym at) h))

pub stem_root : {b e : List ℕ} {k : Element} → Stem b [] None → IsElement (length b) e k → Stem (b ++ e) [] (Some k)
stem_root {b = b} {e = e} {k = k} (root prolog) h =
    subst (λ bytes. Stem bytes [] (Some k)) (append-nil (b ++ e)) (ended prolog h Documents.AreExtras.nothing)

pub stem_aside : {b k : List ℕ} {os : List Open} {r : Option Element} → Stem b os r → IsAside k → Stem (b ++ k) os r
stem_aside (root (Documents.IsProlog.plain x)) h = root (Documents.IsProlog.plain (Documents.AreExtras.aside x h))
stem_aside (root (Documents.IsProlog.marked x)) h = root (Documents.IsProlog.marked (Documents.AreExtras.aside x h))
stem_aside {k = k} (group {p} {n} {a} {w} {c} {cs} {os = below} {ats} {ks} whole name spelled white content) h =
    grow k (group whole name spelled white content) (λ from c at inner. Documents.IsContent.aside from inner h)
stem_aside {k = k} (ended {p} {e} {x} {t} prolog element extras) h =
    subst (λ bytes. Stem bytes [] (Some t)) (regroup_three p e x k) (ended prolog element (Documents.AreExtras.aside extras h))

pub stem_white : {b : List ℕ} {r : Option Element} (c : ℕ) → Stem b [] r → is_white c ≡ true → Stem (b ++ c ∷ []) [] r
stem_white c (root (Documents.IsProlog.plain x)) h = root (Documents.IsProlog.plain (Documents.AreExtras.white c x h))
stem_white c (root (Documents.IsProlog.marked x)) h = root (Documents.IsProlog.marked (Documents.AreExtras.white c x h))
stem_white c (ended {p} {e} {x} {t} prolog element extras) h =
    subst (λ bytes. Stem bytes [] (Some t)) (regroup_three p e x (c ∷ [])) (ended prolog element (Documents.AreExtras.white c extras h))
