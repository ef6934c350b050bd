-- The lists of children in front of the last one, and of the last one.
use Rattle.std.proofs.Common.{◌≡◌, sym, ap, subst, ◌∙◌, refl, ℕ, zero, suc, Bool, true, List, [], ◌∷◌, ◌++◌, drop, map, filter, not, Option, Some, if◌then◌else◌}
use Rattle.std.specs.List.{find, slice_get}
use Rattle.std.specs.Option.{unwrap_or}
use Rattle.std.proofs.lemmas.List.{append_assoc, map-append}
use Rattle.std.proofs.lemmas.List.Elements.{filter-append}
use Rattle.net_model.specs.declared.kinds.Kind.{Kind}
use Rattle.net_elements.specs.declared.roles.Role.{Role}
use Rattle.net_elements.specs.Rules.{is_passed_over}
use Rattle.doc_model.specs.declared.tree.Element.{Element}
use Rattle.pnml_read.specs.declared.lists.Lists.{Lists}
use Rattle.pnml_read.specs.Nets.{both, given, joined, kept, lists_in}

pub both_assoc : (a b c : Lists) → both a (both b c) ≡ both (both a b) c
both_assoc a b c =
    ap (λ l. record { sorts = l; partitions = a.partitions ++ (b.partitions ++ c.partitions); variables = a.variables ++ (b.variables ++ c.variables); places = a.places ++ (b.places ++ c.places); transitions = a.transitions ++ (b.transitions ++ c.transitions); references = a.references ++ (b.references ++ c.references); arcs = a.arcs ++ (b.arcs ++ c.arcs) }) (sym (append_assoc a.sorts b.sorts c.sorts))
    ∙ ap (λ l. record { sorts = a.sorts ++ b.sorts ++ c.sorts; partitions = l; variables = a.variables ++ (b.variables ++ c.variables); places = a.places ++ (b.places ++ c.places); transitions = a.transitions ++ (b.transitions ++ c.transitions); references = a.references ++ (b.references ++ c.references); arcs = a.arcs ++ (b.arcs ++ c.arcs) }) (sym (append_assoc a.partitions b.partitions c.partitions))
    ∙ ap (λ l. record { sorts = a.sorts ++ b.sorts ++ c.sorts; partitions = a.partitions ++ b.partitions ++ c.partitions; variables = l; places = a.places ++ (b.places ++ c.places); transitions = a.transitions ++ (b.transitions ++ c.transitions); references = a.references ++ (b.references ++ c.references); arcs = a.arcs ++ (b.arcs ++ c.arcs) }) (sym (append_assoc a.variables b.variables c.variables))
    ∙ ap (λ l. record { sorts = a.sorts ++ b.sorts ++ c.sorts; partitions = a.partitions ++ b.partitions ++ c.partitions; variables = a.variables ++ b.variables ++ c.variables; places = l; transitions = a.transitions ++ (b.transitions ++ c.transitions); references = a.references ++ (b.references ++ c.references); arcs = a.arcs ++ (b.arcs ++ c.arcs) }) (sym (append_assoc a.places b.places c.places))
    ∙ ap (λ l. record { sorts = a.sorts ++ b.sorts ++ c.sorts; partitions = a.partitions ++ b.partitions ++ c.partitions; variables = a.variables ++ b.variables ++ c.variables; places = a.places ++ b.places ++ c.places; transitions = l; references = a.references ++ (b.references ++ c.references); arcs = a.arcs ++ (b.arcs ++ c.arcs) }) (sym (append_assoc a.transitions b.transitions c.transitions))
    ∙ ap (λ l. record { sorts = a.sorts ++ b.sorts ++ c.sorts; partitions = a.partitions ++ b.partitions ++ c.partitions; variables = a.variables ++ b.variables ++ c.variables; places = a.places ++ b.places ++ c.places; transitions = a.transitions ++ b.transitions ++ c.transitions; references = l; arcs = a.arcs ++ (b.arcs ++ c.arcs) }) (sym (append_assoc a.references b.references c.references))
    ∙ ap (λ l. record { sorts = a.sorts ++ b.sorts ++ c.sorts; partitions = a.partitions ++ b.partitions ++ c.partitions; variables = a.variables ++ b.variables ++ c.variables; places = a.places ++ b.places ++ c.places; transitions = a.transitions ++ b.transitions ++ c.transitions; references = a.references ++ b.references ++ c.references; arcs = l }) (sym (append_assoc a.arcs b.arcs c.arcs))

joined_append : (xs ys : List Lists) → joined (xs ++ ys) ≡ both (joined xs) (joined ys)
joined_append [] ys = refl
joined_append (x ∷ xs) ys = ap (both x) (joined_append xs ys) ∙ both_assoc x (joined xs) (joined ys)

pub lists_append : (r : Role) (kind : Kind) (front last : List Element) → lists_in r kind (map given (front ++ last)) ≡ both (lists_in r kind (map given front)) (lists_in r kind (map given last))
lists_append r kind front last =
    ap (lists_in r kind) (map-append given front last)
    ∙ ap (λ cs. joined (map (λ c. c.lists kind) cs)) (filter-append (λ c. not (is_passed_over r c.name)) (map given front) (map given last))
    ∙ ap joined (map-append (λ c. c.lists kind) (kept r (map given front)) (kept r (map given last)))
    ∙ joined_append (map (λ c. c.lists kind) (kept r (map given front))) (map (λ c. c.lists kind) (kept r (map given last)))

-- the first element that passes a test, where those in front of it are left out
chosen : {A : Type 0} (b : Bool) (x y : A) (rest : Option A) → b ≡ true → Some y ≡ Some x → (if b then Some y else rest) ≡ Some x
chosen b x y rest passes same = ap (λ t. if t then Some y else rest) passes ∙ same

same_some : {A : Type 0} (x y : A) → Some x ≡ Some y → x ≡ y
same_some x y e = ap (λ o. unwrap_or o x) e

pub found_at : {A : Type 0} (test : A → Bool) (xs : List A) (i : ℕ) (x : A) → slice_get xs i ≡ Some x → test x ≡ true → find test (drop i xs) ≡ Some x
found_at test [] i x e h = absurd (none i e)
  where
    none : {A : Type 0} {x : A} (i : ℕ) → slice_get [] i ≡ Some x → ⊥
    none i e = cc
found_at test (y ∷ xs) zero x e h = chosen (test y) x y (find test xs) (subst (λ z. test z ≡ true) (sym (same_some y x e)) h) e
found_at test (y ∷ xs) (suc i) x e h = found_at test xs i x e h
