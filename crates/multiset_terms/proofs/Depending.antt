-- Values of terms and guards depend on the variables that occur in them, alone; and a guard is true where its parts are.
use Rattle.std.proofs.Common.{◌≡◌, ℕ, Bool, true, false, List, [], ◌∷◌, map, refl, sym, ap, ◌∙◌, subst}
use Rattle.std.specs.Prelude.{◌&&◌, ◌||◌, not, if◌then◌else◌, position}
use Rattle.std.specs.List.{list_all, list_any}
use Rattle.std.specs.Str.{bytes_eq}
use Rattle.std.specs.Cmp.Lexicographic.{bytes_decides}
use Rattle.colour_sorts.specs.declared.sorts.Sort.TheVariants as sort
use Rattle.net_model.specs.declared.terms.Guard.{Guard, map-Guard, out-Guard, roll-Guard, out-roll-Guard, roll-out-Guard, fold-roll-Guard}
use Rattle.net_model.specs.declared.terms.Guard.TheOpen as guard
use Rattle.net_model.specs.declared.terms.Term.{Term, map-Term, roll-Term, fold-roll-Term}
use Rattle.net_model.specs.declared.terms.Term.TheOpen as term
use Rattle.net_model.proofs.Inductions.{KnownGuard, KnownTerm, guard_by_layers, guard_in, plain_guard, plain_term, term_by_layers, term_in}
use Rattle.multiset_terms.specs.Context.{Context}
use Rattle.multiset_terms.specs.Dependence.{AgreeWhere, PartsMakeTheGuard, TruthDependsOnVariables, ValuesDependOnVariables}
use Rattle.multiset_terms.specs.Standing.{children_layer, is_and_layer, occurs, occurs_in_guard, occurs_in_guard_part, occurs_part, parts_of}
use Rattle.multiset_terms.specs.Typing.{at_place, variable_sort}
use Rattle.multiset_terms.specs.Values.{Binding, Meaning, is_ordered, meaning, meaning_part, one_colour, truth, truth_part}

or-left : (a d : Bool) → a ≡ true → (a || d) ≡ true
or-left a d h = rw h refl

or-right : (a d : Bool) → d ≡ true → (a || d) ≡ true
or-right true d h = refl
or-right false d h = h

-- terms
abbrev Alike : Context → Term → Type 0
Alike ctx t = (b c : Binding) → AgreeWhere (λ id. occurs id t) b c → meaning ctx b t ≡ meaning ctx c t

all-alike : (ctx : Context) (ks : List (KnownTerm (Alike ctx))) (b c : Binding) → AgreeWhere (λ id. list_any (λ part. part) (map (occurs id) (map (term_in (Alike ctx)) ks))) b c
    → map (meaning ctx b) (map (term_in (Alike ctx)) ks) ≡ map (meaning ctx c) (map (term_in (Alike ctx)) ks)
all-alike ctx [] b c agree = refl
all-alike ctx (k ∷ ks) b c agree =
    ap (λ m. m ∷ map (meaning ctx b) (map (term_in (Alike ctx)) ks)) (k.1 b c (λ id h. agree id (or-left _ _ h)))
    ∙ ap (λ ms. meaning ctx c k.0 ∷ ms) (all-alike ctx ks b c (λ id h. agree id (or-right _ _ h)))

layer-alike : (ctx : Context) (y : term.Term-F (KnownTerm (Alike ctx))) (b c : Binding) → AgreeWhere (λ id. occurs_part id (map-Term Term Bool (occurs id) (plain_term (Alike ctx) y))) b c
    → meaning_part ctx b (map-Term Term Meaning (meaning ctx b) (plain_term (Alike ctx) y)) ≡ meaning_part ctx c (map-Term Term Meaning (meaning ctx c) (plain_term (Alike ctx) y))
layer-alike ctx (term.Variable id) b c agree =
    ap (λ x. at_place (one_colour sort.Dot x false) (λ at. one_colour (variable_sort ctx at) x true) (position (bytes_eq id) ctx.variables.ids)) (agree id ((bytes_decides id id).1 refl))
layer-alike ctx (term.Operator id) b c agree = refl
layer-alike ctx term.Dot b c agree = refl
layer-alike ctx (term.Number value span) b c agree = refl
layer-alike ctx (term.Successor k) b c agree = ap (λ m. meaning_part ctx b (term.Successor m)) (k.1 b c agree)
layer-alike ctx (term.Predecessor k) b c agree = ap (λ m. meaning_part ctx b (term.Predecessor m)) (k.1 b c agree)
layer-alike ctx (term.Tuple ks) b c agree = ap (λ ms. meaning_part ctx b (term.Tuple ms)) (all-alike ctx ks b c agree)
layer-alike ctx (term.All written) b c agree = refl
layer-alike ctx (term.Empty written) b c agree = refl
layer-alike ctx (term.NumberOf number k) b c agree = ap (λ m. meaning_part ctx b (term.NumberOf number m)) (k.1 b c agree)
layer-alike ctx (term.Scalar number k) b c agree = ap (λ m. meaning_part ctx b (term.Scalar number m)) (k.1 b c agree)
layer-alike ctx (term.Add ks) b c agree = ap (λ ms. meaning_part ctx b (term.Add ms)) (all-alike ctx ks b c agree)
layer-alike ctx (term.Subtract k l) b c agree =
    ap (λ m. meaning_part ctx b (term.Subtract m (meaning ctx b l.0))) (k.1 b c (λ id h. agree id (or-left _ _ h)))
    ∙ ap (λ m. meaning_part ctx b (term.Subtract (meaning ctx c k.0) m)) (l.1 b c (λ id h. agree id (or-right _ _ h)))
layer-alike ctx (term.BlockOf id k) b c agree = ap (λ m. meaning_part ctx b (term.BlockOf id m)) (k.1 b c agree)

step-alike : (ctx : Context) (y : term.Term-F (KnownTerm (Alike ctx))) → Alike ctx (roll-Term (plain_term (Alike ctx) y))
step-alike ctx y b c agree =
    let x = plain_term (Alike ctx) y in
    fold-roll-Term Meaning (meaning_part ctx b) x
    ∙ layer-alike ctx y b c (λ id h. agree id (fold-roll-Term Bool (occurs_part id) x ∙ h))
    ∙ sym (fold-roll-Term Meaning (meaning_part ctx c) x)

pub term-alike : (ctx : Context) (t : Term) → Alike ctx t
term-alike ctx t = term_by_layers (Alike ctx) (step-alike ctx) t

pub values-depend : ValuesDependOnVariables
values-depend ctx t b c agree =
    let same = term-alike ctx t b c agree in
    ((λ x. ap (λ m. m.count x) same), ap (λ m. m.is_defined) same)

-- guards
abbrev AsTrue : Context → Guard → Type 0
AsTrue ctx g = (b c : Binding) → AgreeWhere (λ id. occurs_in_guard id g) b c → truth ctx g b ≡ truth ctx g c

all-true : (ctx : Context) (ks : List (KnownGuard (AsTrue ctx))) (b c : Binding) → AgreeWhere (λ id. list_any (λ part. part) (map (occurs_in_guard id) (map (guard_in (AsTrue ctx)) ks))) b c
    → map (λ g. truth ctx g b) (map (guard_in (AsTrue ctx)) ks) ≡ map (λ g. truth ctx g c) (map (guard_in (AsTrue ctx)) ks)
all-true ctx [] b c agree = refl
all-true ctx (k ∷ ks) b c agree =
    ap (λ m. m ∷ map (λ g. truth ctx g b) (map (guard_in (AsTrue ctx)) ks)) (k.1 b c (λ id h. agree id (or-left _ _ h)))
    ∙ ap (λ ms. truth ctx k.0 c ∷ ms) (all-true ctx ks b c (λ id h. agree id (or-right _ _ h)))

layer-true : (ctx : Context) (y : guard.Guard-F (KnownGuard (AsTrue ctx))) (b c : Binding) → AgreeWhere (λ id. occurs_in_guard_part id (map-Guard Guard Bool (occurs_in_guard id) (plain_guard (AsTrue ctx) y))) b c
    → truth_part ctx b (map-Guard Guard Bool (λ g. truth ctx g b) (plain_guard (AsTrue ctx) y)) ≡ truth_part ctx c (map-Guard Guard Bool (λ g. truth ctx g c) (plain_guard (AsTrue ctx) y))
layer-true ctx (guard.Constant value) b c agree = refl
layer-true ctx (guard.And ks) b c agree = ap (list_all (λ part. part)) (all-true ctx ks b c agree)
layer-true ctx (guard.Or ks) b c agree = ap (list_any (λ part. part)) (all-true ctx ks b c agree)
layer-true ctx (guard.Not k) b c agree = ap not (k.1 b c agree)
layer-true ctx (guard.Imply k l) b c agree =
    ap (λ x. not x || truth ctx l.0 b) (k.1 b c (λ id h. agree id (or-left _ _ h)))
    ∙ ap (λ x. not (truth ctx k.0 c) || x) (l.1 b c (λ id h. agree id (or-right _ _ h)))
layer-true ctx (guard.Compare by t u) b c agree =
    ap (λ m. is_ordered ctx by m (meaning ctx b u)) (term-alike ctx t b c (λ id h. agree id (or-left _ _ h)))
    ∙ ap (λ m. is_ordered ctx by (meaning ctx c t) m) (term-alike ctx u b c (λ id h. agree id (or-right _ _ h)))

step-true : (ctx : Context) (y : guard.Guard-F (KnownGuard (AsTrue ctx))) → AsTrue ctx (roll-Guard (plain_guard (AsTrue ctx) y))
step-true ctx y b c agree =
    let x = plain_guard (AsTrue ctx) y in
    fold-roll-Guard Bool (truth_part ctx b) x
    ∙ layer-true ctx y b c (λ id h. agree id (fold-roll-Guard Bool (occurs_in_guard_part id) x ∙ h))
    ∙ sym (fold-roll-Guard Bool (truth_part ctx c) x)

pub truth-depends : TruthDependsOnVariables
truth-depends ctx g = guard_by_layers (AsTrue ctx) (step-true ctx) g

-- parts
all-of-map : (f : Guard → Bool) (gs : List Guard) → list_all (λ part. part) (map f gs) ≡ list_all f gs
all-of-map f [] = refl
all-of-map f (g ∷ gs) = ap (λ x. f g && x) (all-of-map f gs)

and-one : (x : Bool) → x ≡ (x && true)
and-one true = refl
and-one false = refl

parts-rolled : (y : guard.Guard-F Guard) → parts_of (roll-Guard y) ≡ (if is_and_layer y then children_layer y else roll-Guard y ∷ [])
parts-rolled y = ap (λ z. if is_and_layer z then children_layer z else roll-Guard y ∷ []) (out-roll-Guard y)

parts-layer : (ctx : Context) (b : Binding) (y : guard.Guard-F Guard) → truth ctx (roll-Guard y) b ≡ list_all (λ h. truth ctx h b) (if is_and_layer y then children_layer y else roll-Guard y ∷ [])
parts-layer ctx b (guard.Constant value) = and-one _
parts-layer ctx b (guard.And gs) = fold-roll-Guard Bool (truth_part ctx b) (guard.And gs) ∙ all-of-map (λ g. truth ctx g b) gs
parts-layer ctx b (guard.Or gs) = and-one _
parts-layer ctx b (guard.Not g) = and-one _
parts-layer ctx b (guard.Imply g h) = and-one _
parts-layer ctx b (guard.Compare by t u) = and-one _

pub parts-make : PartsMakeTheGuard
parts-make ctx g b =
    subst (λ x. truth ctx x b ≡ list_all (λ h. truth ctx h b) (parts_of x)) (roll-out-Guard g)
    (parts-layer ctx b (out-Guard g) ∙ ap (list_all (λ h. truth ctx h b)) (sym (parts-rolled (out-Guard g))))
