-- The parts of a guard that is stood for.
use Rattle.std.proofs.Common.{◌≡◌, ℕ, zero, suc, ◌<◌, Bool, true, false, List, [], ◌∷◌, map, get_or, length, refl, sym, ap, subst, ◌∙◌, arith, Some, None}
use Rattle.std.specs.Prelude.{◌&&◌, ◌||◌, if◌then◌else◌, slice_get}
use Rattle.std.specs.List.{list_all, list_any}
use Rattle.std.proofs.lemmas.List.{length-map}
use Rattle.std.proofs.lemmas.Option.{slice_get-get_or}
use Rattle.bindings.specs.Listed.{IsBinding}
use Rattle.colour_sorts.specs.Colours.{size}
use Rattle.net_model.specs.declared.terms.Guard.{Guard}
use Rattle.multiset_terms.specs.declared.conditions.CGuard.{CGuard, out-CGuard, roll-CGuard, out-roll-CGuard, roll-out-CGuard, fold-roll-CGuard}
use Rattle.multiset_terms.specs.declared.conditions.CGuard.TheOpen as layer
use Rattle.multiset_terms.specs.Bindings.{binding_of}
use Rattle.multiset_terms.specs.Conditions.{Verdict, condition_uses_at, condition_uses_part, verdict, verdict_of_parts}
use Rattle.multiset_terms.specs.Context.{Context}
use Rattle.multiset_terms.specs.Standing.{Binds, CanBeJudged, GuardStandsFor, children_of, compiled_at, compiled_children, compiled_children_layer, compiled_parts, guard_at, is_and, is_compiled_and, is_compiled_and_layer, parts_of, then_at}
use Rattle.multiset_terms.specs.Values.{truth}
use Rattle.multiset_terms.proofs.Conjunctions.{itself, parts-many}
use Rattle.multiset_terms.proofs.Scopes.{indices-bind}
use Rattle.multiset_terms.proofs.Using.{bound-by-sizes}
use Rattle.guard_walks.specs.declared.walks.Signature.{Signature}
use Rattle.guard_walks.specs.Walks.{IsGuard, all_sizes, is_true_at, part_at}
use Rattle.guard_walks.proofs.Digits.{some-is-some}

-- a child stands for a child
child : (ctx : Context) (g : Guard) (c : CGuard) (at : ℕ) (h : Guard) (d : CGuard) → GuardStandsFor ctx g c → slice_get (children_of g) at ≡ Some h → slice_get (compiled_children c) at ≡ Some d → GuardStandsFor ctx h d
child ctx g c at h d known here there = record {
  means = λ path x y first second. known.means (at ∷ path) x y (ap (then_at (guard_at path)) here ∙ first) (ap (then_at (compiled_at path)) there ∙ second);
}

no-more : {A : Type 0} (x : A) → None ≡ Some x → ⊥
no-more x e = absurd (cc)

part-by : (ctx : Context) (g : Guard) (c : CGuard) (at : ℕ) (h : Guard) (d : CGuard) → GuardStandsFor ctx g c → (x y : Bool) → y ≡ x
    → slice_get (if x then children_of g else g ∷ []) at ≡ Some h → slice_get (if y then compiled_children c else c ∷ []) at ≡ Some d → GuardStandsFor ctx h d
part-by ctx g c at h d known true true same here there = child ctx g c at h d known here there
part-by ctx g c zero h d known false false same here there = subst (λ x. GuardStandsFor ctx x d) (some-is-some g h here) (subst (GuardStandsFor ctx g) (some-is-some c d there) known)
part-by ctx g c (suc at) h d known false false same here there = absurd (no-more h here)
part-by ctx g c at h d known true false same here there = absurd (cc)
part-by ctx g c at h d known false true same here there = absurd (cc)

pub part-stands : (ctx : Context) (g : Guard) (c : CGuard) (at : ℕ) (h : Guard) (d : CGuard) → GuardStandsFor ctx g c → slice_get (parts_of g) at ≡ Some h → slice_get (compiled_parts c) at ≡ Some d → GuardStandsFor ctx h d
part-stands ctx g c at h d known here there = part-by ctx g c at h d known (is_and g) (is_compiled_and c) (itself known).conjunction here there

-- the written part at a position
pub record IsPart (s : Signature) (c : CGuard) (at : ℕ) (known : IsGuard s c) : Type 0 where
  pub written : Guard
  pub here : slice_get (parts_of known.written) at ≡ Some written
  pub stands : GuardStandsFor known.context written (part_at c at)

pub part-known : (s : Signature) (c : CGuard) (at : ℕ) (known : IsGuard s c) → at < length (compiled_parts c) → IsPart s c at known
part-known s c at known within =
    let g = known.written in
    let many = parts-many known.context g c known.stands in
    let here : slice_get (parts_of g) at ≡ Some (get_or (parts_of g) at g) = slice_get-get_or (parts_of g) at g (omega (arith, many.0, within)) in
    record {
      written = get_or (parts_of g) at g;
      here = here;
      stands = part-stands known.context g c at (get_or (parts_of g) at g) (part_at c at) known.stands here (slice_get-get_or (compiled_parts c) at c within);
    }

-- colour indices in range bind
pub binds-here : (s : Signature) (c : CGuard) (indices : List ℕ) (known : IsGuard s c) → IsBinding (all_sizes s) indices → Binds known.context (binding_of known.context indices) indices
binds-here s c indices known fits = indices-bind known.context indices known.scope.ids ((bound-by-sizes known.context s.domains s.variables indices known.usable known.scope).in_range fits)

pub can-be-judged : (s : Signature) (c d : CGuard) (h : Guard) (indices : List ℕ) (known : IsGuard s c) → GuardStandsFor known.context h d → IsBinding (all_sizes s) indices → CanBeJudged s.domains d indices
can-be-judged s c d h indices known stands fits = record {
  context = known.context;
  declared = known.scope.domain.is;
  written = h;
  binding = binding_of known.context indices;
  stands = stands;
  binds = binds-here s c indices known fits;
}

-- the truth of what is compiled is that of what is written
pub true-as-written : (s : Signature) (c d : CGuard) (h : Guard) (indices : List ℕ) (known : IsGuard s c) → GuardStandsFor known.context h d → IsBinding (all_sizes s) indices
    → is_true_at s d indices ≡ truth known.context h (binding_of known.context indices)
true-as-written s c d h indices known stands fits =
    ap (λ x. (verdict x indices d).is_true) known.scope.domain.is
    ∙ (itself stands).truths (binding_of known.context indices) indices (binds-here s c indices known fits)

-- there is a size for each declared variable
pub sizes-many : (s : Signature) → length (all_sizes s) ≡ length s.variables.sorts
sizes-many s = length-map s.variables.sorts (size s.domains.constants)

-- the id of a declared variable
pub id-of : (s : Signature) (c : CGuard) (known : IsGuard s c) (v : ℕ) → v < length (all_sizes s) → slice_get known.context.variables.ids v ≡ Some (get_or known.context.variables.ids v [])
id-of s c known v within =
    let ids = known.context.variables.ids in
    let many : length ids ≡ length s.variables.sorts = ap (λ x. length x.ids) (sym known.scope.variables) ∙ known.usable.even in
    slice_get-get_or ids v [] (omega (arith, many, within, sizes-many s))

-- a guard is true where its parts are
all-map : (s : Signature) (b : List ℕ) (cs : List CGuard) → list_all (λ v. v.is_true) (map (verdict s.domains b) cs) ≡ list_all (λ d. is_true_at s d b) cs
all-map s b [] = refl
all-map s b (c ∷ cs) = ap (λ x. is_true_at s c b && x) (all-map s b cs)

and-one : (x : Bool) → x ≡ (x && true)
and-one true = refl
and-one false = refl

true-layer : (s : Signature) (b : List ℕ) (y : layer.CGuard-F CGuard) → is_true_at s (roll-CGuard y) b ≡ list_all (λ d. is_true_at s d b) (if is_compiled_and_layer y then compiled_children_layer y else roll-CGuard y ∷ [])
true-layer s b (layer.Constant value) = and-one _
true-layer s b (layer.And cs) = ap (λ v. v.is_true) (fold-roll-CGuard Verdict (verdict_of_parts s.domains b) (layer.And cs)) ∙ all-map s b cs
true-layer s b (layer.Or cs) = and-one _
true-layer s b (layer.Not d) = and-one _
true-layer s b (layer.Imply d e) = and-one _
true-layer s b (layer.Compare by t u) = and-one _
true-layer s b (layer.CompareBlocks same partition t u) = and-one _

parts-rolled : (y : layer.CGuard-F CGuard) → compiled_parts (roll-CGuard y) ≡ (if is_compiled_and_layer y then compiled_children_layer y else roll-CGuard y ∷ [])
parts-rolled y = ap (λ z. if is_compiled_and_layer z then compiled_children_layer z else roll-CGuard y ∷ []) (out-roll-CGuard y)

pub parts-true : (s : Signature) (c : CGuard) (b : List ℕ) → list_all (λ d. is_true_at s d b) (compiled_parts c) ≡ is_true_at s c b
parts-true s c b =
    subst (λ x. list_all (λ d. is_true_at s d b) (compiled_parts x) ≡ is_true_at s x b) (roll-out-CGuard c)
    (ap (list_all (λ d. is_true_at s d b)) (parts-rolled (out-CGuard c)) ∙ sym (true-layer s b (out-CGuard c)))

-- a variable that occurs in a part occurs in the guard
or-left : (a d : Bool) → a ≡ true → (a || d) ≡ true
or-left a d h = rw h refl

or-right : (a d : Bool) → d ≡ true → (a || d) ≡ true
or-right true d h = refl
or-right false d h = h

one-of : (v : ℕ) (cs : List CGuard) (at : ℕ) (d : CGuard) → slice_get cs at ≡ Some d → condition_uses_at v d ≡ true → list_any (λ part. part) (map (condition_uses_at v) cs) ≡ true
one-of v [] at d here used = absurd (no-more d here)
one-of v (c ∷ cs) zero d here used = or-left _ _ (ap (condition_uses_at v) (some-is-some c d here) ∙ used)
one-of v (c ∷ cs) (suc at) d here used = or-right _ _ (one-of v cs at d here used)

only : (v : ℕ) (c d : CGuard) (at : ℕ) → slice_get (c ∷ []) at ≡ Some d → condition_uses_at v d ≡ true → condition_uses_at v c ≡ true
only v c d zero here used = ap (condition_uses_at v) (some-is-some c d here) ∙ used
only v c d (suc at) here used = absurd (no-more d here)

uses-layer : (v : ℕ) (y : layer.CGuard-F CGuard) (at : ℕ) (d : CGuard) → slice_get (if is_compiled_and_layer y then compiled_children_layer y else roll-CGuard y ∷ []) at ≡ Some d → condition_uses_at v d ≡ true
    → condition_uses_at v (roll-CGuard y) ≡ true
uses-layer v (layer.Constant value) at d here used = only v _ d at here used
uses-layer v (layer.And cs) at d here used = fold-roll-CGuard Bool (condition_uses_part v) (layer.And cs) ∙ one-of v cs at d here used
uses-layer v (layer.Or cs) at d here used = only v _ d at here used
uses-layer v (layer.Not e) at d here used = only v _ d at here used
uses-layer v (layer.Imply e f) at d here used = only v _ d at here used
uses-layer v (layer.Compare by t u) at d here used = only v _ d at here used
uses-layer v (layer.CompareBlocks same partition t u) at d here used = only v _ d at here used

pub part-uses : (v : ℕ) (c : CGuard) (at : ℕ) → at < length (compiled_parts c) → condition_uses_at v (part_at c at) ≡ true → condition_uses_at v c ≡ true
part-uses v c at within used =
    subst (λ x. condition_uses_at v x ≡ true) (roll-out-CGuard c)
    (uses-layer v (out-CGuard c) at (part_at c at)
    (ap (λ xs. slice_get xs at) (sym (parts-rolled (out-CGuard c)) ∙ ap compiled_parts (roll-out-CGuard c)) ∙ slice_get-get_or (compiled_parts c) at c within) used)
