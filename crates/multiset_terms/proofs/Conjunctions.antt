-- Compiled guards that stand for written ones, with their children where they are an `and`.
use Rattle.std.proofs.Common.{◌≡◌, ℕ, zero, suc, ◌<◌, ◌≤◌, ◌^◌, Bool, true, false, List, [], ◌∷◌, map, length, refl, sym, ap, ◌∙◌, subst, arith, Option, None, Some}
use Rattle.std.specs.Prelude.{if◌then◌else◌, slice_get, sum_by}
use Rattle.std.proofs.lemmas.List.Sums.{sum_by-cons}
use Rattle.colour_sorts.proofs.PlacesIn.{some-is-some}
use Rattle.colour_sorts.specs.Domain.{domain_of}
use Rattle.net_model.specs.declared.terms.Guard.{Guard, map-Guard, fold_out-Guard, out-Guard, roll-Guard, out-roll-Guard}
use Rattle.net_model.specs.declared.terms.Guard.TheOpen as written
use Rattle.net_model.specs.declared.terms.Guard.TheVariants as guard
use Rattle.multiset_terms.specs.declared.conditions.CGuard.{CGuard, out-CGuard, roll-CGuard, out-roll-CGuard, roll-out-CGuard}
use Rattle.multiset_terms.specs.declared.conditions.CGuard.TheOpen as layer
use Rattle.multiset_terms.specs.declared.conditions.CGuard.TheVariants as condition
use Rattle.multiset_terms.specs.Conditions.{condition_uses_at, verdict}
use Rattle.multiset_terms.specs.Context.{Context}
use Rattle.multiset_terms.specs.GuardParts.{AreConditions}
use Rattle.multiset_terms.specs.Standing.{Binds, GuardMeans, GuardStandsFor, children_layer, children_of, compiled_at, compiled_children, compiled_children_layer, compiled_parts, guard_at, is_and, is_and_layer, is_compiled_and, is_compiled_and_layer, occurs_in_guard, parts_of, then_at}
use Rattle.multiset_terms.specs.Typing.{Judged, guard_part, judged_guard}
use Rattle.multiset_terms.specs.Values.{Binding, truth}

pub itself : {ctx : Context} {g : Guard} {c : CGuard} → GuardStandsFor ctx g c → GuardMeans ctx g c
itself {ctx} {g} {c} known = known.means [] g c refl refl

-- what a compiled guard says, apart from its children
pub record IsRead (ctx : Context) (g : Guard) (c : CGuard) : Type 0 where
  pub variables : (at : ℕ) (id : List ℕ) → slice_get ctx.variables.ids at ≡ Some id → condition_uses_at at c ≡ occurs_in_guard id g
  pub fit : (b : Binding) (indices : List ℕ) → Binds ctx b indices → (verdict (domain_of ctx.sorts ctx.partitions) indices c).is_fit ≡ true
  pub truths : (b : Binding) (indices : List ℕ) → Binds ctx b indices → (verdict (domain_of ctx.sorts ctx.partitions) indices c).is_true ≡ truth ctx g b

-- guards that are no `and`
pub record HaveNone (g : Guard) (c : CGuard) : Type 0 where
  pub conjunction : is_compiled_and c ≡ is_and g
  pub written : children_of g ≡ []
  pub compiled : compiled_children c ≡ []

pub leaf : (g : Guard) (c : CGuard) (y : written.Guard-F Guard) (z : layer.CGuard-F CGuard) → roll-Guard y ≡ g → roll-CGuard z ≡ c
    → is_and_layer y ≡ false → children_layer y ≡ [] → is_compiled_and_layer z ≡ false → compiled_children_layer z ≡ [] → HaveNone g c
leaf g c y z first second plain none not_and nothing = record {
  conjunction = ap is_compiled_and (sym second) ∙ ap is_compiled_and_layer (out-roll-CGuard z) ∙ not_and ∙ sym (ap is_and (sym first) ∙ ap is_and_layer (out-roll-Guard y) ∙ plain);
  written = ap children_of (sym first) ∙ ap children_layer (out-roll-Guard y) ∙ none;
  compiled = ap compiled_children (sym second) ∙ ap compiled_children_layer (out-roll-CGuard z) ∙ nothing;
}

none-some : {A : Type 0} (x : A) → None ≡ Some x → ⊥
none-some x h = absurd (cc)

nothing-at : {A : Type 0} (next : A → Option A) (xs : List A) (i : ℕ) (x : A) → xs ≡ [] → then_at next (slice_get xs i) ≡ Some x → ⊥
nothing-at next xs i x none is = none-some x (ap (λ ys. then_at next (slice_get ys i)) (sym none) ∙ is)

same-means : (ctx : Context) (g h : Guard) (c d : CGuard) → Some g ≡ Some h → Some c ≡ Some d → GuardMeans ctx g c → GuardMeans ctx h d
same-means ctx g h c d first second known = subst (λ x. GuardMeans ctx x d) (some-is-some g h first) (subst (GuardMeans ctx g) (some-is-some c d second) known)

pub alone : (ctx : Context) (g : Guard) (c : CGuard) → IsRead ctx g c → HaveNone g c → GuardStandsFor ctx g c
alone ctx g c read none = record { means = means }
  where
    whole : GuardMeans ctx g c
    whole = record {
      variables = read.variables;
      fit = read.fit;
      truths = read.truths;
      conjunction = none.conjunction;
      many = ap length none.compiled ∙ sym (ap length none.written);
      few = let zeroth = ap length none.compiled in omega (arith, zeroth);
    }

    means : (path : List ℕ) (h : Guard) (d : CGuard) → guard_at path g ≡ Some h → compiled_at path c ≡ Some d → GuardMeans ctx h d
    means [] h d is there = same-means ctx g h c d is there whole
    means (i ∷ path) h d is there = absurd (nothing-at (guard_at path) (children_of g) i h none.written is)

-- the children of an `and`
conditions-at : (ctx : Context) (gs : List Guard) (cs : List CGuard) (i : ℕ) (g : Guard) (c : CGuard) → AreConditions ctx gs cs → slice_get gs i ≡ Some g → slice_get cs i ≡ Some c → GuardStandsFor ctx g c
conditions-at ctx [] cs i g c known is there = absurd (none-some g is)
conditions-at ctx (h ∷ hs) [] i g c known is there = absurd (none-some c there)
conditions-at ctx (h ∷ hs) (d ∷ ds) zero g c known is there =
    subst (λ x. GuardStandsFor ctx x c) (some-is-some h g is) (subst (GuardStandsFor ctx h) (some-is-some d c there) known.0)
conditions-at ctx (h ∷ hs) (d ∷ ds) (suc i) g c known is there = conditions-at ctx hs ds i g c known.1 is there

conditions-many : (ctx : Context) (gs : List Guard) (cs : List CGuard) → AreConditions ctx gs cs → length cs ≡ length gs
conditions-many ctx [] [] known = refl
conditions-many ctx [] (c ∷ cs) known = absurd known
conditions-many ctx (g ∷ gs) [] known = absurd known
conditions-many ctx (g ∷ gs) (c ∷ cs) known = ap suc (conditions-many ctx gs cs known.1)

written-and : (gs : List Guard) → children_of (guard.And gs) ≡ gs
written-and gs = ap children_of (sym (guard.rolls-And gs)) ∙ ap children_layer (out-roll-Guard (written.And gs))

compiled-and : (cs : List CGuard) → compiled_children (condition.And cs) ≡ cs
compiled-and cs = ap compiled_children (sym (condition.rolls-And cs)) ∙ ap compiled_children_layer (out-roll-CGuard (layer.And cs))

some-node : (ctx : Context) (y : written.Guard-F (Judged (Unit {0}))) → 1 ≤ (guard_part ctx y).nodes
some-node ctx (written.Constant value) = omega arith
some-node ctx (written.And js) = omega arith
some-node ctx (written.Or js) = omega arith
some-node ctx (written.Not j) = omega arith
some-node ctx (written.Imply j k) = omega arith
some-node ctx (written.Compare by t u) = omega arith

node-of : (ctx : Context) (g : Guard) → 1 ≤ (judged_guard ctx g).nodes
node-of ctx g =
    subst (λ j. 1 ≤ j.nodes) (sym (fold_out-Guard (Judged (Unit {0})) (guard_part ctx) g))
    (some-node ctx (map-Guard Guard (Judged (Unit {0})) (judged_guard ctx) (out-Guard g)))

-- an `and` has more nodes than children
pub fewer-children : (ctx : Context) (gs : List Guard) → length gs ≤ sum_by (λ j. j.nodes) (map (judged_guard ctx) gs)
fewer-children ctx [] = omega arith
fewer-children ctx (g ∷ gs) =
    let first = node-of ctx g in
    let rest = fewer-children ctx gs in
    omega (arith, first, rest, sum_by-cons (λ j. j.nodes) (judged_guard ctx g) (map (judged_guard ctx) gs))

pub together : (ctx : Context) (gs : List Guard) (cs : List CGuard) → IsRead ctx (guard.And gs) (condition.And cs) → AreConditions ctx gs cs → length gs < 2 ^ 32
    → GuardStandsFor ctx (guard.And gs) (condition.And cs)
together ctx gs cs read known few = record { means = means }
  where
    whole : GuardMeans ctx (guard.And gs) (condition.And cs)
    whole = record {
      variables = read.variables;
      fit = read.fit;
      truths = read.truths;
      conjunction = ap is_compiled_and (sym (condition.rolls-And cs)) ∙ ap is_compiled_and_layer (out-roll-CGuard (layer.And cs))
          ∙ sym (ap is_and (sym (guard.rolls-And gs)) ∙ ap is_and_layer (out-roll-Guard (written.And gs)));
      many = ap length (compiled-and cs) ∙ conditions-many ctx gs cs known ∙ sym (ap length (written-and gs));
      few = let x = ap length (compiled-and cs) in let y = conditions-many ctx gs cs known in omega (arith, x, y, few);
    }

    down : (path : List ℕ) (h : Guard) (d : CGuard) (i : ℕ) (o : Option Guard) (u : Option CGuard) → slice_get gs i ≡ o → slice_get cs i ≡ u
        → then_at (guard_at path) o ≡ Some h → then_at (compiled_at path) u ≡ Some d → GuardMeans ctx h d
    down path h d i None u here below is there = absurd (none-some h is)
    down path h d i (Some g) None here below is there = absurd (none-some d there)
    down path h d i (Some g) (Some c) here below is there = (conditions-at ctx gs cs i g c known here below).means path h d is there

    means : (path : List ℕ) (h : Guard) (d : CGuard) → guard_at path (guard.And gs) ≡ Some h → compiled_at path (condition.And cs) ≡ Some d → GuardMeans ctx h d
    means [] h d is there = same-means ctx (guard.And gs) h (condition.And cs) d is there whole
    means (i ∷ path) h d is there =
        down path h d i (slice_get gs i) (slice_get cs i) refl refl
        (ap (λ xs. then_at (guard_at path) (slice_get xs i)) (sym (written-and gs)) ∙ is)
        (ap (λ xs. then_at (compiled_at path) (slice_get xs i)) (sym (compiled-and cs)) ∙ there)

-- a child of a guard that is stood for
pub child-of : (ctx : Context) (g : Guard) (c : CGuard) (i : ℕ) (h : Guard) (d : CGuard) → GuardStandsFor ctx g c → slice_get (children_of g) i ≡ Some h → slice_get (compiled_children c) i ≡ Some d
    → GuardStandsFor ctx h d
child-of ctx g c i h d known here there = record {
  means = λ path k e is below. known.means (i ∷ path) k e (ap (then_at (guard_at path)) here ∙ is) (ap (then_at (compiled_at path)) there ∙ below);
}

-- the parts of a guard that isn't an `and`, and of one that is
parts-by : (yes : Bool) (ctx : Context) (g : Guard) (c : CGuard) → GuardStandsFor ctx g c → is_and g ≡ yes → (length (parts_of g) ≡ length (compiled_parts c)) × (length (compiled_parts c) < 2 ^ 32)
parts-by true ctx g c known is =
    let means = itself known in
    let other : is_compiled_and c ≡ true = means.conjunction ∙ is in
    let many = means.many in
    let few = means.few in
    rw (is, other) (sym many, few)
parts-by false ctx g c known is =
    let means = itself known in
    let other : is_compiled_and c ≡ false = means.conjunction ∙ is in
    rw (is, other) (refl, omega arith)

pub parts-many : (ctx : Context) (g : Guard) (c : CGuard) → GuardStandsFor ctx g c → (length (parts_of g) ≡ length (compiled_parts c)) × (length (compiled_parts c) < 2 ^ 32)
parts-many ctx g c known = parts-by (is_and g) ctx g c known refl

-- the parts of a guard that is stood for
and-test : (cs : List CGuard) → is_compiled_and (condition.And cs) ≡ true
and-test cs = ap is_compiled_and (sym (condition.rolls-And cs)) ∙ ap is_compiled_and_layer (out-roll-CGuard (layer.And cs))

pub parts-of-and : (c : CGuard) (cs : List CGuard) → c ≡ condition.And cs → compiled_parts c ≡ cs
parts-of-and c cs is =
    ap (λ yes. if yes then compiled_children c else c ∷ []) (ap is_compiled_and is ∙ and-test cs) ∙ ap compiled_children is ∙ compiled-and cs

pub part-and : (ctx : Context) (g : Guard) (c : CGuard) (cs : List CGuard) (at : ℕ) (h : Guard) (d : CGuard) → GuardStandsFor ctx g c → c ≡ condition.And cs → slice_get (parts_of g) at ≡ Some h
    → slice_get cs at ≡ Some d → GuardStandsFor ctx h d
part-and ctx g c cs at h d known is here there =
    let yes : is_and g ≡ true = sym (itself known).conjunction ∙ ap is_compiled_and is ∙ and-test cs in
    let parts : parts_of g ≡ children_of g = ap (λ b. if b then children_of g else g ∷ []) yes in
    child-of ctx g c at h d known (ap (λ xs. slice_get xs at) (sym parts) ∙ here) (ap (λ xs. slice_get xs at) (ap compiled_children is ∙ compiled-and cs) ∙ there)

no-and-layer : (c : CGuard) (z : layer.CGuard-F CGuard) → roll-CGuard z ≡ c → ((cs : List CGuard) → c ≡ condition.And cs → ⊥) → is_compiled_and_layer z ≡ false
no-and-layer c (layer.Constant value) is none = refl
no-and-layer c (layer.And cs) is none = absurd (none cs (sym is ∙ condition.rolls-And cs))
no-and-layer c (layer.Or cs) is none = refl
no-and-layer c (layer.Not d) is none = refl
no-and-layer c (layer.Imply d e) is none = refl
no-and-layer c (layer.Compare by t u) is none = refl
no-and-layer c (layer.CompareBlocks same partition t u) is none = refl

pub no-and : (c : CGuard) → ((cs : List CGuard) → c ≡ condition.And cs → ⊥) → is_compiled_and c ≡ false
no-and c none = no-and-layer c (out-CGuard c) (roll-out-CGuard c) none

only-one : (g h : Guard) (at : ℕ) → slice_get (g ∷ []) at ≡ Some h → g ≡ h
only-one g h zero is = some-is-some g h is
only-one g h (suc at) is = absurd (none-some h is)

pub part-itself : (ctx : Context) (g : Guard) (c : CGuard) (at : ℕ) (h : Guard) → GuardStandsFor ctx g c → is_compiled_and c ≡ false → slice_get (parts_of g) at ≡ Some h → GuardStandsFor ctx h c
part-itself ctx g c at h known plain here =
    let other : is_and g ≡ false = sym (itself known).conjunction ∙ plain in
    let parts : parts_of g ≡ g ∷ [] = ap (λ b. if b then children_of g else g ∷ []) other in
    subst (λ x. GuardStandsFor ctx x c) (only-one g h at (ap (λ xs. slice_get xs at) (sym parts) ∙ here)) known

pub one-part : (c : CGuard) → is_compiled_and c ≡ false → length (compiled_parts c) ≡ 1
one-part c plain = ap (λ b. length (if b then compiled_children c else c ∷ [])) plain
