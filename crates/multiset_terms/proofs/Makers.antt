-- What is made of parts stands for the nodes over their terms.
use Rattle.std.proofs.Common.{◌≡◌, ℕ, ◌+◌, ◌-◌, ◌*◌, ◌≤◌, ◌^◌, min, Bool, true, false, List, [], ◌∷◌, length, refl, sym, ap, ◌∙◌, subst, arith, Option, None, Some}
use Rattle.std.specs.Prelude.{Result, Ok, Err, not, ◌&&◌, ◌||◌, sum_by, if◌then◌else◌}
use Rattle.std.specs.List.{list_all}
use Rattle.std.proofs.lemmas.Bool.Decides.{nat_tests}
use Rattle.std.proofs.lemmas.List.Sums.{sum_by-cons}
use Rattle.colour_sorts.specs.declared.rules.Rule.{Rule}
use Rattle.colour_sorts.specs.declared.rules.Rule.TheVariants as rule
use Rattle.colour_sorts.specs.declared.sorts.Colour.{Colour}
use Rattle.colour_sorts.specs.declared.sorts.Sort.{Sort, fold-roll-Sort}
use Rattle.colour_sorts.specs.declared.sorts.Sort.TheOpen as open_sort
use Rattle.colour_sorts.specs.declared.sorts.Sort.TheVariants as sort
use Rattle.colour_sorts.specs.Colours.{colours_of_parts}
use Rattle.net_model.specs.Ids.{constants_of}
use Rattle.colour_sorts.proofs.PlacesIn.{none-is-some}
use Rattle.multiset_terms.specs.declared.kinds.Kind.{Kind}
use Rattle.multiset_terms.specs.declared.kinds.Kind.TheVariants as kind
use Rattle.multiset_terms.specs.declared.parts.Part.{Part}
use Rattle.multiset_terms.specs.declared.parts.Totals.{Totals}
use Rattle.net_model.specs.declared.terms.Term.{Term}
use Rattle.net_model.specs.declared.terms.Term.TheOpen as layer
use Rattle.net_model.specs.declared.terms.Term.TheVariants as term
use Rattle.multiset_terms.specs.declared.trees.Tree.{Tree, fold-roll-Tree}
use Rattle.multiset_terms.specs.declared.trees.Tree.TheOpen as open_tree
use Rattle.multiset_terms.specs.declared.trees.Tree.TheVariants as tree
use Rattle.multiset_terms.specs.Agreeing.{IsAgreed, IsOneColour}
use Rattle.multiset_terms.specs.Context.{Context}
use Rattle.multiset_terms.specs.Kinds.{block_kind_by}
use Rattle.multiset_terms.specs.Parts.{AreDistinct, HasKind, IsPart, Piece, heavy_over, told, totals_of, with_part}
use Rattle.multiset_terms.specs.Standing.{StandsFor, occurs, occurs_part}
use Rattle.multiset_terms.specs.Trees.{Reading, most, most_colours, reading, reading_of_parts, uses_at, uses_part}
use Rattle.multiset_terms.specs.Typing.{at_place, at_root, block_kind, block_kind_at, is_block, is_cyclic, judged, judged_part, node, partition_place, partition_sort, sort_of_kind, step_kind, sum_kind, wants}
use Rattle.colour_sorts.specs.Dividing.{block_with}
use Rattle.colour_sorts.specs.Comparing.{is_same_sort}
use Rattle.multiset_terms.specs.Values.{Binding, Meaning, blocks_at, colours_of, meaning, meaning_part, one_block}
use Rattle.multiset_terms.specs.Weights.{weighed, weighed_node, weighed_part}
use Rattle.multiset_terms.specs.Laws.{IsOnce}
use Rattle.multiset_terms.proofs.Blocks.{block-with, partition-known}
use Rattle.multiset_terms.proofs.Distinct.{once-sort}
use Rattle.net_model.proofs.Layers.{fold-BlockOf, fold-NumberOf, fold-Predecessor, fold-Scalar, fold-Subtract, fold-Successor}
use Rattle.multiset_terms.proofs.Nodes.{difference-agrees, nodes-agree, times-agree}
use Rattle.multiset_terms.proofs.Pieces.{IsNode, few, gross-told, light, min-times, node-counted, sums-told, support-told, totals-snoc, values-known, verdict-node}
use Rattle.multiset_terms.proofs.Readings.{reading-Before, reading-Next}
use Rattle.colour_sorts.proofs.SameSort.{sort-told}
use Rattle.multiset_terms.proofs.ValueLaws.{reading-Minus, reading-Times}

abbrev pub one : Term → Part → List Piece
one t p = record { term = t; part = p } ∷ []

abbrev pub two : Term → Part → Term → Part → List Piece
two t p u q = record { term = t; part = p } ∷ record { term = u; part = q } ∷ []

pub totals-one : (t : Term) (p : Part) (start totals : Totals) → start ≡ totals_of [] → totals ≡ with_part start p → totals ≡ totals_of (one t p)
totals-one t p start totals none is = is ∙ ap (λ x. with_part x p) none ∙ totals-snoc [] (record { term = t; part = p })

pub totals-two : (t : Term) (p : Part) (u : Term) (q : Part) (start first totals : Totals) → start ≡ totals_of [] → first ≡ with_part start p → totals ≡ with_part first q → totals ≡ totals_of (two t p u q)
totals-two t p u q start first totals none is next =
    next ∙ ap (λ x. with_part x q) (totals-one t p start first none is) ∙ totals-snoc (one t p) (record { term = u; part = q })

-- kinds of multisets
pub record IsMultisetOf (k : Kind) (new : Kind) : Type 0 where
  pub is : new ≡ kind.Multiset (sort_of_kind k)
  pub multiset : is_block k ≡ false

pub multiple-kind : (k new : Kind) → Ok new ≡ sum_kind (k ∷ []) → IsMultisetOf k new
multiple-kind (kind.Colour s) new h = record { is = cc; multiset = refl }
multiple-kind (kind.Every s) new h = record { is = cc; multiset = refl }
multiple-kind (kind.Multiset s) new h = record { is = cc; multiset = refl }
multiple-kind (kind.Block at) new h = absurd (cc)

pub agreed-of : (ctx : Context) (block : Option ℕ) (k : Kind) (m : Meaning) (r : Reading) → is_block k ≡ false → HasKind ctx block k m r → IsAgreed (colours_of ctx (sort_of_kind k)) m r
agreed-of ctx block (kind.Colour s) m r h known = known.0.agreed
agreed-of ctx block (kind.Every s) m r h known = known.agreed
agreed-of ctx block (kind.Multiset s) m r h known = known
agreed-of ctx block (kind.Block at) m r h known = absurd (cc)

-- a node over one child
pub record IsOver (ctx : Context) (marking : Bool) (u : Term) (t : Term) (judge : List Kind → Result Kind Rule) (gross : ℕ) (support : ℕ) : Type 0 where
  pub judges : judged ctx marking u ≡ node judge (judged ctx marking t ∷ [])
  pub weighs : weighed ctx u ≡ weighed_node gross support (weighed ctx t ∷ [])
  pub occurring : (id : List ℕ) → occurs id u ≡ occurs id t

pub verdict-over : (ctx : Context) (marking : Bool) (u t : Term) (p : Part) (judge : List Kind → Result Kind Rule) (gross support : ℕ) (broken : Rule)
    → IsOver ctx marking u t judge gross support → IsPart ctx marking t p → Err broken ≡ judge (p.kind ∷ []) → (judged ctx marking u).verdict ≡ Err (0, broken)
verdict-over ctx marking u t p judge gross support broken over known is =
    verdict-node ctx marking u judge gross support (one t p) (record { judges = over.judges; weighs = over.weighs }) (known, tt) ∙ ap at_root (sym is)

told-times : (n g p : ℕ) → min g (2 ^ 63) ≡ p → min (n * g) (2 ^ 63) ≡ told (n * p)
told-times n g p is = sym (min-times n g (2 ^ 63)) ∙ ap (λ x. told (n * x)) is

abbrev pub multiple-of : ℕ → Term → Part → Kind → Part
multiple-of n t p new = record { tree = tree.Times n p.tree; kind = new; block = None; size = p.size; gross = told (n * p.gross); support = p.support; heavy = heavy_over (told (n * p.gross)) (totals_of (one t p)).heavy; nodes = (totals_of (one t p)).nodes }

pub multiple-part : (ctx : Context) (marking : Bool) (u t : Term) (n : ℕ) (p : Part) (new : Kind)
    → IsOver ctx marking u t sum_kind (n * (weighed ctx t).gross) (weighed ctx t).support → ((b : Binding) → meaning ctx b u ≡ meaning_part ctx b (layer.Scalar n (meaning ctx b t)))
    → IsPart ctx marking t p → Ok new ≡ sum_kind (p.kind ∷ []) → IsPart ctx marking u (multiple-of n t p new)
multiple-part ctx marking u t n p new over means known is =
    let kinds = multiple-kind p.kind new is in
    let sorts : sort_of_kind new ≡ sort_of_kind p.kind = ap sort_of_kind kinds.is in
    let gross = told-times n (weighed ctx t).gross p.gross known.counted.gross_total in
    record {
      counted = node-counted ctx marking u sum_kind (n * (weighed ctx t).gross) (weighed ctx t).support (one t p) (multiple-of n t p new) (record { judges = over.judges; weighs = over.weighs }) (known, tt) (sym is) refl gross known.counted.support_total refl;
      variables = λ at id here.
          (ap (uses_at at) (sym (tree.rolls-Times n p.tree)) ∙ fold-roll-Tree Bool (uses_part at) (open_tree.Times n p.tree)) ∙ known.variables at id here ∙ sym (over.occurring id);
      size = ap (λ s. length (colours_of ctx s)) sorts ∙ known.size;
      some = known.some;
      limit = known.limit;
      closed = λ position h. absurd (none-is-some position h);
      values = λ b indices binds lightness.
          let none = light (told (n * p.gross)) (totals_of (one t p)).heavy lightness in
          let old = (values-known ctx marking b indices binds 1 (one t p) (known, tt) none.none).0 in
          let m = meaning ctx b t in
          let r = reading indices p.tree in
          let read = reading-Times indices n p.tree in
          let weight : n * r.gross ≡ n * (weighed ctx t).gross = ap (λ x. n * x) (old.weight kinds.multiset) in
          let fits : n * r.gross ≤ most = few (n * r.gross) (n * (weighed ctx t).gross) (told (n * p.gross)) weight gross none.fits in
          let agreed = times-agree ctx b indices (colours_of ctx (sort_of_kind p.kind)) n m r (agreed-of ctx p.block p.kind m r kinds.multiset old.of_kind) fits in
          record {
            of_kind = subst (λ k. HasKind ctx None k (meaning ctx b u) (reading indices (tree.Times n p.tree))) (sym kinds.is)
                (subst (λ x. IsAgreed (colours_of ctx (sort_of_kind p.kind)) x (reading indices (tree.Times n p.tree))) (sym (means b))
                (subst (λ x. IsAgreed (colours_of ctx (sort_of_kind p.kind)) (meaning_part ctx b (layer.Scalar n m)) x) (sym read) agreed));
            sort = λ _. ap (λ x. x.sort) (means b) ∙ old.sort kinds.multiset ∙ sym sorts;
            weight = λ _. ap (λ x. x.gross) read ∙ weight ∙ sym (ap (λ w. w.gross) over.weighs);
          };
    }

pub over-scalar : (ctx : Context) (marking : Bool) (n : ℕ) (t : Term) → IsOver ctx marking (term.Scalar n t) t sum_kind (n * (weighed ctx t).gross) (weighed ctx t).support
over-scalar ctx marking n t = record {
  judges = fold-Scalar (judged_part ctx marking) n t;
  weighs = fold-Scalar (weighed_part ctx) n t;
  occurring = λ id. fold-Scalar (occurs_part id) n t;
}

pub over-number : (ctx : Context) (marking : Bool) (n : ℕ) (t : Term) → IsOver ctx marking (term.NumberOf n t) t sum_kind (n * (weighed ctx t).gross) (weighed ctx t).support
over-number ctx marking n t = record {
  judges = fold-NumberOf (judged_part ctx marking) n t;
  weighs = fold-NumberOf (weighed_part ctx) n t;
  occurring = λ id. fold-NumberOf (occurs_part id) n t;
}

-- steps
pub record IsStep (k : Kind) (new : Kind) : Type 0 where
  pub sort : Sort
  pub was : k ≡ kind.Colour sort
  pub is : new ≡ kind.Colour sort

pub stepped-kind : (k new : Kind) → Ok new ≡ step_kind (k ∷ []) → IsStep k new
stepped-kind (kind.Colour s) new h = record { sort = s; was = refl; is = same (is_cyclic s) h }
  where
    same : (test : Bool) → Ok new ≡ (if test then Ok (kind.Colour s) else Err Rattle.colour_sorts.specs.declared.rules.Rule.TheVariants.NotCyclic) → new ≡ kind.Colour s
    same true h = cc
    same false h = absurd (cc)
stepped-kind (kind.Every s) new h = absurd (cc)
stepped-kind (kind.Multiset s) new h = absurd (cc)
stepped-kind (kind.Block at) new h = absurd (cc)

abbrev pub step-of : Tree → Term → Part → Kind → Part
step-of made t p new = record { tree = made; kind = new; block = None; size = p.size; gross = 1; support = 1; heavy = heavy_over 1 (totals_of (one t p)).heavy; nodes = (totals_of (one t p)).nodes }

pub step-part : (ctx : Context) (marking : Bool) (u t : Term) (p : Part) (new : Kind) (made : Tree) → IsOver ctx marking u t step_kind 1 1
    → ((at : ℕ) → uses_at at made ≡ uses_at at p.tree)
    → ((b : Binding) (indices : List ℕ) (s : Sort) → IsOnce (colours_of ctx s) → length (colours_of ctx s) ≤ most_colours → length (colours_of ctx s) ≡ p.size
    → (meaning ctx b t).sort ≡ s → IsOneColour (colours_of ctx s) (meaning ctx b t) (reading indices p.tree) → IsOneColour (colours_of ctx s) (meaning ctx b u) (reading indices made))
    → ((b : Binding) → (meaning ctx b u).sort ≡ (meaning ctx b t).sort)
    → ((indices : List ℕ) → (reading indices made).gross ≡ 1)
    → AreDistinct ctx → IsPart ctx marking t p → Ok new ≡ step_kind (p.kind ∷ []) → IsPart ctx marking u (step-of made t p new)
step-part ctx marking u t p new made over uses agrees sorts single distinct known is =
    let kinds = stepped-kind p.kind new is in
    let s = kinds.sort in
    let kept : sort_of_kind new ≡ sort_of_kind p.kind = ap sort_of_kind kinds.is ∙ sym (ap sort_of_kind kinds.was) in
    let size : length (colours_of ctx s) ≡ p.size = ap (λ k. length (colours_of ctx (sort_of_kind k))) (sym kinds.was) ∙ known.size in
    record {
      counted = node-counted ctx marking u step_kind 1 1 (one t p) (step-of made t p new) (record { judges = over.judges; weighs = over.weighs }) (known, tt) (sym is) refl refl refl refl;
      variables = λ at id here. uses at ∙ known.variables at id here ∙ sym (over.occurring id);
      size = ap (λ x. length (colours_of ctx x)) kept ∙ known.size;
      some = known.some;
      limit = known.limit;
      closed = λ position h. absurd (none-is-some position h);
      values = λ b indices binds lightness.
          let none = light 1 (totals_of (one t p)).heavy lightness in
          let old = (values-known ctx marking b indices binds 1 (one t p) (known, tt) none.none).0 in
          let colour : HasKind ctx p.block (kind.Colour s) (meaning ctx b t) (reading indices p.tree) = subst (λ k. HasKind ctx p.block k (meaning ctx b t) (reading indices p.tree)) kinds.was old.of_kind in
          let sort : (meaning ctx b t).sort ≡ s = old.sort (ap is_block kinds.was) ∙ ap sort_of_kind kinds.was in
          let within : length (colours_of ctx s) ≤ most_colours = subst (λ n. n ≤ most_colours) (sym size) known.limit in
          record {
            of_kind = subst (λ k. HasKind ctx None k (meaning ctx b u) (reading indices made)) (sym kinds.is) (agrees b indices s (once-sort _ distinct s) within size sort colour.0, single indices);
            sort = λ _. sorts b ∙ sort ∙ sym (ap sort_of_kind kinds.is);
            weight = λ _. single indices ∙ sym (ap (λ w. w.gross) over.weighs);
          };
    }

pub over-next : (ctx : Context) (marking : Bool) (t : Term) → IsOver ctx marking (term.Successor t) t step_kind 1 1
over-next ctx marking t = record {
  judges = fold-Successor (judged_part ctx marking) t;
  weighs = fold-Successor (weighed_part ctx) t;
  occurring = λ id. fold-Successor (occurs_part id) t;
}

pub over-before : (ctx : Context) (marking : Bool) (t : Term) → IsOver ctx marking (term.Predecessor t) t step_kind 1 1
over-before ctx marking t = record {
  judges = fold-Predecessor (judged_part ctx marking) t;
  weighs = fold-Predecessor (weighed_part ctx) t;
  occurring = λ id. fold-Predecessor (occurs_part id) t;
}

pub next-part : (ctx : Context) (marking : Bool) (t : Term) (p : Part) (new : Kind) → AreDistinct ctx → IsPart ctx marking t p → Ok new ≡ step_kind (p.kind ∷ [])
    → IsPart ctx marking (term.Successor t) (step-of (tree.Next p.size p.tree) t p new)
next-part ctx marking t p new = step-part ctx marking (term.Successor t) t p new (tree.Next p.size p.tree) (over-next ctx marking t)
    (λ at. ap (uses_at at) (sym (tree.rolls-Next p.size p.tree)) ∙ fold-roll-Tree Bool (uses_part at) (open_tree.Next p.size p.tree))
    (λ b indices s distinct limit size sort colour.
    subst (λ x. IsOneColour (colours_of ctx s) x (reading indices (tree.Next p.size p.tree))) (sym (fold-Successor (meaning_part ctx b) t))
    (subst (IsOneColour (colours_of ctx s) (meaning_part ctx b (layer.Successor (meaning ctx b t)))) (sym (reading-Next indices p.size p.tree))
    (subst (λ n. IsOneColour (colours_of ctx s) (meaning_part ctx b (layer.Successor (meaning ctx b t))) (reading_of_parts indices (open_tree.Next n (reading indices p.tree)))) size
    ((nodes-agree ctx b indices (colours_of ctx s) distinct limit).next (meaning ctx b t) (reading indices p.tree) (ap (colours_of ctx) sort) colour))))
    (λ b. ap (λ m. m.sort) (fold-Successor (meaning_part ctx b) t))
    (λ indices. ap (λ r. r.gross) (reading-Next indices p.size p.tree))

pub before-part : (ctx : Context) (marking : Bool) (t : Term) (p : Part) (new : Kind) → AreDistinct ctx → IsPart ctx marking t p → Ok new ≡ step_kind (p.kind ∷ [])
    → IsPart ctx marking (term.Predecessor t) (step-of (tree.Before p.size p.tree) t p new)
before-part ctx marking t p new = step-part ctx marking (term.Predecessor t) t p new (tree.Before p.size p.tree) (over-before ctx marking t)
    (λ at. ap (uses_at at) (sym (tree.rolls-Before p.size p.tree)) ∙ fold-roll-Tree Bool (uses_part at) (open_tree.Before p.size p.tree))
    (λ b indices s distinct limit size sort colour.
    subst (λ x. IsOneColour (colours_of ctx s) x (reading indices (tree.Before p.size p.tree))) (sym (fold-Predecessor (meaning_part ctx b) t))
    (subst (IsOneColour (colours_of ctx s) (meaning_part ctx b (layer.Predecessor (meaning ctx b t)))) (sym (reading-Before indices p.size p.tree))
    (subst (λ n. IsOneColour (colours_of ctx s) (meaning_part ctx b (layer.Predecessor (meaning ctx b t))) (reading_of_parts indices (open_tree.Before n (reading indices p.tree)))) size
    ((nodes-agree ctx b indices (colours_of ctx s) distinct limit).before (meaning ctx b t) (reading indices p.tree) (ap (colours_of ctx) sort) colour))))
    (λ b. ap (λ m. m.sort) (fold-Predecessor (meaning_part ctx b) t))
    (λ indices. ap (λ r. r.gross) (reading-Before indices p.size p.tree))

-- differences
pub record IsDifferenceOf (k q new : Kind) : Type 0 where
  pub is : new ≡ kind.Multiset (sort_of_kind k)
  pub first : is_block k ≡ false
  pub second : is_block q ≡ false
  pub same : sort_of_kind k ≡ sort_of_kind q

pub not-true : (b : Bool) → not b ≡ true → b ≡ false
not-true true h = absurd (cc)
not-true false h = refl

pub wanted : {A : Type 0} (test : Bool) (broken : Rule) (found : Result A Rule) (x : A) → Ok x ≡ wants test broken found → (test ≡ true) × (Ok x ≡ found)
wanted true broken found x h = (refl, h)
wanted false broken found x h = absurd (cc)

pub and-both : (a b : Bool) → (a && b) ≡ true → (a ≡ true) × (b ≡ true)
and-both true b h = (refl, h)
and-both false b h = absurd (cc)

pub difference-kind : (k q new : Kind) → Ok new ≡ sum_kind (k ∷ q ∷ []) → IsDifferenceOf k q new
difference-kind k q new h =
    let first = wanted (list_all (λ x. not (is_block x)) (k ∷ q ∷ [])) _ _ new h in
    let second = wanted (list_all (λ x. is_same_sort (sort_of_kind k) (sort_of_kind x)) (q ∷ [])) _ _ new first.1 in
    let blocks = and-both (not (is_block k)) (not (is_block q) && true) first.0 in
    let other = and-both (not (is_block q)) true blocks.1 in
    let alike = and-both (is_same_sort (sort_of_kind k) (sort_of_kind q)) true second.0 in
    record {
      is = cc (second.1);
      first = not-true (is_block k) blocks.0;
      second = not-true (is_block q) other.0;
      same = sort-told (sort_of_kind k) (sort_of_kind q) alike.0;
    }

abbrev pub difference-of : Term → Part → Term → Part → Kind → Part
difference-of t p u q new = record {
  tree = tree.Minus p.tree q.tree;
  kind = new;
  block = None;
  size = p.size;
  gross = (totals_of (two t p u q)).gross_sum;
  support = (totals_of (two t p u q)).support_sum;
  heavy = heavy_over (totals_of (two t p u q)).gross_sum (totals_of (two t p u q)).heavy;
  nodes = (totals_of (two t p u q)).nodes;
}

difference-node : (ctx : Context) (marking : Bool) (t : Term) (p : Part) (u : Term) (q : Part)
    → IsNode ctx marking (term.Subtract t u) sum_kind ((weighed ctx t).gross + (weighed ctx u).gross) ((weighed ctx t).support + (weighed ctx u).support) (two t p u q)
difference-node ctx marking t p u q = record { judges = fold-Subtract (judged_part ctx marking) t u; weighs = fold-Subtract (weighed_part ctx) t u }

pub verdict-difference : (ctx : Context) (marking : Bool) (t : Term) (p : Part) (u : Term) (q : Part) (broken : Rule) → IsPart ctx marking t p → IsPart ctx marking u q
    → Err broken ≡ sum_kind (p.kind ∷ q.kind ∷ []) → (judged ctx marking (term.Subtract t u)).verdict ≡ Err (0, broken)
verdict-difference ctx marking t p u q broken first second is =
    verdict-node ctx marking (term.Subtract t u) sum_kind _ _ (two t p u q) (difference-node ctx marking t p u q) (first, (second, tt)) ∙ ap at_root (sym is)

sum-two : {X : Type 0} (f : X → ℕ) (a b : X) → sum_by f (a ∷ b ∷ []) ≡ f a + f b
sum-two f a b = sum_by-cons f a (b ∷ []) ∙ ap (λ n. f a + n) (sum_by-cons f b [] ∙ omega arith)

pub difference-part : (ctx : Context) (marking : Bool) (t : Term) (p : Part) (u : Term) (q : Part) (new : Kind) → IsPart ctx marking t p → IsPart ctx marking u q
    → Ok new ≡ sum_kind (p.kind ∷ q.kind ∷ []) → IsPart ctx marking (term.Subtract t u) (difference-of t p u q new)
difference-part ctx marking t p u q new first second is =
    let xs = two t p u q in
    let made = difference-of t p u q new in
    let kinds = difference-kind p.kind q.kind new is in
    let s = sort_of_kind p.kind in
    let sorts : sort_of_kind new ≡ s = ap sort_of_kind kinds.is in
    let gross : min ((weighed ctx t).gross + (weighed ctx u).gross) (2 ^ 63) ≡ made.gross =
    ap told (sym (sum-two (λ w. w.gross) (weighed ctx t) (weighed ctx u))) ∙ sums-told ctx marking (λ w. w.gross) (λ x. x.gross) (gross-told ctx marking) xs (first, (second, tt)) in
    let support : min ((weighed ctx t).support + (weighed ctx u).support) (2 ^ 63) ≡ made.support =
    ap told (sym (sum-two (λ w. w.support) (weighed ctx t) (weighed ctx u))) ∙ sums-told ctx marking (λ w. w.support) (λ x. x.support) (support-told ctx marking) xs (first, (second, tt)) in
    let folded = fold-Subtract (weighed_part ctx) t u in
    record {
      counted = node-counted ctx marking (term.Subtract t u) sum_kind _ _ xs made (difference-node ctx marking t p u q) (first, (second, tt)) (sym is) refl gross support refl;
      variables = λ at id here.
          (ap (uses_at at) (sym (tree.rolls-Minus p.tree q.tree)) ∙ fold-roll-Tree Bool (uses_part at) (open_tree.Minus p.tree q.tree))
          ∙ ap (λ x. x || uses_at at q.tree) (first.variables at id here)
          ∙ ap (λ x. occurs id t || x) (second.variables at id here)
          ∙ sym (fold-Subtract (occurs_part id) t u);
      size = ap (λ x. length (colours_of ctx x)) sorts ∙ first.size;
      some = first.some;
      limit = first.limit;
      closed = λ position h. absurd (none-is-some position h);
      values = λ b indices binds lightness.
          let none = light made.gross (totals_of xs).heavy lightness in
          let old = values-known ctx marking b indices binds 1 xs (first, (second, tt)) none.none in
          let m = meaning ctx b t in
          let n = meaning ctx b u in
          let r = reading indices p.tree in
          let v = reading indices q.tree in
          let read = reading-Minus indices p.tree q.tree in
          let means = fold-Subtract (meaning_part ctx b) t u in
          let weight : r.gross + v.gross ≡ (weighed ctx t).gross + (weighed ctx u).gross =
          ap (λ x. x + v.gross) (old.0.weight kinds.first) ∙ ap (λ x. (weighed ctx t).gross + x) (old.1.0.weight kinds.second) in
          let fits : r.gross + v.gross ≤ most = few (r.gross + v.gross) ((weighed ctx t).gross + (weighed ctx u).gross) made.gross weight gross none.fits in
          let one : IsAgreed (colours_of ctx s) m r = agreed-of ctx p.block p.kind m r kinds.first old.0.of_kind in
          let other : IsAgreed (colours_of ctx s) n v = subst (λ x. IsAgreed (colours_of ctx x) n v) (sym kinds.same) (agreed-of ctx q.block q.kind n v kinds.second old.1.0.of_kind) in
          let agreed = difference-agrees ctx b indices (colours_of ctx s) m n r v (ap (colours_of ctx) (old.0.sort kinds.first)) one other fits in
          record {
            of_kind = subst (λ k. HasKind ctx None k (meaning ctx b (term.Subtract t u)) (reading indices made.tree)) (sym kinds.is)
                (subst (λ x. IsAgreed (colours_of ctx s) x (reading indices made.tree)) (sym means)
                (subst (λ x. IsAgreed (colours_of ctx s) (meaning_part ctx b (layer.Subtract m n)) x) (sym read) agreed));
            sort = λ _. ap (λ x. x.sort) means ∙ old.0.sort kinds.first ∙ sym sorts;
            weight = λ _. ap (λ x. x.gross) read ∙ weight ∙ sym (ap (λ w. w.gross) folded);
          };
    }

-- blocks
true-false : true ≡ false → ⊥
true-false h = grind (arith, nat_tests)

block-made : (at : ℕ) (s : Sort) (k new : Kind) → Ok new ≡ block_kind_by at s k → new ≡ kind.Block at
block-made at s (kind.Colour other) new h = cc ((wanted (is_same_sort other s) _ _ new h).1)
block-made at s (kind.Every other) new h = absurd (cc)
block-made at s (kind.Multiset other) new h = absurd (cc)
block-made at s (kind.Block other) new h = absurd (cc)

block-was : (at : ℕ) (s : Sort) (k new : Kind) → Ok new ≡ block_kind_by at s k → k ≡ kind.Colour s
block-was at s (kind.Colour other) new h = ap kind.Colour (sort-told other s (wanted (is_same_sort other s) _ _ new h).0)
block-was at s (kind.Every other) new h = absurd (cc)
block-was at s (kind.Multiset other) new h = absurd (cc)
block-was at s (kind.Block other) new h = absurd (cc)

block-at-by : (ctx : Context) (at : ℕ) (k : Kind) → block_kind_at ctx at (k ∷ []) ≡ block_kind_by at (partition_sort ctx at) k
block-at-by ctx at (kind.Colour other) = refl
block-at-by ctx at (kind.Every other) = refl
block-at-by ctx at (kind.Multiset other) = refl
block-at-by ctx at (kind.Block other) = refl

block-by : (ctx : Context) (id : List ℕ) (at : ℕ) (k : Kind) (s : Sort) → partition_place ctx id ≡ Some at → s ≡ partition_sort ctx at → block_kind ctx id (k ∷ []) ≡ block_kind_by at s k
block-by ctx id at k s here is =
    ap (at_place (Err rule.UnknownPartition) (λ i. block_kind_at ctx i (k ∷ []))) here ∙ block-at-by ctx at k ∙ ap (λ z. block_kind_by at z k) (sym is)

pub over-block : (ctx : Context) (marking : Bool) (id : List ℕ) (t : Term) → IsOver ctx marking (term.BlockOf id t) t (block_kind ctx id) 1 1
over-block ctx marking id t = record {
  judges = fold-BlockOf (judged_part ctx marking) id t;
  weighs = fold-BlockOf (weighed_part ctx) id t;
  occurring = λ name. fold-BlockOf (occurs_part name) id t;
}

pub verdict-block : (ctx : Context) (marking : Bool) (id : List ℕ) (t : Term) (p : Part) (at : ℕ) (s : Sort) (broken : Rule) → partition_place ctx id ≡ Some at → s ≡ partition_sort ctx at
    → IsPart ctx marking t p → Err broken ≡ block_kind_by at s p.kind → (judged ctx marking (term.BlockOf id t)).verdict ≡ Err (0, broken)
verdict-block ctx marking id t p at s broken here divided known is =
    verdict-over ctx marking _ t p _ _ _ broken (over-block ctx marking id t) known (is ∙ sym (block-by ctx id at p.kind s here divided))

abbrev pub block-of : Tree → Term → Part → Kind → Part
block-of made t p new = record { tree = made; kind = new; block = None; size = 1; gross = 1; support = 1; heavy = heavy_over 1 (totals_of (one t p)).heavy; nodes = (totals_of (one t p)).nodes }

dot-size : (ctx : Context) → length (colours_of ctx sort.Dot) ≡ 1
dot-size ctx = ap (λ s. length (colours_of ctx s)) (sym sort.rolls-Dot) ∙ ap length (fold-roll-Sort (List Colour) (colours_of_parts (constants_of ctx.sorts)) open_sort.Dot)

pub block-part : (ctx : Context) (marking : Bool) (id : List ℕ) (t : Term) (p : Part) (at : ℕ) (s : Sort) (new : Kind) → partition_place ctx id ≡ Some at → s ≡ partition_sort ctx at
    → IsPart ctx marking t p → Ok new ≡ block_kind_by at s p.kind → IsPart ctx marking (term.BlockOf id t) (block-of p.tree t p new)
block-part ctx marking id t p at s new here divided known is =
    let u = term.BlockOf id t in
    let over = over-block ctx marking id t in
    let made = block-made at s p.kind new is in
    let kinds : block_kind ctx id (p.kind ∷ []) ≡ Ok new = block-by ctx id at p.kind s here divided ∙ sym is in
    let dot : sort_of_kind new ≡ sort.Dot = ap sort_of_kind made in
    record {
      counted = node-counted ctx marking u (block_kind ctx id) 1 1 (one t p) (block-of p.tree t p new) (record { judges = over.judges; weighs = over.weighs }) (known, tt) kinds refl refl refl refl;
      variables = λ i name there. known.variables i name there ∙ sym (over.occurring name);
      size = ap (λ z. length (colours_of ctx z)) dot ∙ dot-size ctx;
      some = omega arith;
      limit = omega arith;
      closed = λ position h. absurd (none-is-some position h);
      values = λ b indices binds lightness.
          let none = light 1 (totals_of (one t p)).heavy lightness in
          let value = (values-known ctx marking b indices binds 1 (one t p) (known, tt) none.none).0 in
          let m = meaning ctx b t in
          let r = reading indices p.tree in
          let colour : HasKind ctx p.block (kind.Colour s) m r = subst (λ k. HasKind ctx p.block k m r) (block-was at s p.kind new is) value.of_kind in
          let means : (meaning ctx b u).block ≡ block_with (blocks_at ctx at) m.colour = ap (λ x. x.block) (fold-BlockOf (meaning_part ctx b) id t
          ∙ ap (at_place (one_block 0 false) (λ i. one_block (block_with (blocks_at ctx i) m.colour) m.is_defined)) here) in
          record {
            of_kind = subst (λ k. HasKind ctx None k (meaning ctx b u) r) (sym made) (block-with ctx at s m (meaning ctx b u) r (partition-known ctx id at here) divided colour.0 means);
            sort = λ no. absurd (true-false (sym (ap is_block made) ∙ no));
            weight = λ no. absurd (true-false (sym (ap is_block made) ∙ no));
          };
    }

-- a whole term
same-gross : (g told : ℕ) → min g (2 ^ 63) ≡ told → told ≤ 2 ^ 63 - 1 → g ≡ told
same-gross g told is few = omega arith

pub stands-for : (ctx : Context) (marking : Bool) (t : Term) (p : Part) (s : Sort) (block : Bool) → IsPart ctx marking t p → p.heavy ≡ None → s ≡ sort_of_kind p.kind → block ≡ is_block p.kind
    → StandsFor ctx marking t (record { tree = p.tree; sort = s; block = block; gross = p.gross; support = p.support })
stands-for ctx marking t p s block known light sorts blocks = record {
  typed = λ k is. (
      let same : p.kind ≡ k = cc (known.counted.typed, is) in
      (ap is_block (sym same) ∙ sym blocks, λ _. ap sort_of_kind (sym same) ∙ sym sorts));
  gross_total = same-gross (weighed ctx t).gross p.gross known.counted.gross_total (known.counted.light light);
  support_total = known.counted.support_total;
  variables = known.variables;
  values = λ b indices binds no.
      let value = known.values b indices binds light in
      subst (λ z. IsAgreed (colours_of ctx z) (meaning ctx b t) (reading indices p.tree)) (sym sorts)
      (agreed-of ctx p.block p.kind (meaning ctx b t) (reading indices p.tree) (sym blocks ∙ no) value.of_kind);
  weights = λ b indices binds no. (known.values b indices binds light).weight (sym blocks ∙ no) ∙ same-gross (weighed ctx t).gross p.gross known.counted.gross_total (known.counted.light light);
  light = let few = known.counted.light light in omega (arith, few);
  limit = λ no. let size = ap (λ z. length (colours_of ctx z)) sorts in let counted = known.size in let few = known.limit in omega (arith, size, counted, few);
}
