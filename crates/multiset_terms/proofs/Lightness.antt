-- A colour and a block are one element, and no node in them is heavy.
use Rattle.std.proofs.Common.{◌≡◌, ℕ, ◌+◌, ◌*◌, ◌-◌, ◌^◌, Bool, true, false, List, [], ◌∷◌, map, refl, sym, ap, ◌∙◌, subst, Option, None, Some}
use Rattle.std.specs.Prelude.{Result, Ok, Err, not, ◌||◌, ◌&&◌, nat_lt, if◌then◌else◌}
use Rattle.std.specs.List.{list_all}
use Rattle.std.proofs.lemmas.Bool.{false≢true}
use Rattle.colour_sorts.specs.declared.rules.Rule.{Rule}
use Rattle.colour_sorts.specs.declared.rules.Rule.TheVariants as rule
use Rattle.colour_sorts.specs.declared.sorts.Sort.{Sort}
use Rattle.colour_sorts.specs.Limits.{passes_limit}
use Rattle.net_model.specs.Ids.{constants_of}
use Rattle.colour_sorts.specs.Naming.{broken_rule}
use Rattle.colour_sorts.specs.Comparing.{is_same_sort}
use Rattle.multiset_terms.specs.declared.kinds.Kind.{Kind}
use Rattle.multiset_terms.specs.declared.kinds.Kind.TheVariants as kind
use Rattle.net_model.specs.declared.terms.Term.{Term, map-Term, roll-Term, fold-roll-Term}
use Rattle.net_model.specs.declared.terms.Term.TheFolds.{ind-Term}
use Rattle.net_model.specs.declared.terms.Term.TheOpen as layer
use Rattle.multiset_terms.specs.Context.{Context}
use Rattle.multiset_terms.specs.Typing.{Broken, Judged, at_place, at_root, block_kind_at, children, in_front, is_block, is_choice, is_colour, judged, judged_part, looked_at, partition_place, product_of, sort_named, sort_of_kind, step_kind, sum_kind, tuple_kind, type_of, unless_broken, wants}
use Rattle.multiset_terms.specs.Weights.{Weighed, heavy_child, heavy_first, product, weighed, weighed_part}

abbrev pub is_single : Kind → Bool
is_single k = is_colour k || is_block k

pub record IsOne (w : Weighed) : Type 0 where
  pub gross : w.gross ≡ 1
  pub heavy : w.heavy ≡ None

abbrev Light : Context → Bool → Term → Type 0
Light ctx marking t = (k : Kind) → type_of ctx marking t ≡ Ok k → is_single k ≡ true → IsOne (weighed ctx t)

abbrev Known : Context → Bool → Type 0
Known ctx marking = (t : Term) × Light ctx marking t

-- what is known of children
pub record IsColourOf (v : Result Kind Broken) : Type 0 where
  pub sort : Sort
  pub is : v ≡ Ok (kind.Colour sort)

step-child : (v : Result Kind Broken) (k : Kind) → looked_at step_kind (in_front 1 v (Ok [])) ≡ Ok k → IsColourOf v
step-child (Ok (kind.Colour s)) k is = record { sort = s; is = refl }
step-child (Ok (kind.Every s)) k is = absurd (cc)
step-child (Ok (kind.Multiset s)) k is = absurd (cc)
step-child (Ok (kind.Block at)) k is = absurd (cc)
step-child (Err (number, broken)) k is = absurd (cc)

block-child : (ctx : Context) (place : Option ℕ) (v : Result Kind Broken) (k : Kind)
    → looked_at (λ kinds. at_place (Err rule.UnknownPartition) (λ at. block_kind_at ctx at kinds) place) (in_front 1 v (Ok [])) ≡ Ok k → IsColourOf v
block-child ctx None (Ok found) k is = absurd (cc)
block-child ctx (Some at) (Ok (kind.Colour s)) k is = record { sort = s; is = refl }
block-child ctx (Some at) (Ok (kind.Every s)) k is = absurd (cc)
block-child ctx (Some at) (Ok (kind.Multiset s)) k is = absurd (cc)
block-child ctx (Some at) (Ok (kind.Block other)) k is = absurd (cc)
block-child ctx None (Err (number, broken)) k is = absurd (cc)
block-child ctx (Some at) (Err (number, broken)) k is = absurd (cc)

sum-multiset : (found : Result (List Kind) Broken) (k : Kind) → looked_at sum_kind found ≡ Ok k → is_single k ≡ false
sum-multiset (Err broken) k is = absurd (cc)
sum-multiset (Ok []) k is = absurd (cc)
sum-multiset (Ok (first ∷ others)) k is =
    by (list_all (λ x. not (is_block x)) (first ∷ others)) (list_all (λ x. is_same_sort (sort_of_kind first) (sort_of_kind x)) others) is
  where
    by : (a b : Bool) → at_root (wants a rule.NotAMultiset (wants b rule.SortsDiffer (Ok (kind.Multiset (sort_of_kind first))))) ≡ Ok k → is_single k ≡ false
    by true true e = let same : kind.Multiset (sort_of_kind first) ≡ k = cc (e) in sym (ap is_single same)
    by true false e = absurd (cc)
    by false b e = absurd (cc)

no-sum : (found : Result (List Kind) Broken) (k : Kind) → looked_at sum_kind found ≡ Ok k → is_single k ≡ true → ⊥
no-sum found k is single = false≢true (sym (sum-multiset found k is) ∙ single)

unbroken : (b : Option Rule) (found k : Kind) → at_root (unless_broken b (Ok found)) ≡ Ok k → found ≡ k
unbroken None found k is = cc
unbroken (Some broken) found k is = absurd (cc)

-- tuples
pub record AreColoursOf (found : Result (List Kind) Broken) : Type 0 where
  pub kinds : List Kind
  pub is : found ≡ Ok kinds
  pub colours : list_all is_colour kinds ≡ true

tuple-children : (ctx : Context) (found : Result (List Kind) Broken) (k : Kind) → looked_at (tuple_kind ctx) found ≡ Ok k → is_single k ≡ true → AreColoursOf found
tuple-children ctx (Err broken) k is single = absurd (cc)
tuple-children ctx (Ok kinds) k is single =
    by (list_all is_choice kinds) (not (passes_limit (constants_of ctx.sorts) (product_of kinds))) (list_all is_colour kinds) refl is
  where
    by : (a b c : Bool) → list_all is_colour kinds ≡ c
        → at_root (wants a rule.NotAColour (wants b rule.DomainLimit (Ok (if c then kind.Colour (product_of kinds) else kind.Multiset (product_of kinds))))) ≡ Ok k → AreColoursOf (Ok kinds)
    by true true true e h = record { kinds = kinds; is = refl; colours = e }
    by true true false e h = let same : kind.Multiset (product_of kinds) ≡ k = cc (h) in absurd (false≢true (ap is_single same ∙ single))
    by true false c e h = absurd (cc)
    by false b c e h = absurd (cc)

pub record IsInFront (v : Result Kind Broken) (rest : Result (List Kind) Broken) (kinds : List Kind) : Type 0 where
  pub first : Kind
  pub others : List Kind
  pub is : v ≡ Ok first
  pub rest_is : rest ≡ Ok others
  pub all : first ∷ others ≡ kinds

front : (at : ℕ) (v : Result Kind Broken) (rest : Result (List Kind) Broken) (kinds : List Kind) → in_front at v rest ≡ Ok kinds → IsInFront v rest kinds
front at (Ok found) (Ok others) kinds h = record { first = found; others = others; is = refl; rest_is = refl; all = cc (h) }
front at (Ok found) (Err broken) kinds h = absurd (cc)
front at (Err (number, broken)) rest kinds h = absurd (cc)

and-both : (a b : Bool) → (a && b) ≡ true → (a ≡ true) × (b ≡ true)
and-both true b h = (refl, h)
and-both false b h = absurd (cc)

or-first : (a b : Bool) → a ≡ true → (a || b) ≡ true
or-first a b h = rw h refl

pub record AreOne (at : ℕ) (ws : List Weighed) : Type 0 where
  pub gross : product (map (λ w. w.gross) ws) ≡ 1
  pub heavy : heavy_child at ws ≡ None

all-one : (ctx : Context) (marking : Bool) (at from : ℕ) (cs : List (Known ctx marking)) (kinds : List Kind)
    → children at (map (judged ctx marking) (map (λ e. e.0) cs)) ≡ Ok kinds → list_all is_colour kinds ≡ true → AreOne from (map (weighed ctx) (map (λ e. e.0) cs))
all-one ctx marking at from [] kinds is colours = record { gross = refl; heavy = refl }
all-one ctx marking at from (c ∷ cs) kinds is colours =
    let known = front at (judged ctx marking c.0).verdict (children (at + (judged ctx marking c.0).nodes) (map (judged ctx marking) (map (λ e. e.0) cs))) kinds is in
    let both = and-both (is_colour known.first) (list_all is_colour known.others) (ap (list_all is_colour) known.all ∙ colours) in
    let one = c.1 known.first known.is (or-first (is_colour known.first) (is_block known.first) both.0) in
    let rest = all-one ctx marking (at + (judged ctx marking c.0).nodes) (from + (weighed ctx c.0).nodes) cs known.others known.rest_is both.1 in
    record {
      gross = ap (λ n. n * product (map (λ w. w.gross) (map (weighed ctx) (map (λ e. e.0) cs)))) one.gross ∙ ap (λ n. 1 * n) rest.gross;
      heavy = ap (λ h. heavy_first h from (heavy_child (from + (weighed ctx c.0).nodes) (map (weighed ctx) (map (λ e. e.0) cs)))) one.heavy ∙ ap (heavy_first None from) rest.heavy;
    }

one-layer : (ctx : Context) (marking : Bool) (y : layer.Term-F (Known ctx marking)) (k : Kind)
    → (judged_part ctx marking (map-Term Term (Judged Kind) (judged ctx marking) (map-Term (Known ctx marking) Term (λ e. e.0) y))).verdict ≡ Ok k → is_single k ≡ true
    → IsOne (weighed_part ctx (map-Term Term Weighed (weighed ctx) (map-Term (Known ctx marking) Term (λ e. e.0) y)))
one-layer ctx marking (layer.Variable id) k is single = record { gross = refl; heavy = refl }
one-layer ctx marking (layer.Operator id) k is single = record { gross = refl; heavy = refl }
one-layer ctx marking layer.Dot k is single = record { gross = refl; heavy = refl }
one-layer ctx marking (layer.Number value span) k is single = record { gross = refl; heavy = refl }
one-layer ctx marking (layer.Successor c) k is single =
    let child = step-child (judged ctx marking c.0).verdict k is in
    record { gross = refl; heavy = ap (λ h. heavy_first h 1 None) (c.1 (kind.Colour child.sort) child.is refl).heavy }
one-layer ctx marking (layer.Predecessor c) k is single =
    let child = step-child (judged ctx marking c.0).verdict k is in
    record { gross = refl; heavy = ap (λ h. heavy_first h 1 None) (c.1 (kind.Colour child.sort) child.is refl).heavy }
one-layer ctx marking (layer.Tuple cs) k is single =
    let known = tuple-children ctx (children 1 (map (judged ctx marking) (map (λ e. e.0) cs))) k is single in
    let one = all-one ctx marking 1 1 cs known.kinds known.is known.colours in
    record {
      gross = one.gross;
      heavy = ap (λ n. if nat_lt (2 ^ 63 - 1) n then Some 0 else heavy_child 1 (map (weighed ctx) (map (λ e. e.0) cs))) one.gross ∙ one.heavy;
    }
one-layer ctx marking (layer.All written) k is single =
    absurd (false≢true (ap is_single (unbroken (broken_rule ctx.sorts 0 written) (kind.Every (sort_named ctx written)) k is) ∙ single))
one-layer ctx marking (layer.Empty written) k is single =
    absurd (false≢true (ap is_single (unbroken (broken_rule ctx.sorts 0 written) (kind.Multiset (sort_named ctx written)) k is) ∙ single))
one-layer ctx marking (layer.NumberOf number c) k is single = absurd (no-sum (children 1 (judged ctx marking c.0 ∷ [])) k is single)
one-layer ctx marking (layer.Scalar number c) k is single = absurd (no-sum (children 1 (judged ctx marking c.0 ∷ [])) k is single)
one-layer ctx marking (layer.Add cs) k is single = absurd (no-sum (children 1 (map (judged ctx marking) (map (λ e. e.0) cs))) k is single)
one-layer ctx marking (layer.Subtract whole part) k is single = absurd (no-sum (children 1 (judged ctx marking whole.0 ∷ judged ctx marking part.0 ∷ [])) k is single)
one-layer ctx marking (layer.BlockOf id c) k is single =
    let child = block-child ctx (partition_place ctx id) (judged ctx marking c.0).verdict k is in
    record { gross = refl; heavy = ap (λ h. heavy_first h 1 None) (c.1 (kind.Colour child.sort) child.is refl).heavy }

-- a term that is a colour or a block is one element
pub single-one : (ctx : Context) (marking : Bool) (t : Term) (k : Kind) → type_of ctx marking t ≡ Ok k → is_single k ≡ true → IsOne (weighed ctx t)
single-one ctx marking = ind-Term (Light ctx marking) (λ x y is.
    subst (λ z. Light ctx marking (roll-Term z)) is
    (let z = map-Term (Known ctx marking) Term (λ e. e.0) y in
    λ k typed single. subst IsOne (sym (fold-roll-Term Weighed (weighed_part ctx) z))
    (one-layer ctx marking y k (sym (ap (λ j. j.verdict) (fold-roll-Term (Judged Kind) (judged_part ctx marking) z)) ∙ typed) single)))
