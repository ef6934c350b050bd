-- What is made of the children of a sum or a tuple stands for the node over their terms.
use Rattle.std.proofs.Common.{◌≡◌, ℕ, ◌+◌, ◌*◌, ◌<◌, ◌≤◌, ◌^◌, min, inl, inr, Bool, true, false, List, [], ◌∷◌, map, length, refl, sym, ap, ◌∙◌, subst, arith, Option, None}
use Rattle.std.specs.Prelude.{Ok, Err, not, ◌&&◌, nat_eq, sum_by}
use Rattle.std.specs.List.{list_all}
use Rattle.std.proofs.Math.Nat.{mul-le-mul_left}
use Rattle.std.proofs.lemmas.Bool.{cases_Bool}
use Rattle.std.proofs.lemmas.Bool.Decides.{nat_tests}
use Rattle.std.proofs.lemmas.List.{length-map}
use Rattle.std.proofs.lemmas.List.Sums.{sum_by-cons}
use Rattle.colour_sorts.specs.declared.rules.Rule.{Rule}
use Rattle.colour_sorts.specs.declared.rules.Rule.TheVariants as rule
use Rattle.colour_sorts.specs.declared.sorts.Colour.{Colour}
use Rattle.colour_sorts.specs.declared.sorts.Sort.{Sort, roll-Sort, fold-roll-Sort}
use Rattle.colour_sorts.specs.declared.sorts.Sort.TheOpen as open_sort
use Rattle.colour_sorts.specs.declared.sorts.Sort.TheVariants as sort
use Rattle.colour_sorts.specs.Colours.{colours, colours_of_parts, tuple, tuples}
use Rattle.colour_sorts.specs.Limits.{passes_limit}
use Rattle.net_model.specs.Ids.{constants_of}
use Rattle.colour_sorts.proofs.Tuples.{length-tuples}
use Rattle.colour_sorts.proofs.PlacesIn.{none-is-some}
use Rattle.colour_sorts.specs.Comparing.{is_same_sort}
use Rattle.multiset_terms.specs.declared.kinds.Kind.{Kind}
use Rattle.multiset_terms.specs.declared.kinds.Kind.TheVariants as kind
use Rattle.multiset_terms.specs.declared.parts.Children.{Children}
use Rattle.multiset_terms.specs.declared.parts.Part.{Part}
use Rattle.net_model.specs.declared.terms.Term.{Term}
use Rattle.net_model.specs.declared.terms.Term.TheOpen as layer
use Rattle.net_model.specs.declared.terms.Term.TheVariants as term
use Rattle.multiset_terms.specs.declared.trees.Tree.{Tree, fold-roll-Tree}
use Rattle.multiset_terms.specs.declared.trees.Tree.TheOpen as open_tree
use Rattle.multiset_terms.specs.declared.trees.Tree.TheVariants as tree
use Rattle.multiset_terms.specs.Agreeing.{AreAgreed, AreChoices, AreOneColours, IsAgreed, IsChoice, IsOneColour}
use Rattle.multiset_terms.specs.Context.{Context}
use Rattle.multiset_terms.specs.Kinds.{sum_kind_by, tuple_kind_by}
use Rattle.multiset_terms.specs.Laws.{IsOnce}
use Rattle.multiset_terms.specs.Parts.{AreChildren, AreDistinct, AreParts, HasKind, IsPart, PartValue, Piece, children_of, first_size, heavy_over, kinds_of, terms_of, totals_of, tuple_made}
use Rattle.multiset_terms.specs.Standing.{occurs_part}
use Rattle.multiset_terms.specs.Trees.{Reading, choices, gross_sum, most, most_colours, reading, reading_of_parts, readings, uses_at, uses_part}
use Rattle.multiset_terms.specs.Typing.{at_root, is_block, is_choice, is_colour, judged, judged_part, sort_of_kind, sum_kind, tuple_kind, wants}
use Rattle.multiset_terms.specs.Values.{Binding, Meaning, colours_of, meaning, meaning_part}
use Rattle.multiset_terms.specs.Weights.{product, weighed, weighed_part}
use Rattle.multiset_terms.proofs.Distinct.{once-sort}
use Rattle.net_model.proofs.Layers.{fold-Add, fold-Tuple}
use Rattle.multiset_terms.proofs.Makers.{agreed-of, and-both, not-true, wanted}
use Rattle.multiset_terms.proofs.Nodes.{sum-agrees}
use Rattle.multiset_terms.proofs.Pieces.{AreValues, IsNode, few, gross-told, light, node-counted, products-told, some-use, sums-told, support-told, values-known, verdict-node}
use Rattle.colour_sorts.proofs.SameSort.{sort-told}
use Rattle.multiset_terms.proofs.TupleNodes.{tuple-nodes-agree}
use Rattle.multiset_terms.proofs.ValueLaws.{reading-Product, reading-Sum}

abbrev pub sorts-of : List Piece → List Sort
sorts-of xs = map (λ x. sort_of_kind x.part.kind) xs

abbrev pub trees-of : List Piece → List Tree
trees-of xs = map (λ x. x.part.tree) xs

-- tests of kinds
all-sorts : (p : Sort → Bool) (xs : List Piece) → list_all (λ k. p (sort_of_kind k)) (kinds_of xs) ≡ list_all p (sorts-of xs)
all-sorts p [] = refl
all-sorts p (x ∷ xs) = ap (λ b. p (sort_of_kind x.part.kind) && b) (all-sorts p xs)

all-kinds : (p : Kind → Bool) (xs : List Piece) → list_all p (kinds_of xs) ≡ list_all (λ x. p x.part.kind) xs
all-kinds p [] = refl
all-kinds p (x ∷ xs) = ap (λ b. p x.part.kind && b) (all-kinds p xs)

sorts-kinds : (xs : List Piece) → map sort_of_kind (kinds_of xs) ≡ sorts-of xs
sorts-kinds [] = refl
sorts-kinds (x ∷ xs) = ap (λ ss. sort_of_kind x.part.kind ∷ ss) (sorts-kinds xs)

pub sum-kind-by : (xs : List Piece) → sum_kind (kinds_of xs) ≡ sum_kind_by (children_of xs).are_multisets (children_of xs).sorts
sum-kind-by [] = refl
sum-kind-by (x ∷ xs) =
    ap (λ b. wants b rule.NotAMultiset (wants (list_all (λ k. is_same_sort (sort_of_kind x.part.kind) (sort_of_kind k)) (kinds_of xs)) rule.SortsDiffer (Ok (kind.Multiset (sort_of_kind x.part.kind)))))
    (all-kinds (λ k. not (is_block k)) (x ∷ xs))
    ∙ ap (λ b. wants (children_of (x ∷ xs)).are_multisets rule.NotAMultiset (wants b rule.SortsDiffer (Ok (kind.Multiset (sort_of_kind x.part.kind)))))
    (all-sorts (is_same_sort (sort_of_kind x.part.kind)) xs)

-- children over one sort
pub record IsOverSort (s : Sort) (k : Kind) : Type 0 where
  pub multiset : is_block k ≡ false
  pub same : s ≡ sort_of_kind k

abbrev pub AreOver : Sort → List Piece → Type 0
AreOver s [] = Unit {0}
AreOver s (x ∷ xs) = IsOverSort s x.part.kind × AreOver s xs

are-over : (s : Sort) (xs : List Piece) → list_all (λ k. not (is_block k)) (kinds_of xs) ≡ true → list_all (λ k. is_same_sort s (sort_of_kind k)) (kinds_of xs) ≡ true → AreOver s xs
are-over s [] h g = tt
are-over s (x ∷ xs) h g =
    let first = and-both (not (is_block x.part.kind)) (list_all (λ k. not (is_block k)) (kinds_of xs)) h in
    let second = and-both (is_same_sort s (sort_of_kind x.part.kind)) (list_all (λ k. is_same_sort s (sort_of_kind k)) (kinds_of xs)) g in
    (record { multiset = not-true (is_block x.part.kind) first.0; same = sort-told s (sort_of_kind x.part.kind) second.0 }, are-over s xs first.1 second.1)

pub record IsSum (new : Kind) (x : Piece) (xs : List Piece) : Type 0 where
  pub is : new ≡ kind.Multiset (sort_of_kind x.part.kind)
  pub over : AreOver (sort_of_kind x.part.kind) (x ∷ xs)

sum-is : (x : Piece) (xs : List Piece) (new : Kind) → Ok new ≡ sum_kind (kinds_of (x ∷ xs)) → IsSum new x xs
sum-is x xs new h =
    let first = wanted (list_all (λ k. not (is_block k)) (kinds_of (x ∷ xs))) _ _ new h in
    let second = wanted (list_all (λ k. is_same_sort (sort_of_kind x.part.kind) (sort_of_kind k)) (kinds_of xs)) _ _ new first.1 in
    let blocks = and-both (not (is_block x.part.kind)) (list_all (λ k. not (is_block k)) (kinds_of xs)) first.0 in
    record {
      is = cc (second.1);
      over = (record { multiset = not-true (is_block x.part.kind) blocks.0; same = refl }, are-over (sort_of_kind x.part.kind) xs blocks.1 second.0);
    }

-- their values
sum-values : (ctx : Context) (b : Binding) (indices : List ℕ) (s : Sort) (xs : List Piece) → AreValues ctx b indices xs → AreOver s xs
    → AreAgreed (colours_of ctx s) (map (meaning ctx b) (terms_of xs)) (readings indices (trees-of xs))
sum-values ctx b indices s [] known over = tt
sum-values ctx b indices s (x ∷ xs) known over = (
  subst (λ z. IsAgreed (colours_of ctx z) (meaning ctx b x.term) (reading indices x.part.tree)) (sym over.0.same)
      (agreed-of ctx x.part.block x.part.kind (meaning ctx b x.term) (reading indices x.part.tree) over.0.multiset known.0.of_kind),
  sum-values ctx b indices s xs known.1 over.1,
)

sum-weights : (ctx : Context) (b : Binding) (indices : List ℕ) (s : Sort) (xs : List Piece) → AreValues ctx b indices xs → AreOver s xs
    → gross_sum (readings indices (trees-of xs)) ≡ sum_by (λ w. w.gross) (map (weighed ctx) (terms_of xs))
sum-weights ctx b indices s [] known over = refl
sum-weights ctx b indices s (x ∷ xs) known over =
    sum_by-cons (λ r. r.gross) (reading indices x.part.tree) (readings indices (trees-of xs))
    ∙ ap (λ n. n + gross_sum (readings indices (trees-of xs))) (known.0.weight over.0.multiset)
    ∙ ap (λ n. (weighed ctx x.term).gross + n) (sum-weights ctx b indices s xs known.1 over.1)
    ∙ sym (sum_by-cons (λ w. w.gross) (weighed ctx x.term) (map (weighed ctx) (terms_of xs)))

abbrev pub sum-of : List Piece → Kind → Part
sum-of xs new = record {
  tree = tree.Sum (first_size xs) (trees-of xs);
  kind = new;
  block = None;
  size = first_size xs;
  gross = (totals_of xs).gross_sum;
  support = (totals_of xs).support_sum;
  heavy = heavy_over (totals_of xs).gross_sum (totals_of xs).heavy;
  nodes = (totals_of xs).nodes;
}

sum-node : (ctx : Context) (marking : Bool) (xs : List Piece) → IsNode ctx marking (term.Add (terms_of xs)) sum_kind (sum_by (λ w. w.gross) (map (weighed ctx) (terms_of xs))) (sum_by (λ w. w.support) (map (weighed ctx) (terms_of xs))) xs
sum-node ctx marking xs = record { judges = fold-Add (judged_part ctx marking) (terms_of xs); weighs = fold-Add (weighed_part ctx) (terms_of xs) }

pub verdict-sum : (ctx : Context) (marking : Bool) (xs : List Piece) (broken : Rule) → AreParts ctx marking xs → Err broken ≡ sum_kind (kinds_of xs)
    → (judged ctx marking (term.Add (terms_of xs))).verdict ≡ Err (0, broken)
verdict-sum ctx marking xs broken known is = verdict-node ctx marking (term.Add (terms_of xs)) sum_kind _ _ xs (sum-node ctx marking xs) known ∙ ap at_root (sym is)

first-is : (ctx : Context) (marking : Bool) (x : Piece) (xs : List Piece) → IsPart ctx marking x.term x.part → first_size (x ∷ xs) ≡ x.part.size
first-is ctx marking x xs known = let test : nat_eq x.part.size 0 ≡ false = (let some = known.some in grind (arith, nat_tests, some)) in rw test refl

pub sum-part : (ctx : Context) (marking : Bool) (xs : List Piece) (new : Kind) → AreParts ctx marking xs → Ok new ≡ sum_kind (kinds_of xs)
    → IsPart ctx marking (term.Add (terms_of xs)) (sum-of xs new)
sum-part ctx marking [] new known is = absurd (cc)
sum-part ctx marking (x ∷ more) new known is =
    let xs = x ∷ more in
    let u = term.Add (terms_of xs) in
    let made = sum-of xs new in
    let kinds = sum-is x more new is in
    let s = sort_of_kind x.part.kind in
    let sorts : sort_of_kind new ≡ s = ap sort_of_kind kinds.is in
    let first : first_size xs ≡ x.part.size = first-is ctx marking x more known.0 in
    let size : length (colours_of ctx s) ≡ first_size xs = known.0.size ∙ sym first in
    let gross = sums-told ctx marking (λ w. w.gross) (λ p. p.gross) (gross-told ctx marking) xs known in
    let support = sums-told ctx marking (λ w. w.support) (λ p. p.support) (support-told ctx marking) xs known in
    record {
      counted = node-counted ctx marking u sum_kind _ _ xs made (sum-node ctx marking xs) known (sym is) refl gross support refl;
      variables = λ at id here.
          (ap (uses_at at) (sym (tree.rolls-Sum (first_size xs) (trees-of xs))) ∙ fold-roll-Tree Bool (uses_part at) (open_tree.Sum (first_size xs) (trees-of xs)))
          ∙ some-use ctx marking xs known at id here ∙ sym (fold-Add (occurs_part id) (terms_of xs));
      size = ap (λ z. length (colours_of ctx z)) sorts ∙ size;
      some = subst (λ n. 0 < n) (sym first) known.0.some;
      limit = subst (λ n. n ≤ most_colours) (sym first) known.0.limit;
      closed = λ position h. absurd (none-is-some position h);
      values = λ b indices binds lightness.
          let none = light made.gross (totals_of xs).heavy lightness in
          let old = values-known ctx marking b indices binds 1 xs known none.none in
          let ms = map (meaning ctx b) (terms_of xs) in
          let rs = readings indices (trees-of xs) in
          let read : reading indices made.tree ≡ reading_of_parts indices (open_tree.Sum (length (colours_of ctx s)) rs) =
          reading-Sum indices (first_size xs) (trees-of xs) ∙ ap (λ n. reading_of_parts indices (open_tree.Sum n rs)) (sym size) in
          let means = fold-Add (meaning_part ctx b) (terms_of xs) in
          let weight = sum-weights ctx b indices s xs old kinds.over in
          let fits : gross_sum rs ≤ most = few (gross_sum rs) (sum_by (λ w. w.gross) (map (weighed ctx) (terms_of xs))) made.gross weight gross none.fits in
          let agreed = sum-agrees ctx b indices (colours_of ctx s) ms rs (sum-values ctx b indices s xs old kinds.over) fits in
          record {
            of_kind = subst (λ k. HasKind ctx None k (meaning ctx b u) (reading indices made.tree)) (sym kinds.is)
                (subst (λ z. IsAgreed (colours_of ctx s) z (reading indices made.tree)) (sym means)
                (subst (λ z. IsAgreed (colours_of ctx s) (meaning_part ctx b (layer.Add ms)) z) (sym read) agreed));
            sort = λ _. ap (λ z. z.sort) means ∙ old.0.sort kinds.over.0.multiset ∙ sym sorts;
            weight = λ _. ap (λ z. z.gross) read ∙ weight ∙ sym (ap (λ w. w.gross) (fold-Add (weighed_part ctx) (terms_of xs)));
          };
    }

-- tuples
pub tuple-kind-by : (ctx : Context) (xs : List Piece)
    → tuple_kind ctx (kinds_of xs) ≡ tuple_kind_by (passes_limit (constants_of ctx.sorts) (roll-Sort (open_sort.Product (sorts-of xs)))) (children_of xs).are_choices (children_of xs).are_colours (children_of xs).sorts
tuple-kind-by ctx xs = rw (all-kinds is_choice xs, all-kinds is_colour xs, sorts-kinds xs) refl

abbrev pub tuple-sort : List Piece → Sort
tuple-sort xs = roll-Sort (open_sort.Product (sorts-of xs))

abbrev pub lists-of : Context → List Piece → List (List Colour)
lists-of ctx xs = map (colours_of ctx) (sorts-of xs)

tuple-colours : (ctx : Context) (xs : List Piece) → colours_of ctx (tuple-sort xs) ≡ map tuple (tuples (lists-of ctx xs))
tuple-colours ctx xs = fold-roll-Sort (List Colour) (colours_of_parts (constants_of ctx.sorts)) (open_sort.Product (sorts-of xs))

tuple-length : (ctx : Context) (marking : Bool) (xs : List Piece) → AreParts ctx marking xs → length (tuples (lists-of ctx xs)) ≡ product (map (λ x. x.part.size) xs)
tuple-length ctx marking [] known = refl
tuple-length ctx marking (x ∷ xs) known =
    length-tuples (colours_of ctx (sort_of_kind x.part.kind)) (lists-of ctx xs)
    ∙ ap (λ n. n * length (tuples (lists-of ctx xs))) known.0.size
    ∙ ap (λ n. x.part.size * n) (tuple-length ctx marking xs known.1)

sizes-some : (ctx : Context) (marking : Bool) (xs : List Piece) → AreParts ctx marking xs → 1 ≤ product (map (λ x. x.part.size) xs)
sizes-some ctx marking [] known = omega arith
sizes-some ctx marking (x ∷ xs) known =
    let more : x.part.size * 1 ≤ x.part.size * product (map (λ y. y.part.size) xs) = mul-le-mul_left x.part.size (sizes-some ctx marking xs known.1) in
    let some = known.0.some in
    omega (arith, more, some)

one-colour-of : (ctx : Context) (block : Option ℕ) (k : Kind) (m : Meaning) (r : Reading) → is_colour k ≡ true → HasKind ctx block k m r → IsOneColour (colours_of ctx (sort_of_kind k)) m r × (r.gross ≡ 1)
one-colour-of ctx block (kind.Colour s) m r h known = known
one-colour-of ctx block (kind.Every s) m r h known = absurd (cc)
one-colour-of ctx block (kind.Multiset s) m r h known = absurd (cc)
one-colour-of ctx block (kind.Block at) m r h known = absurd (cc)

choice-of : (ctx : Context) (block : Option ℕ) (k : Kind) (m : Meaning) (r : Reading) → is_choice k ≡ true → 0 < length (colours_of ctx (sort_of_kind k)) → HasKind ctx block k m r → IsChoice (colours_of ctx (sort_of_kind k)) m r
choice-of ctx block (kind.Colour s) m r h some known = record { agreed = known.0.agreed; is_choice = known.0.is_choice; is_defined = known.0.is_defined; some = some }
choice-of ctx block (kind.Every s) m r h some known = known
choice-of ctx block (kind.Multiset s) m r h some known = absurd (cc)
choice-of ctx block (kind.Block at) m r h some known = absurd (cc)

choice-multiset : (k : Kind) → is_choice k ≡ true → is_block k ≡ false
choice-multiset (kind.Colour s) h = refl
choice-multiset (kind.Every s) h = refl
choice-multiset (kind.Multiset s) h = refl
choice-multiset (kind.Block at) h = absurd (cc)

tuple-choices : (ctx : Context) (marking : Bool) (b : Binding) (indices : List ℕ) (xs : List Piece) → AreParts ctx marking xs → AreValues ctx b indices xs → list_all (λ x. is_choice x.part.kind) xs ≡ true
    → AreChoices (lists-of ctx xs) (map (meaning ctx b) (terms_of xs)) (readings indices (trees-of xs))
tuple-choices ctx marking b indices [] known old h = tt
tuple-choices ctx marking b indices (x ∷ xs) known old h =
    let both = and-both (is_choice x.part.kind) (list_all (λ y. is_choice y.part.kind) xs) h in
    (choice-of ctx x.part.block x.part.kind (meaning ctx b x.term) (reading indices x.part.tree) both.0 (subst (λ n. 0 < n) (sym known.0.size) known.0.some) old.0.of_kind, tuple-choices ctx marking b indices xs known.1 old.1 both.1)

tuple-one-colours : (ctx : Context) (b : Binding) (indices : List ℕ) (xs : List Piece) → AreValues ctx b indices xs → list_all (λ x. is_colour x.part.kind) xs ≡ true
    → AreOneColours (lists-of ctx xs) (map (meaning ctx b) (terms_of xs)) (readings indices (trees-of xs))
tuple-one-colours ctx b indices [] old h = tt
tuple-one-colours ctx b indices (x ∷ xs) old h =
    let both = and-both (is_colour x.part.kind) (list_all (λ y. is_colour y.part.kind) xs) h in
    ((one-colour-of ctx x.part.block x.part.kind (meaning ctx b x.term) (reading indices x.part.tree) both.0 old.0.of_kind).0, tuple-one-colours ctx b indices xs old.1 both.1)

tuple-sorts : (ctx : Context) (b : Binding) (indices : List ℕ) (xs : List Piece) → AreValues ctx b indices xs → list_all (λ x. is_choice x.part.kind) xs ≡ true
    → map (λ m. m.sort) (map (meaning ctx b) (terms_of xs)) ≡ sorts-of xs
tuple-sorts ctx b indices [] old h = refl
tuple-sorts ctx b indices (x ∷ xs) old h =
    let both = and-both (is_choice x.part.kind) (list_all (λ y. is_choice y.part.kind) xs) h in
    ap (λ s. s ∷ map (λ m. m.sort) (map (meaning ctx b) (terms_of xs))) (old.0.sort (choice-multiset x.part.kind both.0))
    ∙ ap (λ ss. sort_of_kind x.part.kind ∷ ss) (tuple-sorts ctx b indices xs old.1 both.1)

tuple-weights : (ctx : Context) (b : Binding) (indices : List ℕ) (xs : List Piece) → AreValues ctx b indices xs → list_all (λ x. is_choice x.part.kind) xs ≡ true
    → choices (readings indices (trees-of xs)) ≡ product (map (λ w. w.gross) (map (weighed ctx) (terms_of xs)))
tuple-weights ctx b indices [] old h = refl
tuple-weights ctx b indices (x ∷ xs) old h =
    let both = and-both (is_choice x.part.kind) (list_all (λ y. is_choice y.part.kind) xs) h in
    ap (λ n. n * choices (readings indices (trees-of xs))) (old.0.weight (choice-multiset x.part.kind both.0))
    ∙ ap (λ n. (weighed ctx x.term).gross * n) (tuple-weights ctx b indices xs old.1 both.1)

tuple-single : (ctx : Context) (b : Binding) (indices : List ℕ) (xs : List Piece) → AreValues ctx b indices xs → list_all (λ x. is_colour x.part.kind) xs ≡ true
    → choices (readings indices (trees-of xs)) ≡ 1
tuple-single ctx b indices [] old h = refl
tuple-single ctx b indices (x ∷ xs) old h =
    let both = and-both (is_colour x.part.kind) (list_all (λ y. is_colour y.part.kind) xs) h in
    ap (λ n. n * choices (readings indices (trees-of xs))) (one-colour-of ctx x.part.block x.part.kind (meaning ctx b x.term) (reading indices x.part.tree) both.0 old.0.of_kind).1
    ∙ ap (λ n. 1 * n) (tuple-single ctx b indices xs old.1 both.1)

abbrev pub tuple-of : Tree → List Piece → Kind → Part
tuple-of made xs new = record {
  tree = made;
  kind = new;
  block = None;
  size = (children_of xs).size;
  gross = (totals_of xs).gross_product;
  support = (totals_of xs).support_product;
  heavy = heavy_over (totals_of xs).gross_product (totals_of xs).heavy;
  nodes = (totals_of xs).nodes;
}

tuple-node : (ctx : Context) (marking : Bool) (xs : List Piece)
    → IsNode ctx marking (term.Tuple (terms_of xs)) (tuple_kind ctx) (product (map (λ w. w.gross) (map (weighed ctx) (terms_of xs)))) (product (map (λ w. w.support) (map (weighed ctx) (terms_of xs)))) xs
tuple-node ctx marking xs = record { judges = fold-Tuple (judged_part ctx marking) (terms_of xs); weighs = fold-Tuple (weighed_part ctx) (terms_of xs) }

pub verdict-tuple : (ctx : Context) (marking : Bool) (xs : List Piece) (broken : Rule) → AreParts ctx marking xs → tuple_kind ctx (kinds_of xs) ≡ Err broken
    → (judged ctx marking (term.Tuple (terms_of xs))).verdict ≡ Err (0, broken)
verdict-tuple ctx marking xs broken known is = verdict-node ctx marking (term.Tuple (terms_of xs)) (tuple_kind ctx) _ _ xs (tuple-node ctx marking xs) known ∙ ap at_root is

pub record IsSizedTuple (ctx : Context) (xs : List Piece) : Type 0 where
  pub size : length (colours_of ctx (tuple-sort xs)) ≡ (children_of xs).size
  pub many : length (tuples (lists-of ctx xs)) ≡ (children_of xs).size
  pub some : 0 < (children_of xs).size
  pub limit : (children_of xs).size ≤ most_colours

limit-kept : (constants : List (List (List ℕ))) (s : Sort) → passes_limit constants s ≡ false → length (colours constants s) ≤ 2 ^ 20
limit-kept constants s h = grind (arith, nat_tests)

sized-tuple : (ctx : Context) (marking : Bool) (xs : List Piece) → AreParts ctx marking xs → passes_limit (constants_of ctx.sorts) (tuple-sort xs) ≡ false → IsSizedTuple ctx xs
sized-tuple ctx marking xs known limit =
    let p = product (map (λ x. x.part.size) xs) in
    let whole : length (colours_of ctx (tuple-sort xs)) ≡ length (tuples (lists-of ctx xs)) = ap length (tuple-colours ctx xs) ∙ length-map (tuples (lists-of ctx xs)) tuple in
    let many = tuple-length ctx marking xs known in
    let kept = limit-kept (constants_of ctx.sorts) (tuple-sort xs) limit in
    let few : p ≤ 2 ^ 20 = subst (λ n. n ≤ 2 ^ 20) (whole ∙ many) kept in
    let same : p ≡ min p (2 ^ 21) = omega (arith, few) in
    let some = sizes-some ctx marking xs known in
    record {
      size = whole ∙ many ∙ same;
      many = many ∙ same;
      some = omega (arith, same, some);
      limit = omega (arith, same, few);
    }

tuple-counted : (ctx : Context) (marking : Bool) (made : Tree) (xs : List Piece) (new : Kind) → AreParts ctx marking xs → tuple_kind ctx (kinds_of xs) ≡ Ok new
    → Rattle.multiset_terms.specs.Parts.IsCounted ctx marking (term.Tuple (terms_of xs)) (tuple-of made xs new)
tuple-counted ctx marking made xs new known is =
    node-counted ctx marking (term.Tuple (terms_of xs)) (tuple_kind ctx) _ _ xs (tuple-of made xs new) (tuple-node ctx marking xs) known is refl
    (products-told ctx marking (λ w. w.gross) (λ p. p.gross) (gross-told ctx marking) xs known)
    (products-told ctx marking (λ w. w.support) (λ p. p.support) (support-told ctx marking) xs known) refl

reading-Tuple : (b : List ℕ) (size : ℕ) (cs : List Tree) → reading b (tree.Tuple size cs) ≡ reading_of_parts b (open_tree.Tuple size (readings b cs))
reading-Tuple b size cs = ap (reading b) (sym (tree.rolls-Tuple size cs)) ∙ fold-roll-Tree Reading (reading_of_parts b) (open_tree.Tuple size cs)

tuple-once : (ctx : Context) → AreDistinct ctx → (xs : List Piece) → IsOnce (map tuple (tuples (lists-of ctx xs)))
tuple-once ctx distinct xs = subst IsOnce (tuple-colours ctx xs) (once-sort (constants_of ctx.sorts) distinct (tuple-sort xs))

pub tuple-colour-part : (ctx : Context) (marking : Bool) (xs : List Piece) → AreDistinct ctx → AreParts ctx marking xs → list_all (λ x. is_choice x.part.kind) xs ≡ true
    → list_all (λ x. is_colour x.part.kind) xs ≡ true → passes_limit (constants_of ctx.sorts) (tuple-sort xs) ≡ false → tuple_kind ctx (kinds_of xs) ≡ Ok (kind.Colour (tuple-sort xs))
    → IsPart ctx marking (term.Tuple (terms_of xs)) (tuple-of (tree.Tuple (children_of xs).size (trees-of xs)) xs (kind.Colour (tuple-sort xs)))
tuple-colour-part ctx marking xs distinct known chosen single limit is =
    let u = term.Tuple (terms_of xs) in
    let made = tree.Tuple (children_of xs).size (trees-of xs) in
    let sized = sized-tuple ctx marking xs known limit in
    record {
      counted = tuple-counted ctx marking made xs (kind.Colour (tuple-sort xs)) known is;
      variables = λ at id here.
          (ap (uses_at at) (sym (tree.rolls-Tuple (children_of xs).size (trees-of xs))) ∙ fold-roll-Tree Bool (uses_part at) (open_tree.Tuple (children_of xs).size (trees-of xs)))
          ∙ some-use ctx marking xs known at id here ∙ sym (fold-Tuple (occurs_part id) (terms_of xs));
      size = sized.size;
      some = sized.some;
      limit = sized.limit;
      closed = λ position h. absurd (none-is-some position h);
      values = λ b indices binds lightness.
          let none = light (totals_of xs).gross_product (totals_of xs).heavy lightness in
          let old = values-known ctx marking b indices binds 1 xs known none.none in
          let ms = map (meaning ctx b) (terms_of xs) in
          let rs = readings indices (trees-of xs) in
          let read : reading indices made ≡ reading_of_parts indices (open_tree.Tuple (length (tuples (lists-of ctx xs))) rs) =
          reading-Tuple indices (children_of xs).size (trees-of xs) ∙ ap (λ n. reading_of_parts indices (open_tree.Tuple n rs)) (sym sized.many) in
          let means = fold-Tuple (meaning_part ctx b) (terms_of xs) in
          let agreed = (tuple-nodes-agree ctx b indices (lists-of ctx xs) (tuple-once ctx distinct xs) (subst (λ n. n ≤ most_colours) (sym sized.many) sized.limit)).tuple_node ms rs (tuple-one-colours ctx b indices xs old single) in
          let one : IsOneColour (colours_of ctx (tuple-sort xs)) (meaning ctx b u) (reading indices made) =
          subst (λ z. IsOneColour (colours_of ctx (tuple-sort xs)) z (reading indices made)) (sym means)
          (subst (λ z. IsOneColour (colours_of ctx (tuple-sort xs)) (meaning_part ctx b (layer.Tuple ms)) z) (sym read)
          (subst (λ z. IsOneColour z (meaning_part ctx b (layer.Tuple ms)) (reading_of_parts indices (open_tree.Tuple (length (tuples (lists-of ctx xs))) rs))) (sym (tuple-colours ctx xs)) agreed)) in
          record {
            of_kind = (one, ap (λ z. z.gross) read);
            sort = λ _. ap (λ z. z.sort) means ∙ ap (λ ss. roll-Sort (open_sort.Product ss)) (tuple-sorts ctx b indices xs old chosen);
            weight = λ _. ap (λ z. z.gross) read ∙ sym (tuple-single ctx b indices xs old single) ∙ tuple-weights ctx b indices xs old chosen
                ∙ sym (ap (λ w. w.gross) (fold-Tuple (weighed_part ctx) (terms_of xs)));
          };
    }

pub tuple-product-part : (ctx : Context) (marking : Bool) (xs : List Piece) → AreDistinct ctx → AreParts ctx marking xs → list_all (λ x. is_choice x.part.kind) xs ≡ true
    → passes_limit (constants_of ctx.sorts) (tuple-sort xs) ≡ false → tuple_kind ctx (kinds_of xs) ≡ Ok (kind.Multiset (tuple-sort xs))
    → IsPart ctx marking (term.Tuple (terms_of xs)) (tuple-of (tree.Product (children_of xs).size (trees-of xs)) xs (kind.Multiset (tuple-sort xs)))
tuple-product-part ctx marking xs distinct known chosen limit is =
    let u = term.Tuple (terms_of xs) in
    let made = tree.Product (children_of xs).size (trees-of xs) in
    let sized = sized-tuple ctx marking xs known limit in
    record {
      counted = tuple-counted ctx marking made xs (kind.Multiset (tuple-sort xs)) known is;
      variables = λ at id here.
          (ap (uses_at at) (sym (tree.rolls-Product (children_of xs).size (trees-of xs))) ∙ fold-roll-Tree Bool (uses_part at) (open_tree.Product (children_of xs).size (trees-of xs)))
          ∙ some-use ctx marking xs known at id here ∙ sym (fold-Tuple (occurs_part id) (terms_of xs));
      size = sized.size;
      some = sized.some;
      limit = sized.limit;
      closed = λ position h. absurd (none-is-some position h);
      values = λ b indices binds lightness.
          let none = light (totals_of xs).gross_product (totals_of xs).heavy lightness in
          let old = values-known ctx marking b indices binds 1 xs known none.none in
          let ms = map (meaning ctx b) (terms_of xs) in
          let rs = readings indices (trees-of xs) in
          let read : reading indices made ≡ reading_of_parts indices (open_tree.Product (length (tuples (lists-of ctx xs))) rs) =
          reading-Product indices (children_of xs).size (trees-of xs) ∙ ap (λ n. reading_of_parts indices (open_tree.Product n rs)) (sym sized.many) in
          let means = fold-Tuple (meaning_part ctx b) (terms_of xs) in
          let weight = tuple-weights ctx b indices xs old chosen in
          let gross = products-told ctx marking (λ w. w.gross) (λ p. p.gross) (gross-told ctx marking) xs known in
          let fits : choices rs ≤ most = few (choices rs) (product (map (λ w. w.gross) (map (weighed ctx) (terms_of xs)))) (totals_of xs).gross_product weight gross none.fits in
          let agreed = (tuple-nodes-agree ctx b indices (lists-of ctx xs) (tuple-once ctx distinct xs) (subst (λ n. n ≤ most_colours) (sym sized.many) sized.limit)).product_node ms rs (tuple-choices ctx marking b indices xs known old chosen) fits in
          record {
            of_kind = subst (λ z. IsAgreed (colours_of ctx (tuple-sort xs)) z (reading indices made)) (sym means)
                (subst (λ z. IsAgreed (colours_of ctx (tuple-sort xs)) (meaning_part ctx b (layer.Tuple ms)) z) (sym read)
                (subst (λ z. IsAgreed z (meaning_part ctx b (layer.Tuple ms)) (reading_of_parts indices (open_tree.Product (length (tuples (lists-of ctx xs))) rs))) (sym (tuple-colours ctx xs)) agreed));
            sort = λ _. ap (λ z. z.sort) means ∙ ap (λ ss. roll-Sort (open_sort.Product ss)) (tuple-sorts ctx b indices xs old chosen);
            weight = λ _. ap (λ z. z.gross) read ∙ weight ∙ sym (ap (λ w. w.gross) (fold-Tuple (weighed_part ctx) (terms_of xs)));
          };
    }

-- the same of compiled children
pub sum-children : (ctx : Context) (marking : Bool) (ts : List Term) (cs : Children) (new : Kind) (heavy : Option ℕ) → AreChildren ctx marking ts cs
    → Ok new ≡ sum_kind_by cs.are_multisets cs.sorts → heavy ≡ heavy_over cs.totals.gross_sum cs.totals.heavy
    → IsPart ctx marking (term.Add ts) (record { tree = tree.Sum cs.first cs.trees; kind = new; block = None; size = cs.first; gross = cs.totals.gross_sum; support = cs.totals.support_sum; heavy = heavy; nodes = cs.totals.nodes })
sum-children ctx marking ts cs new heavy known is heavy_is =
    let xs = known.pieces in
    let kinds : Ok new ≡ sum_kind (kinds_of xs) = is ∙ ap (λ z. sum_kind_by z.are_multisets z.sorts) known.gathered ∙ sym (sum-kind-by xs) in
    rw (heavy_is, known.gathered, ← known.terms) (sum-part ctx marking xs new known.parts kinds)

pub broken-sum : (ctx : Context) (marking : Bool) (ts : List Term) (cs : Children) (broken : Rule) → AreChildren ctx marking ts cs
    → Err broken ≡ sum_kind_by cs.are_multisets cs.sorts → (judged ctx marking (term.Add ts)).verdict ≡ Err (0, broken)
broken-sum ctx marking ts cs broken known is =
    let xs = known.pieces in
    let kinds : Err broken ≡ sum_kind (kinds_of xs) = is ∙ ap (λ z. sum_kind_by z.are_multisets z.sorts) known.gathered ∙ sym (sum-kind-by xs) in
    ap (λ z. (judged ctx marking (term.Add z)).verdict) (sym known.terms) ∙ verdict-sum ctx marking xs broken known.parts kinds

tuple-children-kind : (ctx : Context) (xs : List Piece) (passes choices_are colours_are : Bool) → passes_limit (constants_of ctx.sorts) (tuple-sort xs) ≡ passes
    → (children_of xs).are_choices ≡ choices_are → (children_of xs).are_colours ≡ colours_are → tuple_kind ctx (kinds_of xs) ≡ tuple_kind_by passes choices_are colours_are (sorts-of xs)
tuple-children-kind ctx xs passes choices_are colours_are p q r =
    tuple-kind-by ctx xs ∙ ap (λ z. tuple_kind_by z (children_of xs).are_choices (children_of xs).are_colours (sorts-of xs)) p
    ∙ ap (λ z. tuple_kind_by passes z (children_of xs).are_colours (sorts-of xs)) q ∙ ap (λ z. tuple_kind_by passes choices_are z (sorts-of xs)) r

tuple-pieces : (ctx : Context) (marking : Bool) (xs : List Piece) → AreDistinct ctx → AreParts ctx marking xs → (children_of xs).are_choices ≡ true
    → passes_limit (constants_of ctx.sorts) (tuple-sort xs) ≡ false
    → IsPart ctx marking (term.Tuple (terms_of xs)) (tuple_made (tuple-sort xs) (trees-of xs) (children_of xs).are_colours (children_of xs).size (totals_of xs))
tuple-pieces ctx marking xs distinct known chosen limit =
    elim (cases_Bool (children_of xs).are_colours) [
      | inl single ↦ rw single (tuple-colour-part ctx marking xs distinct known chosen single limit (tuple-children-kind ctx xs false true true limit chosen single))
      | inr several ↦ rw several (tuple-product-part ctx marking xs distinct known chosen limit (tuple-children-kind ctx xs false true false limit chosen several))
    ]

pub tuple-children : (ctx : Context) (marking : Bool) (ts : List Term) (cs : Children) (s : Sort) → AreDistinct ctx → AreChildren ctx marking ts cs → cs.are_choices ≡ true
    → s ≡ sort.Product cs.sorts → passes_limit (constants_of ctx.sorts) s ≡ false
    → IsPart ctx marking (term.Tuple ts) (tuple_made s cs.trees cs.are_colours cs.size cs.totals)
tuple-children ctx marking ts cs s distinct known chosen is limit =
    let xs = known.pieces in
    let same : s ≡ tuple-sort xs = is ∙ sym (sort.rolls-Product cs.sorts) ∙ ap (λ z. roll-Sort (open_sort.Product z.sorts)) known.gathered in
    let choices_are : (children_of xs).are_choices ≡ true = ap (λ z. z.are_choices) (sym known.gathered) ∙ chosen in
    let kept : passes_limit (constants_of ctx.sorts) (tuple-sort xs) ≡ false = ap (passes_limit (constants_of ctx.sorts)) (sym same) ∙ limit in
    rw (same, known.gathered, ← known.terms) (tuple-pieces ctx marking xs distinct known.parts choices_are kept)

pub tuple-of-others : (ctx : Context) (marking : Bool) (ts : List Term) (cs : Children) → AreChildren ctx marking ts cs → cs.are_choices ≡ false
    → (judged ctx marking (term.Tuple ts)).verdict ≡ Err (0, rule.NotAColour)
tuple-of-others ctx marking ts cs known chosen =
    let xs = known.pieces in
    let choices_are : (children_of xs).are_choices ≡ false = ap (λ z. z.are_choices) (sym known.gathered) ∙ chosen in
    ap (λ z. (judged ctx marking (term.Tuple z)).verdict) (sym known.terms)
    ∙ verdict-tuple ctx marking xs rule.NotAColour known.parts (tuple-children-kind ctx xs _ false _ refl choices_are refl)

pub tuple-too-large : (ctx : Context) (marking : Bool) (ts : List Term) (cs : Children) (s : Sort) → AreChildren ctx marking ts cs → cs.are_choices ≡ true
    → s ≡ sort.Product cs.sorts → passes_limit (constants_of ctx.sorts) s ≡ true → (judged ctx marking (term.Tuple ts)).verdict ≡ Err (0, rule.DomainLimit)
tuple-too-large ctx marking ts cs s known chosen is limit =
    let xs = known.pieces in
    let same : s ≡ tuple-sort xs = is ∙ sym (sort.rolls-Product cs.sorts) ∙ ap (λ z. roll-Sort (open_sort.Product z.sorts)) known.gathered in
    let choices_are : (children_of xs).are_choices ≡ true = ap (λ z. z.are_choices) (sym known.gathered) ∙ chosen in
    ap (λ z. (judged ctx marking (term.Tuple z)).verdict) (sym known.terms)
    ∙ verdict-tuple ctx marking xs rule.DomainLimit known.parts (tuple-children-kind ctx xs true true _ (ap (passes_limit (constants_of ctx.sorts)) (sym same) ∙ limit) choices_are refl)
