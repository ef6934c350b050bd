-- What is made without parts stands for terms without children.
use Rattle.std.proofs.Common.{◌≡◌, ℕ, ◌-◌, ◌<◌, ◌≤◌, ◌^◌, inl, inr, Bool, true, false, List, [], ◌∷◌, length, get_or, refl, sym, ap, ◌∙◌, subst, arith, None, Some}
use Rattle.std.specs.Prelude.{Ok, Err, nat_eq, nat_lt, position, slice_get}
use Rattle.std.specs.Str.{bytes_eq}
use Rattle.std.proofs.lemmas.Bool.{cases_Bool, cases_eq}
use Rattle.std.proofs.lemmas.Bool.Decides.{nat_tests}
use Rattle.std.proofs.lemmas.List.Quantifiers.{position-Some}
use Rattle.std.proofs.lemmas.Option.{get_or_from_slice_get, slice_get_within, slice_get-get_or}
use Rattle.std.proofs.lemmas.Slice.Eq.{bytes_eq-Decides}
use Rattle.colour_sorts.specs.declared.sorts.Colour.{Colour}
use Rattle.colour_sorts.specs.declared.rules.Rule.TheVariants as rule
use Rattle.colour_sorts.specs.declared.sorts.Colour.TheVariants as colour
use Rattle.colour_sorts.specs.declared.sorts.Sort.{Sort, fold-roll-Sort}
use Rattle.colour_sorts.specs.declared.sorts.Sort.TheOpen as open_sort
use Rattle.colour_sorts.specs.declared.sorts.Sort.TheVariants as sort
use Rattle.colour_sorts.specs.Colours.{colours_of_parts, size}
use Rattle.net_model.specs.Ids.{constants_of}
use Rattle.colour_sorts.specs.Domain.{Domain, domain_of}
use Rattle.net_model.specs.declared.sorts.SortTerm.{SortTerm}
use Rattle.colour_sorts.specs.Naming.{broken_rule}
use Rattle.colour_sorts.proofs.PlacesIn.{none-is-some}
use Rattle.multiset_terms.specs.declared.faults.PartFault.{PartFault}
use Rattle.multiset_terms.specs.declared.faults.PartFault.TheVariants as fault
use Rattle.multiset_terms.specs.declared.kinds.Kind.{Kind}
use Rattle.multiset_terms.specs.declared.kinds.Kind.TheVariants as kind
use Rattle.multiset_terms.specs.declared.parts.Part.{Part}
use Rattle.net_model.specs.declared.terms.Term.{Term}
use Rattle.net_model.specs.declared.terms.Term.TheVariants as term
use Rattle.multiset_terms.specs.declared.trees.Tree.{Tree, fold-roll-Tree}
use Rattle.multiset_terms.specs.declared.trees.Tree.TheOpen as open_tree
use Rattle.multiset_terms.specs.declared.trees.Tree.TheVariants as tree
use Rattle.multiset_terms.specs.Agreeing.{IsAgreed, IsOneColour}
use Rattle.multiset_terms.specs.Context.{Context}
use Rattle.multiset_terms.specs.Laws.{IsOnce}
use Rattle.multiset_terms.specs.Parts.{AreDistinct, HasKind, HasSize, IsConstant, IsElement, IsEmpty, IsEvery, IsFault, IsFound, IsLeaf, IsPart, PartValue, heavy_over, totals_of}
use Rattle.multiset_terms.specs.Standing.{occurs, occurs_part}
use Rattle.multiset_terms.specs.Trees.{Reading, most_colours, reading, reading_of_parts, uses_at, uses_part}
use Rattle.multiset_terms.specs.Typing.{at_place, at_root, judged, judged_part, leaf, sort_named, unless_broken, variable_kind, variable_sort}
use Rattle.multiset_terms.specs.Values.{Binding, colours_of, many, meaning, meaning_part, one_colour}
use Rattle.multiset_terms.specs.Weights.{weighed_part}
use Rattle.multiset_terms.proofs.Distinct.{once-sort}
use Rattle.net_model.proofs.Layers.{fold-All, fold-Dot, fold-Empty, fold-Variable}
use Rattle.multiset_terms.proofs.Nodes.{nodes-agree}
use Rattle.multiset_terms.proofs.Pieces.{node-counted}

abbrev pub leaf-of : Tree → Kind → ℕ → ℕ → Part
leaf-of made k size gross = record { tree = made; kind = k; block = None; size = size; gross = gross; support = gross; heavy = None; nodes = 1 }

leaf-counted : (ctx : Context) (marking : Bool) (u : Term) (k : Kind) (made : Tree) (size gross : ℕ) → IsLeaf ctx marking u k gross → gross ≤ most_colours
    → Rattle.multiset_terms.specs.Parts.IsCounted ctx marking u (leaf-of made k size gross)
leaf-counted ctx marking u k made size gross is few =
    node-counted ctx marking u (λ _. Ok k) gross gross [] (leaf-of made k size gross) (record { judges = is.judges; weighs = is.weighs }) tt refl refl (omega (arith, few)) (omega (arith, few)) none
  where
    none : None ≡ heavy_over gross None
    none = let test : nat_lt (2 ^ 63 - 1) gross ≡ false = grind (arith, nat_tests, few) in rw test refl

-- a colour of an index
pub constant-part : (ctx : Context) (marking : Bool) (u : Term) (s : Sort) (c : Colour) (size index : ℕ) → AreDistinct ctx → IsLeaf ctx marking u (kind.Colour s) 1
    → ((id : List ℕ) → occurs id u ≡ false) → ((b : Binding) → meaning ctx b u ≡ one_colour s c true)
    → length (colours_of ctx s) ≡ size → size ≤ most_colours → slice_get (colours_of ctx s) index ≡ Some c
    → IsPart ctx marking u (leaf-of (tree.Constant size index) (kind.Colour s) size 1)
constant-part ctx marking u s c size index distinct is occurring means sized limit here =
    let within = slice_get_within (colours_of ctx s) index c here in
    let made = tree.Constant size index in
    record {
      counted = leaf-counted ctx marking u (kind.Colour s) made size 1 is (omega arith);
      variables = λ at id there. (ap (uses_at at) (sym (tree.rolls-Constant size index)) ∙ fold-roll-Tree Bool (uses_part at) (open_tree.Constant size index)) ∙ sym (occurring id);
      size = sized;
      some = omega (arith, within, sized);
      limit = limit;
      closed = λ position h. absurd (none-is-some position h);
      values = λ b indices binds _.
          let read : reading indices made ≡ reading_of_parts indices (open_tree.Constant (length (colours_of ctx s)) index) =
          (ap (reading indices) (sym (tree.rolls-Constant size index)) ∙ fold-roll-Tree Reading (reading_of_parts indices) (open_tree.Constant size index))
          ∙ ap (λ n. reading_of_parts indices (open_tree.Constant n index)) (sym sized) in
          let agreed = (nodes-agree ctx b indices (colours_of ctx s) (once-sort _ distinct s) (subst (λ n. n ≤ most_colours) (sym sized) limit)).constant s index c here in
          record {
            of_kind = (subst (λ z. IsOneColour (colours_of ctx s) z (reading indices made)) (sym (means b)) (subst (IsOneColour (colours_of ctx s) (one_colour s c true)) (sym read) agreed), ap (λ r. r.gross) read);
            sort = λ _. ap (λ m. m.sort) (means b);
            weight = λ _. ap (λ r. r.gross) read ∙ sym (ap (λ w. w.gross) is.weighs);
          };
    }

-- all colours and no colour
pub every-part : (ctx : Context) (marking : Bool) (u : Term) (s : Sort) (size : ℕ) → AreDistinct ctx → IsLeaf ctx marking u (kind.Every s) size
    → ((id : List ℕ) → occurs id u ≡ false) → ((b : Binding) → meaning ctx b u ≡ many s (λ _. 1) true)
    → length (colours_of ctx s) ≡ size → 0 < size → size ≤ most_colours → IsPart ctx marking u (leaf-of (tree.All size) (kind.Every s) size size)
every-part ctx marking u s size distinct is occurring means sized some limit =
    let made = tree.All size in
    record {
      counted = leaf-counted ctx marking u (kind.Every s) made size size is limit;
      variables = λ at id there. (ap (uses_at at) (sym (tree.rolls-All size)) ∙ fold-roll-Tree Bool (uses_part at) (open_tree.All size)) ∙ sym (occurring id);
      size = sized;
      some = some;
      limit = limit;
      closed = λ position h. absurd (none-is-some position h);
      values = λ b indices binds _.
          let read : reading indices made ≡ reading_of_parts indices (open_tree.All (length (colours_of ctx s))) =
          (ap (reading indices) (sym (tree.rolls-All size)) ∙ fold-roll-Tree Reading (reading_of_parts indices) (open_tree.All size)) ∙ ap (λ n. reading_of_parts indices (open_tree.All n)) (sym sized) in
          let agreed = (nodes-agree ctx b indices (colours_of ctx s) (once-sort _ distinct s) (subst (λ n. n ≤ most_colours) (sym sized) limit)).every s in
          let whole : IsAgreed (colours_of ctx s) (meaning ctx b u) (reading indices made) =
          subst (λ z. IsAgreed (colours_of ctx s) z (reading indices made)) (sym (means b)) (subst (IsAgreed (colours_of ctx s) (many s (λ _. 1) true)) (sym read) agreed) in
          record {
            of_kind = record { agreed = whole; is_choice = ap (λ r. r.is_choice) read; is_defined = ap (λ m. m.is_defined) (means b); some = subst (λ n. 0 < n) (sym sized) some };
            sort = λ _. ap (λ m. m.sort) (means b);
            weight = λ _. ap (λ r. r.gross) read ∙ sized ∙ sym (ap (λ w. w.gross) is.weighs);
          };
    }

pub empty-part : (ctx : Context) (marking : Bool) (u : Term) (s : Sort) (size : ℕ) → AreDistinct ctx → IsLeaf ctx marking u (kind.Multiset s) 0
    → ((id : List ℕ) → occurs id u ≡ false) → ((b : Binding) → meaning ctx b u ≡ many s (λ _. 0) true)
    → length (colours_of ctx s) ≡ size → 0 < size → size ≤ most_colours → IsPart ctx marking u (leaf-of (tree.Empty size) (kind.Multiset s) size 0)
empty-part ctx marking u s size distinct is occurring means sized some limit =
    let made = tree.Empty size in
    record {
      counted = leaf-counted ctx marking u (kind.Multiset s) made size 0 is (omega arith);
      variables = λ at id there. (ap (uses_at at) (sym (tree.rolls-Empty size)) ∙ fold-roll-Tree Bool (uses_part at) (open_tree.Empty size)) ∙ sym (occurring id);
      size = sized;
      some = some;
      limit = limit;
      closed = λ position h. absurd (none-is-some position h);
      values = λ b indices binds _.
          let read : reading indices made ≡ reading_of_parts indices (open_tree.Empty (length (colours_of ctx s))) =
          (ap (reading indices) (sym (tree.rolls-Empty size)) ∙ fold-roll-Tree Reading (reading_of_parts indices) (open_tree.Empty size)) ∙ ap (λ n. reading_of_parts indices (open_tree.Empty n)) (sym sized) in
          let agreed = (nodes-agree ctx b indices (colours_of ctx s) (once-sort _ distinct s) (subst (λ n. n ≤ most_colours) (sym sized) limit)).empty s in
          record {
            of_kind = subst (λ z. IsAgreed (colours_of ctx s) z (reading indices made)) (sym (means b)) (subst (IsAgreed (colours_of ctx s) (many s (λ _. 0) true)) (sym read) agreed);
            sort = λ _. ap (λ m. m.sort) (means b);
            weight = λ _. ap (λ r. r.gross) read ∙ sym (ap (λ w. w.gross) is.weighs);
          };
    }

-- a variable
pub record IsPlaced (ids : List (List ℕ)) (id : List ℕ) (at : ℕ) : Type 0 where
  pub here : slice_get ids at ≡ Some id
  pub within : at < length ids

bytes-same : (a b : List ℕ) → bytes_eq a b ≡ true → a ≡ b
bytes-same a b h = (bytes_eq-Decides a b).0 h

bytes-own : (a : List ℕ) → bytes_eq a a ≡ true
bytes-own a = (bytes_eq-Decides a a).1 refl

pub placed : (ids : List (List ℕ)) (id : List ℕ) (at : ℕ) → position (bytes_eq id) ids ≡ Some at → IsPlaced ids id at
placed ids id at found =
    let known = position-Some (bytes_eq id) ids at [] found in
    let same : id ≡ get_or ids at [] = bytes-same id (get_or ids at []) known.1 in
    record { here = slice_get-get_or ids at [] known.0 ∙ ap Some (sym same); within = known.0 }

true-is-false : true ≡ false → ⊥
true-is-false h = grind (arith, nat_tests)

variable-test : (ids : List (List ℕ)) → IsOnce ids → (at i : ℕ) (id other : List ℕ) → slice_get ids at ≡ Some id → slice_get ids i ≡ Some other → nat_eq at i ≡ bytes_eq other id
variable-test ids once at i id other here there =
    elim (cases_Bool (bytes_eq other id)) [
      | inl same ↦
          let one : other ≡ id = bytes-same other id same in
          let place : at ≡ i = once at i id here (there ∙ ap Some one) in
          let test : nat_eq at i ≡ true = grind (arith, nat_tests, place) in
          test ∙ sym same
      | inr apart ↦ elim (cases_eq at i) [
        | inl place ↦
            let one : Some other ≡ Some id = sym there ∙ ap (slice_get ids) (sym place) ∙ here in
            let same : other ≡ id = cc (one) in
            absurd (true-is-false (sym (bytes-own other) ∙ ap (bytes_eq other) same ∙ apart))
        | inr other_place ↦ let test : nat_eq at i ≡ false = grind (arith, nat_tests) in test ∙ sym apart
      ]
    ]

pub variable-part : (ctx : Context) (marking : Bool) (u : Term) (id : List ℕ) (size at : ℕ) → AreDistinct ctx → IsOnce ctx.variables.ids → position (bytes_eq id) ctx.variables.ids ≡ Some at
    → IsLeaf ctx marking u (kind.Colour (variable_sort ctx at)) 1 → ((name : List ℕ) → occurs name u ≡ bytes_eq name id)
    → ((b : Binding) → meaning ctx b u ≡ one_colour (variable_sort ctx at) (b id) true)
    → length (colours_of ctx (variable_sort ctx at)) ≡ size → 0 < size → size ≤ most_colours
    → IsPart ctx marking u (leaf-of (tree.Variable size at) (kind.Colour (variable_sort ctx at)) size 1)
variable-part ctx marking u id size at distinct once found is occurring means sized some limit =
    let s = variable_sort ctx at in
    let place = placed ctx.variables.ids id at found in
    let made = tree.Variable size at in
    record {
      counted = leaf-counted ctx marking u (kind.Colour s) made size 1 is (omega arith);
      variables = λ i name there. (ap (uses_at i) (sym (tree.rolls-Variable size at)) ∙ fold-roll-Tree Bool (uses_part i) (open_tree.Variable size at))
          ∙ variable-test ctx.variables.ids once at i id name place.here there ∙ sym (occurring name);
      size = sized;
      some = some;
      limit = limit;
      closed = λ position h. absurd (none-is-some position h);
      values = λ b indices binds _.
          let read : reading indices made ≡ reading_of_parts indices (open_tree.Variable (length (colours_of ctx s)) at) =
          (ap (reading indices) (sym (tree.rolls-Variable size at)) ∙ fold-roll-Tree Reading (reading_of_parts indices) (open_tree.Variable size at))
          ∙ ap (λ n. reading_of_parts indices (open_tree.Variable n at)) (sym sized) in
          let within : at < length indices = subst (λ n. at < n) (sym binds.many) place.within in
          let agreed = (nodes-agree ctx b indices (colours_of ctx s) (once-sort _ distinct s) (subst (λ n. n ≤ most_colours) (sym sized) limit)).variable s at (b id) within (binds.each at id place.here) in
          record {
            of_kind = (subst (λ z. IsOneColour (colours_of ctx s) z (reading indices made)) (sym (means b)) (subst (IsOneColour (colours_of ctx s) (one_colour s (b id) true)) (sym read) agreed), ap (λ r. r.gross) read);
            sort = λ _. ap (λ m. m.sort) (means b);
            weight = λ _. ap (λ r. r.gross) read ∙ sym (ap (λ w. w.gross) is.weighs);
          };
    }

-- variables that are refused
pub marking-refused : (ctx : Context) (marking : Bool) (id : List ℕ) → marking ≡ true → (judged ctx marking (term.Variable id)).verdict ≡ Err (0, rule.VariableInMarking)
marking-refused ctx marking id is = ap (λ j. j.verdict) (fold-Variable (judged_part ctx marking) id) ∙ ap (λ m. at_root (variable_kind ctx m id)) is

pub unknown-refused : (ctx : Context) (marking : Bool) (id : List ℕ) → marking ≡ false → position (bytes_eq id) ctx.variables.ids ≡ None
    → (judged ctx marking (term.Variable id)).verdict ≡ Err (0, rule.UnknownVariable)
unknown-refused ctx marking id is none =
    ap (λ j. j.verdict) (fold-Variable (judged_part ctx marking) id) ∙ ap (λ m. at_root (variable_kind ctx m id)) is
    ∙ ap (λ p. at_root (at_place (Err rule.UnknownVariable) (λ at. Ok (kind.Colour (variable_sort ctx at))) p)) none

pub variable-known : (ctx : Context) (marking : Bool) (id : List ℕ) (size at : ℕ) (s : Sort) → AreDistinct ctx → IsOnce ctx.variables.ids → marking ≡ false
    → position (bytes_eq id) ctx.variables.ids ≡ Some at → s ≡ variable_sort ctx at → HasSize ctx (variable_sort ctx at) size
    → IsPart ctx marking (term.Variable id) (leaf-of (tree.Variable size at) (kind.Colour s) size 1)
variable-known ctx marking id size at s distinct once out found is sized =
    subst (λ z. IsPart ctx marking (term.Variable id) (leaf-of (tree.Variable size at) (kind.Colour z) size 1)) (sym is)
    (variable-part ctx marking (term.Variable id) id size at distinct once found
    (record {
      judges = fold-Variable (judged_part ctx marking) id ∙ ap (λ m. leaf (variable_kind ctx m id)) out ∙ ap (λ p. leaf (at_place (Err rule.UnknownVariable) (λ i. Ok (kind.Colour (variable_sort ctx i))) p)) found;
      weighs = fold-Variable (weighed_part ctx) id;
    })
    (λ name. fold-Variable (occurs_part name) id)
    (λ b. fold-Variable (meaning_part ctx b) id ∙ ap (at_place (one_colour sort.Dot (b id) false) (λ i. one_colour (variable_sort ctx i) (b id) true)) found)
    sized.is sized.some sized.limit)

-- the sort of a variable
pub sort-here : (ids : List (List ℕ)) (sorts : List Sort) (id : List ℕ) (at : ℕ) (s : Sort) → position (bytes_eq id) ids ≡ Some at → length sorts ≡ length ids → s ≡ get_or sorts at s
    → slice_get sorts at ≡ Some s
sort-here ids sorts id at s found long is = slice_get-get_or sorts at s (subst (λ n. at < n) (sym long) (placed ids id at found).within) ∙ ap Some (sym is)

pub sort-is : (ctx : Context) (at : ℕ) (s : Sort) → slice_get ctx.variables.sorts at ≡ Some s → s ≡ variable_sort ctx at
sort-is ctx at s here = sym (get_or_from_slice_get ctx.variables.sorts at s sort.Dot here)

pub has-size : (ctx : Context) (d : Domain) (s : Sort) (n : ℕ) (t : Sort) → t ≡ s → d ≡ domain_of ctx.sorts ctx.partitions → n ≡ size d.constants t → 0 < size d.constants t
    → size d.constants t ≤ most_colours → HasSize ctx s n
has-size ctx d s n t same is counted some limit =
    let whole : size d.constants t ≡ length (colours_of ctx s) = ap (λ x. size x.constants t) is ∙ ap (λ x. length (colours_of ctx x)) same in
    record {
      is = sym (counted ∙ whole);
      some = subst (λ m. 0 < m) (sym counted) some;
      limit = subst (λ m. m ≤ most_colours) (sym counted) limit;
    }

-- the dot
dot-colours : (ctx : Context) → colours_of ctx sort.Dot ≡ colour.Dot ∷ []
dot-colours ctx = ap (colours_of ctx) (sym sort.rolls-Dot) ∙ fold-roll-Sort (List Colour) (colours_of_parts (constants_of ctx.sorts)) open_sort.Dot

pub dot-sized : (ctx : Context) → HasSize ctx sort.Dot 1
dot-sized ctx = record { is = ap length (dot-colours ctx); some = omega arith; limit = omega arith }

pub dot-here : (ctx : Context) → slice_get (colours_of ctx sort.Dot) 0 ≡ Some colour.Dot
dot-here ctx = ap (λ cs. slice_get cs 0) (dot-colours ctx)

pub dot-constant : (ctx : Context) (marking : Bool) → IsConstant ctx marking term.Dot sort.Dot colour.Dot
dot-constant ctx marking = record {
  is = record { judges = fold-Dot (judged_part ctx marking); weighs = fold-Dot (weighed_part ctx) };
  closed = λ id. fold-Dot (occurs_part id);
  means = λ b. fold-Dot (meaning_part ctx b);
}

-- all colours and no colour of a sort that is found
pub every-is : (ctx : Context) (marking : Bool) (t : SortTerm) (s : Sort) → broken_rule ctx.sorts 0 t ≡ None → s ≡ sort_named ctx t → IsEvery ctx marking (term.All t) s
every-is ctx marking t s none is = subst (IsEvery ctx marking (term.All t)) (sym is) (record {
  is = record {
    judges = fold-All (judged_part ctx marking) t ∙ ap (λ b. leaf (unless_broken b (Ok (kind.Every (sort_named ctx t))))) none;
    weighs = fold-All (weighed_part ctx) t;
  };
  closed = λ id. fold-All (occurs_part id) t;
  means = λ b. fold-All (meaning_part ctx b) t;
})

pub empty-is : (ctx : Context) (marking : Bool) (t : SortTerm) (s : Sort) → broken_rule ctx.sorts 0 t ≡ None → s ≡ sort_named ctx t → IsEmpty ctx marking (term.Empty t) s
empty-is ctx marking t s none is = subst (IsEmpty ctx marking (term.Empty t)) (sym is) (record {
  is = record {
    judges = fold-Empty (judged_part ctx marking) t ∙ ap (λ b. leaf (unless_broken b (Ok (kind.Multiset (sort_named ctx t))))) none;
    weighs = fold-Empty (weighed_part ctx) t;
  };
  closed = λ id. fold-Empty (occurs_part id) t;
  means = λ b. fold-Empty (meaning_part ctx b) t;
})

pub sized-by : (ctx : Context) (s t : Sort) (size : ℕ) → s ≡ t → HasSize ctx t size → HasSize ctx s size
sized-by ctx s t size is known = subst (λ x. HasSize ctx x size) (sym is) known

pub broken-all : (ctx : Context) (marking : Bool) (t : SortTerm) (found : PartFault) → IsFound ctx t (Err found) → IsFault found (judged ctx marking (term.All t)).verdict
broken-all ctx marking t fault.Memory known = tt
broken-all ctx marking t (fault.Broken at broken) known =
    ap (λ j. j.verdict) (fold-All (judged_part ctx marking) t) ∙ ap (λ b. at_root (unless_broken b (Ok (kind.Every (sort_named ctx t))))) known.1
    ∙ ap (λ n. Err (n, broken)) (sym known.0)

pub broken-empty : (ctx : Context) (marking : Bool) (t : SortTerm) (found : PartFault) → IsFound ctx t (Err found) → IsFault found (judged ctx marking (term.Empty t)).verdict
broken-empty ctx marking t fault.Memory known = tt
broken-empty ctx marking t (fault.Broken at broken) known =
    ap (λ j. j.verdict) (fold-Empty (judged_part ctx marking) t) ∙ ap (λ b. at_root (unless_broken b (Ok (kind.Multiset (sort_named ctx t))))) known.1
    ∙ ap (λ n. Err (n, broken)) (sym known.0)

-- an element of a partition
pub element-part : (ctx : Context) (marking : Bool) (t : Term) (partition block : ℕ) → IsElement ctx marking t partition block
    → IsPart ctx marking t (record { tree = tree.Empty 1; kind = kind.Block partition; block = Some block; size = 1; gross = 1; support = 1; heavy = None; nodes = 1 })
element-part ctx marking t partition block is =
    let counted = leaf-counted ctx marking t (kind.Block partition) (tree.Empty 1) 1 1 is.is (omega arith) in
    record {
      counted = record {
        typed = counted.typed;
        nodes = counted.nodes;
        weighed_nodes = counted.weighed_nodes;
        gross_total = counted.gross_total;
        support_total = counted.support_total;
        heavy_node = counted.heavy_node;
        light = counted.light;
      };
      variables = λ at id there. (ap (uses_at at) (sym (tree.rolls-Empty 1)) ∙ fold-roll-Tree Bool (uses_part at) (open_tree.Empty 1)) ∙ sym (is.closed id);
      size = (dot-sized ctx).is;
      some = omega arith;
      limit = omega arith;
      closed = λ position h id. is.closed id;
      values = λ b indices binds _. record { of_kind = is.means b; sort = λ no. absurd (true-is-false no); weight = λ no. absurd (true-is-false no) };
    }
