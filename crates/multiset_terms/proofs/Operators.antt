-- What ids and numbers stand for.
use Rattle.std.proofs.Common.{◌≡◌, ℕ, zero, suc, ◌+◌, ◌<◌, ◌≤◌, ◌^◌, inl, inr, Bool, true, false, List, [], ◌∷◌, ℤ, length, map, refl, sym, ap, ◌∙◌, subst, arith, Option, None, Some}
use Rattle.std.specs.Option.{option_map}
use Rattle.std.specs.Ordering.{int_eq}
use Rattle.std.specs.Prelude.{Ok, Err, IfSome, ◌&&◌, ◌||◌, int_le, position, slice_get}
use Rattle.std.specs.List.{list_any, position_or_len}
use Rattle.std.specs.Str.{bytes_eq}
use Rattle.std.proofs.Math.Path.{fun_ext}
use Rattle.std.proofs.lemmas.List.{length-map}
use Rattle.std.proofs.lemmas.Bool.Decides.{Decides-int_eq}
use Rattle.std.proofs.lemmas.List.Quantifiers.{position-Some}
use Rattle.std.proofs.lemmas.Option.{slice_get-map, slice_get_within}
use Rattle.name_tables.proofs.Places.{position_some, position-map}
use Rattle.colour_sorts.specs.declared.rules.Rule.{Rule}
use Rattle.colour_sorts.specs.declared.rules.Rule.TheVariants as rule
use Rattle.colour_sorts.specs.declared.sorts.Colour.TheVariants as colour
use Rattle.colour_sorts.specs.declared.sorts.Declared.{Declared}
use Rattle.colour_sorts.specs.declared.sorts.Declared.TheVariants as declared
use Rattle.colour_sorts.specs.declared.sorts.Sort.{Sort}
use Rattle.colour_sorts.specs.declared.sorts.Sort.TheVariants as sort
use Rattle.net_model.specs.declared.sorts.NamedSort.{NamedSort}
use Rattle.net_model.specs.declared.sorts.Partition.{Partition}
use Rattle.net_model.specs.declared.sorts.SortTerm.{SortTerm, out-SortTerm, map-SortTerm, roll-out-SortTerm, fold-roll-SortTerm}
use Rattle.net_model.specs.declared.sorts.SortTerm.TheOpen as layer
use Rattle.net_model.specs.declared.sorts.SortTerm.TheVariants as written
use Rattle.colour_sorts.specs.Calls.{declared_in, group_of, place_in, sort_at}
use Rattle.colour_sorts.specs.Colours.{colours, colours_of_parts, constants_at, size}
use Rattle.net_model.specs.Ids.{constants_in, constants_in_layer, constants_of, element_ids}
use Rattle.colour_sorts.specs.Domain.{Domain, before, fault_at, Fault, first_fault, sort_fault_from}
use Rattle.colour_sorts.specs.Domain as domains
use Rattle.colour_sorts.specs.Held.{IsEnumeration}
use Rattle.colour_sorts.specs.Naming.{broken_rule, sort_by, sort_by_part, sort_of, term_at}
use Rattle.net_model.specs.declared.sorts.Span.{Span}
use Rattle.colour_sorts.specs.Colours.{span_numbers}
use Rattle.colour_sorts.specs.Places.{IsPlace}
use Rattle.colour_sorts.proofs.Folds.{Number-injective}
use Rattle.net_model.proofs.Layers.{term-Range}
use Rattle.colour_sorts.proofs.Layers.{at-Cyclic, at-Listed, at-Range}
use Rattle.colour_sorts.proofs.Members.{number-place}
use Rattle.colour_sorts.proofs.PlacesIn.{slice_get-mapped}
use Rattle.colour_sorts.proofs.Resolved.{sorts_from-at}
use Rattle.colour_sorts.proofs.Sizes.{unbroken-size}
use Rattle.colour_sorts.proofs.Walks.{constants-at, term-at}
use Rattle.multiset_terms.specs.declared.kinds.Kind.TheVariants as kind
use Rattle.net_model.specs.declared.terms.Term.TheVariants as term
use Rattle.multiset_terms.specs.Context.{Context, Declarations}
use Rattle.multiset_terms.specs.declared.faults.PartFault.{PartFault}
use Rattle.multiset_terms.specs.declared.faults.PartFault.TheVariants as fault
use Rattle.multiset_terms.specs.Parts.{IsConstant, IsElement, IsFault, IsFound, IsScope}
use Rattle.multiset_terms.specs.Standing.{occurs_part}
use Rattle.multiset_terms.specs.Typing as typing
use Rattle.multiset_terms.specs.Typing.{at_place, at_root, constant_place, element_place, judged, judged_part, leaf, number_kind, sort_named, unless_broken, wants}
use Rattle.multiset_terms.specs.Values.{colours_of, element_at, meaning_part, one_block, one_colour}
use Rattle.multiset_terms.specs.Weights.{weighed_part}
use Rattle.multiset_terms.proofs.Asked.{unbroken}
use Rattle.multiset_terms.proofs.Blocks.{element-position}
use Rattle.net_model.proofs.Layers.{fold-Number, fold-Operator}
use Rattle.multiset_terms.proofs.LeafMakers.{placed}

-- the constant or the element that an id is found as
pub record IsFoundConstant (d : Domain) (id : List ℕ) (s : Sort) (index : ℕ) : Type 0 where
  pub at : ℕ
  pub place : group_of d.constants id ≡ Some at
  pub sort : s ≡ sort_at d.sorts at
  pub index_is : index ≡ place_in d.constants at id

pub record IsFoundElement (d : Domain) (id : List ℕ) (partition block : ℕ) : Type 0 where
  pub other : group_of d.constants id ≡ None
  pub place : group_of d.elements id ≡ Some partition
  pub block_is : block ≡ place_in d.elements partition id

pub record IsFoundNowhere (d : Domain) (id : List ℕ) : Type 0 where
  pub constants : group_of d.constants id ≡ None
  pub elements : group_of d.elements id ≡ None

abbrev found_by : Domain → List ℕ → Option ℕ → Option ℕ → Option Declared
found_by d id first second =
    at_place (at_place None (λ at. Some (declared.Block at (place_in d.elements at id))) second) (λ at. Some (declared.Constant (sort_at d.sorts at) (place_in d.constants at id))) first

pub constant-found : (d : Domain) (id : List ℕ) (s : Sort) (index : ℕ) → Some (declared.Constant s index) ≡ declared_in d id → IsFoundConstant d id s index
constant-found d id s index = by (group_of d.constants id) (group_of d.elements id) refl
  where
    by : (first second : Option ℕ) → group_of d.constants id ≡ first → Some (declared.Constant s index) ≡ found_by d id first second → IsFoundConstant d id s index
    by None None e is = absurd (cc)
    by None (Some at) e is = absurd (cc)
    by (Some at) second e is = record { at = at; place = e; sort = cc; index_is = cc }

pub element-found : (d : Domain) (id : List ℕ) (partition block : ℕ) → Some (declared.Block partition block) ≡ declared_in d id → IsFoundElement d id partition block
element-found d id partition block = by (group_of d.constants id) (group_of d.elements id) refl refl
  where
    by : (first second : Option ℕ) → group_of d.constants id ≡ first → group_of d.elements id ≡ second → Some (declared.Block partition block) ≡ found_by d id first second
        → IsFoundElement d id partition block
    by None None e f is = absurd (cc)
    by None (Some at) e f is = let same : at ≡ partition = cc (is) in record {
      other = e;
      place = f ∙ ap Some same;
      block_is = (let own : block ≡ place_in d.elements at id = cc (is) in own ∙ ap (λ n. place_in d.elements n id) same);
    }
    by (Some at) second e f is = absurd (cc)

pub nowhere-found : (d : Domain) (id : List ℕ) → None ≡ declared_in d id → IsFoundNowhere d id
nowhere-found d id = by (group_of d.constants id) (group_of d.elements id) refl refl
  where
    by : (first second : Option ℕ) → group_of d.constants id ≡ first → group_of d.elements id ≡ second → None ≡ found_by d id first second → IsFoundNowhere d id
    by None None e f is = record { constants = e; elements = f }
    by None (Some at) e f is = absurd (cc)
    by (Some at) second e f is = absurd (cc)

-- the places of constants and elements
any-images : {X Y : Type 0} (p : Y → Bool) (f : X → Y) (xs : List X) → list_any p (map f xs) ≡ list_any (λ x. p (f x)) xs
any-images p f [] = refl
any-images p f (x ∷ xs) = ap (λ b. p (f x) || b) (any-images p f xs)

any-ids : (id : List ℕ) (p : Partition) → list_any (bytes_eq id) (element_ids p) ≡ list_any (λ element. bytes_eq id element.id) p.elements
any-ids id p = any-images (bytes_eq id) (λ element. element.id) p.elements

pub element-here : (ctx : Context) (d : Domain) (v : Declarations) (id : List ℕ) → IsScope ctx d v → group_of d.elements id ≡ element_place ctx id
element-here ctx d v id scope =
    ap (λ x. group_of x.elements id) scope.domain.is
    ∙ position-map element_ids (list_any (bytes_eq id)) ctx.partitions
    ∙ ap (λ test. position test ctx.partitions) (fun_ext (any-ids id))

pub constant-here : (ctx : Context) (d : Domain) (v : Declarations) (id : List ℕ) → IsScope ctx d v → group_of d.constants id ≡ constant_place ctx id
constant-here ctx d v id scope = ap (λ x. group_of x.constants id) scope.domain.is

-- the enumeration of a constant
none-before : (id : List ℕ) (o : Option Rule) (more : Option Fault) → before (fault_at id o) more ≡ None → (o ≡ None) × (more ≡ None)
none-before id None more h = (refl, h)
none-before id (Some broken) more h = absurd (cc)

first-none : (first second : Option Fault) → before first second ≡ None → first ≡ None
first-none None second h = refl
first-none (Some fault) second h = absurd (cc)

sound-from : (sorts rest : List NamedSort) (from at : ℕ) → sort_fault_from sorts from rest ≡ None → at < length rest → broken_rule sorts (from + at) (term_at rest at) ≡ None
sound-from sorts [] from at sound within = absurd (omega (arith, within))
sound-from sorts (s ∷ rest) from zero sound within =
    let e : from + 0 ≡ from = omega arith in ap (λ k. broken_rule sorts k s.sort) e ∙ (none-before s.id (broken_rule sorts from s.sort) _ sound).0
sound-from sorts (s ∷ rest) from (suc at) sound within =
    let e : from + suc at ≡ from + 1 + at = omega arith in
    ap (λ k. broken_rule sorts k (term_at rest at)) e
    ∙ sound-from sorts rest (from + 1) at (none-before s.id (broken_rule sorts from s.sort) _ sound).1 (omega (arith, within))

enumerated : (t : SortTerm) (named : List ℕ → Sort) (at : ℕ) → 0 < length (constants_in t) → IsEnumeration (sort_by named at t) at
enumerated t named at some =
    subst (λ u. IsEnumeration (sort_by named at u) at) (roll-out-SortTerm t)
    (subst (λ s. IsEnumeration s at) (sym (fold-roll-SortTerm Sort (sort_by_part named at) (out-SortTerm t))) (by (out-SortTerm t) some))
  where
    by : (y : layer.SortTerm-F SortTerm) → 0 < length (constants_in_layer y) → IsEnumeration (sort_by_part named at (map-SortTerm SortTerm Sort (sort_by named at) y)) at
    by layer.Dot some = absurd (omega (arith, some))
    by (layer.Named id) some = absurd (omega (arith, some))
    by (layer.Product parts) some = absurd (omega (arith, some))
    by (layer.Range span) some = absurd (omega (arith, some))
    by (layer.Listed names) some = inl refl
    by (layer.Cyclic names) some = inr refl

enumeration-colours : (constants : List (List (List ℕ))) (s : Sort) (at : ℕ) → IsEnumeration s at → colours constants s ≡ map colour.Constant (constants_at constants at)
enumeration-colours constants s at (inl is) = ap (colours constants) is ∙ at-Listed (colours_of_parts constants) at
enumeration-colours constants s at (inr is) = ap (colours constants) is ∙ at-Cyclic (colours_of_parts constants) at

pub record IsDeclaredAt (ctx : Context) (d : Domain) (id : List ℕ) (at : ℕ) : Type 0 where
  pub sort : sort_at d.sorts at ≡ typing.sort_at ctx at
  pub sized : (0 < size d.constants (sort_at d.sorts at)) × (size d.constants (sort_at d.sorts at) ≤ 2 ^ 20)
  pub here : slice_get (colours_of ctx (typing.sort_at ctx at)) (place_in d.constants at id) ≡ Some (colour.Constant id)

nothing : NamedSort
nothing = record { id = []; sort = written.Dot }

some-there : (xs : List (List ℕ)) (id : List ℕ) → list_any (bytes_eq id) xs ≡ true → slice_get xs (position_or_len (bytes_eq id) xs) ≡ Some id
some-there xs id some = (placed xs id (position_or_len (bytes_eq id) xs) (position_some (bytes_eq id) xs some)).here

pub declared-at : (ctx : Context) (d : Domain) (id : List ℕ) (at : ℕ) → domains.StandsFor d ctx.sorts ctx.partitions → group_of d.constants id ≡ Some at → IsDeclaredAt ctx d id at
declared-at ctx d id at stands found =
    let constants = constants_of ctx.sorts in
    let known = position-Some (list_any (bytes_eq id)) constants at [] (sym (ap (λ x. group_of x.constants id) stands.is) ∙ found) in
    let within : at < length ctx.sorts = omega (arith, known.0, length-map ctx.sorts (λ s. constants_in s.sort)) in
    let names = constants_at constants at in
    let there = some-there names id known.1 in
    let some : 0 < length names = omega (arith, slice_get_within names _ id there) in
    let own : names ≡ constants_in (term_at ctx.sorts at) = constants-at ctx.sorts at nothing within ∙ ap constants_in (sym (term-at ctx.sorts at nothing within)) in
    let s = typing.sort_at ctx at in
    let enumeration : IsEnumeration s at = enumerated (term_at ctx.sorts at) _ at (subst (λ xs. 0 < length xs) own some) in
    let plain : 0 + at ≡ at = omega arith in
    let same : sort_at d.sorts at ≡ s = ap (λ x. sort_at x.sorts at) stands.is ∙ sorts_from-at ctx.sorts 0 ctx.sorts at within ∙ ap (λ k. sort_of ctx.sorts k (term_at ctx.sorts at)) plain in
    let sound : broken_rule ctx.sorts at (term_at ctx.sorts at) ≡ None = ap (λ k. broken_rule ctx.sorts k (term_at ctx.sorts at)) (sym plain) ∙ sound-from ctx.sorts ctx.sorts 0 at (first-none _ _ stands.sound) within in
    record {
      sort = same;
      sized = subst (λ n. (0 < n) × (n ≤ 2 ^ 20)) (sym (ap (λ x. size x.constants (sort_at d.sorts at)) stands.is ∙ ap (size constants) same))
          (unbroken-size constants s (unbroken ctx.sorts at (term_at ctx.sorts at) sound));
      here = ap (λ x. slice_get (colours_of ctx s) (place_in x.constants at id)) stands.is
          ∙ ap (λ cs. slice_get cs (place_in constants at id)) (enumeration-colours constants s at enumeration)
          ∙ slice_get-map colour.Constant names (place_in constants at id) ∙ ap (option_map colour.Constant) there;
    }

pub constant-is : (ctx : Context) (d : Domain) (v : Declarations) (marking : Bool) (id : List ℕ) (at : ℕ) → IsScope ctx d v → group_of d.constants id ≡ Some at
    → IsConstant ctx marking (term.Operator id) (typing.sort_at ctx at) (colour.Constant id)
constant-is ctx d v marking id at scope found =
    let here = sym (constant-here ctx d v id scope) ∙ found in
    record {
      is = record {
        judges = fold-Operator (judged_part ctx marking) id
            ∙ ap (λ p. leaf (at_place (at_place (Err rule.UnknownOperator) (λ i. Ok (kind.Block i)) (element_place ctx id)) (λ i. Ok (kind.Colour (typing.sort_at ctx i))) p)) here;
        weighs = fold-Operator (weighed_part ctx) id;
      };
      closed = λ name. fold-Operator (occurs_part name) id;
      means = λ b. fold-Operator (meaning_part ctx b) id
          ∙ ap (at_place (at_place (one_block 0 false) (λ i. one_block (element_at ctx id i) true) (element_place ctx id)) (λ i. one_colour (typing.sort_at ctx i) (colour.Constant id) true)) here;
    }

pub unknown-operator : (ctx : Context) (d : Domain) (v : Declarations) (marking : Bool) (id : List ℕ) → IsScope ctx d v → IsFoundNowhere d id
    → (judged ctx marking (term.Operator id)).verdict ≡ Err (0, rule.UnknownOperator)
unknown-operator ctx d v marking id scope nowhere =
    ap (λ j. j.verdict) (fold-Operator (judged_part ctx marking) id)
    ∙ ap (λ p. at_root (at_place (at_place (Err rule.UnknownOperator) (λ i. Ok (kind.Block i)) (element_place ctx id)) (λ i. Ok (kind.Colour (typing.sort_at ctx i))) p)) (sym (constant-here ctx d v id scope) ∙ nowhere.constants)
    ∙ ap (λ p. at_root (at_place (Err rule.UnknownOperator) (λ i. Ok (kind.Block i)) p)) (sym (element-here ctx d v id scope) ∙ nowhere.elements)

pub element-is : (ctx : Context) (d : Domain) (v : Declarations) (marking : Bool) (id : List ℕ) (partition block : ℕ) → IsScope ctx d v → IsFoundElement d id partition block
    → IsElement ctx marking (term.Operator id) partition block
element-is ctx d v marking id partition block scope found = record {
  is = record {
    judges = fold-Operator (judged_part ctx marking) id
        ∙ ap (λ p. leaf (at_place (at_place (Err rule.UnknownOperator) (λ i. Ok (kind.Block i)) (element_place ctx id)) (λ i. Ok (kind.Colour (typing.sort_at ctx i))) p)) (sym (constant-here ctx d v id scope) ∙ found.other)
        ∙ ap (λ p. leaf (at_place (Err rule.UnknownOperator) (λ i. Ok (kind.Block i)) p)) (sym (element-here ctx d v id scope) ∙ found.place);
    weighs = fold-Operator (weighed_part ctx) id;
  };
  means = λ b. ap (λ m. m.block) (fold-Operator (meaning_part ctx b) id)
      ∙ ap (λ p. (at_place (at_place (one_block 0 false) (λ i. one_block (element_at ctx id i) true) (element_place ctx id)) (λ i. one_colour (typing.sort_at ctx i) (colour.Constant id) true) p).block) (sym (constant-here ctx d v id scope) ∙ found.other)
      ∙ ap (λ p. (at_place (one_block 0 false) (λ i. one_block (element_at ctx id i) true) p).block) (sym (element-here ctx d v id scope) ∙ found.place)
      ∙ sym (element-position ctx id partition (sym (ap (λ x. group_of x.elements id) scope.domain.is) ∙ found.place))
      ∙ sym (ap (λ x. place_in x.elements partition id) scope.domain.is) ∙ sym found.block_is;
  closed = λ name. fold-Operator (occurs_part name) id;
}

-- numbers of ranges
IsPlace-unmap : {X Y : Type 0} (f : X → Y) → ((a b : X) → f a ≡ f b → a ≡ b) → (xs : List X) (x : X) (place : Option ℕ) → IsPlace (map f xs) (f x) place → IsPlace xs x place
IsPlace-unmap f injective xs x place known = record {
  found = found place known.found;
  only = λ at e. known.only at (slice_get-map f xs at ∙ ap (option_map f) e);
}
  where
    found : (place : Option ℕ) → IfSome place (λ at. slice_get (map f xs) at ≡ Some (f x)) → IfSome place (λ at. slice_get xs at ≡ Some x)
    found None h = tt
    found (Some at) h = let image = slice_get-mapped f xs at (f x) h in image.1 ∙ ap Some (injective image.0 x image.2)

range-colours : (constants : List (List (List ℕ))) (span : Span) → colours constants (sort.Range span) ≡ map colour.Number (span_numbers span)
range-colours constants span = at-Range (colours_of_parts constants) span

range-named : (ctx : Context) (span : Span) → sort_named ctx (written.Range span) ≡ sort.Range span
range-named ctx span = term-Range (sort_by_part _ 0) span

own-tests : (span : Span) (first last : Bool) → (int_eq span.first span.first && int_eq span.last span.last && first && last) ≡ (first && last)
own-tests span first last = rw ((Decides-int_eq span.first span.first).1 refl, (Decides-int_eq span.last span.last).1 refl) refl

placed-number : (constants : List (List (List ℕ))) (s : Sort) (span : Span) (value : ℤ) (place : Option ℕ) → s ≡ sort.Range span
    → IsPlace (colours constants s) (colour.Number value) place → IsPlace (span_numbers span) value place
placed-number constants s span value place is known =
    IsPlace-unmap colour.Number Number-injective (span_numbers span) value place
    (subst (λ cs. IsPlace cs (colour.Number value) place) (ap (colours constants) is ∙ range-colours constants span) known)

pub number-in : (ctx : Context) (s : Sort) (span : Span) (value : ℤ) (index : ℕ) → s ≡ sort_named ctx (written.Range span) → IsPlace (colours_of ctx s) (colour.Number value) (Some index)
    → (int_le span.first value && int_le value span.last) ≡ true
number-in ctx s span value index is known =
    sym (own-tests span (int_le span.first value) (int_le value span.last)) ∙ (number-place span value (Some index) (placed-number (constants_of ctx.sorts) s span value (Some index) (is ∙ range-named ctx span) known)).0

pub number-out : (ctx : Context) (s : Sort) (span : Span) (value : ℤ) → s ≡ sort_named ctx (written.Range span) → IsPlace (colours_of ctx s) (colour.Number value) None
    → (int_le span.first value && int_le value span.last) ≡ false
number-out ctx s span value is known =
    sym (own-tests span (int_le span.first value) (int_le value span.last)) ∙ number-place span value None (placed-number (constants_of ctx.sorts) s span value None (is ∙ range-named ctx span) known)

pub number-is : (ctx : Context) (marking : Bool) (s : Sort) (span : Span) (value : ℤ) → s ≡ sort_named ctx (written.Range span) → broken_rule ctx.sorts 0 (written.Range span) ≡ None
    → (int_le span.first value && int_le value span.last) ≡ true → IsConstant ctx marking (term.Number value span) s (colour.Number value)
number-is ctx marking s span value is sound inside =
    subst (λ z. IsConstant ctx marking (term.Number value span) z (colour.Number value)) (sym (is ∙ range-named ctx span)) (record {
      is = record {
        judges = fold-Number (judged_part ctx marking) value span
            ∙ ap (λ b. leaf (unless_broken b (wants (int_le span.first value && int_le value span.last) rule.RangeConstant (Ok (kind.Colour (sort.Range span)))))) sound
            ∙ ap (λ test. leaf (wants test rule.RangeConstant (Ok (kind.Colour (sort.Range span))))) inside;
        weighs = fold-Number (weighed_part ctx) value span;
      };
      closed = λ name. fold-Number (occurs_part name) value span;
      means = λ b. fold-Number (meaning_part ctx b) value span;
    })

pub number-refused : (ctx : Context) (marking : Bool) (span : Span) (value : ℤ) → broken_rule ctx.sorts 0 (written.Range span) ≡ None
    → (int_le span.first value && int_le value span.last) ≡ false → (judged ctx marking (term.Number value span)).verdict ≡ Err (0, rule.RangeConstant)
number-refused ctx marking span value sound outside =
    ap (λ j. j.verdict) (fold-Number (judged_part ctx marking) value span)
    ∙ ap (λ b. at_root (unless_broken b (wants (int_le span.first value && int_le value span.last) rule.RangeConstant (Ok (kind.Colour (sort.Range span)))))) sound
    ∙ ap (λ test. at_root (wants test rule.RangeConstant (Ok (kind.Colour (sort.Range span))))) outside

pub broken-number : (ctx : Context) (marking : Bool) (span : Span) (value : ℤ) (found : PartFault) → IsFound ctx (written.Range span) (Err found) → IsFault found (judged ctx marking (term.Number value span)).verdict
broken-number ctx marking span value fault.Memory known = tt
broken-number ctx marking span value (fault.Broken at broken) known =
    ap (λ j. j.verdict) (fold-Number (judged_part ctx marking) value span)
    ∙ ap (λ b. at_root (unless_broken b (wants (int_le span.first value && int_le value span.last) rule.RangeConstant (Ok (kind.Colour (sort.Range span)))))) known.1
    ∙ ap (λ n. Err (n, broken)) (sym known.0)
