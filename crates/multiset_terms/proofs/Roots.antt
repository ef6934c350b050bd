-- What is no block means no block, and a block means no colour.
use Rattle.std.proofs.Common.{◌≡◌, ℕ, Bool, true, false, List, [], ◌∷◌, map, refl, sym, ap, ◌∙◌, subst, Option, None, Some}
use Rattle.std.specs.Prelude.{Result, Ok, Err, not, ◌&&◌, int_le, position, if◌then◌else◌}
use Rattle.std.specs.List.{list_all}
use Rattle.std.specs.Str.{bytes_eq}
use Rattle.std.proofs.lemmas.Bool.{false≢true}
use Rattle.colour_sorts.specs.declared.rules.Rule.{Rule}
use Rattle.colour_sorts.specs.declared.rules.Rule.TheVariants as rule
use Rattle.colour_sorts.specs.declared.sorts.Colour.TheVariants as colour
use Rattle.colour_sorts.specs.declared.sorts.Sort.TheVariants as sort
use Rattle.net_model.specs.declared.sorts.SortTerm.TheVariants as written
use Rattle.colour_sorts.specs.Dividing.{block_with}
use Rattle.colour_sorts.specs.Limits.{passes_limit}
use Rattle.net_model.specs.Ids.{constants_of}
use Rattle.colour_sorts.specs.Naming.{broken_rule}
use Rattle.colour_sorts.specs.Comparing.{is_same_sort}
use Rattle.multiset_terms.specs.declared.kinds.Kind.{Kind}
use Rattle.multiset_terms.specs.declared.kinds.Kind.TheVariants as kind
use Rattle.net_model.specs.declared.terms.Term.{Term, map-Term, out-Term, roll-out-Term, fold-roll-Term}
use Rattle.net_model.specs.declared.terms.Term.TheOpen as layer
use Rattle.multiset_terms.specs.Context.{Context}
use Rattle.multiset_terms.specs.Typing as typing
use Rattle.multiset_terms.specs.Typing.{Broken, Judged, at_place, at_root, block_kind_at, children, constant_place, element_place, is_block, is_choice, is_colour, is_cyclic, judged, judged_part, looked_at, partition_place, partition_sort, product_of, sort_named, sort_of_kind, step_kind, sum_kind, tuple_kind, type_of, unless_broken, variable_sort, wants}
use Rattle.multiset_terms.specs.Values.{Binding, Meaning, blocks_at, element_at, meaning, meaning_part, one_block, one_colour}

pub record IsApart (k : Kind) (m : Meaning) : Type 0 where
  pub no_block : is_block k ≡ false → m.block ≡ 0
  pub no_colour : is_block k ≡ true → m.colour ≡ colour.Dot

no-block : (k : Kind) (m : Meaning) → is_block k ≡ false → m.block ≡ 0 → IsApart k m
no-block k m is none = record { no_block = λ _. none; no_colour = λ h. absurd (false≢true (sym is ∙ h)) }

a-block : (k : Kind) (m : Meaning) → is_block k ≡ true → m.colour ≡ colour.Dot → IsApart k m
a-block k m is none = record { no_block = λ h. absurd (false≢true (sym h ∙ is)); no_colour = λ _. none }

-- the kinds of nodes
told-kind : (found k : Kind) (block : Bool) → is_block found ≡ block → at_root (Ok found) ≡ Ok k → is_block k ≡ block
told-kind found k block is h = let same : found ≡ k = cc (h) in sym (ap is_block same) ∙ is

wanted-kind : (test : Bool) (broken : Rule) (found k : Kind) → at_root (wants test broken (Ok found)) ≡ Ok k → is_block k ≡ is_block found
wanted-kind true broken found k h = told-kind found k (is_block found) refl h
wanted-kind false broken found k h = absurd (cc)

unbroken-kind : (o : Option Rule) (found k : Kind) → at_root (unless_broken o (Ok found)) ≡ Ok k → is_block k ≡ is_block found
unbroken-kind None found k h = told-kind found k (is_block found) refl h
unbroken-kind (Some broken) found k h = absurd (cc)

number-kind : (o : Option Rule) (test : Bool) (found k : Kind) → at_root (unless_broken o (wants test rule.RangeConstant (Ok found))) ≡ Ok k → is_block k ≡ is_block found
number-kind None test found k h = wanted-kind test rule.RangeConstant found k h
number-kind (Some broken) test found k h = absurd (cc)

step-kind : (found : Result (List Kind) Broken) (k : Kind) → looked_at step_kind found ≡ Ok k → is_block k ≡ false
step-kind (Err broken) k h = absurd (cc)
step-kind (Ok []) k h = absurd (cc)
step-kind (Ok (kind.Colour s ∷ [])) k h = wanted-kind (is_cyclic s) rule.NotCyclic (kind.Colour s) k h
step-kind (Ok (kind.Every s ∷ [])) k h = absurd (cc)
step-kind (Ok (kind.Multiset s ∷ [])) k h = absurd (cc)
step-kind (Ok (kind.Block at ∷ [])) k h = absurd (cc)
step-kind (Ok (kind.Colour s ∷ other ∷ more)) k h = absurd (cc)
step-kind (Ok (kind.Every s ∷ other ∷ more)) k h = absurd (cc)
step-kind (Ok (kind.Multiset s ∷ other ∷ more)) k h = absurd (cc)
step-kind (Ok (kind.Block at ∷ other ∷ more)) k h = absurd (cc)

tuple-kind : (ctx : Context) (found : Result (List Kind) Broken) (k : Kind) → looked_at (tuple_kind ctx) found ≡ Ok k → is_block k ≡ false
tuple-kind ctx (Err broken) k h = absurd (cc)
tuple-kind ctx (Ok kinds) k h = by (list_all is_choice kinds) (not (passes_limit (constants_of ctx.sorts) (product_of kinds))) (list_all is_colour kinds) h
  where
    by : (a b c : Bool) → at_root (wants a rule.NotAColour (wants b rule.DomainLimit (Ok (if c then kind.Colour (product_of kinds) else kind.Multiset (product_of kinds))))) ≡ Ok k → is_block k ≡ false
    by true b true h = wanted-kind b rule.DomainLimit (kind.Colour (product_of kinds)) k h
    by true b false h = wanted-kind b rule.DomainLimit (kind.Multiset (product_of kinds)) k h
    by false b c h = absurd (cc)

sum-kind : (found : Result (List Kind) Broken) (k : Kind) → looked_at sum_kind found ≡ Ok k → is_block k ≡ false
sum-kind (Err broken) k h = absurd (cc)
sum-kind (Ok []) k h = absurd (cc)
sum-kind (Ok (first ∷ others)) k h = by (list_all (λ x. not (is_block x)) (first ∷ others)) h
  where
    by : (a : Bool) → at_root (wants a rule.NotAMultiset (wants (list_all (λ x. is_same_sort (sort_of_kind first) (sort_of_kind x)) others) rule.SortsDiffer (Ok (kind.Multiset (sort_of_kind first))))) ≡ Ok k → is_block k ≡ false
    by true h = wanted-kind (list_all (λ x. is_same_sort (sort_of_kind first) (sort_of_kind x)) others) rule.SortsDiffer (kind.Multiset (sort_of_kind first)) k h
    by false h = absurd (cc)

block-kind : (ctx : Context) (place : Option ℕ) (found : Result (List Kind) Broken) (k : Kind)
    → looked_at (λ kinds. at_place (Err rule.UnknownPartition) (λ at. block_kind_at ctx at kinds) place) found ≡ Ok k → is_block k ≡ true
block-kind ctx place (Err broken) k h = absurd (cc)
block-kind ctx None (Ok kinds) k h = absurd (cc)
block-kind ctx (Some at) (Ok []) k h = absurd (cc)
block-kind ctx (Some at) (Ok (kind.Colour s ∷ [])) k h = wanted-kind (is_same_sort s (partition_sort ctx at)) rule.SortsDiffer (kind.Block at) k h
block-kind ctx (Some at) (Ok (kind.Every s ∷ [])) k h = absurd (cc)
block-kind ctx (Some at) (Ok (kind.Multiset s ∷ [])) k h = absurd (cc)
block-kind ctx (Some at) (Ok (kind.Block other ∷ [])) k h = absurd (cc)
block-kind ctx (Some at) (Ok (kind.Colour s ∷ other ∷ more)) k h = absurd (cc)
block-kind ctx (Some at) (Ok (kind.Every s ∷ other ∷ more)) k h = absurd (cc)
block-kind ctx (Some at) (Ok (kind.Multiset s ∷ other ∷ more)) k h = absurd (cc)
block-kind ctx (Some at) (Ok (kind.Block other ∷ next ∷ more)) k h = absurd (cc)

-- leaves by the places that are found
variable-apart : (ctx : Context) (b : Binding) (id : List ℕ) (marking : Bool) (place : Option ℕ) (k : Kind)
    → at_root (if marking then Err rule.VariableInMarking else at_place (Err rule.UnknownVariable) (λ at. Ok (kind.Colour (variable_sort ctx at))) place) ≡ Ok k
    → IsApart k (at_place (one_colour sort.Dot (b id) false) (λ at. one_colour (variable_sort ctx at) (b id) true) place)
variable-apart ctx b id true place k h = absurd (cc)
variable-apart ctx b id false None k h = absurd (cc)
variable-apart ctx b id false (Some at) k h = no-block k _ (told-kind (kind.Colour (variable_sort ctx at)) k false refl h) refl

operator-apart : (ctx : Context) (id : List ℕ) (first second : Option ℕ) (k : Kind)
    → at_root (at_place (at_place (Err rule.UnknownOperator) (λ at. Ok (kind.Block at)) second) (λ at. Ok (kind.Colour (typing.sort_at ctx at))) first) ≡ Ok k
    → IsApart k (at_place (at_place (one_block 0 false) (λ at. one_block (element_at ctx id at) true) second) (λ at. one_colour (typing.sort_at ctx at) (colour.Constant id) true) first)
operator-apart ctx id None None k h = absurd (cc)
operator-apart ctx id None (Some at) k h = a-block k _ (told-kind (kind.Block at) k true refl h) refl
operator-apart ctx id (Some at) second k h = no-block k _ (told-kind (kind.Colour (typing.sort_at ctx at)) k false refl h) refl

no-colour : (ctx : Context) (m : Meaning) (place : Option ℕ) → (at_place (one_block 0 false) (λ at. one_block (block_with (blocks_at ctx at) m.colour) m.is_defined) place).colour ≡ colour.Dot
no-colour ctx m None = refl
no-colour ctx m (Some at) = refl

apart-layer : (ctx : Context) (marking : Bool) (b : Binding) (y : layer.Term-F Term) (k : Kind) → (judged_part ctx marking (map-Term Term (Judged Kind) (judged ctx marking) y)).verdict ≡ Ok k
    → IsApart k (meaning_part ctx b (map-Term Term Meaning (meaning ctx b) y))
apart-layer ctx marking b (layer.Variable id) k h = variable-apart ctx b id marking (position (bytes_eq id) ctx.variables.ids) k h
apart-layer ctx marking b (layer.Operator id) k h = operator-apart ctx id (constant_place ctx id) (element_place ctx id) k h
apart-layer ctx marking b layer.Dot k h = no-block k _ (told-kind (kind.Colour sort.Dot) k false refl h) refl
apart-layer ctx marking b (layer.Number value span) k h =
    no-block k _ (number-kind (broken_rule ctx.sorts 0 (written.Range span)) (int_le span.first value && int_le value span.last) (kind.Colour (sort.Range span)) k h) refl
apart-layer ctx marking b (layer.Successor c) k h = no-block k _ (step-kind (children 1 (judged ctx marking c ∷ [])) k h) refl
apart-layer ctx marking b (layer.Predecessor c) k h = no-block k _ (step-kind (children 1 (judged ctx marking c ∷ [])) k h) refl
apart-layer ctx marking b (layer.Tuple cs) k h = no-block k _ (tuple-kind ctx (children 1 (map (judged ctx marking) cs)) k h) refl
apart-layer ctx marking b (layer.All t) k h = no-block k _ (unbroken-kind (broken_rule ctx.sorts 0 t) (kind.Every (sort_named ctx t)) k h) refl
apart-layer ctx marking b (layer.Empty t) k h = no-block k _ (unbroken-kind (broken_rule ctx.sorts 0 t) (kind.Multiset (sort_named ctx t)) k h) refl
apart-layer ctx marking b (layer.NumberOf number c) k h = no-block k _ (sum-kind (children 1 (judged ctx marking c ∷ [])) k h) refl
apart-layer ctx marking b (layer.Scalar number c) k h = no-block k _ (sum-kind (children 1 (judged ctx marking c ∷ [])) k h) refl
apart-layer ctx marking b (layer.Add cs) k h = no-block k _ (sum-kind (children 1 (map (judged ctx marking) cs)) k h) refl
apart-layer ctx marking b (layer.Subtract whole part) k h = no-block k _ (sum-kind (children 1 (judged ctx marking whole ∷ judged ctx marking part ∷ [])) k h) refl
apart-layer ctx marking b (layer.BlockOf id c) k h =
    a-block k _ (block-kind ctx (partition_place ctx id) (children 1 (judged ctx marking c ∷ [])) k h) (no-colour ctx (meaning ctx b c) (partition_place ctx id))

pub term-apart : (ctx : Context) (marking : Bool) (b : Binding) (t : Term) (k : Kind) → type_of ctx marking t ≡ Ok k → IsApart k (meaning ctx b t)
term-apart ctx marking b t k typed =
    subst (λ u. type_of ctx marking u ≡ Ok k → IsApart k (meaning ctx b u)) (roll-out-Term t)
    (λ is. subst (IsApart k) (sym (fold-roll-Term Meaning (meaning_part ctx b) (out-Term t)))
    (apart-layer ctx marking b (out-Term t) k (sym (ap (λ j. j.verdict) (fold-roll-Term (Judged Kind) (judged_part ctx marking) (out-Term t))) ∙ is)))
    typed
