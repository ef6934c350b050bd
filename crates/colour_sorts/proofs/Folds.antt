-- The colours of a sort, one layer at a time.
use Rattle.std.proofs.Common.{◌≡◌, ℕ, zero, suc, List, [], ◌∷◌, ℤ, pos, ◌+ℤ◌, map, length, refl, sym, ap, ◌∙◌}
use Rattle.std.proofs.lemmas.List.{length-map}
use Rattle.net_model.specs.declared.sorts.Span.{Span}
use Rattle.colour_sorts.specs.declared.sorts.Sort.{Sort, fold-roll-Sort}
use Rattle.colour_sorts.specs.declared.sorts.Sort.TheOpen as layer
use Rattle.colour_sorts.specs.declared.sorts.Sort.TheVariants as sort
use Rattle.colour_sorts.specs.declared.sorts.Colour.{Colour, out-Colour, out-roll-Colour}
use Rattle.colour_sorts.specs.declared.sorts.Colour.TheOpen as layer-of
use Rattle.colour_sorts.specs.Colours.{colours, colours_of_parts, constants_at, rising, size, span_length, span_numbers, tuple, tuples}
use Rattle.colour_sorts.specs.declared.sorts.Colour.TheVariants as colour

pub colours-Product : (constants : List (List (List ℕ))) (parts : List Sort)
    → colours constants (sort.Product parts) ≡ map tuple (tuples (map (colours constants) parts))
colours-Product constants parts =
    ap (colours constants) (sym (sort.rolls-Product parts)) ∙ fold-roll-Sort (List Colour) (colours_of_parts constants) (layer.Product parts)

pub size-Product : (constants : List (List (List ℕ))) (parts : List Sort)
    → size constants (sort.Product parts) ≡ length (tuples (map (colours constants) parts))
size-Product constants parts = ap length (colours-Product constants parts) ∙ length-map (tuples (map (colours constants) parts)) tuple

pub length-rising : (first : ℤ) (n : ℕ) → length (rising first n) ≡ n
length-rising first zero = refl
length-rising first (suc n) = ap suc (length-rising (first +ℤ pos 1) n)

pub colours-Dot : (constants : List (List (List ℕ))) → colours constants sort.Dot ≡ colour.Dot ∷ []
colours-Dot constants = ap (colours constants) (sym sort.rolls-Dot) ∙ fold-roll-Sort (List Colour) (colours_of_parts constants) layer.Dot

pub colours-Listed : (constants : List (List (List ℕ))) (at : ℕ) → colours constants (sort.Listed at) ≡ map colour.Constant (constants_at constants at)
colours-Listed constants at = ap (colours constants) (sym (sort.rolls-Listed at)) ∙ fold-roll-Sort (List Colour) (colours_of_parts constants) (layer.Listed at)

pub colours-Cyclic : (constants : List (List (List ℕ))) (at : ℕ) → colours constants (sort.Cyclic at) ≡ map colour.Constant (constants_at constants at)
colours-Cyclic constants at = ap (colours constants) (sym (sort.rolls-Cyclic at)) ∙ fold-roll-Sort (List Colour) (colours_of_parts constants) (layer.Cyclic at)

pub colours-Range : (constants : List (List (List ℕ))) (span : Span) → colours constants (sort.Range span) ≡ map colour.Number (span_numbers span)
colours-Range constants span = ap (colours constants) (sym (sort.rolls-Range span)) ∙ fold-roll-Sort (List Colour) (colours_of_parts constants) (layer.Range span)

pub size-Range : (constants : List (List (List ℕ))) (span : Span) → size constants (sort.Range span) ≡ span_length span
size-Range constants span = ap length (colours-Range constants span) ∙ length-map (span_numbers span) colour.Number ∙ length-rising span.first (span_length span)

pub size-Listed : (constants : List (List (List ℕ))) (at : ℕ) → size constants (sort.Listed at) ≡ length (constants_at constants at)
size-Listed constants at = ap length (colours-Listed constants at) ∙ length-map (constants_at constants at) colour.Constant

pub size-Cyclic : (constants : List (List (List ℕ))) (at : ℕ) → size constants (sort.Cyclic at) ≡ length (constants_at constants at)
size-Cyclic constants at = ap length (colours-Cyclic constants at) ∙ length-map (constants_at constants at) colour.Constant

-- colours of one kind with the same content are the same
abbrev number_in : {A : Type 0} → layer-of.Colour-F A → ℤ
number_in (layer-of.Number n) = n
number_in _ = pos 0

pub Number-injective : (a b : ℤ) → colour.Number a ≡ colour.Number b → a ≡ b
Number-injective a b e = ap number_in (sym (colour.outs-Number a) ∙ ap out-Colour e ∙ colour.outs-Number b)

abbrev name_in : {A : Type 0} → layer-of.Colour-F A → List ℕ
name_in (layer-of.Constant name) = name
name_in _ = []

pub Constant-injective : (a b : List ℕ) → colour.Constant a ≡ colour.Constant b → a ≡ b
Constant-injective a b e = ap name_in (sym (colour.outs-Constant a) ∙ ap out-Colour e ∙ colour.outs-Constant b)

abbrev components_in : layer-of.Colour-F Colour → List Colour
components_in (layer-of.Tuple cs) = cs
components_in _ = []

pub tuple-injective : (a b : List Colour) → tuple a ≡ tuple b → a ≡ b
tuple-injective a b e = ap components_in (sym (out-roll-Colour (layer-of.Tuple a)) ∙ ap out-Colour e ∙ out-roll-Colour (layer-of.Tuple b))
