-- A `close` line that is true refutes the negated invariant.
use Rattle.std.proofs.Common.{◌≡◌, ℕ, zero, suc, ◌+◌, ◌*◌, Bool, true, false, List, [], ◌∷◌, ◌++◌, map, ℤ, pos, negsuc, ◌+ℤ◌, ◌-ℤ◌, ◌*ℤ◌, neg_ℤ, refl, sym, ◌∙◌, ap, subst, arith}
use Rattle.std.specs.Prelude.{cond, bytes_eq, int_le, int_lt}
use Rattle.std.specs.List.{list_all}
use Rattle.std.proofs.lemmas.Int.{ints}
use Rattle.std.proofs.lemmas.Bool.Decides.{nat_tests}
use Rattle.plain_model.specs.declared.nets.PlainNet.{PlainNet}
use Rattle.plain_model.specs.declared.nets.Place.{Place}
use Rattle.plain_model.specs.declared.properties.Property.{Property}
use Rattle.plain_model.specs.declared.properties.Count.{Count}
use Rattle.plain_model.specs.declared.properties.Count.TheVariants.{Number, Tokens}
use Rattle.plain_model.specs.declared.certificates.Flow.{Flow}
use Rattle.plain_model.specs.declared.certificates.Multiplier.{Multiplier}
use Rattle.plain_model.specs.declared.certificates.Multiplier.TheVariants.{Fact, Hypothesis}
use Rattle.plain_model.specs.Satisfaction.{tokens_on, tokens_on_all, value_of}
use Rattle.plain_model.specs.Sums.{sum_of, products}
use Rattle.plain_model.specs.Forms.{coefficients, value_at, times_in, times_listed, numbers, hypothesis_slack, slack_of, multiplier_of, flow_slack_of}
use Rattle.plain_model.specs.Obligations.{Part, residual_coefficient, residual_constant, is_refuted, is_signed_well}
use Rattle.plain_model.proofs.Products.{mul_add, add_mul, mul_mul, sum_of-append, sum_of-neg, and_split, products-not_above, mul_zero, products-zero}

-- the tokens on the places, each times a number for its id
abbrev weighed : (List ℕ → ℕ) → List Place → List ℕ → ℕ
weighed times (place ∷ places) (count ∷ marking) = times place.id * count + weighed times places marking
weighed times _ _ = 0

weighed-none : (places : List Place) (marking : List ℕ) → weighed (λ id. 0) places marking ≡ 0
weighed-none [] marking = refl
weighed-none (place ∷ places) [] = refl
weighed-none (place ∷ places) (count ∷ marking) = omega (arith, weighed-none places marking)

one_place : (b : Bool) (more count : ℕ) → (cond b 1 0 + more) * count ≡ cond b count 0 + more * count
one_place true more count = omega arith
one_place false more count = omega arith

weighed-one_more : (places : List Place) (marking : List ℕ) (times : List ℕ → ℕ) (id : List ℕ)
    → weighed (λ q. cond (bytes_eq q id) 1 0 + times q) places marking ≡ tokens_on places marking id + weighed times places marking
weighed-one_more [] marking times id = refl
weighed-one_more (place ∷ places) [] times id = refl
weighed-one_more (place ∷ places) (count ∷ marking) times id =
    omega (arith, one_place (bytes_eq place.id id) (times place.id) count, weighed-one_more places marking times id)

-- listing places and adding up their tokens is weighing each place by how often it is listed
weighed-times_in : (places : List Place) (marking : List ℕ) (ids : List (List ℕ)) → weighed (times_in ids) places marking ≡ tokens_on_all places marking ids
weighed-times_in places marking [] = weighed-none places marking
weighed-times_in places marking (id ∷ ids) =
    weighed-one_more places marking (times_in ids) id ∙ ap (λ n. tokens_on places marking id + n) (weighed-times_in places marking ids)

-- the value of a count: its number, or its places weighed
value_of_count : (net : PlainNet) (marking : List ℕ) (count : Count) → pos (value_of net marking count) ≡ pos (weighed (times_listed count) net.places marking) +ℤ sum_of (numbers count)
value_of_count net marking (Number number) = omega (arith, ints, weighed-none net.places marking)
value_of_count net marking (Tokens ids) = omega (arith, ints, weighed-times_in net.places marking ids)

difference : (l r n : ℕ) → (pos l -ℤ pos r) *ℤ pos n ≡ pos (l * n) -ℤ pos (r * n)
difference l r n =
    let split = add_mul (pos l) (neg_ℤ (pos r)) n in
    let negated = negated_product r n in
    omega (arith, ints, split, negated)
  where
    negated_product : (r n : ℕ) → neg_ℤ (pos r) *ℤ pos n ≡ neg_ℤ (pos (r * n))
    negated_product zero n = omega (arith, ints)
    negated_product (suc r) n = omega (arith, ints)

weighed-difference : (left right : List ℕ → ℕ) (places : List Place) (marking : List ℕ)
    → sum_of (products (map (λ place. pos (left place.id) -ℤ pos (right place.id)) places) marking) ≡ pos (weighed left places marking) -ℤ pos (weighed right places marking)
weighed-difference left right [] marking = refl
weighed-difference left right (place ∷ places) [] = refl
weighed-difference left right (place ∷ places) (count ∷ marking) =
    omega (arith, ints, difference (left place.id) (right place.id) count, weighed-difference left right places marking)

-- the hypothesis says by how much the left side passes the right one, less 1
pub hypothesis_value : (net : PlainNet) (property : Property) (marking : List ℕ)
    → value_at net (hypothesis_slack property) marking +ℤ pos 1 ≡ pos (value_of net marking property.left) -ℤ pos (value_of net marking property.right)
hypothesis_value net property marking =
    let weights = weighed-difference (times_listed property.left) (times_listed property.right) net.places marking in
    let constants = sum_of-append (numbers property.left ++ map neg_ℤ (numbers property.right)) (negsuc 0 ∷ []) in
    let sides = sum_of-append (numbers property.left) (map neg_ℤ (numbers property.right)) in
    let negated = sum_of-neg (numbers property.right) in
    let left = value_of_count net marking property.left in
    let right = value_of_count net marking property.right in
    omega (arith, ints, weights, constants, sides, negated, left, right)

-- the summands' values, each times its multiplier
abbrev pub combined : PlainNet → List Part → List ℕ → ℤ
combined net [] marking = pos 0
combined net (part ∷ ps) marking = combined net ps marking +ℤ (part.multiplier *ℤ value_at net part.slack marking)

add_column : (v : ℤ) (first second : List ℕ → ℤ) (places : List Place) (marking : List ℕ)
    → sum_of (products (map (λ place. first place.id +ℤ (v *ℤ second place.id)) places) marking)
    ≡ sum_of (products (map (λ place. first place.id) places) marking) +ℤ (v *ℤ sum_of (products (map (λ place. second place.id) places) marking))
add_column v first second [] marking = omega (arith, ints, mul_zero v)
add_column v first second (place ∷ places) [] = omega (arith, ints, mul_zero v)
add_column v first second (place ∷ places) (count ∷ marking) =
    let both = add_mul (first place.id) (v *ℤ second place.id) count in
    let product = mul_mul v (second place.id) count in
    let rest = add_column v first second places marking in
    let whole = mul_add v (sum_of (products (map (λ p. second p.id) places) marking)) (second place.id *ℤ pos count) in
    omega (arith, ints, both, product, rest, whole)

-- the combined value is that of the residual
combined_is_residual : (net : PlainNet) (ps : List Part) (marking : List ℕ)
    → combined net ps marking ≡ sum_of (products (map (λ place. sum_of (residual_coefficient ps place.id)) net.places) marking) +ℤ sum_of (residual_constant ps)
combined_is_residual net [] marking = omega (arith, ints, products-zero net.places marking)
combined_is_residual net (part ∷ ps) marking =
    let rest = combined_is_residual net ps marking in
    let column = add_column part.multiplier (λ id. sum_of (residual_coefficient ps id)) part.slack.coefficient net.places marking in
    let whole = mul_add part.multiplier (sum_of (products (coefficients net part.slack) marking)) (sum_of part.slack.constant) in
    omega (arith, ints, rest, column, whole)

-- a residual that is refuted has a value below 0
pub refuted_is_below : (net : PlainNet) (ps : List Part) (marking : List ℕ) → is_refuted net ps ≡ true → int_lt (combined net ps marking) (pos 0) ≡ true
refuted_is_below net ps marking h =
    let parts = and_split (list_all (λ place. int_le (sum_of (residual_coefficient ps place.id)) (pos 0)) net.places) (int_lt (sum_of (residual_constant ps)) (pos 0)) h in
    let signs = over_map (λ place. sum_of (residual_coefficient ps place.id)) net.places parts.0 in
    let products_below = products-not_above (map (λ place. sum_of (residual_coefficient ps place.id)) net.places) marking signs in
    subst (λ z. int_lt z (pos 0) ≡ true) (sym (combined_is_residual net ps marking))
    (below (sum_of (products (map (λ place. sum_of (residual_coefficient ps place.id)) net.places) marking)) (sum_of (residual_constant ps)) products_below parts.1)
  where
    over_map : (f : Place → ℤ) (places : List Place) → list_all (λ place. int_le (f place) (pos 0)) places ≡ true → list_all (λ y. int_le y (pos 0)) (map f places) ≡ true
    over_map f [] h = refl
    over_map f (place ∷ places) h =
        let parts = and_split (int_le (f place) (pos 0)) (list_all (λ p. int_le (f p) (pos 0)) places) h in
        rw parts.0 (over_map f places parts.1)

    below : (x y : ℤ) → int_le x (pos 0) ≡ true → int_lt y (pos 0) ≡ true → int_lt (x +ℤ y) (pos 0) ≡ true
    below x y p q = grind (arith, ints)

-- multipliers of the right sign times slacks that are met add up to no negative number
pub combined_is_not_below : (net : PlainNet) (property : Property) (flows : List Flow) (close : List Multiplier) (marking : List ℕ)
    → ((name : List ℕ) → value_at net (flow_slack_of net flows name) marking ≡ pos 0)
    → int_le (pos 0) (value_at net (hypothesis_slack property) marking) ≡ true
    → list_all is_signed_well close ≡ true
    → int_le (pos 0) (combined net (map (λ m. record { multiplier = multiplier_of m; slack = slack_of net property flows m }) close) marking) ≡ true
combined_is_not_below net property flows [] marking zero_flows met signed = refl
combined_is_not_below net property flows (Fact factor ∷ close) marking zero_flows met signed =
    let rest = combined_is_not_below net property flows close marking zero_flows met signed in
    let none : factor.value *ℤ value_at net (flow_slack_of net flows factor.fact) marking ≡ pos 0 = ap (λ z. factor.value *ℤ z) (zero_flows factor.fact) ∙ mul_zero factor.value in
    subst (λ z. int_le (pos 0) (combined net (map (λ m. record { multiplier = multiplier_of m; slack = slack_of net property flows m }) close) marking +ℤ z) ≡ true) (sym none)
    (plus_zero (combined net (map (λ m. record { multiplier = multiplier_of m; slack = slack_of net property flows m }) close) marking) rest)
  where
    plus_zero : (x : ℤ) → int_le (pos 0) x ≡ true → int_le (pos 0) (x +ℤ pos 0) ≡ true
    plus_zero x h = grind (arith, ints)
combined_is_not_below net property flows (Hypothesis value number ∷ close) marking zero_flows met signed =
    let parts = and_split (int_le (pos 0) value) (list_all is_signed_well close) signed in
    let rest = combined_is_not_below net property flows close marking zero_flows met parts.1 in
    plus (combined net (map (λ m. record { multiplier = multiplier_of m; slack = slack_of net property flows m }) close) marking) (value *ℤ value_at net (hypothesis_slack property) marking) rest
    (times value (value_at net (hypothesis_slack property) marking) parts.0 met)
  where
    times : (x y : ℤ) → int_le (pos 0) x ≡ true → int_le (pos 0) y ≡ true → int_le (pos 0) (x *ℤ y) ≡ true
    times (pos a) (pos b) p q = grind (arith, ints, nat_tests)
    times (pos a) (negsuc b) p q = absurd cc
    times (negsuc a) y p q = absurd cc

    plus : (x y : ℤ) → int_le (pos 0) x ≡ true → int_le (pos 0) y ≡ true → int_le (pos 0) (x +ℤ y) ≡ true
    plus x y p q = grind (arith, ints)
