-- The places of bindings in the list of all, and the list from a variable on.
use Rattle.std.proofs.Common.{◌≡◌, ℕ, zero, suc, ◌+◌, ◌*◌, ◌/◌, ◌%◌, ◌<◌, ◌≤◌, List, [], ◌∷◌, ◌++◌, take, drop, get_or, length, sym, ap, subst, ◌∙◌, arith, append_assoc, Some}
use Rattle.std.proofs.Math.ListN.{set}
use Rattle.std.proofs.Math.Nat.{mul_comm, mul-div_cancel, div-lt_iff_lt-mul, mod-lt, mul-zero, zero-mul}
use Rattle.std.proofs.lemmas.List.{length-set, drop_more, take_more_set}
use Rattle.std.proofs.lemmas.Nat.{div-add-mod', div-mul-add, mod-mul-add, row_fits}
use Rattle.std.proofs.lemmas.Option.{slice_get_within}
use Rattle.std.specs.List.{slice_get}
use Rattle.bindings.specs.Listed.{bindings, digits, product}
use Rattle.bindings.proofs.Digits.{digits-stand, length-bindings}
use Rattle.guard_walks.specs.declared.walking.Progress.{Progress}
use Rattle.guard_walks.specs.Testing.{Stands}

pub some-is-some : {X : Type 0} (x y : X) → Some x ≡ Some y → x ≡ y
some-is-some x y e = cc

-- the place of a binding is its first value times the number of the rests, and the place of its rest
place-bindings : (size : ℕ) (sizes : List ℕ) (q r : ℕ) (b : List ℕ) → q < size → slice_get (bindings sizes) r ≡ Some b
    → slice_get (bindings (size ∷ sizes)) (q * product sizes + r) ≡ Some (q ∷ b)
place-bindings size sizes q r b small rest =
    let rests = product sizes in
    let within : r < rests = (let here = slice_get_within (bindings sizes) r b rest in omega (arith, here, length-bindings sizes)) in
    let same : digits sizes r ≡ b = some-is-some (digits sizes r) b (sym (digits-stand sizes r within) ∙ rest) in
    let inside : q * rests + r < size * rests = omega (arith, within, row_fits q rests size rests small (omega arith)) in
    digits-stand (size ∷ sizes) (q * rests + r) inside
    ∙ ap (λ n. Some (n ∷ digits sizes ((q * rests + r) % rests))) (div-mul-add q rests r within)
    ∙ ap (λ n. Some (q ∷ digits sizes n)) (mod-mul-add q rests r within)
    ∙ ap (λ xs. Some (q ∷ xs)) same

pub stands_first : (sizes : List ℕ) (number weight : ℕ) (values : List ℕ) → number < weight → weight ≡ product sizes → length values ≡ length sizes
    → Stands sizes (record { number = number; bound = 0; rest = number; weight = weight }) values
stands_first sizes number weight values within counted fits = record {
  many = fits;
  bound = omega arith;
  within = within;
  counted = counted;
  least = omega arith;
  room = omega (arith, counted);
  completes = λ r m b e found. (let same : m ≡ r = omega (arith, e) in ap (slice_get (bindings sizes)) same ∙ found);
}

-- the numbers of one more variable
pub record IsStep (size weight rest rests : ℕ) : Type 0 where
  pub some : 0 < size
  pub left : 0 < rests
  pub quotient : weight / size ≡ rests
  pub small : rest / rests < size
  pub remains : rest % rests < rests
  pub whole : (rest / rests) * rests + rest % rests ≡ rest
  pub end : (rest / rests) * rests + rests ≤ weight

pub step_of : (size weight rest rests : ℕ) → weight ≡ size * rests → rest < weight → IsStep size weight rest rests
step_of zero weight rest rests e within = absurd (omega (arith, e, within, zero-mul rests))
step_of (suc s) weight rest zero e within = absurd (omega (arith, e, within, mul-zero (suc s)))
step_of (suc s) weight rest (suc n) e within =
    let small : rest / suc n < suc s = (div-lt_iff_lt-mul (omega arith)).1 (omega (arith, within, e)) in
    record {
      some = omega arith;
      left = omega arith;
      quotient = ap (λ m. m / suc s) (e ∙ mul_comm (suc s) (suc n)) ∙ mul-div_cancel (suc n) {n = suc s} (omega arith);
      small = small;
      remains = mod-lt rest (omega arith);
      whole = div-add-mod' rest (suc n);
      end = omega (arith, row_fits (rest / suc n) (suc n) (suc s) (suc n) small (omega arith), e);
    }

pub step_at : (sizes : List ℕ) (p : Progress) (values : List ℕ) → p.bound < length sizes → Stands sizes p values
    → IsStep (get_or sizes p.bound 0) p.weight p.rest (product (drop (p.bound + 1) sizes))
step_at sizes p values within stands =
    step_of (get_or sizes p.bound 0) p.weight p.rest (product (drop (p.bound + 1) sizes))
    (stands.counted ∙ ap product (drop_more sizes p.bound 0 within))
    stands.within

-- one more variable is bound
pub stands_more : (sizes : List ℕ) (p : Progress) (values after : List ℕ) (rests : ℕ) → p.bound < length sizes
    → Stands sizes p values → rests ≡ product (drop (p.bound + 1) sizes) → after ≡ set values p.bound (p.rest / rests)
    → Stands sizes (record { number = p.number; bound = p.bound + 1; rest = p.rest % rests; weight = rests }) after
stands_more sizes p values after rests within stands is put =
    let bound = p.bound in
    let size = get_or sizes bound 0 in
    let others = drop (bound + 1) sizes in
    let q = p.rest / rests in
    let step : IsStep size p.weight p.rest rests = subst (λ n. IsStep size p.weight p.rest n) (sym is) (step_at sizes p values within stands) in
    let listed : drop bound sizes ≡ size ∷ others = drop_more sizes bound 0 within in
    let taken : take (bound + 1) after ≡ take bound values ++ q ∷ [] = ap (take (bound + 1)) put ∙ take_more_set values bound q (omega (arith, within, stands.many)) in
    record {
      many = ap length put ∙ length-set values bound q ∙ stands.many;
      bound = omega (arith, within);
      within = step.remains;
      counted = is;
      least = omega (arith, step.whole, stands.least);
      room = omega (arith, step.whole, step.end, stands.room);
      completes = λ r m b same found.
          (let there : slice_get (bindings (size ∷ others)) (q * rests + r) ≡ Some (q ∷ b) =
          ap (λ n. slice_get (bindings (size ∷ others)) (q * n + r)) is ∙ place-bindings size others q r b step.small found in
          let moved : m + p.rest ≡ p.number + (q * rests + r) = omega (arith, step.whole, same) in
          stands.completes (q * rests + r) m (q ∷ b) moved (ap (λ xs. slice_get (bindings xs) (q * rests + r)) listed ∙ there)
          ∙ ap Some (sym (append_assoc (take bound values) (q ∷ []) b) ∙ ap (λ xs. xs ++ b) (sym taken)));
    }
