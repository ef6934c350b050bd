-- A value that is put in the place of one variable.
use Rattle.std.proofs.Common.{◌≡◌, ℕ, zero, suc, ◌<◌, ◌≢◌, List, [], ◌∷◌, get_or, get_or-set_other, get_or-set_same, length, refl, ap, ◌∙◌, arith}
use Rattle.std.proofs.Math.ListN.{set}
use Rattle.std.specs.Prelude.{slice_index}
use Rattle.std.proofs.lemmas.Grind.{common_steps}
use Rattle.std.proofs.lemmas.List.{length-map, length-set, get_or-map}
use Rattle.bindings.specs.Listed.{IsBinding}
use Rattle.guard_walks.specs.Walks.{AreVariables, values_at}

-- a value that none of the variables has
unset : (indices variables : List ℕ) (place value : ℕ) → ((at : ℕ) → at < length variables → get_or variables at 0 ≡ place → ⊥)
    → values_at (set indices place value) variables ≡ values_at indices variables
unset indices [] place value other = refl
unset indices (v ∷ vs) place value other =
    let first : v ≢ place = λ e. other 0 (omega arith) e in
    ap (λ x. x ∷ values_at (set indices place value) vs) (get_or-set_other indices place v value 0 first)
    ∙ ap (λ xs. get_or indices v 0 ∷ xs) (unset indices vs place value (λ at within e. other (suc at) (omega (arith, within)) e))

set_at : (indices variables : List ℕ) (at value : ℕ) → at < length variables → get_or variables at 0 < length indices
    → ((other : ℕ) → other < length variables → get_or variables other 0 ≡ get_or variables at 0 → other ≡ at)
    → values_at (set indices (get_or variables at 0) value) variables ≡ set (values_at indices variables) at value
set_at indices [] at value within declared once = absurd (omega (arith, within))
set_at indices (v ∷ vs) zero value within declared once =
    ap (λ x. x ∷ values_at (set indices v value) vs) (get_or-set_same indices v value 0 declared)
    ∙ ap (λ xs. value ∷ xs) (unset indices vs v value (λ other inside e. absurd (omega (arith, once (suc other) (omega (arith, inside)) e))))
set_at indices (v ∷ vs) (suc at) value within declared once =
    let place = get_or vs at 0 in
    let first : v ≢ place = λ e. absurd (omega (arith, once 0 (omega arith) e)) in
    ap (λ x. x ∷ values_at (set indices place value) vs) (get_or-set_other indices place v value 0 first)
    ∙ ap (λ xs. get_or indices v 0 ∷ xs) (set_at indices vs at value (omega (arith, within)) declared (λ other inside e. (let same = once (suc other) (omega (arith, inside)) e in omega (arith, same))))

pub values_set : (indices variables : List ℕ) (at value : ℕ) → at < length variables → AreVariables (length indices) variables
    → values_at (set indices (get_or variables at 0) value) variables ≡ set (values_at indices variables) at value
values_set indices variables at value within are = set_at indices variables at value within (are.each at within) (λ other inside e. are.once other at inside within e)

pub length-values : (indices variables : List ℕ) → length (values_at indices variables) ≡ length variables
length-values indices variables = length-map variables (λ v. slice_index indices v)

pub value-at : (indices variables : List ℕ) (at : ℕ) → at < length variables → get_or (values_at indices variables) at 0 ≡ get_or indices (get_or variables at 0) 0
value-at indices variables at within = get_or-map (λ v. slice_index indices v) variables at 0 0 within

-- indices in range, of which one is another that is in range
pub bound-set : (all indices : List ℕ) (place value : ℕ) → place < length all → value < get_or all place 0 → IsBinding all indices → IsBinding all (set indices place value)
bound-set all indices place value within small fits = record {
  many = length-set indices place value ∙ fits.many;
  each = λ i inside. each_set all indices place value i (omega (arith, fits.many, inside)) small (fits.each i inside);
}
  where
    each_set : (all indices : List ℕ) (at value i : ℕ) → i < length indices → value < get_or all at 0 → get_or indices i 0 < get_or all i 0 → get_or (set indices at value) i 0 < get_or all i 0
    each_set all indices at value i inside small below = grind (arith, common_steps)

-- values in range can be put in the place of all variables, whatever the others are
pub record IsSpread (all variables b : List ℕ) : Type 0 where
  pub indices : List ℕ
  pub fits : IsBinding all indices
  pub values : values_at indices variables ≡ b

rest-declared : (declared v : ℕ) (vs : List ℕ) → AreVariables declared (v ∷ vs) → AreVariables declared vs
rest-declared declared v vs are = record {
  each = λ at within. are.each (suc at) (omega (arith, within));
  once = λ at other within inside e. (let same = are.once (suc at) (suc other) (omega (arith, within)) (omega (arith, inside)) e in omega (arith, same));
}

spread-more : (all : List ℕ) (v x : ℕ) (vs b : List ℕ) → AreVariables (length all) (v ∷ vs) → x < get_or all v 0 → IsSpread all vs b → IsSpread all (v ∷ vs) (x ∷ b)
spread-more all v x vs b are small known =
    let declared : v < length all = are.each 0 (omega arith) in
    record {
      indices = set known.indices v x;
      fits = bound-set all known.indices v x declared small known.fits;
      values = ap (λ y. y ∷ values_at (set known.indices v x) vs) (get_or-set_same known.indices v x 0 (omega (arith, known.fits.many, declared)))
          ∙ ap (λ ys. x ∷ ys) (unset known.indices vs v x (λ at within e. absurd (omega (arith, are.once (suc at) 0 (omega (arith, within)) (omega arith) e))) ∙ known.values);
    }

pub spread : (all variables base b : List ℕ) → AreVariables (length all) variables → IsBinding all base → IsBinding (values_at all variables) b → IsSpread all variables b
spread all [] base [] are fits binds = record { indices = base; fits = fits; values = refl }
spread all [] base (x ∷ b) are fits binds = absurd (let many = binds.many in omega (arith, many))
spread all (v ∷ vs) base [] are fits binds = absurd (let many = binds.many in omega (arith, many))
spread all (v ∷ vs) base (x ∷ b) are fits binds =
    spread-more all v x vs b are (binds.each 0 (omega arith))
    (spread all vs base b (rest-declared (length all) v vs are) fits
    (record { many = (let many = binds.many in omega (arith, many)); each = λ at within. binds.each (suc at) (omega (arith, within)) }))
