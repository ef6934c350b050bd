-- What is known when a part of the guard is false, and when all variables are bound.
use Rattle.std.proofs.Common.{◌≡◌, ℕ, ◌+◌, ◌-◌, ◌<◌, ◌≤◌, Bool, List, [], ◌++◌, take, drop, get_or, length, refl, sym, ap, subst, ◌∙◌, arith, Some}
use Rattle.std.proofs.lemmas.List.{append-nil, drop_all, length-take-le, take_at, take_all}
use Rattle.std.proofs.lemmas.Option.{slice_get-get_or}
use Rattle.std.specs.List.{slice_get}
use Rattle.bindings.specs.Listed.{IsBinding, bindings, product}
use Rattle.bindings.proofs.Digits.{found-binds, length-bindings}
use Rattle.guard_walks.specs.declared.walks.Test.{Test}
use Rattle.guard_walks.specs.declared.walking.Progress.{Progress}
use Rattle.guard_walks.specs.Testing.{AreTests, Fails, Passed, Stands, all_tests}
use Rattle.guard_walks.specs.Walks.{AreVariables, IsFalseStretch, IsTrueBinding, values_at}
use Rattle.guard_walks.proofs.Digits.{some-is-some}
use Rattle.guard_walks.proofs.Setting.{spread}

-- where the guard is false of all that begins so, it is false of the rest of the bindings that begin so
pub stretch : (whole truth : List ℕ → Bool) (all variables sizes : List ℕ) (p : Progress) (number : ℕ) (indices : List ℕ)
    → AreVariables (length all) variables → sizes ≡ values_at all variables → IsBinding all indices
    → ((full : List ℕ) → IsBinding all full → whole full ≡ truth (values_at full variables))
    → p.number ≡ number → Stands sizes p (values_at indices variables) → Fails whole all variables p.bound indices
    → IsFalseStretch sizes truth number (p.weight - p.rest)
stretch whole truth all variables sizes p number indices are sized fits agrees same_number stands false_here = record {
  some = omega (arith, stands.within);
  room = omega (arith, stands.within, stands.room, same_number);
  fails = λ m b low high found.
      (let bs = bindings (drop p.bound sizes) in
      let values = values_at indices variables in
      let r = m + p.rest - p.number in
      let small : r < length bs = omega (arith, length-bindings (drop p.bound sizes), stands.counted, stands.within, stands.least, same_number, low, high) in
      let behind = get_or bs r [] in
      let there : slice_get (bindings sizes) m ≡ Some (take p.bound values ++ behind) =
      stands.completes r m behind (omega (arith, stands.least, same_number, low)) (slice_get-get_or bs r [] small) in
      let same : b ≡ take p.bound values ++ behind = some-is-some b (take p.bound values ++ behind) (sym found ∙ there) in
      let front : take p.bound b ≡ take p.bound values = ap (take p.bound) same ∙ take_at (take p.bound values) behind p.bound (length-take-le p.bound values (omega (arith, stands.bound, stands.many))) in
      let full = spread all variables indices b are fits (subst (λ xs. IsBinding xs b) sized (found-binds sizes m b found)) in
      ap truth (sym full.values) ∙ sym (agrees full.indices full.fits)
      ∙ false_here.fails full.indices full.fits (ap (take p.bound) full.values ∙ front));
}

-- all variables are bound, and all parts are true
pub complete : (part : ℕ → List ℕ → Bool) (count : ℕ) (whole truth : List ℕ → Bool) (all variables sizes : List ℕ) (tests : List Test) (p : Progress) (number at : ℕ) (indices : List ℕ)
    → AreTests part count whole all variables tests → IsBinding all indices
    → ((full : List ℕ) → IsBinding all full → whole full ≡ truth (values_at full variables))
    → p.number ≡ number → length sizes ≤ p.bound → Stands sizes p (values_at indices variables)
    → Passed part all variables (take at tests) p.bound indices → length tests ≤ at
    → IsTrueBinding sizes truth number (values_at indices variables)
complete part count whole truth all variables sizes tests p number at indices are fits agrees same_number more stands passed end =
    let values = values_at indices variables in
    let none : drop p.bound sizes ≡ [] = drop_all p.bound sizes more in
    let here : p.rest ≡ 0 = omega (arith, stands.within, stands.counted, ap product none) in
    let tested : take at tests ≡ tests = take_all at tests end in
    let long : take p.bound values ≡ values = take_all p.bound values (omega (arith, stands.many, more)) in
    record {
      there = stands.completes 0 number [] (omega (arith, here, same_number)) (ap (λ xs. slice_get (bindings xs) 0) none) ∙ ap Some (append-nil (take p.bound values) ∙ long);
      holds = sym (agrees indices fits) ∙ sym (are.together indices fits) ∙ ap (λ ts. all_tests part ts indices) (sym tested) ∙ passed.passes indices fits refl;
    }
