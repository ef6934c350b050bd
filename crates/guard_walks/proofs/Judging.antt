-- Testing the parts of a guard one by one.
use Rattle.std.proofs.Common.{◌≡◌, ℕ, ◌+◌, ◌<◌, ◌≤◌, Bool, true, false, List, length, map, take, get_or, refl, sym, ap, subst, ◌∙◌, arith, Some, inl, inr, [], ◌∷◌}
use Rattle.std.specs.Prelude.{slice_index}
use Rattle.std.specs.List.{slice_get}
use Rattle.std.proofs.lemmas.List.{take-take}
use Rattle.std.proofs.lemmas.List.Folds.{list_all_at, list_all_more}
use Rattle.std.proofs.lemmas.List.Elements.{All-get_or}
use Rattle.std.proofs.lemmas.Option.{get_or_from_slice_get, slice_get_cases}
use Rattle.bindings.specs.Listed.{IsBinding}
use Rattle.guard_walks.specs.declared.walks.Test.{Test}
use Rattle.guard_walks.specs.Testing.{AreTests, BeginAlike, Fails, IsTest, Passed, all_tests}

-- what begins with more values alike begins with fewer alike
pub fewer : (k n : ℕ) (b c : List ℕ) → k ≤ n → take n b ≡ take n c → take k b ≡ take k c
fewer k n b c le e = sym (take-take k n b le) ∙ ap (take k) e ∙ take-take k n c le

-- the test at a place is one of a part
pub test_at : (part : ℕ → List ℕ → Bool) (count : ℕ) (whole : List ℕ → Bool) (all variables : List ℕ) (tests : List Test) (at : ℕ) (d : Test)
    → AreTests part count whole all variables tests → at < length tests → IsTest part count all variables (get_or tests at d)
test_at part count whole all variables tests at d are within = All-get_or (IsTest part count all variables) tests at d within are.each

-- one more test is true
pub passed_more : (part : ℕ → List ℕ → Bool) (count : ℕ) (whole : List ℕ → Bool) (all variables : List ℕ) (tests : List Test) (at bound : ℕ) (d : Test) (indices : List ℕ)
    → AreTests part count whole all variables tests → at < length tests → IsBinding all indices → (get_or tests at d).needs ≤ bound
    → Passed part all variables (take at tests) bound indices → part (get_or tests at d).part indices ≡ true
    → Passed part all variables (take (at + 1) tests) bound indices
passed_more part count whole all variables tests at bound d indices are within fits needs passed true_here = record {
  passes = λ b binds same.
      list_all_more (λ test. part test.part b) tests at d within
      ∙ (let here = (test_at part count whole all variables tests at d are within).depends b indices binds fits
      (fewer _ bound (map (λ v. slice_index b v) variables) (map (λ v. slice_index indices v) variables) needs same) in
      let before = passed.passes b binds same in
      cc);
}

-- a test that is false
pub failing : (part : ℕ → List ℕ → Bool) (count : ℕ) (whole : List ℕ → Bool) (all variables : List ℕ) (tests : List Test) (at bound : ℕ) (d : Test) (indices : List ℕ)
    → AreTests part count whole all variables tests → at < length tests → IsBinding all indices → (get_or tests at d).needs ≤ bound
    → part (get_or tests at d).part indices ≡ false
    → Fails whole all variables bound indices
failing part count whole all variables tests at bound d indices are within fits needs false_here = record {
  fails = λ b binds same.
      (let here = (test_at part count whole all variables tests at d are within).depends b indices binds fits
      (fewer _ bound (map (λ v. slice_index b v) variables) (map (λ v. slice_index indices v) variables) needs same) in
      sym (are.together b binds) ∙ list_all_at (λ test. part test.part b) tests at d within (here ∙ false_here));
}

-- what stands at a place
pub read_at : (tests : List Test) (at : ℕ) (d test : Test) (bound : ℕ) → at < length tests → bound < (get_or tests at d).needs → slice_get tests at ≡ Some test → bound < test.needs
read_at tests at d test bound within more e =
    let same : get_or tests at d ≡ test = get_or_from_slice_get tests at test d e in
    subst (λ t. bound < t.needs) same more

-- where no test is left that needs fewer variables than there are, all were tested
pub all_tested : (part : ℕ → List ℕ → Bool) (count : ℕ) (whole : List ℕ → Bool) (all variables : List ℕ) (tests : List Test) (at bound : ℕ)
    → AreTests part count whole all variables tests → length variables ≤ bound
    → (at < length tests → (test : Test) → slice_get tests at ≡ Some test → bound < test.needs) → length tests ≤ at
all_tested part count whole all variables tests at bound are more stops = elim (slice_get_cases tests at).1 [
  | inl here ↦ absurd (omega (arith, stops here.1 here.0 here.2, needs here.0 here.1 here.3, more))
  | inr past ↦ past.0
]
  where
    needs : (x : Test) → at < length tests → get_or tests at x ≡ x → x.needs ≤ length variables
    needs x within e = subst (λ t. t.needs ≤ length variables) e (test_at part count whole all variables tests at x are within).needs

-- what is bound stays, and one more is bound
pub passed_kept : (part : ℕ → List ℕ → Bool) (all variables : List ℕ) (tests : List Test) (bound : ℕ) (before after : List ℕ)
    → BeginAlike variables bound after before → Passed part all variables tests bound before → Passed part all variables tests (bound + 1) after
passed_kept part all variables tests bound before after kept passed = record {
  passes = λ b binds same. passed.passes b binds (fewer bound (bound + 1) (map (λ v. slice_index b v) variables) (map (λ v. slice_index after v) variables) (omega arith) same ∙ kept);
}

pub passed_none : (part : ℕ → List ℕ → Bool) (all variables : List ℕ) (tests : List Test) (bound : ℕ) (indices : List ℕ) → Passed part all variables (take 0 tests) bound indices
passed_none part all variables tests bound indices = record { passes = λ b binds same. by tests b }
  where
    by : (tests : List Test) (b : List ℕ) → all_tests part (take 0 tests) b ≡ true
    by [] b = refl
    by (t ∷ ts) b = refl
