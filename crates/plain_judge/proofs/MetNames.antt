-- Laws of marks, by which each name is met at most once.
use Rattle.std.proofs.Common.{◌≡◌, ◌≢◌, ℕ, ◌<◌, ◌^◌, Bool, true, false, List, [], ◌∷◌, ◌++◌, ◌⊎◌, inl, inr, length, get_or, Option, None, Some, ℤ, true≢false, refl, sym, ◌∙◌, ap, arith}
use Rattle.std.specs.Prelude.{All, Contains, slice_index, slice_set, bytes_eq, unsigned_abs}
use Rattle.std.specs.Cmp.Lexicographic.{bytes_decides}
use Rattle.std.proofs.lemmas.List.{get_or-set_same, get_or-set_other, length-set}
use Rattle.std.proofs.lemmas.List.Elements.{All-push}
use Rattle.std.proofs.lemmas.List.Quantifiers.{all_pairs_push, position-Some}
use Rattle.name_tables.specs.Numbering.{number_in}
use Rattle.plain_model.specs.Plain.{AreDistinct, IsPlainMultiplier, MultiplyApart}
use Rattle.plain_model.specs.declared.certificates.Multiplier.{Multiplier}
use Rattle.plain_model.specs.declared.certificates.Multiplier.TheVariants.{Fact, Hypothesis}
use Rattle.plain_model.specs.declared.certificates.Factor.{Factor}
use Rattle.plain_judge.specs.Examining.{AreExamined, IsMarked, IsMet}

-- the number of a name is below the count of the names
pub numbered_within : (names : List (List ℕ)) (name : List ℕ) (at : ℕ) → number_in names name ≡ Some at → at < length names
numbered_within names name at found = (position-Some (bytes_eq name) names at name found).0

-- a name with a number is one of the names
pub contained : (names : List (List ℕ)) (name : List ℕ) (at : ℕ) → number_in names name ≡ Some at → Contains names name
contained names name at found =
    let here = position-Some (bytes_eq name) names at name found in
    (at, here.0, sym ((bytes_decides name (get_or names at name)).0 here.1))

same_or_other : (a b : ℕ) → (a ≡ b) ⊎ (a ≢ b)
same_or_other a b = grind arith

-- a name stays marked where one more number is
pub stays_marked : (names : List (List ℕ)) (marks : List ℕ) (mark at : ℕ) (name : List ℕ) → at < length marks → IsMarked names marks mark name → IsMarked names (slice_set marks at mark) mark name
stays_marked names marks mark at name within is other found = cases (same_or_other other at)
  where
    cases : (other ≡ at) ⊎ (other ≢ at) → get_or (slice_set marks at mark) other 0 ≡ mark
    cases (inl same) = ap (λ k. get_or (slice_set marks at mark) k 0) same ∙ get_or-set_same marks at mark 0 within
    cases (inr apart) = get_or-set_other marks at other mark 0 apart ∙ is other found

abbrev number_of : Option ℕ → ℕ
number_of None = 0
number_of (Some number) = number

-- the name with the number that is marked
pub now_marked : (names : List (List ℕ)) (marks : List ℕ) (mark at : ℕ) (name : List ℕ) → at < length marks → number_in names name ≡ Some at → IsMarked names (slice_set marks at mark) mark name
now_marked names marks mark at name within is other found =
    ap (λ k. get_or (slice_set marks at mark) k 0) (ap number_of (sym found ∙ is)) ∙ get_or-set_same marks at mark 0 within

-- the names that were met, and one more
pub marked_more : (names : List (List ℕ)) (marks : List ℕ) (mark at : ℕ) (met : List (List ℕ)) (name : List ℕ)
    → at < length marks → number_in names name ≡ Some at → All (IsMarked names marks mark) met → All (IsMarked names (slice_set marks at mark) mark) (met ++ name ∷ [])
marked_more names marks mark at met name within found all =
    All-push (IsMarked names (slice_set marks at mark) mark) met name
    (λ k d inside. stays_marked names marks mark at (get_or met k d) within (all k d inside))
    (now_marked names marks mark at name within found)

-- a name whose number isn't marked was not met
pub unmarked_is_new : (names : List (List ℕ)) (marks : List ℕ) (mark at : ℕ) (met : List (List ℕ)) (name : List ℕ)
    → number_in names name ≡ Some at → slice_index marks at ≢ mark → All (IsMarked names marks mark) met → All (λ other. other ≢ name) met
unmarked_is_new names marks mark at met name found unmarked all =
    λ k d inside same. unmarked (all k d inside at (ap (number_in names) same ∙ found))

pub distinct_more : (names : List (List ℕ)) (marks : List ℕ) (mark at : ℕ) (met : List (List ℕ)) (name : List ℕ)
    → number_in names name ≡ Some at → slice_index marks at ≢ mark → All (IsMarked names marks mark) met → AreDistinct met → AreDistinct (met ++ name ∷ [])
distinct_more names marks mark at met name found unmarked all distinct =
    all_pairs_push (λ one other. one ≢ other) met name distinct (unmarked_is_new names marks mark at met name found unmarked all)

-- what was met stays met where one more fact is marked
pub stays_met : (names : List (List ℕ)) (marks : List ℕ) (at : ℕ) (h : Bool) (m : Multiplier) → at < length marks → IsMet names marks h m → IsMet names (slice_set marks at 1) h m
stays_met names marks at h (Fact factor) within is = stays_marked names marks 1 at factor.fact within is
stays_met names marks at h (Hypothesis value number) within is = is

-- what was met stays met where the hypothesis is
pub stays_met_too : (names : List (List ℕ)) (marks : List ℕ) (h : Bool) (m : Multiplier) → IsMet names marks h m → IsMet names marks true m
stays_met_too names marks h (Fact factor) is = is
stays_met_too names marks h (Hypothesis value number) is = refl

-- a fact that isn't marked is apart from the summands that were met
pub fact_apart : (names : List (List ℕ)) (marks : List ℕ) (at : ℕ) (h : Bool) (m : Multiplier) (factor : Factor)
    → number_in names factor.fact ≡ Some at → slice_index marks at ≢ 1 → IsMet names marks h m → MultiplyApart m (Fact factor)
fact_apart names marks at h (Fact other) factor found unmarked is = λ same. unmarked (is at (ap (number_in names) same ∙ found))
fact_apart names marks at h (Hypothesis value number) factor found unmarked is = tt

-- the first hypothesis is apart from the summands that were met
pub hypothesis_apart : (names : List (List ℕ)) (marks : List ℕ) (h : Bool) (m : Multiplier) (value : ℤ) (number : ℕ) → h ≡ false → IsMet names marks h m → MultiplyApart m (Hypothesis value number)
hypothesis_apart names marks h (Fact other) value number unmet is = tt
hypothesis_apart names marks h (Hypothesis _ other) value number unmet is = λ same. true≢false (sym is ∙ unmet)

-- one more fact
pub fact_more : (names : List (List ℕ)) (marks : List ℕ) (close : List Multiplier) (h : Bool) (factor : Factor) (at : ℕ)
    → AreExamined names close marks h → number_in names factor.fact ≡ Some at → slice_index marks at ≢ 1 → unsigned_abs factor.value < 2 ^ 63
    → AreExamined names (close ++ Fact factor ∷ []) (slice_set marks at 1) h
fact_more names marks close h factor at so found unmarked range =
    let inside : at < length marks = omega (arith, numbered_within names factor.fact at found, so.long) in
    record {
      long = length-set marks at 1 ∙ so.long;
      plain = All-push (IsPlainMultiplier names) close (Fact factor) so.plain (range, contained names factor.fact at found);
      once = all_pairs_push MultiplyApart close (Fact factor) so.once (λ k d within. fact_apart names marks at h (get_or close k d) factor found unmarked (so.met k d within));
      met = All-push (IsMet names (slice_set marks at 1) h) close (Fact factor)
          (λ k d within. stays_met names marks at h (get_or close k d) inside (so.met k d within)) (now_marked names marks 1 at factor.fact inside found);
    }

-- the hypothesis, which was not met before
pub hypothesis_more : (names : List (List ℕ)) (marks : List ℕ) (close : List Multiplier) (h : Bool) (value : ℤ) (number : ℕ)
    → AreExamined names close marks h → h ≡ false → number ≡ 1 → unsigned_abs value < 2 ^ 63 → AreExamined names (close ++ Hypothesis value number ∷ []) marks true
hypothesis_more names marks close h value number so unmet first range =
    record {
      long = so.long;
      plain = All-push (IsPlainMultiplier names) close (Hypothesis value number) so.plain (range, first);
      once = all_pairs_push MultiplyApart close (Hypothesis value number) so.once (λ k d within. hypothesis_apart names marks h (get_or close k d) value number unmet (so.met k d within));
      met = All-push (IsMet names marks true) close (Hypothesis value number) (λ k d within. stays_met_too names marks h (get_or close k d) (so.met k d within)) refl;
    }
