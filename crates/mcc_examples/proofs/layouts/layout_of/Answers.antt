use Rattle.std.specs.Prelude.{MatchBool}
use Rattle.std.proofs.Common.{subst, ◌≡◌, ◌+◌, Bool, true, false, length, rules, arith, slice_index}
use Rattle.std.proofs.lemmas.List.Sorted.{non_decreasing_from_is_sorted}
use Rattle.std.specs.List.Sorted.{IsNonDecreasing}
use Rattle.mcc_examples.proofs.layouts.layout_of.Goals as goal

-- what is said where a test is true
where_true : (r : Bool) (A B : Type 0) → r ≡ true → MatchBool r A B → A
where_true true A B h m = m
where_true false A B h m = absurd (cc)

pub new-requires : goal.new-requires
new-requires c =
    let starts = c.in_ok-starts.starts.items in
    let sorted : c.is_sorted.result ≡ true = search (rules, c.if-not-is_sorted.false) in
    let begins : slice_index starts 0 ≡ 0 = search (rules, c.if-index-ne0.false, c.index.ensures) in
    let seen = c.as_slice.result.now in
    let told : IsNonDecreasing seen = where_true c.is_sorted.result _ _ sorted (non_decreasing_from_is_sorted seen c.is_sorted.result c.is_sorted.ensures.cases) in
    let rising : IsNonDecreasing starts = subst IsNonDecreasing c.as_slice.ensures.value told in
    let one_more : length starts ≡ length c.args.places + 1 = grind arith in
    let each : length c.in_ok-bindings.bindings.items ≡ length c.args.transitions = grind arith in
    record { begins = begins; rising = rising; one_more = one_more; each_transition = each }
