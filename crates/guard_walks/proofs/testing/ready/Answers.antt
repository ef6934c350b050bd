use Rattle.std.proofs.Common.{◌≡◌, ◌<◌, ◌≤◌, false, true, length, get_or, arith, subst, sym, ◌∙◌}
use Rattle.multiset_terms.specs.Standing.{compiled_parts}
use Rattle.guard_walks.specs.declared.walks.Test.{Test}
use Rattle.guard_walks.specs.Walks.{all_sizes, is_part_true_at, is_true_at}
use Rattle.guard_walks.proofs.Judging.{failing, passed_more, read_at}
use Rattle.guard_walks.proofs.testing.ready.Goals as goal

abbrev none : Test
none = record { needs = 0; part = 0 }

pub returns-then-not-is_part_true-clause-fails : goal.returns-then-not-is_part_true-clause-fails
returns-then-not-is_part_true-clause-fails c =
    let s = c.args.signature.now in
    let w = c.args.walk.now in
    let at = c.loop-at.at in
    let same = c.as_slice-tests.ensures in
    failing (is_part_true_at s w.guard) (length (compiled_parts w.guard)) (is_true_at s w.guard) (all_sizes s) w.variables w.tests at c.args.bound none c.args.indices.now
    c.requires.walk.tests (subst (λ ts. at < length ts) same c.loop-at-test.true) c.requires.indices
    (subst (λ ts. (get_or ts at none).needs ≤ c.args.bound) same c.if-tests-at.true)
    (subst (λ ts. is_part_true_at s w.guard (get_or ts at none).part c.args.indices.now ≡ false) same (sym c.is_part_true.ensures ∙ c.if-not-is_part_true.true))

pub loop-at-preserved : goal.loop-at-preserved
loop-at-preserved c =
    let s = c.args.signature.now in
    let w = c.args.walk.now in
    let at = c.loop-at.at in
    let same = c.as_slice-tests.ensures in
    let within : at < length w.tests = subst (λ ts. at < length ts) same c.loop-at-test.true in
    record {
      same = same;
      within = omega (arith, within);
      passed = passed_more (is_part_true_at s w.guard) (length (compiled_parts w.guard)) (is_true_at s w.guard) (all_sizes s) w.variables w.tests at c.args.bound none c.args.indices.now
          c.requires.walk.tests within c.requires.indices
          (subst (λ ts. (get_or ts at none).needs ≤ c.args.bound) same c.if-tests-at.true)
          c.loop-at.invariant.passed
          (subst (λ ts. is_part_true_at s w.guard (get_or ts at none).part c.args.indices.now ≡ true) same (sym c.is_part_true.ensures ∙ c.if-not-is_part_true.false));
    }

pub returns-else-tests-at-clause-stops : goal.returns-else-tests-at-clause-stops
returns-else-tests-at-clause-stops c within test e =
    read_at c.args.walk.now.tests c.loop-at.at none test c.args.bound within
    (subst (λ ts. c.args.bound < (get_or ts c.loop-at.at none).needs) c.as_slice-tests.ensures c.if-tests-at.false) e
