use Rattle.std.proofs.Common.{◌≡◌, ◌≤◌, ap, arith, length, subst, sym, take, ◌∙◌}
use Rattle.multiset_terms.specs.Standing.{compiled_parts}
use Rattle.guard_walks.specs.Testing.{Passed}
use Rattle.guard_walks.specs.Walks.{all_sizes, is_part_true_at, is_true_at}
use Rattle.guard_walks.proofs.Binding.{complete, stretch}
use Rattle.guard_walks.proofs.Judging.{all_tested, passed_kept}
use Rattle.guard_walks.proofs.Setting.{length-values}
use Rattle.guard_walks.proofs.walking.bind.Goals as goal

pub returns-in-None-clause-some : goal.returns-in-None-clause-some
returns-in-None-clause-some c = omega (arith, c.loop-next.invariant.stands.within)

pub returns-in-None-clause-room : goal.returns-in-None-clause-room
returns-in-None-clause-room c = omega (arith, c.loop-next.invariant.stands.within, c.loop-next.invariant.stands.room, c.loop-next.invariant.number, c.requires.walk.counted)

pub returns-in-None-clause-passed : goal.returns-in-None-clause-passed
returns-in-None-clause-passed c truth agrees =
    let s = c.args.signature.now in
    let w = c.args.walk.now in
    let l = c.loop-next in
    stretch (is_true_at s w.guard) truth (all_sizes s) w.variables w.sizes l.progress c.args.number l.indices c.requires.walk.declared c.requires.walk.sizes
    l.invariant.fits agrees l.invariant.number l.invariant.stands c.in-None.ensures.fails

pub returns-then-progress-len-clause-bound : goal.returns-then-progress-len-clause-bound
returns-then-progress-len-clause-bound c truth agrees =
    let s = c.args.signature.now in
    let w = c.args.walk.now in
    let l = c.loop-next in
    let more : length w.sizes ≤ l.progress.bound = omega (arith, c.if-progress-len.true, c.len.ensures) in
    let even : length w.sizes ≡ length w.variables = ap length c.requires.walk.sizes ∙ length-values (all_sizes s) w.variables in
    complete (is_part_true_at s w.guard) (length (compiled_parts w.guard)) (is_true_at s w.guard) truth (all_sizes s) w.variables w.sizes w.tests l.progress c.args.number c.in-Some.next l.indices
    c.requires.walk.tests l.invariant.fits agrees l.invariant.number more l.invariant.stands c.in-Some.ensures.passed
    (all_tested (is_part_true_at s w.guard) (length (compiled_parts w.guard)) (is_true_at s w.guard) (all_sizes s) w.variables w.tests c.in-Some.next l.progress.bound
    c.requires.walk.tests (omega (arith, more, even)) c.in-Some.ensures.stops)

pub loop-next-preserved : goal.loop-next-preserved
loop-next-preserved c =
    let s = c.args.signature.now in
    let w = c.args.walk.now in
    let l = c.loop-next in
    let tests = take c.in-Some.next w.tests in
    record {
      number = c.bind_next.ensures.number ∙ l.invariant.number;
      fits = c.bind_next.ensures.binding (all_sizes s) c.requires.walk.sizes l.invariant.fits;
      stands = c.bind_next.ensures.stands;
      within = c.in-Some.ensures.within;
      passed = subst (λ n. Passed (is_part_true_at s w.guard) (all_sizes s) w.variables tests n c.bind_next.new.indices) (sym c.bind_next.ensures.bound)
          (passed_kept (is_part_true_at s w.guard) (all_sizes s) w.variables tests l.progress.bound l.indices c.bind_next.new.indices c.bind_next.ensures.kept c.in-Some.ensures.passed);
    }
