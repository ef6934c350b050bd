use Rattle.std.proofs.Common.{◌≡◌, arith, length, map, ap, subst, sym, ◌∙◌}
use Rattle.std.proofs.lemmas.List.Elements.{All-push}
use Rattle.std.specs.List.{All, range_with_len}
use Rattle.multiset_terms.specs.Standing.{compiled_parts}
use Rattle.guard_walks.specs.Testing.{AreTests, IsTest}
use Rattle.guard_walks.specs.Walks.{all_sizes, is_part_true_at, is_true_at}
use Rattle.guard_walks.proofs.Testable.{are_tests, is_test, parts_more}
use Rattle.guard_walks.proofs.making.tests_of.Goals as goal

pub loop-at-preserved : goal.loop-at-preserved
loop-at-preserved c =
    let s = c.args.signature.now in
    let g = c.args.guard.now in
    let vs = c.args.variables.now in
    let needs = c.needs_of-needs in
    let many : c.part_count-at-end.result ≡ length (compiled_parts g) = c.part_count-at-end.ensures.compiled c.requires.known.context c.requires.known.written c.requires.known.stands in
    record {
      each = subst (All (IsTest (is_part_true_at s g) (length (compiled_parts g)) (all_sizes s) vs)) (sym c.in_ok-push.ensures.items)
          (All-push (IsTest (is_part_true_at s g) (length (compiled_parts g)) (all_sizes s) vs) c.loop-at.tests.items (record { needs = needs.result; part = c.loop-at.at })
          c.loop-at.invariant.each
          (is_test s g vs needs.result c.loop-at.at c.requires.known c.requires.over (omega (arith, c.loop-at-test.true, many)) needs.ensures.within needs.ensures.last));
      parts = ap (map (λ t. t.part)) c.in_ok-push.ensures.items ∙ parts_more c.loop-at.tests.items needs.result c.loop-at.at c.loop-at.invariant.parts;
    }

pub returns : goal.returns
returns c =
    let s = c.args.signature.now in
    let g = c.args.guard.now in
    let vs = c.args.variables.now in
    let many : c.part_count-at-end.result ≡ length (compiled_parts g) = c.part_count-at-end.ensures.compiled c.requires.known.context c.requires.known.written c.requires.known.stands in
    let p = c.loop-at.auto.at-end in
    subst (AreTests (is_part_true_at s g) (length (compiled_parts g)) (is_true_at s g) (all_sizes s) vs) (sym c.from_vec.ensures)
    (are_tests s g vs c.loop-at.tests.items c.sort.new.self.items c.loop-at.invariant.each
    (c.loop-at.invariant.parts ∙ ap (range_with_len 0) (omega (arith, c.loop-at-test.false, many, p))) c.in_ok-sort.ensures.permutation)
