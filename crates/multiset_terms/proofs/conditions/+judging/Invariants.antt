use Rattle.std.proofs.Common.{◌≡◌, true, drop}
use Rattle.multiset_terms.specs.Conditions.{all_true, any_true, are_fit, verdicts}
use Rattle.multiset_terms.proofs.conditions.+judging.Given as goal

-- the rest decides, and is fit
abbrev pub invariant-are_true-loop-part : goal.invariant-are_true-loop-part
invariant-are_true-loop-part l = record {
  whole : all_true (verdicts l.domains l.binding (drop l.part-index l.parts)) ≡ all_true (verdicts l.domains l.binding l.parts);
  fit : are_fit (verdicts l.domains l.binding (drop l.part-index l.parts)) ≡ true;
}

abbrev pub invariant-is_any_true-loop-part : goal.invariant-is_any_true-loop-part
invariant-is_any_true-loop-part l = record {
  whole : any_true (verdicts l.domains l.binding (drop l.part-index l.parts)) ≡ any_true (verdicts l.domains l.binding l.parts);
  fit : are_fit (verdicts l.domains l.binding (drop l.part-index l.parts)) ≡ true;
}
