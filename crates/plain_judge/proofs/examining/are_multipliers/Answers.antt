use Rattle.std.proofs.Common.{◌<◌, ◌^◌, ◌++◌, ◌∷◌, [], take, All, List, sym, subst, ap, ◌∙◌, rules}
use Rattle.std.specs.Prelude.{AllPairs, unsigned_abs}
use Rattle.std.proofs.lemmas.List.{take_all, take_more}
use Rattle.name_tables.specs.Numbering.{number_in}
use Rattle.plain_model.specs.declared.certificates.Multiplier.{Multiplier}
use Rattle.plain_model.specs.Plain.{IsPlainMultiplier, MultiplyApart}
use Rattle.plain_judge.specs.Examining.{AreExamined}
use Rattle.plain_judge.proofs.MetNames.{fact_more, hypothesis_more}
use Rattle.plain_judge.proofs.examining.are_multipliers.Goals as goal
use Rattle.plain_judge.proofs.examining.are_multipliers.Goals.{in-Fact+in-Some+else-marks-fact-eq1+else-not-is_in_range, in-Hypothesis+else-is_hypothesis_met+else-number-ne1+else-not-is_in_range-2}

pub loop-multiplier-preserved : goal.loop-multiplier-preserved
loop-multiplier-preserved c =
    let names = c.args.names.now in
    let before = take c.loop-multiplier.multiplier-index c.args.close.now in
    let marks = c.loop-multiplier.marks in
    let so = c.loop-multiplier.invariant in
    let next = take_more c.args.close.now c.loop-multiplier.multiplier-index c.multiplier-item.result c.loop-multiplier-test.true ∙ ap (λ (m : Multiplier). before ++ m ∷ []) (sym c.multiplier-item.is) in
    elim c.match-multiplier.branch [
      | in-Fact+in-Some+else-marks-fact-eq1+else-not-is_in_range w ↦
          let range : unsigned_abs w.in-Fact.factor.value < 2 ^ 63 = search rules in
          let found = ap (number_in names) (sym w.bytes.ensures) ∙ sym w.find.ensures ∙ w.in-Some.is in
          let more = fact_more names marks before c.loop-multiplier.is_hypothesis_met w.in-Fact.factor w.in-Some.fact so found w.if-marks-fact-eq1.false range in
          subst (λ (ms : List Multiplier). AreExamined names ms c.match-multiplier.marks c.match-multiplier.is_hypothesis_met) (sym (next ∙ ap (λ (m : Multiplier). before ++ m ∷ []) w.in-Fact.is))
          (rw (w.marks-is, w.is_hypothesis_met-is) more)
      | in-Hypothesis+else-is_hypothesis_met+else-number-ne1+else-not-is_in_range-2 w ↦
          let range : unsigned_abs w.in-Hypothesis.value < 2 ^ 63 = search rules in
          let more = hypothesis_more names marks before c.loop-multiplier.is_hypothesis_met w.in-Hypothesis.value w.in-Hypothesis.number so w.if-is_hypothesis_met.false w.if-number-ne1.false range in
          subst (λ (ms : List Multiplier). AreExamined names ms c.match-multiplier.marks c.match-multiplier.is_hypothesis_met) (sym (next ∙ ap (λ (m : Multiplier). before ++ m ∷ []) w.in-Hypothesis.is))
          (rw (w.marks-is, w.is_hypothesis_met-is) more)
    ]

pub returns-clause-plain : goal.returns-clause-plain
returns-clause-plain c = subst (All (IsPlainMultiplier c.args.names.now)) (take_all c.loop-multiplier.multiplier-index c.args.close.now c.loop-multiplier-test.false) c.loop-multiplier.invariant.plain

pub returns-clause-once : goal.returns-clause-once
returns-clause-once c = subst (AllPairs MultiplyApart) (take_all c.loop-multiplier.multiplier-index c.args.close.now c.loop-multiplier-test.false) c.loop-multiplier.invariant.once
