use Rattle.std.proofs.Common.{sym, ◌∙◌, ap}
use Rattle.mcc_model.specs.declared.formulas.Formula.{fold-roll-Formula}
use Rattle.mcc_model.specs.declared.formulas.Formula.TheOpen as part
use Rattle.mcc_model.specs.declared.formulas.Formula.TheVariants as of_file
use Rattle.net_props.specs.Properties.{StateFormula, stated_by_parts, stated}
use Rattle.net_props.proofs.laws.formulas_are_stated.Goals as goal

pub returns : goal.returns
returns c = record {
  not = λ f. ap stated (sym (of_file.rolls-Not f)) ∙ fold-roll-Formula StateFormula stated_by_parts (part.Not f);
  and = λ fs. ap stated (sym (of_file.rolls-And fs)) ∙ fold-roll-Formula StateFormula stated_by_parts (part.And fs);
  or = λ fs. ap stated (sym (of_file.rolls-Or fs)) ∙ fold-roll-Formula StateFormula stated_by_parts (part.Or fs);
  at_most = λ a b. ap stated (sym (of_file.rolls-AtMost a b)) ∙ fold-roll-Formula StateFormula stated_by_parts (part.AtMost a b);
  fireable = λ transitions. ap stated (sym (of_file.rolls-Fireable transitions)) ∙ fold-roll-Formula StateFormula stated_by_parts (part.Fireable transitions);
}
