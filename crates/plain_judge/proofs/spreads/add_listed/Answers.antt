use Rattle.std.proofs.Common.{◌≡◌, ◌+◌, ◌<◌, All, Some, length, pos, ◌*ℤ◌, take, get_or, subst, rules, FitsSigned, w64, arith}
use mir.Facts.{to_z-of_z}
use Rattle.std.specs.Prelude.{Contains}
use Rattle.std.proofs.lemmas.List.{take_all}
use Rattle.name_tables.specs.Numbering.{number_in}
use Rattle.plain_model.specs.Forms.{times_in}
use Rattle.plain_rows.proofs.Distinct.{all_more}
use Rattle.plain_judge.proofs.MetNames.{contained}
use Rattle.plain_judge.proofs.RaisedPlaces.{Raises-raised, listed_more}
use Rattle.plain_judge.proofs.spreads.add_listed.Goals as goal

pub loop-name-preserved : goal.loop-name-preserved
loop-name-preserved c =
    let fits : FitsSigned w64 c.args.value = search rules in
    let is = simp to_z-of_z at c.in_ok-raise-in-Some.ensures in
    let within : c.loop-name.name-index < length c.args.listed.now = omega arith in
    let one : get_or c.args.listed.now c.loop-name.name-index c.name-item.result ≡ c.name-item.result = search rules in
    let found : number_in c.args.ids.now c.name-item.result ≡ Some c.in-Some.place = search rules in
    let before = simp to_z-of_z at c.loop-name.invariant.0 in (
      simp to_z-of_z (Raises-raised c.args.ids.now (λ id. c.args.value *ℤ pos (times_in (take c.loop-name.name-index c.args.listed.now) id)) (λ id. c.args.value *ℤ pos (times_in (take (c.loop-name.name-index + 1) c.args.listed.now) id))
          c.args.coefficients.now c.loop-name.coefficients c.raise.new.coefficients c.in-Some.place c.name-item.result c.args.value
          c.requires.distinct found (search rules) is
          (λ id. listed_more c.args.value c.args.listed.now c.loop-name.name-index c.name-item.result id within one)
          before),
      all_more (Contains c.args.ids.now) c.args.listed.now c.loop-name.name-index c.name-item.result within c.name-item.is c.loop-name.invariant.1
          (contained c.args.ids.now c.name-item.result c.in-Some.place found),
    )

pub returns-clause-known : goal.returns-clause-known
returns-clause-known c = subst (All (Contains c.args.ids.now)) (take_all c.loop-name.name-index c.args.listed.now c.loop-name-test.false) c.loop-name.invariant.1
