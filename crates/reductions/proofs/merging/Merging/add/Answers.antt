use Rattle.std.proofs.Common.{◌≡◌, ◌∙◌, true, false, inl, inr, arith, length, ap, ap₂, subst, subst₂, sym}
use Rattle.wide_sums.specs.Cells.{IsRow}
use Rattle.pt_net.specs.declared.instances.Origin.{Origin}
use Rattle.pt_net.specs.InArrays.{instance_from}
use Rattle.pt_net.specs.Instances.{origin_of}
use Rattle.pt_net.specs.Systems.{instance_at}
use Rattle.trap_siphon.specs.Sets.{has}
use Rattle.reductions.specs.Merging.{Joins, Begins, key_at, on_stays, stays}
use Rattle.reductions.proofs.Joining.{few_inputs, few_listed, few_outputs, step_begins, step_blocked, step_dead, step_joins}
use Rattle.reductions.proofs.Nets.{row_on-is_row}
use Rattle.reductions.proofs.merging.Merging.add.Goals as goal

pub place-requires : goal.place-requires
place-requires c =
    let net = c.args.view.now.net.now in
    let still = c.args.view.now.round.now.constant in
    let live = c.args.view.now.round.now.live in
    let i = c.args.instance in
    record {
      pre = subst IsRow (sym c.in_ok-fill.ensures.pre) (row_on-is_row (stays still) (instance_at net i).pre c.in_ok-fill.ensures.rows.pre);
      post = subst IsRow (sym c.in_ok-fill.ensures.post) (row_on-is_row (stays still) (instance_at net i).post c.in_ok-fill.ensures.rows.post);
      few = few_listed net still live i c.args.self.now.keys c.args.self.now.fates.items c.args.self.now.kept.instances c.requires.system c.requires.instance c.requires.merging;
      few_inputs =
          let few = few_inputs net still live i c.args.self.now.keys c.args.self.now.fates.items c.args.self.now.kept.instances c.requires.system c.requires.instance c.requires.merging in
          let same = ap length c.in_ok-fill.ensures.pre in
          omega arith;
      few_outputs =
          let few = few_outputs net still live i c.args.self.now.keys c.args.self.now.fates.items c.args.self.now.kept.instances c.requires.system c.requires.instance c.requires.merging in
          let same = ap length c.in_ok-fill.ensures.post in
          omega arith;
    }

pub returns-in_ok-place-clause-merging : goal.returns-in_ok-place-clause-merging
returns-in_ok-place-clause-merging c =
    let net = c.args.view.now.net.now in
    let still = c.args.view.now.round.now.constant in
    let key : c.fill.new.self.key ≡ key_at net still c.args.instance = c.in_ok-fill.ensures.key in
    let on : instance_from c.origin.result c.fill.new.self.pre.items c.fill.new.self.post.items ≡ on_stays net still c.args.instance =
    ap (λ (o : Origin). instance_from o c.fill.new.self.pre.items c.fill.new.self.post.items) c.origin.ensures ∙ ap₂ (instance_from (origin_of (instance_at net c.args.instance))) c.in_ok-fill.ensures.pre c.in_ok-fill.ensures.post in
    let live : has c.args.view.now.round.now.live c.args.instance ≡ true = sym c.has.ensures ∙ c.if-has.true in
    elim c.in_ok-place.ensures.placed [
      | inl joins ↦
          step_joins net still c.args.view.now.round.now.live c.args.instance c.args.self.now.keys c.place.new.self.keys c.args.self.now.fates.items c.place.new.self.fates.items c.args.self.now.kept.instances c.place.new.self.kept.instances
          c.requires.system c.requires.instance live c.in_ok-fill.ensures.rows c.requires.merging
          (subst (λ k. Joins k c.args.self.now.keys c.place.new.self.keys c.args.self.now.fates.items c.place.new.self.fates.items c.args.self.now.kept.instances c.place.new.self.kept.instances) key joins)
      | inr begins ↦
          step_begins net still c.args.view.now.round.now.live c.args.instance c.args.self.now.keys c.place.new.self.keys c.args.self.now.fates.items c.place.new.self.fates.items c.args.self.now.kept.instances c.place.new.self.kept.instances
          c.requires.system c.requires.instance live c.in_ok-fill.ensures.rows c.requires.merging
          (subst₂ (λ k t. Begins k t c.args.self.now.keys c.place.new.self.keys c.args.self.now.fates.items c.place.new.self.fates.items c.args.self.now.kept.instances c.place.new.self.kept.instances) key on begins)
    ]

pub returns-in_ok-push-clause-merging : goal.returns-in_ok-push-clause-merging
returns-in_ok-push-clause-merging c =
    let off : has c.args.view.now.round.now.live c.args.instance ≡ false = sym c.has.ensures ∙ c.if-has.false in
    let yet : has c.args.view.now.round.now.alive c.args.instance ≡ true = sym c.has-else-has.ensures ∙ c.if-has-2.true in
    step_blocked c.args.view.now.net.now c.args.view.now.round.now.active c.args.view.now.round.now.constant c.args.view.now.round.now.live c.args.view.now.round.now.alive c.args.instance
    c.args.self.now.keys c.args.self.now.fates.items c.push.new.self.items c.args.self.now.kept.instances c.requires.instance c.requires.last off yet c.in_ok-push.ensures.items c.requires.merging

pub returns-in_ok-push-2-clause-merging : goal.returns-in_ok-push-2-clause-merging
returns-in_ok-push-2-clause-merging c =
    let off : has c.args.view.now.round.now.live c.args.instance ≡ false = sym c.has.ensures ∙ c.if-has.false in
    let gone : has c.args.view.now.round.now.alive c.args.instance ≡ false = sym c.has-else-has.ensures ∙ c.if-has-2.false in
    step_dead c.args.view.now.net.now c.args.view.now.round.now.active c.args.view.now.round.now.constant c.args.view.now.round.now.live c.args.view.now.round.now.alive c.args.instance
    c.args.self.now.keys c.args.self.now.fates.items c.push-else-has-2.new.self.items c.args.self.now.kept.instances c.requires.instance c.requires.last off gone c.in_ok-push-2.ensures.items c.requires.merging
