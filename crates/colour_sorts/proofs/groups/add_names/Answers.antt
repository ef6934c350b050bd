use Rattle.std.proofs.Common.{◌++◌, ◌∷◌, [], ap, sym, ◌∙◌, replicate}
use Rattle.std.proofs.lemmas.List.{append_assoc, replicate-append-replicate}
use Rattle.colour_sorts.proofs.Grouped.{add-next}
use Rattle.colour_sorts.proofs.groups.add_names.Goals as goal

pub loop-name-preserved : goal.loop-name-preserved
loop-name-preserved c = record {
  names = add-next c.args.names.now c.args.group.now c.loop-name.name-index c.name-item.result c.in_ok-add.field-0 c.loop-name.names c.add.new.self c.requires.distinct
      c.loop-name-test.true c.name-item.is c.loop-name.invariant.names (rw (sym c.in_ok-copy.ensures) c.in_ok-add.ensures.added);
  owners = c.in_ok-push.ensures.ok ∙ ap (λ xs. xs ++ c.args.at ∷ []) c.loop-name.invariant.owners ∙ append_assoc c.args.owners.now (replicate c.loop-name.name-index c.args.at) (c.args.at ∷ [])
      ∙ ap (λ xs. c.args.owners.now ++ xs) (replicate-append-replicate c.loop-name.name-index 1 c.args.at);
}
