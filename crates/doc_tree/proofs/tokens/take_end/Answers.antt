use Rattle.std.proofs.Common.{ap, ◌∙◌}
use Rattle.doc_tree.specs.declared.places.Place.TheVariants as place
use Rattle.doc_tree.specs.Machine.{chosen, closed}
use Rattle.doc_tree.proofs.TakenRuns.{no_more}
use Rattle.doc_tree.proofs.TakenTokens.{end_token}
use Rattle.doc_tree.proofs.tokens.take_end.Goals as goal

pub returns-in-None-clause-read : goal.returns-in-None-clause-read
returns-in-None-clause-read c at b h = no_more place.Between c.args.opens.now c.args.root.now at b h

pub returns-in_ok-close-in-Some-pop-clause-read : goal.returns-in_ok-close-in-Some-pop-clause-read
returns-in_ok-close-in-Some-pop-clause-read c at b h =
    let inner = c.in-Some-pop.inner in
    end_token c.in-Some.count at c.args.opens.now inner c.pop.new.self c.close.new.opens c.args.root.now c.close.new.root b c.args.bytes.now c.in-Some.ensures c.in-Some-pop.ensures
    (c.in_ok-close-in-Some-pop.ensures ∙ ap (λ k. chosen (closed k c.pop.new.self c.args.root.now)) c.ended-element.ensures) h
