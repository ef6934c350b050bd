use Rattle.std.proofs.Common.{refl}
use Rattle.std.proofs.lemmas.Bool.{false≢true}
use Rattle.plain_text.proofs.Nonempty.{arcs_decide, places_show, transitions_show}
use Rattle.plain_text.proofs.net_pieces.has_nodes.Goals as goal

pub returns-then-not-is_empty : goal.returns-then-not-is_empty
returns-then-not-is_empty c = places_show c.args.net.now (λ none. false≢true (c.if-not-is_empty.ensures.1 none))

pub returns-then-not-is_empty-2 : goal.returns-then-not-is_empty-2
returns-then-not-is_empty-2 c = transitions_show c.args.net.now (λ none. false≢true (c.if-not-is_empty-2.ensures.1 none))

pub returns : goal.returns
returns c = arcs_decide c.args.net.now c.is_empty-3.result (c.if-not-is_empty.ensures.0 refl) (c.if-not-is_empty-2.ensures.0 refl) c.is_empty-3.ensures
