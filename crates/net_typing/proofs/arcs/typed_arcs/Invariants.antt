use Rattle.net_typing.proofs.arcs.typed_arcs.Given as goal

abbrev pub ghost-gather : goal.ghost-gather
ghost-gather g a = g.net
