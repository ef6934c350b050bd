use Rattle.std.proofs.Common.{[], get_or, sym, ◌∙◌}
use Rattle.multiset_terms.proofs.Conjunctions.{itself}
use Rattle.guard_walks.proofs.Known.{id-of, part-known}
use Rattle.guard_walks.proofs.parts.does_occur.Goals as goal

pub returns : goal.returns
returns c =
    let s = c.args.signature.now in
    let known = c.requires.known in
    let h = part-known s c.args.guard.now c.args.at known c.requires.there in
    let id = get_or known.context.variables.ids c.args.variable [] in
    let is = id-of s c.args.guard.now known c.args.variable c.requires.declared in
    c.guard_uses.ensures known.context h.written id (c.part.ensures known.context known.written h.written known.stands h.here) is
    ∙ sym ((itself h.stands).variables c.args.variable id is)
