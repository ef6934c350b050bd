use Rattle.std.proofs.Common.{sym, ◌∙◌}
use Rattle.multiset_terms.specs.Bindings.{binding_of}
use Rattle.guard_walks.specs.Walks.{part_at}
use Rattle.guard_walks.proofs.Known.{binds-here, can-be-judged, part-known, true-as-written}
use Rattle.guard_walks.proofs.parts.is_part_true.Goals as goal

pub holds-requires : goal.holds-requires
holds-requires c =
    let s = c.args.signature.now in
    let known = c.requires.known in
    let h = part-known s c.args.guard.now c.args.at known c.requires.there in
    can-be-judged s c.args.guard.now c.part.result.now h.written c.args.indices.now known (c.part.ensures known.context known.written h.written known.stands h.here) c.requires.indices

pub returns : goal.returns
returns c =
    let s = c.args.signature.now in
    let known = c.requires.known in
    let h = part-known s c.args.guard.now c.args.at known c.requires.there in
    c.holds.ensures known.context h.written (binding_of known.context c.args.indices.now) known.scope.domain.is
    (c.part.ensures known.context known.written h.written known.stands h.here) (binds-here s c.args.guard.now c.args.indices.now known c.requires.indices)
    ∙ sym (true-as-written s c.args.guard.now (part_at c.args.guard.now c.args.at) h.written c.args.indices.now known h.stands c.requires.indices)
