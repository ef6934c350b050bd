use Rattle.std.proofs.Common.{ℕ, List, false, arith}
use Rattle.multiset_terms.specs.declared.compiled.CTerm.{CTerm}
use Rattle.multiset_terms.specs.Standing.{CanBeAdded, CanBeEvaluated}
use Rattle.multiset_terms.proofs.Using.{can-evaluate}
use Rattle.term_probe.proofs.turns.cells_at.Goals as goal

-- a term that can be evaluated can be added once to an empty buffer
added-once : (c : CTerm) (indices : List ℕ) → CanBeEvaluated c indices → CanBeAdded c indices (record { times = 1; offset = 0 })
added-once c indices known = record {
  evaluated = known;
  fits = let light = known.stands.light in omega (arith, light);
  room = let few = known.stands.limit known.no_block in omega (arith, few);
}

pub cells_in_turns-requires : goal.cells_in_turns-requires
cells_in_turns-requires c =
    added-once c.in-Ok.compiled c.args.indices.now
    (can-evaluate c.args.scope.now.domains c.args.scope.now.variables false c.args.term.now c.in-Ok.compiled c.is_block.result c.args.indices.now
    c.requires c.in-Ok.ensures c.is_block.ensures c.if-is_block.false c.if-not-is_binding.ensures.yes)
