use Rattle.std.proofs.Common.{◌≤◌, drop}
use Rattle.colour_sorts.specs.Judging.{AreCapped}
use Rattle.colour_sorts.proofs.Products.{IsGrowing}
use Rattle.colour_sorts.proofs.domains.Domains.+measuring.Given as goal

abbrev pub invariant-product_of-loop-part : goal.invariant-product_of-loop-part
invariant-product_of-loop-part l = record {
  capped : AreCapped l.facts;
  deep : 1 ≤ l.facts.depth;
  growing : IsGrowing l.fn.self.constants (drop l.part-index l.parts) l.parts l.facts;
}
