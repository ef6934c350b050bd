use Rattle.std.proofs.Common.{◌≡◌, ◌<◌, ◌≤◌, ℕ, List, drop, length}
use Rattle.net_model.specs.declared.sorts.NamedSort.{NamedSort}
use Rattle.colour_sorts.specs.Colours.{constants_at}
use Rattle.colour_sorts.specs.Judging.{AreCapped, AreSettled}
use Rattle.net_model.specs.Ids.{constants_of, ids_of}
use Rattle.colour_sorts.proofs.Products.{IsGoing}
use Rattle.colour_sorts.proofs.judging.+judging.Given as goal

abbrev pub invariant-product_facts-loop-part : goal.invariant-product_facts-loop-part
invariant-product_facts-loop-part l = record {
  capped : AreCapped l.facts;
  deep : 1 ≤ l.facts.depth;
  going : (sorts : List NamedSort) (steps at : ℕ) → l.ids ≡ ids_of sorts → AreSettled sorts l.marks steps → 0 < steps
      → l.own ≡ length (constants_at (constants_of sorts) at) → IsGoing sorts steps at (drop l.part-index l.parts) l.parts l.facts;
}
