use Rattle.std.proofs.Common.{◌≡◌, ◌<◌, ◌^◌, ap, sym, subst, length, ◌∙◌, arith}
use Rattle.multiset_terms.proofs.Conjunctions.{no-and, one-part, parts-many, parts-of-and}
use Rattle.multiset_terms.proofs.compiled.part_count.Goals as goal

pub returns-in-And : goal.returns-in-And
returns-in-And c = record {
  written = λ ctx g known.
      let many = parts-many ctx g c.args.guard.now known in
      let parts = ap length (parts-of-and c.args.guard.now c.in-And.parts c.in-And.is ∙ sym c.as_slice.ensures) in
      let told = c.count_of.ensures (let few = many.1 in omega (arith, few, parts)) in
      let same = many.0 in
      omega (arith, told, parts, same);
  compiled = λ ctx g known.
      let many = parts-many ctx g c.args.guard.now known in
      let parts = ap length (parts-of-and c.args.guard.now c.in-And.parts c.in-And.is ∙ sym c.as_slice.ensures) in
      let told = c.count_of.ensures (let few = many.1 in omega (arith, few, parts)) in
      omega (arith, told, parts);
}

pub returns-in_default : goal.returns-in_default
returns-in_default c =
    let one = one-part c.args.guard.now (no-and c.args.guard.now c.in_default.not-And) in
    record {
      written = λ ctx g known. sym ((parts-many ctx g c.args.guard.now known).0 ∙ one);
      compiled = λ ctx g known. sym one;
    }
