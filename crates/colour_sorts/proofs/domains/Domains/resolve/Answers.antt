use Rattle.std.proofs.Common.{sym, ap, ◌∙◌}
use Rattle.colour_sorts.specs.Naming.{enough}
use Rattle.colour_sorts.proofs.Resolved.{never-uncompiled, none-if-not-some, ready}
use Rattle.colour_sorts.proofs.domains.Domains.resolve.Goals as goal

pub unreachable-requires : goal.unreachable-requires
unreachable-requires c =
    let known = rw c.in-Ok-None.field-0-is at c.in-Ok-None.ensures in
    never-uncompiled c.self.inside.ids c.self.inside.constants c.self.inside.sorts c.self.inside.marks c.args.sort.now c.self.invariant.0 known

pub returns-in-Ok-Some : goal.returns-in-Ok-Some
returns-in-Ok-Some c = record {
  resolved = λ sorts partitions stands.
      (let d = c.self.view_is in
      let all = ready c.self.inside.ids c.self.inside.constants c.self.inside.sorts c.self.inside.marks c.args.self.now sorts partitions c.self.invariant.0 c.self.invariant.1
      (ap (λ d. d.ids) d) (ap (λ d. d.constants) d) (ap (λ d. d.sorts) d) stands in
      let known = rw c.in-Ok-Some.field-0-is at c.in-Ok-Some.ensures in (
        sym (c.broken.ensures sorts partitions stands) ∙ none-if-not-some c.broken.result c.in_default.not-Some,
        known sorts (enough sorts) (ap (λ d. d.ids) d ∙ ap (λ d. d.ids) stands.is) all.compiled_so,
      ));
}
