use Rattle.std.proofs.Common.{◌≡◌, length, sym, ap, ◌∙◌, arith, subst, Some}
use Rattle.std.proofs.lemmas.Option.{slice_get_within}
use Rattle.std.specs.List.{slice_get}
use Rattle.colour_sorts.specs.declared.facts.Mark.TheVariants.{Done}
use Rattle.colour_sorts.specs.Colours.{constants_at}
use Rattle.colour_sorts.specs.Judging.{AreCapped}
use Rattle.net_model.specs.Ids.{constants_of}
use Rattle.colour_sorts.specs.Naming.{enough, sort_of}
use Rattle.colour_sorts.proofs.PlacesIn.{some-is-some}
use Rattle.colour_sorts.proofs.Resolved.{ready, rule-of-known, rule-of-unknown}
use Rattle.colour_sorts.proofs.Walks.{done-is}
use Rattle.colour_sorts.proofs.domains.Domains.broken.Goals as goal

pub facts_of-requires-clause-capped : goal.facts_of-requires-clause-capped
facts_of-requires-clause-capped c = λ at f e.
    (let there : slice_get c.self.inside.marks at ≡ Some (Done f) = ap (λ ms. slice_get ms at) (sym c.as_slice.ensures) ∙ e in
    let held = c.self.invariant.0 in
    let h = held.held at (omega (arith, slice_get_within c.self.inside.marks at (Done f) there, held.as_long)) in
    subst AreCapped (sym (done-is f h.1 (some-is-some (Done f) (Done h.1) (sym there ∙ h.3)))) h.4.capped)

pub unreachable-requires : goal.unreachable-requires
unreachable-requires c =
    let waits = c.in-Err.ensures.waits in
    let h = c.self.invariant.0.held c.in-Err.field-0 (omega (arith, waits.within, c.self.invariant.1)) in
    waits.open_ h.1 (ap (λ ms. slice_get ms c.in-Err.field-0) c.as_slice.ensures ∙ h.3)

pub returns-then-facts : goal.returns-then-facts
returns-then-facts c = λ sorts partitions stands.
    (let d = c.self.view_is in
    let all = ready c.self.inside.ids c.self.inside.constants c.self.inside.sorts c.self.inside.marks c.args.self.now sorts partitions c.self.invariant.0 c.self.invariant.1
    (ap (λ d. d.ids) d) (ap (λ d. d.constants) d) (ap (λ d. d.sorts) d) stands in
    let judged = rw c.as_slice.ensures at c.in-Ok.ensures.judged in
    let own = c.from-own.ensures ∙ c.count.ensures ∙ ap (λ cs. length (constants_at cs 0)) (ap (λ d. d.constants) d ∙ ap (λ d. d.constants) stands.is) in
    let known = judged sorts (enough sorts) 0 (ap (λ d. d.ids) d ∙ ap (λ d. d.ids) stands.is) all.settled (omega arith) own in
    rule-of-known sorts c.args.sort.now c.in-Ok.facts c.broken.result known c.if-facts.true (c.broken.ensures (constants_of sorts) (sort_of sorts 0 c.args.sort.now) known.tests))

pub returns-else-facts : goal.returns-else-facts
returns-else-facts c = λ sorts partitions stands.
    (let d = c.self.view_is in
    let all = ready c.self.inside.ids c.self.inside.constants c.self.inside.sorts c.self.inside.marks c.args.self.now sorts partitions c.self.invariant.0 c.self.invariant.1
    (ap (λ d. d.ids) d) (ap (λ d. d.constants) d) (ap (λ d. d.sorts) d) stands in
    let judged = rw c.as_slice.ensures at c.in-Ok.ensures.judged in
    let own = c.from-own.ensures ∙ c.count.ensures ∙ ap (λ cs. length (constants_at cs 0)) (ap (λ d. d.constants) d ∙ ap (λ d. d.constants) stands.is) in
    let known = judged sorts (enough sorts) 0 (ap (λ d. d.ids) d ∙ ap (λ d. d.ids) stands.is) all.settled (omega arith) own in
    rule-of-unknown sorts c.args.sort.now c.in-Ok.facts known c.if-facts.false)
