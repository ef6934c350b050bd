use Rattle.std.proofs.Common.{◌++◌, map, ap, sym, ◌∙◌}
use Rattle.std.proofs.lemmas.List.{take_all}
use Rattle.std.specs.Prelude.{flat_map}
use Rattle.colour_sorts.specs.Searching.{places_named}
use Rattle.colour_sorts.specs.declared.ordering.Turn.TheVariants.{Enter}
use Rattle.colour_sorts.proofs.Named.{on-ok, places-Product}
use Rattle.colour_sorts.proofs.Searched.{pushed-more}
use Rattle.colour_sorts.proofs.ordering.+searching.Goals as goal

pub push_names-returns-in-Product : goal.push_names-returns-in-Product
push_names-returns-in-Product t c = (let e = ap (λ xs. c.args.waiting.now.items ++ map Enter xs) (ap (flat_map (places_named c.args.ids.now)) c.as_slice.ensures ∙ sym (places-Product c.args.ids.now c.in-Product.parts)) in
    rw c.in-Product.is (on-ok c.push_parts.result (λ h. h ∙ e) c.push_parts.ensures))

pub push_parts-loop-part-preserved : goal.push_parts-loop-part-preserved
push_parts-loop-part-preserved t c =
    c.in_ok-push_names.ensures ∙ ap (λ xs. xs ++ map Enter (places_named c.args.ids.now c.part-item.result)) c.loop-part.invariant
    ∙ pushed-more c.args.ids.now c.args.waiting.now.items c.args.parts.now c.loop-part.part-index c.part-item.result c.loop-part-test.true c.part-item.is

pub push_parts-returns : goal.push_parts-returns
push_parts-returns t c = c.loop-part.invariant
    ∙ ap (λ ts. c.args.waiting.now.items ++ map Enter (flat_map (places_named c.args.ids.now) ts)) (take_all c.loop-part.part-index c.args.parts.now c.loop-part-test.false)
