use Rattle.std.proofs.Common.{◌≡◌, ◌<◌, Some, ap, sym, subst, ◌∙◌, length}
use Rattle.std.specs.Prelude.{slice_get}
use Rattle.std.proofs.lemmas.Option.{slice_get-get_or}
use Rattle.multiset_terms.proofs.Conjunctions.{no-and, part-and, part-itself, parts-of-and}
use Rattle.multiset_terms.proofs.compiled.part.Goals as goal

pub returns-in-And : goal.returns-in-And
returns-in-And c = λ ctx g h known here.
    let within = subst (λ cs. c.args.at < length cs) (parts-of-and c.args.guard.now c.in-And.parts c.in-And.is ∙ sym c.as_slice.ensures) c.requires in
    let there = slice_get-get_or c.as_slice.result.now c.args.at c.index-as_slice-at.result within ∙ ap Some (sym c.index-as_slice-at.is) in
    part-and ctx g c.args.guard.now c.in-And.parts c.args.at h c.index-as_slice-at.result known c.in-And.is here (ap (λ cs. slice_get cs c.args.at) (sym c.as_slice.ensures) ∙ there)

pub returns-in_default : goal.returns-in_default
returns-in_default c = λ ctx g h known here.
    part-itself ctx g c.args.guard.now c.args.at h known (no-and c.args.guard.now c.in_default.not-And) here
