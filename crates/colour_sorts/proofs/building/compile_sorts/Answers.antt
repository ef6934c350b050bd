use Rattle.std.proofs.Common.{◌≡◌, ℕ, ◌<◌, true, [], ap, sym, ◌∙◌, arith, length, refl, subst}
use Rattle.std.proofs.lemmas.List.{length-map}
use Rattle.std.specs.Prelude.{IfNone}
use Rattle.colour_sorts.specs.Domain.{fault_of}
use Rattle.colour_sorts.specs.Walking.{AreMarked, AreSound, IsMarkedAt}
use Rattle.colour_sorts.proofs.Broken.{sound-ends}
use Rattle.colour_sorts.proofs.Built.{built-at, built-held, built-sorts, built-stands, none-if-not-broken}
use Rattle.colour_sorts.proofs.building.compile_sorts.Goals as goal

pub first_broken-requires-clause-all : goal.first_broken-requires-clause-all
first_broken-requires-clause-all c = subst (λ ms. (at : ℕ) → at < length c.args.sorts.now → IsMarkedAt c.args.sorts.now ms at) (sym c.as_slice-2.ensures.value) c.in_ok-marks.ensures.all

pub invariant_of-result : goal.invariant_of-result
invariant_of-result c =
    let sorts = c.args.sorts.now in
    let marks = c.in_ok-marks.marks.items in
    let none = none-if-not-broken c.in_ok-broken.field-0 c.in_default.not-Some in
    let sound = subst (λ ms. AreSound sorts ms (length sorts)) c.as_slice-2.ensures.value (subst (λ o. IfNone o (AreSound sorts c.as_slice-2.result.now (length sorts))) none c.in_ok-broken.ensures.sound) in
    let compiled = c.in_ok-compiled.compiled in
    let built = built-at sorts compiled marks c.requires.distinct c.in_ok-marks.ensures.marked sound c.in_ok-compiled.ensures.compiled c.in_ok-compiled.ensures.all in
    let held = built-held sorts compiled marks c.in_ok-marks.ensures.marked.as_long c.in_ok-compiled.ensures.compiled.as_long built in
    rw (c.in_ok-constants.ensures, c.from_vec.ensures) (
      held,
      omega (arith, c.in_ok-compiled.ensures.compiled.as_long, ap length c.in_ok-ids.ensures, length-map sorts (λ s. s.id)),
      ap length c.new-3.ensures ∙ sym (ap length c.new.ensures),
    )

pub returns : goal.returns
returns c =
    let sorts = c.args.sorts.now in
    let marks = c.in_ok-marks.marks.items in
    let none = none-if-not-broken c.in_ok-broken.field-0 c.in_default.not-Some in
    let sound = subst (λ ms. AreSound sorts ms (length sorts)) c.as_slice-2.ensures.value (subst (λ o. IfNone o (AreSound sorts c.as_slice-2.result.now (length sorts))) none c.in_ok-broken.ensures.sound) in
    let compiled = c.in_ok-compiled.compiled in
    let built = built-at sorts compiled marks c.requires.distinct c.in_ok-marks.ensures.marked sound c.in_ok-compiled.ensures.compiled c.in_ok-compiled.ensures.all in
    let fault = sym c.in_ok-broken.ensures.broken ∙ ap (fault_of sorts) none in
    let same = built-sorts sorts compiled marks c.in_ok-compiled.ensures.compiled.as_long built in
    built-stands sorts compiled marks _
    (rw (c.in_ok-ids.ensures, c.in_ok-constants.ensures, c.new.ensures, c.new-2.ensures, c.new-3.ensures, same) refl) fault built
