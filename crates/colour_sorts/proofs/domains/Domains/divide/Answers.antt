use Rattle.std.proofs.Common.{◌≡◌, true, false, sym, arith, ap, ◌∙◌, length, drop, refl, subst}
use Rattle.std.proofs.lemmas.List.{length-replicate}
use Rattle.colour_sorts.specs.Colours.{colours}
use Rattle.colour_sorts.specs.Dividing.{can_be_divided, is_covered, is_member, members_of}
use Rattle.std.specs.List.{list_all}
use Rattle.colour_sorts.specs.Filling.{HasFree, IsFull}
use Rattle.colour_sorts.proofs.Covered.{cover-rule, free-uncovered, full-blocks, full-covered, spliced, twice-uncovered}
use Rattle.colour_sorts.proofs.domains.Domains.divide.Goals as goal

pub returns-then-not-put_blocks : goal.returns-then-not-put_blocks
returns-then-not-put_blocks c =
    let constants = c.args.self.now.constants in
    let s = c.args.sort.now in
    let elements = c.args.elements.now in
    cover-rule (can_be_divided s) (list_all (is_member constants s) (members_of elements)) (is_covered constants s elements) false
    (sym c.can_be_divided.ensures ∙ c.if-not-can_be_divided.false) (sym c.are_members.ensures ∙ c.if-not-are_members.false)
    (twice-uncovered (colours constants s) elements c.if-not-put_blocks.ensures)

pub returns-then-has_free : goal.returns-then-has_free
returns-then-has_free c =
    let constants = c.args.self.now.constants in
    let s = c.args.sort.now in
    let elements = c.args.elements.now in
    let filling = c.if-not-put_blocks.ensures in
    let new = c.put_blocks.new.blocks in
    let long : c.in_ok-blocks.blocks.len ≡ length new =
    omega (arith, filling.as_long, c.as_mut_slice.ensures.len, ap length (c.as_mut_slice.ensures.value ∙ c.in_ok-blocks.ensures), length-replicate c.size.result (length elements), c.size.ensures) in
    let kept = c.as_slice.ensures.value ∙ spliced c.in_ok-blocks.blocks.len new (drop (length new) c.in_ok-blocks.blocks.items) long in
    let free = subst (λ bs. HasFree bs (length elements)) kept c.if-has_free.ensures in
    cover-rule (can_be_divided s) (list_all (is_member constants s) (members_of elements)) (is_covered constants s elements) false
    (sym c.can_be_divided.ensures ∙ c.if-not-can_be_divided.false) (sym c.are_members.ensures ∙ c.if-not-are_members.false)
    (free-uncovered (colours constants s) elements (length elements) free.0 new filling refl free.1 free.2)

pub returns : goal.returns
returns c =
    let constants = c.args.self.now.constants in
    let s = c.args.sort.now in
    let elements = c.args.elements.now in
    let filling = c.if-not-put_blocks.ensures in
    let new = c.put_blocks.new.blocks in
    let long : c.in_ok-blocks.blocks.len ≡ length new =
    omega (arith, filling.as_long, c.as_mut_slice.ensures.len, ap length (c.as_mut_slice.ensures.value ∙ c.in_ok-blocks.ensures), length-replicate c.size.result (length elements), c.size.ensures) in
    let splice = spliced c.in_ok-blocks.blocks.len new (drop (length new) c.in_ok-blocks.blocks.items) long in
    let full = subst (λ bs. IsFull bs (length elements)) (c.as_slice.ensures.value ∙ splice) c.if-has_free.ensures in (
      cover-rule (can_be_divided s) (list_all (is_member constants s) (members_of elements)) (is_covered constants s elements) true
          (sym c.can_be_divided.ensures ∙ c.if-not-can_be_divided.false) (sym c.are_members.ensures ∙ c.if-not-are_members.false)
          (full-covered (colours constants s) elements (length elements) new filling full),
      splice ∙ full-blocks (colours constants s) elements (length elements) new filling full,
    )
