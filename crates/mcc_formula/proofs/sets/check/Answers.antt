use Rattle.std.proofs.Common.{◌≡◌, true, rules, sym, ap, ◌∙◌}
use Rattle.net_elements.specs.Rules.{nothing_met}
use Rattle.net_elements.specs.Walking.{found}
use Rattle.net_elements.proofs.Walks.{same_end}
use Rattle.mcc_formula.proofs.LeftNotes.{first_in_set, left_members, sound_set}
use Rattle.mcc_formula.proofs.sets.check.Goals as goal

pub returns-clause-sound : goal.returns-clause-sound
returns-clause-sound c =
    let root = c.args.root.now in
    let after = c.members.new.self in
    let yes : c.has_name.result ≡ true = search (rules, c.if-not-has_name.false) in
    sound_set root after c.members.result (sym c.has_name.ensures ∙ yes)
    (same_end after c.members.result _ _
    (ap (λ met. found met (left_members c.as_slice.result.now 0)) c.new-walker.ensures ∙ ap (λ es. found nothing_met (left_members es 0)) c.as_slice.ensures) c.members.ensures)

pub returns-clause-first : goal.returns-clause-first
returns-clause-first c =
    let root = c.args.root.now in
    let after = c.members.new.self in
    let yes : c.has_name.result ≡ true = search (rules, c.if-not-has_name.false) in
    first_in_set root after c.members.result (sym c.has_name.ensures ∙ yes)
    (same_end after c.members.result _ _
    (ap (λ met. found met (left_members c.as_slice.result.now 0)) c.new-walker.ensures ∙ ap (λ es. found nothing_met (left_members es 0)) c.as_slice.ensures) c.members.ensures)
