use Rattle.std.proofs.Common.{◌≡◌, true, rules, sym, ap, ◌∙◌}
use Rattle.net_model.specs.declared.kinds.Kind.TheVariants.{Pt}
use Rattle.net_elements.specs.declared.roles.Role.TheVariants.{Pnml}
use Rattle.net_elements.specs.Rules.{walk_of}
use Rattle.net_elements.specs.Walking.{found}
use Rattle.net_elements.proofs.Verdicts.{first_in_root, sound_root}
use Rattle.net_elements.proofs.Walks.{same_end}
use Rattle.net_elements.proofs.walker.check.Goals as goal

pub returns-clause-sound : goal.returns-clause-sound
returns-clause-sound c =
    let root = c.args.root.now in
    let yes : c.is_root.result ≡ true = search (rules, c.if-not-is_root.false) in
    sound_root root c.element.new.self c.element.result (sym c.is_root.ensures ∙ yes)
    (same_end c.element.new.self c.element.result _ _ (ap (λ met. found met ((walk_of root).notes Pt Pnml)) c.new-walker.ensures) c.element.ensures)

pub returns-clause-first : goal.returns-clause-first
returns-clause-first c =
    let root = c.args.root.now in
    let yes : c.is_root.result ≡ true = search (rules, c.if-not-is_root.false) in
    first_in_root root c.element.new.self c.element.result (sym c.is_root.ensures ∙ yes)
    (same_end c.element.new.self c.element.result _ _ (ap (λ met. found met ((walk_of root).notes Pt Pnml)) c.new-walker.ensures) c.element.ensures)
