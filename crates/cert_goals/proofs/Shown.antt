-- A section that is judged shown is sound for its goal.
use Rattle.std.proofs.Common.{◌≡◌, true, List, [], ◌∷◌, map, ◌∙◌}
use Rattle.std.specs.List.{AllByRecursion}
use Rattle.tree_visits.specs.Forests.{are_trees}
use Rattle.cert_lines.specs.declared.certificates.Fact.{Fact}
use Rattle.cert_lines.specs.declared.certificates.Node.{Node}
use Rattle.cert_model.specs.Judging.{Shown}
use Rattle.cert_names.specs.Numbers.{names_of}
use Rattle.cert_names.specs.Sections as names
use Rattle.cert_names.specs.Sections.{branches_of, stated, tree_of}
use Rattle.cert_names.proofs.Shown.{same_trees, each_is_shown}
use Rattle.net_props.proofs.Truths as props
use Rattle.mcc_model.specs.declared.formulas.Goal.{Goal}
use Rattle.cert_goals.specs.Sections.{Setting, unfolded_section}
use Rattle.cert_goals.specs.Laws.{IsUnfolded, IsInvariant, ShownHolds, ShownSectionsHold}

pub shown_holds : (setting : Setting) → IsUnfolded setting → ShownHolds setting
shown_holds setting is all goal nodes whole shown =
    let l = setting.numbering in
    let u = setting.unfolded in
    props.shown_holds setting.coloured u is.unfolds is.system (stated l u all) goal (tree_of l u (names_of all) nodes)
    (same_trees l u (names_of all) 1 nodes ∙ whole) shown

each_holds : (setting : Setting) → IsUnfolded setting → (all : List Fact) (sections : List (Goal × List Node))
    → AllByRecursion (λ section. are_trees branches_of 1 section.1 ≡ true) sections
    → AllByRecursion (λ section. names.section_judgement setting.numbering setting.unfolded all section ≡ Shown) (map (unfolded_section setting.coloured) sections)
    → AllByRecursion (λ section. IsInvariant setting.coloured section.0) sections
each_holds setting is all [] whole shown = tt
each_holds setting is all (section ∷ more) whole shown = (shown_holds setting is all section.0 section.1 whole.0 shown.0, each_holds setting is all more whole.1 shown.1)

pub shown_sections_hold : (setting : Setting) → IsUnfolded setting → ShownSectionsHold setting
shown_sections_hold setting is all sections whole shown =
    each_holds setting is all sections whole (each_is_shown setting.numbering setting.unfolded all (map (unfolded_section setting.coloured) sections) shown)
