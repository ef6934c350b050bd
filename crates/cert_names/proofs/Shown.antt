-- A section that is judged shown is sound.
use Rattle.std.proofs.Common.{◌≡◌, ℕ, zero, suc, ◌+◌, List, [], ◌∷◌, map, refl, ap, ◌∙◌}
use Rattle.std.specs.List.{AllByRecursion}
use Rattle.tree_visits.specs.Forests.{are_trees}
use Rattle.pt_net.specs.Numbering.{NetNumbering}
use Rattle.pt_net.specs.Systems.{NetSystem, IsSystem}
use Rattle.cert_lines.specs.declared.certificates.Fact.{Fact}
use Rattle.cert_lines.specs.declared.certificates.Node.{Node}
use Rattle.cert_lines.specs.declared.certificates.NodeForm.{NodeForm}
use Rattle.cert_lines.specs.declared.certificates.NodeForm.TheVariants.{Close, Clash, Split, Cases, Each}
use Rattle.cert_model.specs.Formulas.{Formula}
use Rattle.cert_model.specs.Trees as trees
use Rattle.cert_model.specs.Judging as judging
use Rattle.cert_model.proofs.Judgements.{shown_is_shown}
use Rattle.cert_laws.specs.PlainNets.{plain_reduced}
use Rattle.cert_laws.proofs.Reaching as laws
use Rattle.cert_names.specs.Sections.{branch_count, branches_of, kind_of, tree_of, section_of, section_judgement, stated}
use Rattle.cert_names.specs.Laws.{ShownHoldsAtReached, EachIsShown}

as_many : (l : NetNumbering) (net : NetSystem) (names : List (List ℕ)) (form : NodeForm) → trees.branch_count (kind_of l net names form) ≡ branch_count form
as_many l net names (Close multipliers) = refl
as_many l net names (Clash place) = refl
as_many l net names (Split limit weights) = refl
as_many l net names (Cases choice branches) = refl
as_many l net names (Each choice) = refl

pub same_trees : (l : NetNumbering) (net : NetSystem) (names : List (List ℕ)) (k : ℕ) (nodes : List Node)
    → are_trees trees.branches_of k (tree_of l net names nodes) ≡ are_trees branches_of k nodes
same_trees l net names zero [] = refl
same_trees l net names (suc k) [] = refl
same_trees l net names zero (node ∷ nodes) = refl
same_trees l net names (suc k) (node ∷ nodes) =
    ap (λ n. are_trees trees.branches_of (n + k) (tree_of l net names nodes)) (as_many l net names node.form) ∙ same_trees l net names (branch_count node.form + k) nodes

pub shown_holds_at_reached : (l : NetNumbering) (net : NetSystem) → IsSystem net → ShownHoldsAtReached l net
shown_holds_at_reached l net is_system all invariant nodes whole shown =
    laws.shown_holds_at_reached net is_system (stated l net all) invariant (tree_of l net (map (λ fact. fact.name) all) nodes)
    (same_trees l net (map (λ fact. fact.name) all) 1 nodes ∙ whole) shown

each_of : (l : NetNumbering) (net : NetSystem) (all : List Fact) (sections : List (Formula × List Node))
    → AllByRecursion (λ section. judging.section_judgement (plain_reduced net) (stated l net all) section ≡ judging.Shown) (map (section_of l net all) sections)
    → AllByRecursion (λ section. section_judgement l net all section ≡ judging.Shown) sections
each_of l net all [] each = each
each_of l net all (section ∷ more) each = (each.0, each_of l net all more each.1)

pub each_is_shown : (l : NetNumbering) (net : NetSystem) → EachIsShown l net
each_is_shown l net all sections shown = each_of l net all sections (shown_is_shown (plain_reduced net) (stated l net all) (map (section_of l net all) sections) shown)
