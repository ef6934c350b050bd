-- What is true on the unfolded net, and what is shown over its reduced net, is so of the coloured net.
use Rattle.std.specs.Prelude.{◌≡◌, ◌↔◌, ℕ, true, List, map, slice_index}
use Rattle.tree_visits.specs.Forests.{are_trees}
use Rattle.pt_net.specs.Systems.{NetSystem}
use Rattle.cert_model.specs.Formulas.{truth}
use Rattle.cert_model.specs.Trees.{Node, branches_of}
use Rattle.cert_model.specs.Judging.{Stated, Shown, section_judgement}
use Rattle.cert_laws.specs.PlainNets.{plain, plain_reduced}
use Rattle.cert_laws.specs.Reducing.{reduced_formula}
use Rattle.net_firing.specs.Coloured.{ColouredNet}
use Rattle.net_firing.specs.Firing.{Reach}
use Rattle.net_firing.specs.Markings.{IsMarking, Marking}
use Rattle.net_firing.specs.Unfolding.{Flat}
use Rattle.mcc_model.specs.declared.formulas.Count.{Count}
use Rattle.mcc_model.specs.declared.formulas.Formula.{Formula}
use Rattle.mcc_model.specs.declared.formulas.Formula.TheVariants as of_file
use Rattle.mcc_model.specs.declared.formulas.Goal.{Goal}
use Rattle.net_props.specs.Properties.{Sat, StateFormula, AtMost, Fireable, Not, And, Or, listed_all, stated, invariant_of}
use Rattle.net_props.specs.Resolved.{resolved}

-- a formula of a file is stated case by case
pub record FormulasAreStated : Type 0 where
  pub not : (f : Formula) → stated (of_file.Not f) ≡ Not (stated f)
  pub and : (fs : List Formula) → stated (of_file.And fs) ≡ And (listed_all (map stated fs))
  pub or : (fs : List Formula) → stated (of_file.Or fs) ≡ Or (listed_all (map stated fs))
  pub at_most : (a b : Count) → stated (of_file.AtMost a b) ≡ AtMost a b
  pub fireable : (transitions : List ℕ) → stated (of_file.Fireable transitions) ≡ Fireable transitions

abbrev pub ResolvedMeansTheSame : ColouredNet → NetSystem → Type 0
ResolvedMeansTheSame net u = (m : Marking) (f : StateFormula) → IsMarking net m → (truth (plain u) (slice_index (Flat net m)) (resolved net f) ≡ true) ↔ Sat net m f

abbrev pub ShownHolds : ColouredNet → NetSystem → Type 0
ShownHolds net u = (stated : List Stated) (goal : Goal) (tree : List Node) → are_trees branches_of 1 tree ≡ true
    → section_judgement (plain_reduced u) stated (record { invariant = reduced_formula u (resolved net (invariant_of goal)); tree = tree }) ≡ Shown
    → (m : Marking) → Reach net m → Sat net m (invariant_of goal)
