-- What is shown of a goal is so of the coloured net.
use Rattle.std.specs.Prelude.{◌≡◌, ◌<◌, ◌≤◌, ℕ, true, List, length, None, Some, Ok, slice_index}
use Rattle.std.specs.List.{AllByRecursion}
use Rattle.tree_visits.specs.Forests.{are_trees}
use Rattle.pt_net.specs.Systems.{IsSystem}
use Rattle.cert_lines.specs.declared.certificates.Fact.{Fact}
use Rattle.cert_lines.specs.declared.certificates.Node.{Node}
use Rattle.cert_model.specs.Judging.{Shown}
use Rattle.cert_names.specs.Laws.{AreNumbersOf, place_name}
use Rattle.cert_names.specs.Meanings.{tokens_on}
use Rattle.cert_names.specs.Sections.{branches_of}
use Rattle.net_firing.specs.Coloured.{ColouredNet}
use Rattle.net_firing.specs.Firing.{Reach}
use Rattle.net_firing.specs.Laws.{start_of}
use Rattle.net_firing.specs.Markings.{HasColour, Marking, tokens}
use Rattle.net_firing.specs.Unfolding.{Flat, unfolding_of}
use Rattle.mcc_model.specs.declared.formulas.Goal.{Goal}
use Rattle.net_props.specs.Properties.{Sat, invariant_of, tokens_at}
use Rattle.cert_goals.specs.Sections.{Setting, judgement, section_judgement}

-- the unfolded net is that of the coloured net
pub record IsUnfolded (setting : Setting) : Type 0 where
  pub unfolds : unfolding_of setting.coloured ≡ Ok setting.unfolded
  pub system : IsSystem setting.unfolded

-- each marking that coloured firing reaches satisfies the goal's invariant
abbrev pub IsInvariant : ColouredNet → Goal → Type 0
IsInvariant net goal = (m : Marking) → Reach net m → Sat net m (invariant_of goal)

abbrev pub ShownHolds : Setting → Type 0
ShownHolds setting = (all : List Fact) (goal : Goal) (nodes : List Node) → are_trees branches_of 1 nodes ≡ true
    → section_judgement setting all (goal, nodes) ≡ Shown → IsInvariant setting.coloured goal

abbrev pub ShownSectionsHold : Setting → Type 0
ShownSectionsHold setting = (all : List Fact) (sections : List (Goal × List Node)) → AllByRecursion (λ section. are_trees branches_of 1 section.1 ≡ true) sections
    → judgement setting all sections ≡ Shown → AllByRecursion (λ section. IsInvariant setting.coloured section.0) sections

-- the numbers are those of the places of the coloured net, each with its colours
pub record HasNumbers (setting : Setting) : Type 0 where
  pub numbers : AreNumbersOf setting.numbering setting.unfolded
  pub places : length setting.numbering.places ≡ length setting.coloured.places
  pub starts : (p : ℕ) → p ≤ length setting.numbering.places → slice_index setting.numbering.starts p ≡ start_of setting.coloured p

-- the tokens that `P` and `P@K` stand for are those on the place, of all colours and of the colour `K`
pub record TokensAreNamed (setting : Setting) : Type 0 where
  pub whole : (m : Marking) (p : ℕ) → p < length setting.coloured.places
      → tokens_on setting.numbering setting.unfolded (Flat setting.coloured m) (record { place = place_name setting.numbering p; colour = None }) ≡ tokens_at setting.coloured m p
  pub coloured : (m : Marking) (p k : ℕ) → p < length setting.coloured.places → HasColour setting.coloured p k
      → tokens_on setting.numbering setting.unfolded (Flat setting.coloured m) (record { place = place_name setting.numbering p; colour = Some k }) ≡ tokens m p k
