-- What a certificate whose obligations are all true shows.
use Rattle.std.specs.Prelude.{◌≡◌, List, true}
use Rattle.std.specs.List.{list_all, AllByRecursion}
use Rattle.tree_visits.specs.Forests.{are_trees, Some_of}
use Rattle.cert_model.specs.Sums.{is_true}
use Rattle.cert_model.specs.Nets.{Counts, Net, Reach}
use Rattle.cert_model.specs.Facts.{Fact, IsMet, facts_checks}
use Rattle.cert_model.specs.Formulas.{Formula, truth}
use Rattle.cert_model.specs.Paths.{State, Meets}
use Rattle.cert_model.specs.Judging.{Stated, Section, Shown, section_judgement, judgement}
use Rattle.cert_model.specs.Trees.{Kind, Node, branches_of, node_check, rounds, tree_checks}

-- where every obligation of the facts is true, each reached marking meets each fact
abbrev pub FactsHold : Type 0
FactsHold = (net : Net) (facts : List Fact) → list_all is_true (facts_checks net facts) ≡ true
    → (marking : Counts) → Reach net marking → AllByRecursion (λ fact. IsMet net fact marking) facts

-- at a true node a marking that meets the state meets that of some branch; where there is no
-- branch, as at `close` and `clash`, none meets it
abbrev pub NodesLeaveNoneOut : Type 0
NodesLeaveNoneOut = (net : Net) (facts : List Fact) (marking : Counts) → AllByRecursion (λ fact. IsMet net fact marking) facts
    → (s : State) (kind : Kind) → is_true (node_check net facts s kind) ≡ true → Meets net marking s
    → Some_of (Some_of (Meets net marking)) (rounds net s kind)

-- where all obligations of a tree are true, the invariant is true at each marking that meets the facts
abbrev pub TreesRefute : Type 0
TreesRefute = (net : Net) (facts : List Fact) (marking : Counts) → AllByRecursion (λ fact. IsMet net fact marking) facts
    → (invariant : Formula) (nodes : List Node) → are_trees branches_of 1 nodes ≡ true → list_all is_true (tree_checks net facts invariant nodes) ≡ true
    → truth net marking invariant ≡ true

-- so a shown invariant is true at each reached marking
abbrev pub ShownIsInvariant : Type 0
ShownIsInvariant = (net : Net) (facts : List Fact) (invariant : Formula) (nodes : List Node) → are_trees branches_of 1 nodes ≡ true
    → list_all is_true (facts_checks net facts) ≡ true → list_all is_true (tree_checks net facts invariant nodes) ≡ true
    → (marking : Counts) → Reach net marking → truth net marking invariant ≡ true

-- a section that is judged `Shown` is sound; and where the whole certificate is judged `Shown`, each section is
abbrev pub ShownSectionsHold : Type 0
ShownSectionsHold =
    ((net : Net) (stated : List Stated) (section : Section) → are_trees branches_of 1 section.tree ≡ true → section_judgement net stated section ≡ Shown
    → (marking : Counts) → Reach net marking → truth net marking section.invariant ≡ true)
    × ((net : Net) (stated : List Stated) (sections : List Section) → judgement net stated sections ≡ Shown → AllByRecursion (λ section. section_judgement net stated section ≡ Shown) sections)
