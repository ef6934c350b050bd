-- What the numbers of names, and sections over them, tell.
use Rattle.std.specs.Prelude.{◌≡◌, ◌<◌, ℕ, ◌+◌, true, ◌&&◌, nat_lt, List, [], length, All, slice_index, slice_index_or, Option, None, Some, is_some}
use Rattle.std.specs.List.{AllByRecursion, IsDistinct}
use Rattle.std.specs.Str.{bytes_eq}
use Rattle.prefix_trees.specs.Trees.{IsSomeTree}
use Rattle.tree_visits.specs.Forests.{are_trees}
use Rattle.pt_net.specs.Numbering.{IsNumbering, NetNumbering}
use Rattle.pt_net.specs.Systems.{NetSystem, IsSystem, PtReach, instance_at}
use Rattle.cert_lines.specs.declared.certificates.Fact.{Fact}
use Rattle.cert_lines.specs.declared.certificates.Node.{Node}
use Rattle.cert_model.specs.Formulas.{Formula, truth}
use Rattle.cert_model.specs.Judging.{Shown}
use Rattle.cert_model.specs.Names as names
use Rattle.cert_model.specs.Names.{is_known}
use Rattle.cert_laws.specs.PlainNets.{plain}
use Rattle.cert_names.specs.Numbers.{instances_at, size, interval_of, instance_of, names_of, fact_number}
use Rattle.cert_names.specs.Lines.{named, use_at}
use Rattle.cert_names.specs.Sections.{branches_of, section_judgement, judgement}

-- a net whose places and instances have these numbers, with names that differ
pub record AreNumbersOf (l : NetNumbering) (net : NetSystem) : Type 0 where
  pub numbering : IsNumbering l
  pub system : IsSystem net
  pub places_differ : IsDistinct bytes_eq l.places
  pub transitions_differ : IsDistinct bytes_eq l.transitions
  pub places : slice_index l.starts (length l.places) ≡ length net.initial
  pub transitions : All (λ t. t.transition < length l.transitions) net.instances

abbrev pub place_name : NetNumbering → ℕ → List ℕ
place_name l p = slice_index_or l.places p []

abbrev pub transition_name : NetNumbering → ℕ → List ℕ
transition_name l t = slice_index_or l.transitions t []

-- a name is there exactly where it stands for something, and each place and each instance has its name
pub record NamesAreNumbered (l : NetNumbering) (net : NetSystem) : Type 0 where
  pub places : (all : List Fact) (name : List ℕ) (colour : Option ℕ) → is_known (named l net all) (use_at name colour) ≡ is_some (interval_of l (record { place = name; colour = colour }))
  pub instances : (all : List Fact) (name : List ℕ) (binding : ℕ) → is_known (named l net all) (names.Instance name binding) ≡ is_some (instance_of l net name binding)
  pub facts : (all : List Fact) (before : ℕ) (name : List ℕ)
      → is_known (named l net all) (names.Fact before name) ≡ (nat_lt (fact_number (names_of all) name) before && nat_lt (fact_number (names_of all) name) (length all))
  pub whole : (p : ℕ) → p < length l.places → interval_of l (record { place = place_name l p; colour = None }) ≡ Some (instances_at l p)
  pub coloured : (p k : ℕ) → p < length l.places → k < size (instances_at l p)
      → interval_of l (record { place = place_name l p; colour = Some k }) ≡ Some (record { first = slice_index l.starts p + k; end = slice_index l.starts p + k + 1 })
  pub instance : (i : ℕ) → i < length net.instances → instance_of l net (transition_name l (instance_at net i).transition) (instance_at net i).binding ≡ Some i

-- where a section is judged `Shown`, its invariant is true at each reached marking
abbrev pub ShownHoldsAtReached : NetNumbering → NetSystem → Type 0
ShownHoldsAtReached l net = (all : List Fact) (invariant : Formula) (nodes : List Node) → are_trees branches_of 1 nodes ≡ true
    → section_judgement l net all (invariant, nodes) ≡ Shown
    → (marking : List ℕ) → PtReach net marking → truth (plain net) (slice_index marking) invariant ≡ true

-- where facts and sections are judged `Shown`, each section is
abbrev pub EachIsShown : NetNumbering → NetSystem → Type 0
EachIsShown l net = (all : List Fact) (sections : List (Formula × List Node)) → judgement l net all sections ≡ Shown
    → AllByRecursion (λ section. section_judgement l net all section ≡ Shown) sections

-- a tree of the grammar, whatever counts the branches of its nodes, is one tree of the walk
abbrev pub TreesAreWalked : Type 0
TreesAreWalked = (count : Node → ℕ) → ((node : Node) → count node ≡ branches_of node) → (nodes : List Node) → IsSomeTree count nodes → are_trees branches_of 1 nodes ≡ true
