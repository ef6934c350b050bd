-- This project's own. A small section by numbers, and what it stands for: an instance that is never fireable, in a tree of two nodes.
use Rattle.std.specs.Prelude.{◌≡◌, ℕ, zero, suc, List, [], ◌∷◌, false, pos, None, Ok}
use Rattle.cert_model.specs.Nets.{Net}
use Rattle.cert_model.specs.Forms.{zero_form}
use Rattle.cert_model.specs.Formulas.{Formula, Fireable, Not}
use Rattle.cert_model.specs.Paths.{Item, Opens, Enabled}
use Rattle.cert_model.specs.Trees as trees
use Rattle.cert_model.specs.Judging as judging
use Rattle.tree_walks.specs.Walks.{ran}
use Rattle.case_tree.specs.Agendas.{Added}
use Rattle.case_tree.specs.declared.nodes.Kind.TheVariants.{Cases, Clash}
use Rattle.case_tree.specs.States.{Section, all_visits, next, stop}
use Rattle.case_laws.specs.Standing.{Reading, IsAgenda, StandFor}

-- one place, and one live instance that takes a token from it
abbrev pub one_instance : Net
one_instance = record { places = 1; initial = λ p. 0; kept = []; live = record { transition = 0; needs = (0, 1) ∷ [] } ∷ [] }

abbrev pub never : Formula
never = Not (Fireable (0 ∷ []))

abbrev pub item_read : ℕ → Item
item_read zero = Opens never false
item_read (suc zero) = Enabled ((0, 1) ∷ [])
item_read (suc (suc n)) = Enabled []

abbrev pub reading : Reading
reading = record { form = λ n. zero_form; item = item_read; close = λ n. []; clash = λ n. 0 ∷ []; split = λ n. zero_form; limit = λ n. pos 0 }

abbrev pub items : List Added
items =
    record { hypotheses = []; choices = (1 ∷ []) ∷ []; lowers = []; uppers = [] }
    ∷ record { hypotheses = []; choices = []; lowers = (0, 1) ∷ []; uppers = [] } ∷ []

abbrev pub sections : List Section
sections = record { root = 0; nodes = record { line = 3; kind = Cases 1 1 } ∷ record { line = 4; kind = Clash 0 } ∷ [] } ∷ []

abbrev pub others : List judging.Section
others = record { invariant = never; tree = record { line = 3; kind = trees.Cases 1 1 } ∷ record { line = 4; kind = trees.Clash (0 ∷ []) } ∷ [] } ∷ []

-- the numbers stand for these, and the two visits cost two each
pub record ExampleIsRight : Type 0 where
  pub agenda : IsAgenda one_instance reading items
  pub stand : StandFor reading sections others
  pub cost : ran stop next 0 (all_visits record { items = items; entered = [] } sections) ≡ Ok 4
  pub limit : judging.tree_limit one_instance others ≡ None
