-- What a compiled part of a guard stands for, while a guard is compiled.
use Rattle.std.specs.Prelude.{◌≡◌, ◌<◌, ◌^◌, ℕ, suc, Bool, true, false, List, [], ◌∷◌, map, sum_by, Option, None, Some, Result, Ok, Err}
use Rattle.std.specs.List.{AllByRecursion}
use Rattle.multiset_terms.specs.declared.conditions.BlockTree.{BlockTree}
use Rattle.multiset_terms.specs.declared.conditions.BlockTree.TheVariants as block
use Rattle.net_model.specs.declared.terms.Order.{Order}
use Rattle.net_model.specs.declared.terms.Order.TheVariants as order
use Rattle.multiset_terms.specs.declared.trees.Tree.{Tree}
use Rattle.multiset_terms.specs.declared.conditions.CGuard.{CGuard}
use Rattle.multiset_terms.specs.declared.faults.PartFault.{PartFault}
use Rattle.multiset_terms.specs.declared.faults.TermFault.{TermFault}
use Rattle.multiset_terms.specs.declared.faults.TermFault.TheVariants as term_fault
use Rattle.multiset_terms.specs.declared.guards.GuardPart.{GuardPart}
use Rattle.multiset_terms.specs.declared.guards.GuardParts.{GuardParts}
use Rattle.net_model.specs.declared.terms.Guard.{Guard}
use Rattle.multiset_terms.specs.Context.{Context}
use Rattle.multiset_terms.specs.Parts.{IsFault}
use Rattle.multiset_terms.specs.Standing.{GuardStandsFor}
use Rattle.multiset_terms.specs.Typing.{children, judged_guard, type_of_guard}

-- a condition stands for a guard
abbrev pub IsCondition : Context → Guard → CGuard → Type 0
IsCondition ctx g c = GuardStandsFor ctx g c

pub record IsGuardPart (ctx : Context) (g : Guard) (p : GuardPart) : Type 0 where
  pub typed : type_of_guard ctx g ≡ Ok tt
  pub nodes : (judged_guard ctx g).nodes ≡ p.nodes
  pub stands : IsCondition ctx g p.condition

-- what is answered of a guard: its part, or its first broken node
abbrev pub IsGuardAnswer : Context → Guard → Result GuardPart PartFault → Type 0
IsGuardAnswer ctx g (Ok part) = IsGuardPart ctx g part
IsGuardAnswer ctx g (Err found) = IsFault found (type_of_guard ctx g)

abbrev pub AreConditions : Context → List Guard → List CGuard → Type 0
AreConditions ctx [] [] = Unit {0}
AreConditions ctx (g ∷ gs) (c ∷ cs) = IsCondition ctx g c × AreConditions ctx gs cs
AreConditions ctx _ _ = ⊥

-- compiled children of a guard, whose nodes are counted with the guard itself
pub record AreGuardParts (ctx : Context) (gs : List Guard) (ps : GuardParts) : Type 0 where
  pub typed : AllByRecursion (λ g. type_of_guard ctx g ≡ Ok tt) gs
  pub nodes : suc (sum_by (λ j. j.nodes) (map (judged_guard ctx) gs)) ≡ ps.nodes
  pub few : ps.nodes < 2 ^ 32
  pub standing : AreConditions ctx gs ps.conditions

abbrev pub AreGuardAnswers : Context → List Guard → Result GuardParts PartFault → Type 0
AreGuardAnswers ctx gs (Ok parts) = AreGuardParts ctx gs parts
AreGuardAnswers ctx gs (Err found) = IsFault found (children 1 (map (judged_guard ctx) gs))

-- a block by the position where it is written as an element, else by its colour
abbrev pub block_tree_of : Option ℕ → Tree → BlockTree
block_tree_of (Some position) made = block.Element position
block_tree_of None made = block.With made

abbrev pub is_equality : Order → Bool
is_equality order.Equal = true
is_equality _ = false

-- what is answered of a whole guard: the compiled guard where it is well-typed, else its first broken node
abbrev pub IsGuardCompiled : Context → Guard → Result CGuard TermFault → Type 0
IsGuardCompiled ctx g (Ok compiled) = (type_of_guard ctx g ≡ Ok tt) × GuardStandsFor ctx g compiled
IsGuardCompiled ctx g (Err (term_fault.IllTyped at rule)) = type_of_guard ctx g ≡ Err (at, rule)
IsGuardCompiled ctx g (Err (term_fault.Weight at)) = ⊥
IsGuardCompiled ctx g (Err term_fault.Memory) = Unit {0}
