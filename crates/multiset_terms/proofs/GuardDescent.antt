-- Faults of the children of a guard are those of the guard.
use Rattle.std.proofs.Common.{◌≡◌, ℕ, ◌+◌, ◌<◌, ◌^◌, List, [], ◌∷◌, ◌++◌, map, refl, sym, ap, ◌∙◌, arith}
use Rattle.std.specs.Prelude.{Result, Ok, Err, sum_by}
use Rattle.std.specs.List.{AllByRecursion}
use Rattle.std.proofs.lemmas.List.Sums.{sum_by-cons}
use Rattle.colour_sorts.specs.declared.rules.Rule.{Rule}
use Rattle.multiset_terms.specs.declared.conditions.CGuard.{CGuard}
use Rattle.multiset_terms.specs.declared.faults.PartFault.{PartFault}
use Rattle.multiset_terms.specs.declared.faults.PartFault.TheVariants as fault
use Rattle.multiset_terms.specs.declared.guards.GuardPart.{GuardPart}
use Rattle.multiset_terms.specs.declared.guards.GuardParts.{GuardParts}
use Rattle.net_model.specs.declared.terms.Guard.{Guard}
use Rattle.multiset_terms.specs.Context.{Context}
use Rattle.multiset_terms.specs.GuardParts.{AreConditions, AreGuardParts, IsCondition, IsGuardPart}
use Rattle.multiset_terms.specs.Parts.{IsFault, IsMoved}
use Rattle.multiset_terms.specs.Typing.{Judged, children, in_front, judged_guard, looked_at, node, type_of_guard}

abbrev IsTyped : Context → Guard → Type 0
IsTyped ctx g = type_of_guard ctx g ≡ Ok tt

-- children that are all typed
pub typed-children : (ctx : Context) (at : ℕ) (gs : List Guard) → AllByRecursion (λ g. type_of_guard ctx g ≡ Ok tt) gs → children at (map (judged_guard ctx) gs) ≡ Ok (map (λ _. tt) gs)
typed-children ctx at [] known = refl
typed-children ctx at (g ∷ gs) known =
    ap (λ v. in_front at v (children (at + (judged_guard ctx g).nodes) (map (judged_guard ctx) gs))) known.0
    ∙ ap (in_front at (Ok tt)) (typed-children ctx (at + (judged_guard ctx g).nodes) gs known.1)

-- a broken child behind others that are typed
broken-behind : (ctx : Context) (from : ℕ) (gs : List Guard) (g : Guard) (more : List Guard) (number : ℕ) (broken : Rule) → AllByRecursion (IsTyped ctx) gs → type_of_guard ctx g ≡ Err (number, broken)
    → children from (map (judged_guard ctx) (gs ++ g ∷ more)) ≡ Err (from + sum_by (λ j. j.nodes) (map (judged_guard ctx) gs) + number, broken)
broken-behind ctx from [] g more number broken known is =
    ap (λ v. in_front from v (children (from + (judged_guard ctx g).nodes) (map (judged_guard ctx) more))) is ∙ ap (λ n. Err (n + number, broken)) (none from)
  where
    none : (n : ℕ) → n ≡ n + 0
    none n = omega arith
broken-behind ctx from (h ∷ hs) g more number broken known is =
    ap (λ v. in_front from v (children (from + (judged_guard ctx h).nodes) (map (judged_guard ctx) (hs ++ g ∷ more)))) known.0
    ∙ ap (in_front from (Ok tt)) (broken-behind ctx (from + (judged_guard ctx h).nodes) hs g more number broken known.1 is)
    ∙ ap (λ n. Err (n, broken)) (omega (arith, sum_by-cons (λ j. j.nodes) (judged_guard ctx h) (map (judged_guard ctx) hs)))

pub guard-fault-behind : (ctx : Context) (gs : List Guard) (ps : GuardParts) (g : Guard) (more : List Guard) (before now : PartFault) → AreGuardParts ctx gs ps
    → IsFault before (type_of_guard ctx g) → IsMoved ps.nodes before now → IsFault now (children 1 (map (judged_guard ctx) (gs ++ g ∷ more)))
guard-fault-behind ctx gs ps g more before fault.Memory known is moved = tt
guard-fault-behind ctx gs ps g more fault.Memory (fault.Broken at rule) known is moved = absurd moved
guard-fault-behind ctx gs ps g more (fault.Broken number same) (fault.Broken at rule) known is moved =
    let place : 1 + sum_by (λ j. j.nodes) (map (judged_guard ctx) gs) + number ≡ at = omega (arith, known.nodes, moved.0) in
    broken-behind ctx 1 gs g more number same known.typed is
    ∙ ap (λ n. Err (n, same)) place ∙ ap (λ r. Err (at, r)) (sym moved.1)

-- one more child
pub no-guards : (ctx : Context) (ps : GuardParts) → ps.conditions ≡ [] → ps.nodes ≡ 1 → AreGuardParts ctx [] ps
no-guards ctx ps none one = record { typed = tt; nodes = sym one; few = omega (arith, one); standing = rw none tt }

typed-more : (ctx : Context) (gs : List Guard) (g : Guard) → AllByRecursion (IsTyped ctx) gs → IsTyped ctx g → AllByRecursion (IsTyped ctx) (gs ++ g ∷ [])
typed-more ctx [] g known is = (is, tt)
typed-more ctx (h ∷ hs) g known is = (known.0, typed-more ctx hs g known.1 is)

conditions-more : (ctx : Context) (gs : List Guard) (cs : List CGuard) (g : Guard) (c : CGuard) → AreConditions ctx gs cs → IsCondition ctx g c → AreConditions ctx (gs ++ g ∷ []) (cs ++ c ∷ [])
conditions-more ctx [] [] g c known is = (is, tt)
conditions-more ctx [] (d ∷ ds) g c known is = absurd known
conditions-more ctx (h ∷ hs) [] g c known is = absurd known
conditions-more ctx (h ∷ hs) (d ∷ ds) g c known is = (known.0, conditions-more ctx hs ds g c known.1 is)

nodes-more : (ctx : Context) (gs : List Guard) (g : Guard) → sum_by (λ j. j.nodes) (map (judged_guard ctx) (gs ++ g ∷ [])) ≡ sum_by (λ j. j.nodes) (map (judged_guard ctx) gs) + (judged_guard ctx g).nodes
nodes-more ctx [] g = omega (arith, sum_by-cons (λ j. j.nodes) (judged_guard ctx g) [])
nodes-more ctx (h ∷ hs) g =
    omega (arith, nodes-more ctx hs g, sum_by-cons (λ j. j.nodes) (judged_guard ctx h) (map (judged_guard ctx) hs), sum_by-cons (λ j. j.nodes) (judged_guard ctx h) (map (judged_guard ctx) (hs ++ g ∷ [])))

pub more-guards : (ctx : Context) (gs : List Guard) (ps new : GuardParts) (g : Guard) (p : GuardPart) → AreGuardParts ctx gs ps → IsGuardPart ctx g p
    → new.conditions ≡ ps.conditions ++ p.condition ∷ [] → new.nodes ≡ ps.nodes + p.nodes → new.nodes < 2 ^ 32 → AreGuardParts ctx (gs ++ g ∷ []) new
more-guards ctx gs ps new g p known is conditions nodes few = record {
  few = few;
  typed = typed-more ctx gs g known.typed is.typed;
  nodes = omega (arith, nodes-more ctx gs g, known.nodes, is.nodes, nodes);
  standing = rw conditions (conditions-more ctx gs ps.conditions g p.condition known.standing is.stands);
}

-- a node over children with a fault
pub guard-node-fault : (ctx : Context) (h : Guard) (gs : List Guard) (found : PartFault)
    → judged_guard ctx h ≡ node (λ _. Ok tt) (map (judged_guard ctx) gs) → IsFault found (children 1 (map (judged_guard ctx) gs)) → IsFault found (type_of_guard ctx h)
guard-node-fault ctx h gs fault.Memory is known = tt
guard-node-fault ctx h gs (fault.Broken at rule) is known = ap (λ j. j.verdict) is ∙ ap (looked_at (λ _. Ok tt)) known

-- a node over one or two children, the first or the second with a fault
pub first-child-fault : {A B : Type 0} (whole : Judged B) (child : Judged A) (others : List (Judged A)) (judge : List A → Result B Rule) (before now : PartFault)
    → whole ≡ node judge (child ∷ others) → IsFault before child.verdict → IsMoved 1 before now → IsFault now whole.verdict
first-child-fault whole child others judge before fault.Memory is known moved = tt
first-child-fault whole child others judge fault.Memory (fault.Broken at rule) is known moved = absurd moved
first-child-fault whole child others judge (fault.Broken number same) (fault.Broken at rule) is known moved =
    ap (λ j. j.verdict) is
    ∙ ap (λ v. looked_at judge (in_front 1 v (children (1 + child.nodes) others))) known
    ∙ ap (λ n. Err (n, same)) (sym moved.0) ∙ ap (λ r. Err (at, r)) (sym moved.1)

pub second-child-fault : {A B : Type 0} (whole : Judged B) (first second : Judged A) (found : A) (judge : List A → Result B Rule) (nodes : ℕ) (before now : PartFault)
    → whole ≡ node judge (first ∷ second ∷ []) → first.verdict ≡ Ok found → nodes ≡ first.nodes + 1 → IsFault before second.verdict → IsMoved nodes before now → IsFault now whole.verdict
second-child-fault whole first second found judge nodes before fault.Memory is known counted broken moved = tt
second-child-fault whole first second found judge nodes fault.Memory (fault.Broken at rule) is known counted broken moved = absurd moved
second-child-fault whole first second found judge nodes (fault.Broken number same) (fault.Broken at rule) is known counted broken moved =
    let place : 1 + first.nodes + number ≡ at = omega (arith, counted, moved.0) in
    ap (λ j. j.verdict) is
    ∙ ap (λ v. looked_at judge (in_front 1 v (in_front (1 + first.nodes) second.verdict (Ok [])))) known
    ∙ ap (λ v. looked_at judge (in_front 1 (Ok found) (in_front (1 + first.nodes) v (Ok [])))) broken
    ∙ ap (λ n. Err (n, same)) place ∙ ap (λ r. Err (at, r)) (sym moved.1)
