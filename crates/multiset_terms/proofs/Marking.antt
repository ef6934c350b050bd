-- Marks that are made one after another.
use Rattle.std.proofs.Common.{◌≡◌, ℕ, ◌+◌, ◌<◌, Bool, true, false, List, length, get_or, drop, refl, sym, ap, ◌∙◌, Some, add-one, drop-cons}
use Rattle.std.specs.Prelude.{◌||◌, slice_get}
use Rattle.multiset_terms.specs.declared.conditions.CGuard.{CGuard}
use Rattle.multiset_terms.specs.declared.trees.Tree.{Tree, fold-roll-Tree}
use Rattle.multiset_terms.specs.declared.trees.Tree.TheOpen as layer
use Rattle.multiset_terms.specs.declared.trees.Tree.TheVariants as tree
use Rattle.multiset_terms.specs.Conditions.{condition_uses_at, some_condition_uses}
use Rattle.multiset_terms.specs.Marked.{AreMarked, AreNamesMarked}
use Rattle.multiset_terms.specs.Trees.{some_use, uses_at, uses_part}

or-assoc : (a b c : Bool) → ((a || b) || c) ≡ (a || (b || c))
or-assoc true b c = refl
or-assoc false b c = refl

or-none : (a : Bool) → a ≡ (a || false)
or-none true = refl
or-none false = refl

pub none-marked : (test : ℕ → Bool) (marks : List Bool) → ((v : ℕ) → test v ≡ false) → AreMarked test marks marks
none-marked test marks none = (refl, λ v mark here. here ∙ ap Some (or-none mark ∙ ap (λ b. mark || b) (sym (none v))))

pub same-marked : (p q : ℕ → Bool) (old new : List Bool) → ((v : ℕ) → p v ≡ q v) → AreMarked p old new → AreMarked q old new
same-marked p q old new is known = (known.0, λ v mark here. known.1 v mark here ∙ ap (λ b. Some (mark || b)) (is v))

pub both-marked : (p q : ℕ → Bool) (old mid new : List Bool) → AreMarked p old mid → AreMarked q mid new → AreMarked (λ v. p v || q v) old new
both-marked p q old mid new first second = (
  second.0 ∙ first.0,
  λ v mark here.
      second.1 v (mark || p v) (first.1 v mark here) ∙ ap Some (or-assoc mark (p v) (q v)),
)

-- the first of a list in front of the others
pub uses-drop : (trees : List Tree) (i : ℕ) (d : Tree) → i < length trees → (v : ℕ)
    → (uses_at v (get_or trees i d) || some_use v (drop (i + 1) trees)) ≡ some_use v (drop i trees)
uses-drop trees i d within v = rw (add-one, drop-cons trees i d within) refl

pub conditions-drop : (cs : List CGuard) (i : ℕ) (d : CGuard) → i < length cs → (v : ℕ)
    → (condition_uses_at v (get_or cs i d) || some_condition_uses v (drop (i + 1) cs)) ≡ some_condition_uses v (drop i cs)
conditions-drop cs i d within v = rw (add-one, drop-cons cs i d within) refl

-- the variables of a node are those of its children
pub uses-Next : (v size : ℕ) (t : Tree) → uses_at v t ≡ uses_at v (tree.Next size t)
uses-Next v size t = sym (ap (uses_at v) (sym (tree.rolls-Next size t)) ∙ fold-roll-Tree Bool (uses_part v) (layer.Next size t))

pub uses-Before : (v size : ℕ) (t : Tree) → uses_at v t ≡ uses_at v (tree.Before size t)
uses-Before v size t = sym (ap (uses_at v) (sym (tree.rolls-Before size t)) ∙ fold-roll-Tree Bool (uses_part v) (layer.Before size t))

pub uses-Times : (v number : ℕ) (t : Tree) → uses_at v t ≡ uses_at v (tree.Times number t)
uses-Times v number t = sym (ap (uses_at v) (sym (tree.rolls-Times number t)) ∙ fold-roll-Tree Bool (uses_part v) (layer.Times number t))

pub uses-Tuple : (v size : ℕ) (ts : List Tree) → some_use v ts ≡ uses_at v (tree.Tuple size ts)
uses-Tuple v size ts = sym (ap (uses_at v) (sym (tree.rolls-Tuple size ts)) ∙ fold-roll-Tree Bool (uses_part v) (layer.Tuple size ts))

pub uses-Product : (v size : ℕ) (ts : List Tree) → some_use v ts ≡ uses_at v (tree.Product size ts)
uses-Product v size ts = sym (ap (uses_at v) (sym (tree.rolls-Product size ts)) ∙ fold-roll-Tree Bool (uses_part v) (layer.Product size ts))

pub uses-Sum : (v size : ℕ) (ts : List Tree) → some_use v ts ≡ uses_at v (tree.Sum size ts)
uses-Sum v size ts = sym (ap (uses_at v) (sym (tree.rolls-Sum size ts)) ∙ fold-roll-Tree Bool (uses_part v) (layer.Sum size ts))

pub uses-Minus : (v : ℕ) (t u : Tree) → (uses_at v t || uses_at v u) ≡ uses_at v (tree.Minus t u)
uses-Minus v t u = sym (ap (uses_at v) (sym (tree.rolls-Minus t u)) ∙ fold-roll-Tree Bool (uses_part v) (layer.Minus t u))

-- one more of a list
pub trees-step : (trees : List Tree) (i : ℕ) (t : Tree) (start old mid : List Bool) → i < length trees → t ≡ get_or trees i t → AreMarked (λ v. uses_at v t) old mid
    → ((new : List Bool) → AreMarked (λ v. some_use v (drop i trees)) old new → AreMarked (λ v. some_use v trees) start new)
    → (new : List Bool) → AreMarked (λ v. some_use v (drop (i + 1) trees)) mid new → AreMarked (λ v. some_use v trees) start new
trees-step trees i t start old mid within is item rest new h =
    rest new (same-marked (λ v. uses_at v t || some_use v (drop (i + 1) trees)) (λ v. some_use v (drop i trees)) old new
    (λ v. ap (λ x. uses_at v x || some_use v (drop (i + 1) trees)) is ∙ uses-drop trees i t within v)
    (both-marked (λ v. uses_at v t) (λ v. some_use v (drop (i + 1) trees)) old mid new item h))

pub conditions-step : (cs : List CGuard) (i : ℕ) (c : CGuard) (start old mid : List Bool) → i < length cs → c ≡ get_or cs i c → AreMarked (λ v. condition_uses_at v c) old mid
    → ((new : List Bool) → AreMarked (λ v. some_condition_uses v (drop i cs)) old new → AreMarked (λ v. some_condition_uses v cs) start new)
    → (new : List Bool) → AreMarked (λ v. some_condition_uses v (drop (i + 1) cs)) mid new → AreMarked (λ v. some_condition_uses v cs) start new
conditions-step cs i c start old mid within is item rest new h =
    rest new (same-marked (λ v. condition_uses_at v c || some_condition_uses v (drop (i + 1) cs)) (λ v. some_condition_uses v (drop i cs)) old new
    (λ v. ap (λ x. condition_uses_at v x || some_condition_uses v (drop (i + 1) cs)) is ∙ conditions-drop cs i c within v)
    (both-marked (λ v. condition_uses_at v c) (λ v. some_condition_uses v (drop (i + 1) cs)) old mid new item h))

-- marks of numbers are marks of their names
pub names-marked : (names : List (List ℕ)) (p : ℕ → Bool) (q : List ℕ → Bool) (old new : List Bool) → ((v : ℕ) (name : List ℕ) → slice_get names v ≡ Some name → p v ≡ q name)
    → AreMarked p old new → AreNamesMarked names q old new
names-marked names p q old new same known v name mark named here = known.1 v mark here ∙ ap (λ b. Some (mark || b)) (same v name named)
