-- Which written terms, guards and bindings the compiled ones stand for.
use Rattle.std.specs.Prelude.{◌≡◌, ◌+◌, ◌*◌, ◌<◌, ◌≤◌, ◌^◌, ℕ, Bool, true, false, ◌||◌, if◌then◌else◌, List, [], ◌∷◌, length, slice_get, slice_index, Option, None, Some, Ok}
use Rattle.std.specs.List.{list_any}
use Rattle.std.specs.Str.{bytes_eq}
use Rattle.wide_sums.specs.declared.rows.Cell.{Cell}
use Rattle.wide_sums.specs.Cells.{amount}
use Rattle.colour_sorts.specs.Domain.{Domain, domain_of}
use Rattle.colour_sorts.specs.declared.sorts.Sort.{Sort}
use Rattle.colour_sorts.specs.declared.sorts.Colour.{Colour}
use Rattle.net_model.specs.declared.terms.Term.{Term, fold-Term}
use Rattle.net_model.specs.declared.terms.Term.TheOpen.{Term-F, Variable, Operator, Dot, Number, Successor, Predecessor, Tuple, All, Empty, NumberOf, Scalar, Add, Subtract, BlockOf}
use Rattle.net_model.specs.declared.terms.Guard.{Guard, fold-Guard, out-Guard}
use Rattle.net_model.specs.declared.terms.Guard.TheOpen as guard
use Rattle.multiset_terms.specs.declared.kinds.Kind.{Kind}
use Rattle.multiset_terms.specs.declared.compiled.CTerm.{CTerm}
use Rattle.multiset_terms.specs.declared.buffers.Scale.{Scale}
use Rattle.multiset_terms.specs.declared.conditions.CGuard.{CGuard, out-CGuard}
use Rattle.multiset_terms.specs.declared.conditions.CGuard.TheOpen as compiled
use Rattle.multiset_terms.specs.Agreeing.{IsAgreed}
use Rattle.multiset_terms.specs.Conditions.{verdict, condition_uses_at}
use Rattle.multiset_terms.specs.Context.{Context}
use Rattle.multiset_terms.specs.Rows.{AreBelow}
use Rattle.multiset_terms.specs.Trees.{Reading, most_colours, reading, uses_at}
use Rattle.multiset_terms.specs.Typing.{is_block, sort_of_kind, type_of, variable_sort}
use Rattle.multiset_terms.specs.Values.{Binding, Meaning, colours_of, den, is_defined, meaning, truth}
use Rattle.multiset_terms.specs.Weights.{gross_of, support_of}

-- whether the variable of an id occurs in a term, and in a guard
abbrev pub occurs_part : List ℕ → Term-F Bool → Bool
occurs_part id (Variable name) = bytes_eq id name
occurs_part id (Operator _) = false
occurs_part id Dot = false
occurs_part id (Number _ _) = false
occurs_part id (Successor part) = part
occurs_part id (Predecessor part) = part
occurs_part id (Tuple parts) = list_any (λ part. part) parts
occurs_part id (All _) = false
occurs_part id (Empty _) = false
occurs_part id (NumberOf _ part) = part
occurs_part id (Scalar _ part) = part
occurs_part id (Add parts) = list_any (λ part. part) parts
occurs_part id (Subtract whole part) = whole || part
occurs_part id (BlockOf _ part) = part

abbrev pub occurs : List ℕ → Term → Bool
occurs id t = fold-Term Bool (occurs_part id) t

abbrev pub occurs_in_guard_part : List ℕ → guard.Guard-F Bool → Bool
occurs_in_guard_part id (guard.Constant _) = false
occurs_in_guard_part id (guard.And parts) = list_any (λ part. part) parts
occurs_in_guard_part id (guard.Or parts) = list_any (λ part. part) parts
occurs_in_guard_part id (guard.Not part) = part
occurs_in_guard_part id (guard.Imply first second) = first || second
occurs_in_guard_part id (guard.Compare _ first second) = occurs id first || occurs id second

abbrev pub occurs_in_guard : List ℕ → Guard → Bool
occurs_in_guard id g = fold-Guard Bool (occurs_in_guard_part id) g

-- a list of colour indices, one for each variable, stands for a binding of the variables' ids to colours of their sorts
pub record Binds (ctx : Context) (b : Binding) (indices : List ℕ) : Type 0 where
  pub many : length indices ≡ length ctx.variables.ids
  pub each : (at : ℕ) (id : List ℕ) → slice_get ctx.variables.ids at ≡ Some id
      → slice_get (colours_of ctx (variable_sort ctx at)) (slice_index indices at) ≡ Some (b id)

-- a reading over colour indices says what a meaning says of the colours of a sort
abbrev pub Agrees : Context → Sort → Meaning → Reading → Type 0
Agrees ctx s m r = IsAgreed (colours_of ctx s) m r

-- a compiled term stands for a written one
pub record StandsFor (ctx : Context) (marking : Bool) (t : Term) (c : CTerm) : Type 0 where
  pub typed : (kind : Kind) → type_of ctx marking t ≡ Ok kind → (is_block kind ≡ c.block) × (is_block kind ≡ false → sort_of_kind kind ≡ c.sort)
  pub gross_total : gross_of ctx t ≡ c.gross
  pub support_total : support_of ctx t ≡ c.support
  pub variables : (at : ℕ) (id : List ℕ) → slice_get ctx.variables.ids at ≡ Some id → uses_at at c.tree ≡ occurs id t
  pub values : (b : Binding) (indices : List ℕ) → Binds ctx b indices → c.block ≡ false → Agrees ctx c.sort (meaning ctx b t) (reading indices c.tree)
  pub weights : (b : Binding) (indices : List ℕ) → Binds ctx b indices → c.block ≡ false → (reading indices c.tree).gross ≡ c.gross
  pub light : c.gross < 2 ^ 63
  pub limit : c.block ≡ false → length (colours_of ctx c.sort) ≤ most_colours

-- the children of an `and`, written and compiled
abbrev pub is_and_layer : guard.Guard-F Guard → Bool
is_and_layer (guard.And _) = true
is_and_layer _ = false

abbrev pub children_layer : guard.Guard-F Guard → List Guard
children_layer (guard.And gs) = gs
children_layer _ = []

abbrev pub is_and : Guard → Bool
is_and g = is_and_layer (out-Guard g)

abbrev pub children_of : Guard → List Guard
children_of g = children_layer (out-Guard g)

abbrev pub is_compiled_and_layer : compiled.CGuard-F CGuard → Bool
is_compiled_and_layer (compiled.And _) = true
is_compiled_and_layer _ = false

abbrev pub compiled_children_layer : compiled.CGuard-F CGuard → List CGuard
compiled_children_layer (compiled.And cs) = cs
compiled_children_layer _ = []

abbrev pub is_compiled_and : CGuard → Bool
is_compiled_and c = is_compiled_and_layer (out-CGuard c)

abbrev pub compiled_children : CGuard → List CGuard
compiled_children c = compiled_children_layer (out-CGuard c)

-- the parts of a guard: the children of an `and`, of any other guard itself alone
abbrev pub parts_of : Guard → List Guard
parts_of g = if is_and g then children_of g else g ∷ []

abbrev pub compiled_parts : CGuard → List CGuard
compiled_parts c = if is_compiled_and c then compiled_children c else c ∷ []

-- the guard at the end of a path, which names a child of an `and` at each step
abbrev pub then_at : {A : Type 0} → (A → Option A) → Option A → Option A
then_at next None = None
then_at next (Some x) = next x

abbrev pub guard_at : List ℕ → Guard → Option Guard
guard_at [] g = Some g
guard_at (i ∷ path) g = then_at (guard_at path) (slice_get (children_of g) i)

abbrev pub compiled_at : List ℕ → CGuard → Option CGuard
compiled_at [] c = Some c
compiled_at (i ∷ path) c = then_at (compiled_at path) (slice_get (compiled_children c) i)

-- a compiled guard means what a written one means, and has as many children where that is an `and`
pub record GuardMeans (ctx : Context) (g : Guard) (c : CGuard) : Type 0 where
  pub variables : (at : ℕ) (id : List ℕ) → slice_get ctx.variables.ids at ≡ Some id → condition_uses_at at c ≡ occurs_in_guard id g
  pub fit : (b : Binding) (indices : List ℕ) → Binds ctx b indices → (verdict (domain_of ctx.sorts ctx.partitions) indices c).is_fit ≡ true
  pub truths : (b : Binding) (indices : List ℕ) → Binds ctx b indices → (verdict (domain_of ctx.sorts ctx.partitions) indices c).is_true ≡ truth ctx g b
  pub conjunction : is_compiled_and c ≡ is_and g
  pub many : length (compiled_children c) ≡ length (children_of g)
  pub few : length (compiled_children c) < 2 ^ 32

-- a compiled guard stands for a written one: it means that one, and so do its children, their children and so on
pub record GuardStandsFor (ctx : Context) (g : Guard) (c : CGuard) : Type 0 where
  pub means : (path : List ℕ) (h : Guard) (d : CGuard) → guard_at path g ≡ Some h → compiled_at path c ≡ Some d → GuardMeans ctx h d

-- a term or guard with a binding that are of one context
pub record CanBeEvaluated (c : CTerm) (indices : List ℕ) : Type 0 where
  pub context : Context
  pub marking : Bool
  pub term : Term
  pub binding : Binding
  pub stands : StandsFor context marking term c
  pub binds : Binds context binding indices
  pub no_block : c.block ≡ false

-- the same of a term whose value is added so many times, at places that are numbers of 32 bits
pub record CanBeAdded (c : CTerm) (indices : List ℕ) (scale : Scale) : Type 0 where
  pub evaluated : CanBeEvaluated c indices
  pub fits : scale.times * c.gross < 2 ^ 63
  pub room : scale.offset + length (colours_of evaluated.context c.sort) ≤ 2 ^ 32

pub record CanBeJudged (domain : Domain) (c : CGuard) (indices : List ℕ) : Type 0 where
  pub context : Context
  pub declared : domain ≡ domain_of context.sorts context.partitions
  pub written : Guard
  pub binding : Binding
  pub stands : GuardStandsFor context written c
  pub binds : Binds context binding indices

-- a row is the value of a term under a binding, over the places of the colours of a sort
pub record IsDen (ctx : Context) (s : Sort) (t : Term) (b : Binding) (row : List Cell) : Type 0 where
  pub defined : is_defined ctx t b ≡ true
  pub counts : (at : ℕ) (c : Colour) → slice_get (colours_of ctx s) at ≡ Some c → amount at row ≡ den ctx t b c
  pub inside : AreBelow (length (colours_of ctx s)) row

-- the amounts of a buffer rise by so many times the value of a term, from the offset on, and stay as they were elsewhere
pub record AddsDen (ctx : Context) (s : Sort) (t : Term) (b : Binding) (scale : Scale) (old : List Cell) (new : List Cell) : Type 0 where
  pub defined : is_defined ctx t b ≡ true
  pub counts : (at : ℕ) (c : Colour) → slice_get (colours_of ctx s) at ≡ Some c → amount (scale.offset + at) new ≡ amount (scale.offset + at) old + scale.times * den ctx t b c
  pub before : (p : ℕ) → p < scale.offset → amount p new ≡ amount p old
  pub behind : (p : ℕ) → scale.offset + length (colours_of ctx s) ≤ p → amount p new ≡ amount p old
  pub below : (bound : ℕ) → AreBelow bound old → scale.offset + length (colours_of ctx s) ≤ bound → AreBelow bound new
