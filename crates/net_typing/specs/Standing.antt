-- What the typed parts of a net stand for.
use Rattle.std.specs.Prelude.{◌≡◌, ℕ, ◌<◌, ◌≤◌, ◌^◌, Bool, true, false, List, [], ◌∷◌, length, map, slice_index_or, Option, None, Some, Result, Ok, Err}
use Rattle.colour_sorts.specs.declared.rules.ResolveFault.{ResolveFault}
use Rattle.colour_sorts.specs.declared.rules.ResolveFault.TheVariants as refusal
use Rattle.colour_sorts.specs.declared.sorts.Sort.{Sort}
use Rattle.colour_sorts.specs.Calls.{sort_at}
use Rattle.colour_sorts.specs.Colours.{size}
use Rattle.colour_sorts.specs.Domain.{Domain}
use Rattle.colour_sorts.specs.Naming.{broken_rule, sort_of}
use Rattle.net_model.specs.declared.nets.VariableDecl.{VariableDecl}
use Rattle.net_model.specs.declared.sorts.NamedSort.{NamedSort}
use Rattle.net_model.specs.declared.sorts.SortTerm.{SortTerm}
use Rattle.net_model.specs.declared.nets.Label.{Label}
use Rattle.net_model.specs.declared.nets.Label.TheVariants.{Absent, Count, Multiset}
use Rattle.net_model.specs.declared.nets.Net.{Net}
use Rattle.net_model.specs.declared.nets.Place.{Place}
use Rattle.net_model.specs.declared.nets.Transition.{Transition}
use Rattle.net_model.specs.declared.terms.Guard.{Guard}
use Rattle.multiset_terms.specs.Context.{Context}
use Rattle.multiset_terms.specs.declared.conditions.CGuard.{CGuard}
use Rattle.multiset_terms.specs.Parts.{AreSized, IsScope}
use Rattle.multiset_terms.specs.Usable.{IsUsable}
use Rattle.net_firing.specs.FileNets.{context_of}
use Rattle.multiset_terms.specs.Standing.{GuardStandsFor, StandsFor}
use Rattle.multiset_terms.specs.Typing.{sort_named}
use Rattle.net_typing.specs.declared.inscribed.Inscribed.{Inscribed}
use Rattle.net_typing.specs.declared.inscribed.Inscribed.TheVariants as inscribed
use Rattle.net_typing.specs.declared.places.PlaceTyping.{PlaceTyping}
use Rattle.net_typing.specs.declared.sorts.SharedSort.{SharedSort}
use Rattle.net_typing.specs.declared.sorts.SharedSort.TheVariants as sort
use Rattle.net_typing.specs.declared.faults.Unfit.{Unfit}
use Rattle.net_typing.specs.declared.faults.Unfit.TheVariants as unfit
use Rattle.net_typing.specs.declared.scope.Scope.{Scope}
use Rattle.net_typing.specs.Rules.{IsUnfit, declaration_refusal, first_over, guard_rule, is_heavy, label_rule, place_refusal, variable_refusal}

-- the sort that is shared with the named sort at a position, or is a place's own
abbrev pub shared : Domain → SharedSort → Sort
shared d (sort.Named at) = sort_at d.sorts at
shared d (sort.Own s) = s

abbrev pub IsSharedWith : Domain → SharedSort → Type 0
IsSharedWith d (sort.Named at) = at < length d.ids
IsSharedWith d (sort.Own s) = Unit {0}

-- what is answered of a written sort: the sort that it stands for, with some colours and not too many, or the first rule that it breaks
pub record IsSortOf (ctx : Context) (d : Domain) (written : SortTerm) (it : SharedSort) : Type 0 where
  pub unbroken : broken_rule ctx.sorts 0 written ≡ None
  pub is : shared d it ≡ sort_named ctx written
  pub some : 0 < size d.constants (sort_named ctx written)
  pub limit : size d.constants (sort_named ctx written) ≤ 2 ^ 20

abbrev pub IsSortAnswer : Context → Domain → SortTerm → Result SharedSort ResolveFault → Type 0
IsSortAnswer ctx d written (Ok it) = IsSortOf ctx d written it
IsSortAnswer ctx d written (Err (refusal.Bad broken)) = broken_rule ctx.sorts 0 written ≡ Some broken
IsSortAnswer ctx d written (Err refusal.Memory) = Unit {0}

-- a marking or an inscription over a sort, typed and weighed, where one that isn't there is so many dots
abbrev pub number_of : ℕ → Label → Label
number_of absent Absent = Count absent
number_of absent label = label

abbrev pub IsSame : Context → Bool → Label → Inscribed → Type 0
IsSame ctx marking (Count n) (inscribed.Dots m) = m ≡ n
IsSame ctx marking (Multiset t) (inscribed.Term c) = StandsFor ctx marking t c
IsSame ctx marking _ _ = ⊥

pub record IsInscribed (ctx : Context) (marking : Bool) (absent : ℕ) (s : Sort) (label : Label) (it : Inscribed) : Type 0 where
  pub typed : label_rule ctx marking s label ≡ None
  pub light : is_heavy ctx label ≡ false
  pub is : IsSame ctx marking (number_of absent label) it

-- what is answered of a label over a sort: it typed, or the rule that it breaks, or that it is too heavy where it breaks none
abbrev pub IsInscribedAnswer : Context → Bool → ℕ → Sort → Label → Result Inscribed Unfit → Type 0
IsInscribedAnswer ctx marking absent s label (Ok it) = IsInscribed ctx marking absent s label it
IsInscribedAnswer ctx marking absent s label (Err (unfit.Broken broken)) = label_rule ctx marking s label ≡ Some broken
IsInscribedAnswer ctx marking absent s label (Err unfit.Heavy) = (label_rule ctx marking s label ≡ None) × (is_heavy ctx label ≡ true)
IsInscribedAnswer ctx marking absent s label (Err unfit.Memory) = Unit {0}

-- of a number of dots no terms are asked
abbrev pub IsNumberAnswer : Sort → ℕ → Result Inscribed Unfit → Type 0
IsNumberAnswer s number result = (ctx : Context) (marking : Bool) (absent : ℕ) → IsInscribedAnswer ctx marking absent s (Count number) result

-- a place with its sort, the number of its colours, and its marking
pub record IsPlaceTyping (ctx : Context) (d : Domain) (p : Place) (it : PlaceTyping) : Type 0 where
  pub sort : IsSortOf ctx d p.sort it.sort
  pub with : IsSharedWith d it.sort
  pub size : it.size ≡ size d.constants (sort_named ctx p.sort)
  pub marking : IsInscribed ctx true 0 (sort_named ctx p.sort) p.marking it.marking

abbrev pub IsPlaceAnswer : Context → Domain → Place → Result PlaceTyping Unfit → Type 0
IsPlaceAnswer ctx d p (Ok it) = IsPlaceTyping ctx d p it × (place_refusal ctx p ≡ None)
IsPlaceAnswer ctx d p (Err why) = IsUnfit p.id (place_refusal ctx p) why

-- a guard, where there is one
abbrev pub IsGuard : Context → Option Guard → Option CGuard → Type 0
IsGuard ctx None None = Unit {0}
IsGuard ctx (Some g) (Some c) = GuardStandsFor ctx g c
IsGuard ctx _ _ = ⊥

abbrev pub IsTransitionGuard : Context → Transition → Option CGuard → Type 0
IsTransitionGuard ctx t c = IsGuard ctx t.guard c

abbrev pub IsGuardAnswer : Context → Option Guard → Result (Option CGuard) Unfit → Type 0
IsGuardAnswer ctx g (Ok c) = IsGuard ctx g c × (guard_rule ctx g ≡ None)
IsGuardAnswer ctx g (Err (unfit.Broken broken)) = guard_rule ctx g ≡ Some broken
IsGuardAnswer ctx g (Err unfit.Heavy) = ⊥
IsGuardAnswer ctx g (Err unfit.Memory) = Unit {0}

-- the declarations of a net that break no rule, which terms can be compiled over
pub record IsScopeOf (net : Net) (scope : Scope) : Type 0 where
  pub is : IsScope (context_of net) scope.domains scope.variables
  pub usable : IsUsable scope.domains scope.variables
  pub sound : declaration_refusal net ≡ None

-- the sorts of variables that break no rule, with some colours and not too many
pub record AreVariableSorts (sorts : List NamedSort) (constants : List (List (List ℕ))) (variables : List VariableDecl) (found : List Sort) : Type 0 where
  pub are : found ≡ map (λ v. sort_of sorts 0 v.sort) variables
  pub sized : AreSized constants found
  pub sound : first_over (variable_refusal sorts) variables ≡ None

-- each of so many written parts has its typed one
pub record AreTypedBelow {A B : Type 0} (Is : A → B → Type 0) (count : ℕ) (written : List A) (typed : List B) : Type 0 where
  pub many : length typed ≡ count
  pub each : (i : ℕ) (d : A) (e : B) → i < count → Is (slice_index_or written i d) (slice_index_or typed i e)

abbrev pub AreTyped : {A B : Type 0} → (A → B → Type 0) → List A → List B → Type 0
AreTyped Is written typed = AreTypedBelow Is (length written) written typed
