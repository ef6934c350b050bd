-- What is sound of an element that is read in a role.
use Rattle.std.proofs.Common.{◌≡◌, ◌⊎◌, ◌^◌, nat_lt, true, false, List, map, length}
use Rattle.std.specs.Bool.{⊤}
use Rattle.std.specs.List.{list_all}
use Rattle.name_tables.specs.Grammar.{is_id_text}
use Rattle.doc_model.specs.declared.tree.Attribute.{Attribute}
use Rattle.net_model.specs.declared.kinds.Kind.{Kind}
use Rattle.net_model.specs.declared.kinds.Kind.TheVariants.{Pt, Symmetric}
use Rattle.net_elements.specs.declared.roles.Role.{Role}
use Rattle.net_elements.specs.declared.roles.Role.TheVariants as role
use Rattle.net_elements.specs.Table.{keys_of, slots_of}
use Rattle.net_elements.specs.Rules.{is_missing, is_passed_over}
use Rattle.pnml_read.specs.declared.lists.Lists.{Lists}
use Rattle.pnml_read.specs.Nets.{Given}
use Rattle.pnml_read.specs.Each.{Each}
use Rattle.canon_laws.specs.Fitting.{span_fits}
use Rattle.pnml_read.proofs.Noted.{Passes}
use Rattle.pnml_read.proofs.ReadRoles.{Here, OneOf, roles_in}
use Rattle.canon_laws.proofs.Sound.{ArcIsSound, DeclaresFor, PlaceIsSound, TransitionIsSound, block_sound, declared_sound, guard_sound, member_sound, named_sound, partition_sound, reference_sound, sort_sound, term_sound, variable_sound}

-- What elements are.

-- the declarations and nodes of an element
pub record ListsAreSound (kind : Kind) (lists : Lists) : Type 0 where
  pub declared : DeclaresFor kind (length lists.sorts) × DeclaresFor kind (length lists.partitions) × DeclaresFor kind (length lists.variables)
  pub sorts : list_all named_sound lists.sorts ≡ true
  pub partitions : list_all partition_sound lists.partitions ≡ true
  pub variables : list_all variable_sound lists.variables ≡ true
  pub places : Each (PlaceIsSound kind) lists.places
  pub transitions : Each (TransitionIsSound kind) lists.transitions
  pub references : list_all reference_sound lists.references ≡ true
  pub arcs : Each (ArcIsSound kind) lists.arcs

-- a place/transition net declares nothing
abbrev pub DeclaredIsSound : Kind → Given → Type 0
DeclaredIsSound Pt g = ⊤
DeclaredIsSound Symmetric g = ListsAreSound Symmetric (g.lists Symmetric)

abbrev pub NodesAreSound : Kind → Given → Type 0
NodesAreSound kind g = ListsAreSound kind (g.lists kind)

abbrev pub SortGiven : Given → Type 0
SortGiven g = sort_sound g.sort ≡ true

abbrev pub WholeSortGiven : Given → Type 0
WholeSortGiven g = declared_sound g.sort ≡ true

abbrev pub TermGiven : Given → Type 0
TermGiven g = term_sound g.term ≡ true

abbrev pub GuardGiven : Given → Type 0
GuardGiven g = guard_sound g.guard ≡ true

abbrev pub MemberGiven : Given → Type 0
MemberGiven g = member_sound g.member ≡ true

-- what is sound of an element that is read in a role
abbrev pub RoleIsSound : Kind → Role → Given → Type 0
RoleIsSound kind role.Dot g = SortGiven g
RoleIsSound kind role.UserSort g = SortGiven g
RoleIsSound kind role.ProductSort g = SortGiven g
RoleIsSound kind role.FiniteIntRange g = SortGiven g
RoleIsSound kind role.PlaceType g = SortGiven g
RoleIsSound kind role.SortStructure g = SortGiven g
RoleIsSound kind role.FiniteEnumeration g = WholeSortGiven g
RoleIsSound kind role.CyclicEnumeration g = WholeSortGiven g
RoleIsSound kind role.FeConstant g = is_id_text g.id ≡ true
RoleIsSound kind role.Variable g = TermGiven g
RoleIsSound kind role.UserOperator g = TermGiven g × MemberGiven g
RoleIsSound kind role.DotConstant g = TermGiven g × MemberGiven g
RoleIsSound kind role.FiniteIntRangeConstant g = TermGiven g × MemberGiven g
RoleIsSound kind role.Successor g = TermGiven g
RoleIsSound kind role.Predecessor g = TermGiven g
RoleIsSound kind role.Tuple g = TermGiven g
RoleIsSound kind role.Add g = TermGiven g
RoleIsSound kind role.Subtract g = TermGiven g
RoleIsSound kind role.All g = TermGiven g
RoleIsSound kind role.Empty g = TermGiven g
RoleIsSound kind role.NumberOf g = TermGiven g
RoleIsSound kind role.ScalarProduct g = TermGiven g
RoleIsSound kind role.PartitionElementOf g = TermGiven g
RoleIsSound kind role.HlInitialMarking g = TermGiven g
RoleIsSound kind role.HlInscription g = TermGiven g
RoleIsSound kind role.TermStructure g = TermGiven g
RoleIsSound kind role.TermSubterm g = TermGiven g
RoleIsSound kind role.NumberSubterm g = TermGiven g
RoleIsSound kind role.NumberConstant g = TermGiven g
RoleIsSound kind role.And g = GuardGiven g
RoleIsSound kind role.Or g = GuardGiven g
RoleIsSound kind role.Not g = GuardGiven g
RoleIsSound kind role.Imply g = GuardGiven g
RoleIsSound kind role.Equality g = GuardGiven g
RoleIsSound kind role.Inequality g = GuardGiven g
RoleIsSound kind role.LessThan g = GuardGiven g
RoleIsSound kind role.LessThanOrEqual g = GuardGiven g
RoleIsSound kind role.GreaterThan g = GuardGiven g
RoleIsSound kind role.GreaterThanOrEqual g = GuardGiven g
RoleIsSound kind role.BooleanConstant g = GuardGiven g
RoleIsSound kind role.Condition g = GuardGiven g
RoleIsSound kind role.GuardStructure g = GuardGiven g
RoleIsSound kind role.GuardSubterm g = GuardGiven g
RoleIsSound kind role.PartitionElement g = block_sound g.block ≡ true
RoleIsSound kind role.Declaration g = DeclaredIsSound kind g
RoleIsSound kind role.DeclarationStructure g = DeclaredIsSound kind g
RoleIsSound kind role.Declarations g = DeclaredIsSound kind g
RoleIsSound kind role.NamedSort g = DeclaredIsSound kind g
RoleIsSound kind role.Partition g = DeclaredIsSound kind g
RoleIsSound kind role.VariableDecl g = DeclaredIsSound kind g
RoleIsSound kind role.Page g = NodesAreSound kind g
RoleIsSound kind role.Place g = NodesAreSound kind g
RoleIsSound kind role.Transition g = NodesAreSound kind g
RoleIsSound kind role.Arc g = NodesAreSound kind g
RoleIsSound kind role.ReferencePlace g = NodesAreSound kind g
RoleIsSound kind role.ReferenceTransition g = NodesAreSound kind g
RoleIsSound kind _ g = ⊤

-- the numbers of an element are always small
abbrev pub NumbersFit : Given → Type 0
NumbersFit g = (nat_lt g.number (2 ^ 63) ≡ true) × (span_fits g.span ≡ true)

-- a child, by what it is read as
abbrev pub Takes : Kind → Given → Role → Type 0
Takes kind g = Here g.name (λ r. RoleIsSound kind r g)

abbrev pub TakenIn : Kind → Role → Given → Type 0
TakenIn kind parent g = OneOf (roles_in (slots_of kind parent)) (Takes kind g)

abbrev pub Seated : Kind → Role → Given → Type 0
Seated kind parent g = NumbersFit g × ((is_passed_over parent g.name ≡ true) ⊎ TakenIn kind parent g)

pub record Facts (kind : Kind) (r : Role) (attributes : List Attribute) (cs : List Given) : Type 0 where
  pub keys : Each (Passes attributes) (keys_of r)
  pub children : Each (Seated kind r) cs
  pub present : is_missing (slots_of kind r) (map (λ c. c.name) cs) ≡ false
