-- What a net is that a tree gives which breaks no rule: ids are ids, numbers can be written, sums and tuples have parts, and the
-- ids of the nodes and of the symbols are distinct.
use Rattle.std.specs.Prelude.{◌≡◌, ◌<◌, ◌^◌, ◌==◌, ℕ, nat_lt, Bool, true, false, not, ◌&&◌, List, [], ◌∷◌, length, Option, None, Some}
use Rattle.std.specs.Bool.{⊤}
use Rattle.std.specs.List.{list_all}
use Rattle.name_tables.specs.Grammar.{is_id_text}
use Rattle.net_model.specs.declared.sorts.SortTerm.{SortTerm, fold-SortTerm, out-SortTerm}
use Rattle.net_model.specs.declared.sorts.SortTerm.TheOpen as sort
use Rattle.net_model.specs.declared.sorts.SortTerm.TheVariants as written
use Rattle.net_model.specs.declared.sorts.NamedSort.{NamedSort}
use Rattle.net_model.specs.declared.sorts.Member.{Member}
use Rattle.net_model.specs.declared.sorts.Member.TheVariants as member
use Rattle.net_model.specs.declared.sorts.Block.{Block}
use Rattle.net_model.specs.declared.sorts.Partition.{Partition}
use Rattle.net_model.specs.declared.terms.Term.{Term, fold-Term}
use Rattle.net_model.specs.declared.terms.Term.TheOpen as term
use Rattle.net_model.specs.declared.terms.Guard.{Guard, fold-Guard}
use Rattle.net_model.specs.declared.terms.Guard.TheOpen as guard
use Rattle.net_model.specs.declared.kinds.Kind.{Kind}
use Rattle.net_model.specs.declared.kinds.Kind.TheVariants.{Pt, Symmetric}
use Rattle.net_model.specs.declared.nets.Label.{Label}
use Rattle.net_model.specs.declared.nets.Label.TheVariants as label
use Rattle.net_model.specs.declared.nets.Place.{Place}
use Rattle.net_model.specs.declared.nets.Transition.{Transition}
use Rattle.net_model.specs.declared.nets.Arc.{Arc}
use Rattle.net_model.specs.declared.nets.Reference.{Reference}
use Rattle.net_model.specs.declared.nets.VariableDecl.{VariableDecl}
use Rattle.net_model.specs.declared.nets.Net.{Net}
use Rattle.net_model.specs.Ids.{node_ids, symbol_ids}
use Rattle.pnml_read.specs.Each.{Each, are_all}
use Rattle.pnml_read.proofs.Distinct.{Differ}
use Rattle.canon_laws.specs.Fitting.{fits, span_fits}

abbrev pub some : {A : Type 0} → List A → Bool
some parts = not (length parts == 0)

-- sorts that stand elsewhere than as a whole declared sort: they have no enumeration
abbrev pub sort_sound_by_parts : sort.SortTerm-F Bool → Bool
sort_sound_by_parts sort.Dot = true
sort_sound_by_parts (sort.Named id) = is_id_text id
sort_sound_by_parts (sort.Product parts) = are_all parts
sort_sound_by_parts (sort.Range span) = span_fits span
sort_sound_by_parts (sort.Listed ids) = false
sort_sound_by_parts (sort.Cyclic ids) = false

abbrev pub sort_sound : SortTerm → Bool
sort_sound s = fold-SortTerm Bool sort_sound_by_parts s

-- a whole declared sort: an enumeration, or another sort
abbrev pub declared_sound_by_parts : sort.SortTerm-F SortTerm → Bool → Bool
declared_sound_by_parts (sort.Listed ids) otherwise = list_all is_id_text ids
declared_sound_by_parts (sort.Cyclic ids) otherwise = list_all is_id_text ids
declared_sound_by_parts _ otherwise = otherwise

abbrev pub declared_sound : SortTerm → Bool
declared_sound s = declared_sound_by_parts (out-SortTerm s) (sort_sound s)

abbrev pub term_sound_by_parts : term.Term-F Bool → Bool
term_sound_by_parts (term.Variable id) = is_id_text id
term_sound_by_parts (term.Operator id) = is_id_text id
term_sound_by_parts term.Dot = true
term_sound_by_parts (term.Number value span) = fits value && span_fits span
term_sound_by_parts (term.Successor t) = t
term_sound_by_parts (term.Predecessor t) = t
term_sound_by_parts (term.Tuple ts) = some ts && are_all ts
term_sound_by_parts (term.All s) = sort_sound s
term_sound_by_parts (term.Empty s) = sort_sound s
term_sound_by_parts (term.NumberOf n t) = nat_lt n (2 ^ 63) && t
term_sound_by_parts (term.Scalar n t) = nat_lt n (2 ^ 63) && t
term_sound_by_parts (term.Add ts) = some ts && are_all ts
term_sound_by_parts (term.Subtract s t) = s && t
term_sound_by_parts (term.BlockOf id t) = is_id_text id && t

abbrev pub term_sound : Term → Bool
term_sound t = fold-Term Bool term_sound_by_parts t

abbrev pub guard_sound_by_parts : guard.Guard-F Bool → Bool
guard_sound_by_parts (guard.Constant b) = true
guard_sound_by_parts (guard.And gs) = some gs && are_all gs
guard_sound_by_parts (guard.Or gs) = some gs && are_all gs
guard_sound_by_parts (guard.Not g) = g
guard_sound_by_parts (guard.Imply g h) = g && h
guard_sound_by_parts (guard.Compare o s t) = term_sound s && term_sound t

abbrev pub guard_sound : Guard → Bool
guard_sound g = fold-Guard Bool guard_sound_by_parts g

abbrev pub member_sound : Member → Bool
member_sound (member.Constant id) = is_id_text id
member_sound (member.Number value span) = fits value && span_fits span
member_sound member.Dot = true

abbrev pub block_sound : Block → Bool
block_sound b = is_id_text b.id && list_all member_sound b.members

abbrev pub partition_sound : Partition → Bool
partition_sound p = is_id_text p.id && sort_sound p.sort && list_all block_sound p.elements

abbrev pub named_sound : NamedSort → Bool
named_sound s = is_id_text s.id && declared_sound s.sort

abbrev pub variable_sound : VariableDecl → Bool
variable_sound v = is_id_text v.id && sort_sound v.sort

-- a place/transition net has numbers at places and arcs and no sort but the dot; a symmetric net has terms, or nothing
abbrev pub SortIsSound : Kind → SortTerm → Type 0
SortIsSound Pt s = s ≡ written.Dot
SortIsSound Symmetric s = sort_sound s ≡ true

abbrev pub LabelIsSound : Kind → Label → Type 0
LabelIsSound Pt label.Absent = ⊥
LabelIsSound Pt (label.Count n) = n < 2 ^ 63
LabelIsSound Pt (label.Multiset t) = ⊥
LabelIsSound Symmetric label.Absent = ⊤
LabelIsSound Symmetric (label.Count n) = ⊥
LabelIsSound Symmetric (label.Multiset t) = term_sound t ≡ true

-- a place/transition net has no guards
abbrev pub GuardIsSound : Kind → Option Guard → Type 0
GuardIsSound kind None = ⊤
GuardIsSound Pt (Some g) = ⊥
GuardIsSound Symmetric (Some g) = guard_sound g ≡ true

abbrev pub PlaceIsSound : Kind → Place → Type 0
PlaceIsSound kind p = (is_id_text p.id ≡ true) × SortIsSound kind p.sort × LabelIsSound kind p.marking

abbrev pub TransitionIsSound : Kind → Transition → Type 0
TransitionIsSound kind t = (is_id_text t.id ≡ true) × GuardIsSound kind t.guard

abbrev pub reference_sound : Reference → Bool
reference_sound r = is_id_text r.id && is_id_text r.target

abbrev pub ArcIsSound : Kind → Arc → Type 0
ArcIsSound kind a = (is_id_text a.id ≡ true) × (is_id_text a.source ≡ true) × (is_id_text a.target ≡ true) × LabelIsSound kind a.label

-- a place/transition net declares nothing
abbrev pub DeclaresFor : Kind → ℕ → Type 0
DeclaresFor Pt count = count ≡ 0
DeclaresFor Symmetric count = ⊤

pub record ValuesAreSound (net : Net) : Type 0 where
  pub id : is_id_text net.id ≡ true
  pub declared : DeclaresFor net.kind (length net.sorts) × DeclaresFor net.kind (length net.partitions) × DeclaresFor net.kind (length net.variables)
  pub sorts : list_all named_sound net.sorts ≡ true
  pub partitions : list_all partition_sound net.partitions ≡ true
  pub variables : list_all variable_sound net.variables ≡ true
  pub places : Each (PlaceIsSound net.kind) net.places
  pub transitions : Each (TransitionIsSound net.kind) net.transitions
  pub references : list_all reference_sound net.references ≡ true
  pub arcs : Each (ArcIsSound net.kind) net.arcs

pub record NetIsSound (net : Net) : Type 0 where
  pub values : ValuesAreSound net
  pub nodes : Differ (node_ids net)
  pub symbols : Differ (symbol_ids net)
