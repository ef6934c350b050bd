-- Nets that a file can say: numbers are below 2^63 in absolute value, and sorts and labels are those of the net's kind.
use Rattle.std.specs.Prelude.{◌≡◌, ◌<◌, ◌^◌, ℤ, unsigned_abs, nat_lt, Bool, true, ◌&&◌, List, [], ◌∷◌, Option, None, Some}
use Rattle.std.specs.Bool.{⊤}
use Rattle.std.specs.List.{list_all}
use Rattle.net_model.specs.declared.sorts.Span.{Span}
use Rattle.net_model.specs.declared.sorts.SortTerm.{SortTerm, fold-SortTerm}
use Rattle.net_model.specs.declared.sorts.SortTerm.TheOpen as sort
use Rattle.net_model.specs.declared.sorts.SortTerm.TheVariants as written
use Rattle.net_model.specs.declared.sorts.Member.{Member}
use Rattle.net_model.specs.declared.sorts.Member.TheVariants as member
use Rattle.net_model.specs.declared.sorts.Block.{Block}
use Rattle.net_model.specs.declared.sorts.Partition.{Partition}
use Rattle.net_model.specs.declared.terms.Term.{Term, fold-Term}
use Rattle.net_model.specs.declared.terms.Term.TheOpen as term
use Rattle.net_model.specs.declared.terms.Guard.{Guard, fold-Guard}
use Rattle.net_model.specs.declared.terms.Guard.TheOpen as guard
use Rattle.net_model.specs.declared.kinds.Kind.{Kind}
use Rattle.net_model.specs.declared.kinds.Kind.TheVariants.{Pt, Symmetric}
use Rattle.net_model.specs.declared.nets.Label.{Label}
use Rattle.net_model.specs.declared.nets.Label.TheVariants as label
use Rattle.net_model.specs.declared.nets.Net.{Net}
use Rattle.pnml_read.specs.Each.{Each, are_all}

-- numbers
abbrev pub fits : ℤ → Bool
fits n = nat_lt (unsigned_abs n) (2 ^ 63)

abbrev pub span_fits : Span → Bool
span_fits span = fits span.first && fits span.last

-- all numbers of a sort, of a term and of a guard
abbrev pub sort_fits_by_parts : sort.SortTerm-F Bool → Bool
sort_fits_by_parts (sort.Product parts) = are_all parts
sort_fits_by_parts (sort.Range span) = span_fits span
sort_fits_by_parts _ = true

abbrev pub sort_fits : SortTerm → Bool
sort_fits s = fold-SortTerm Bool sort_fits_by_parts s

abbrev pub term_fits_by_parts : term.Term-F Bool → Bool
term_fits_by_parts (term.Number value span) = fits value && span_fits span
term_fits_by_parts (term.Successor t) = t
term_fits_by_parts (term.Predecessor t) = t
term_fits_by_parts (term.Tuple ts) = are_all ts
term_fits_by_parts (term.All s) = sort_fits s
term_fits_by_parts (term.Empty s) = sort_fits s
term_fits_by_parts (term.NumberOf n t) = nat_lt n (2 ^ 63) && t
term_fits_by_parts (term.Scalar n t) = nat_lt n (2 ^ 63) && t
term_fits_by_parts (term.Add ts) = are_all ts
term_fits_by_parts (term.Subtract s t) = s && t
term_fits_by_parts (term.BlockOf id t) = t
term_fits_by_parts _ = true

abbrev pub term_fits : Term → Bool
term_fits t = fold-Term Bool term_fits_by_parts t

abbrev pub guard_fits_by_parts : guard.Guard-F Bool → Bool
guard_fits_by_parts (guard.And gs) = are_all gs
guard_fits_by_parts (guard.Or gs) = are_all gs
guard_fits_by_parts (guard.Not g) = g
guard_fits_by_parts (guard.Imply g h) = g && h
guard_fits_by_parts (guard.Compare o s t) = term_fits s && term_fits t
guard_fits_by_parts _ = true

abbrev pub guard_fits : Guard → Bool
guard_fits g = fold-Guard Bool guard_fits_by_parts g

abbrev pub member_fits : Member → Bool
member_fits (member.Number value span) = fits value && span_fits span
member_fits _ = true

abbrev pub block_fits : Block → Bool
block_fits b = list_all member_fits b.members

abbrev pub partition_fits : Partition → Bool
partition_fits p = sort_fits p.sort && list_all block_fits p.elements

-- a place/transition net has numbers at places and arcs and no sort but the dot; a symmetric net has terms, or nothing
abbrev pub SortFits : Kind → SortTerm → Type 0
SortFits Pt s = s ≡ written.Dot
SortFits Symmetric s = sort_fits s ≡ true

abbrev pub LabelFits : Kind → Label → Type 0
LabelFits Pt (label.Count n) = n < 2 ^ 63
LabelFits Pt _ = ⊥
LabelFits Symmetric label.Absent = ⊤
LabelFits Symmetric (label.Multiset t) = term_fits t ≡ true
LabelFits Symmetric (label.Count n) = ⊥

abbrev pub GuardFits : Option Guard → Type 0
GuardFits None = ⊤
GuardFits (Some g) = guard_fits g ≡ true

pub record NetFits (net : Net) : Type 0 where
  pub sorts : list_all (λ s. sort_fits s.sort) net.sorts ≡ true
  pub partitions : list_all partition_fits net.partitions ≡ true
  pub variables : list_all (λ v. sort_fits v.sort) net.variables ≡ true
  pub places : Each (λ p. SortFits net.kind p.sort × LabelFits net.kind p.marking) net.places
  pub transitions : Each (λ t. GuardFits t.guard) net.transitions
  pub arcs : Each (λ a. LabelFits net.kind a.label) net.arcs
