-- Induction over sorts, terms and guards by their layers: what holds of each layer whose parts it holds of holds of all.
use Rattle.std.proofs.Common.{subst}
use Rattle.net_model.specs.declared.sorts.SortTerm.{SortTerm, map-SortTerm, roll-SortTerm}
use Rattle.net_model.specs.declared.sorts.SortTerm.TheFolds.{ind-SortTerm}
use Rattle.net_model.specs.declared.sorts.SortTerm.TheOpen as sort
use Rattle.net_model.specs.declared.terms.Term.{Term, map-Term, roll-Term}
use Rattle.net_model.specs.declared.terms.Term.TheFolds.{ind-Term}
use Rattle.net_model.specs.declared.terms.Term.TheOpen as term
use Rattle.net_model.specs.declared.terms.Guard.{Guard, map-Guard, roll-Guard}
use Rattle.net_model.specs.declared.terms.Guard.TheFolds.{ind-Guard}
use Rattle.net_model.specs.declared.terms.Guard.TheOpen as guard

abbrev pub KnownSort : (SortTerm → Type 0) → Type 0
KnownSort P = (s : SortTerm) × P s

abbrev pub sort_in : (P : SortTerm → Type 0) → KnownSort P → SortTerm
sort_in P known = known.0

abbrev pub plain_sort : (P : SortTerm → Type 0) → sort.SortTerm-F (KnownSort P) → sort.SortTerm-F SortTerm
plain_sort P y = map-SortTerm (KnownSort P) SortTerm (sort_in P) y

pub sort_by_layers : (P : SortTerm → Type 0) → ((y : sort.SortTerm-F (KnownSort P)) → P (roll-SortTerm (plain_sort P y))) → (s : SortTerm) → P s
sort_by_layers P step = ind-SortTerm P (λ x y is. subst (λ z. P (roll-SortTerm z)) is (step y))

abbrev pub KnownTerm : (Term → Type 0) → Type 0
KnownTerm P = (t : Term) × P t

abbrev pub term_in : (P : Term → Type 0) → KnownTerm P → Term
term_in P known = known.0

abbrev pub plain_term : (P : Term → Type 0) → term.Term-F (KnownTerm P) → term.Term-F Term
plain_term P y = map-Term (KnownTerm P) Term (term_in P) y

pub term_by_layers : (P : Term → Type 0) → ((y : term.Term-F (KnownTerm P)) → P (roll-Term (plain_term P y))) → (t : Term) → P t
term_by_layers P step = ind-Term P (λ x y is. subst (λ z. P (roll-Term z)) is (step y))

abbrev pub KnownGuard : (Guard → Type 0) → Type 0
KnownGuard P = (g : Guard) × P g

abbrev pub guard_in : (P : Guard → Type 0) → KnownGuard P → Guard
guard_in P known = known.0

abbrev pub plain_guard : (P : Guard → Type 0) → guard.Guard-F (KnownGuard P) → guard.Guard-F Guard
plain_guard P y = map-Guard (KnownGuard P) Guard (guard_in P) y

pub guard_by_layers : (P : Guard → Type 0) → ((y : guard.Guard-F (KnownGuard P)) → P (roll-Guard (plain_guard P y))) → (g : Guard) → P g
guard_by_layers P step = ind-Guard P (λ x y is. subst (λ z. P (roll-Guard z)) is (step y))
