-- Forms by the terms that aren't 0, and the forms of `cert_model` that they are.
use Rattle.std.specs.Prelude.{◌<◌, ◌^◌, ℕ, List, [], ◌∷◌, AllPairs, nat_eq, if◌then◌else◌, ℤ, pos, unsigned_abs, All}
use Rattle.std.specs.Bool.{⊤}
use Rattle.linear_cert.specs.declared.forms.Term.{Term}
use Rattle.linear_cert.specs.declared.forms.Constant.{Constant}
use Rattle.linear_cert.specs.declared.forms.Constant.TheVariants.{Value, Wide}
use Rattle.cert_model.specs.Forms.{Form}

pub record SparseForm : Type 0 where
  pub terms : List Term
  pub constant : Constant

abbrev pub sparse : List Term → Constant → SparseForm
sparse terms constant = record { terms = terms; constant = constant }

abbrev pub IsNarrow : Constant → Type 0
IsNarrow (Value v) = unsigned_abs v < 2 ^ 127
IsNarrow Wide = ⊤

-- the places rise strictly, and the constant is in range
pub record IsSparse (form : SparseForm) : Type 0 where
  pub rising : AllPairs (λ s t. s.place < t.place) form.terms
  pub narrow : IsNarrow form.constant

-- the terms have places below this number
abbrev pub IsWithin : ℕ → SparseForm → Type 0
IsWithin places form = All (λ t. t.place < places) form.terms

abbrev pub coefficient_in : List Term → ℕ → ℤ
coefficient_in [] p = pos 0
coefficient_in (t ∷ ts) p = if nat_eq t.place p then t.value else coefficient_in ts p

-- a constant out of range is that of any number that is
abbrev pub constant_of : Constant → List ℤ
constant_of (Value v) = v ∷ []
constant_of Wide = pos (2 ^ 127) ∷ []

abbrev pub form_of : SparseForm → Form
form_of form = record { coefficient = coefficient_in form.terms; constant = constant_of form.constant }
