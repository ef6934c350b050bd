-- A fold over sorts, terms and guards as they are written, one node at a time.
use Rattle.std.proofs.Common.{◌≡◌, ℕ, ℤ, Bool, List, map, sym, ap, ◌∙◌}
use Rattle.net_model.specs.declared.sorts.Span.{Span}
use Rattle.net_model.specs.declared.sorts.SortTerm.{SortTerm, fold-SortTerm, fold-roll-SortTerm}
use Rattle.net_model.specs.declared.sorts.SortTerm.TheOpen as term-layer
use Rattle.net_model.specs.declared.sorts.SortTerm.TheVariants as sort_term
use Rattle.net_model.specs.declared.terms.Order.{Order}
use Rattle.net_model.specs.declared.terms.Term.{Term, fold-Term, fold-roll-Term}
use Rattle.net_model.specs.declared.terms.Term.TheOpen.{Term-F}
use Rattle.net_model.specs.declared.terms.Term.TheOpen as layer
use Rattle.net_model.specs.declared.terms.Term.TheVariants as term
use Rattle.net_model.specs.declared.terms.Guard.{Guard, fold-Guard, fold-roll-Guard}
use Rattle.net_model.specs.declared.terms.Guard.TheOpen as guard_layer
use Rattle.net_model.specs.declared.terms.Guard.TheVariants as guard

pub term-Dot : {R : Type 0} (step : term-layer.SortTerm-F R → R) → fold-SortTerm R step sort_term.Dot ≡ step term-layer.Dot
term-Dot {R} step = ap (fold-SortTerm R step) (sym sort_term.rolls-Dot) ∙ fold-roll-SortTerm R step term-layer.Dot

pub term-Named : {R : Type 0} (step : term-layer.SortTerm-F R → R) (id : List ℕ) → fold-SortTerm R step (sort_term.Named id) ≡ step (term-layer.Named id)
term-Named {R} step id = ap (fold-SortTerm R step) (sym (sort_term.rolls-Named id)) ∙ fold-roll-SortTerm R step (term-layer.Named id)

pub term-Range : {R : Type 0} (step : term-layer.SortTerm-F R → R) (span : Span) → fold-SortTerm R step (sort_term.Range span) ≡ step (term-layer.Range span)
term-Range {R} step span = ap (fold-SortTerm R step) (sym (sort_term.rolls-Range span)) ∙ fold-roll-SortTerm R step (term-layer.Range span)

pub term-Listed : {R : Type 0} (step : term-layer.SortTerm-F R → R) (ids : List (List ℕ)) → fold-SortTerm R step (sort_term.Listed ids) ≡ step (term-layer.Listed ids)
term-Listed {R} step ids = ap (fold-SortTerm R step) (sym (sort_term.rolls-Listed ids)) ∙ fold-roll-SortTerm R step (term-layer.Listed ids)

pub term-Cyclic : {R : Type 0} (step : term-layer.SortTerm-F R → R) (ids : List (List ℕ)) → fold-SortTerm R step (sort_term.Cyclic ids) ≡ step (term-layer.Cyclic ids)
term-Cyclic {R} step ids = ap (fold-SortTerm R step) (sym (sort_term.rolls-Cyclic ids)) ∙ fold-roll-SortTerm R step (term-layer.Cyclic ids)

pub term-Product : {R : Type 0} (step : term-layer.SortTerm-F R → R) (parts : List SortTerm) → fold-SortTerm R step (sort_term.Product parts) ≡ step (term-layer.Product (map (fold-SortTerm R step) parts))
term-Product {R} step parts = ap (fold-SortTerm R step) (sym (sort_term.rolls-Product parts)) ∙ fold-roll-SortTerm R step (term-layer.Product parts)

pub fold-Variable : {A : Type 0} (f : Term-F A → A) (id : List ℕ) → fold-Term A f (term.Variable id) ≡ f (layer.Variable id)
fold-Variable {A} f id = ap (fold-Term A f) (sym (term.rolls-Variable id)) ∙ fold-roll-Term A f (layer.Variable id)

pub fold-Operator : {A : Type 0} (f : Term-F A → A) (id : List ℕ) → fold-Term A f (term.Operator id) ≡ f (layer.Operator id)
fold-Operator {A} f id = ap (fold-Term A f) (sym (term.rolls-Operator id)) ∙ fold-roll-Term A f (layer.Operator id)

pub fold-Dot : {A : Type 0} (f : Term-F A → A) → fold-Term A f term.Dot ≡ f layer.Dot
fold-Dot {A} f = ap (fold-Term A f) (sym term.rolls-Dot) ∙ fold-roll-Term A f layer.Dot

pub fold-Number : {A : Type 0} (f : Term-F A → A) (value : ℤ) (span : Span) → fold-Term A f (term.Number value span) ≡ f (layer.Number value span)
fold-Number {A} f value span = ap (fold-Term A f) (sym (term.rolls-Number value span)) ∙ fold-roll-Term A f (layer.Number value span)

pub fold-Successor : {A : Type 0} (f : Term-F A → A) (c : Term) → fold-Term A f (term.Successor c) ≡ f (layer.Successor (fold-Term A f c))
fold-Successor {A} f c = ap (fold-Term A f) (sym (term.rolls-Successor c)) ∙ fold-roll-Term A f (layer.Successor c)

pub fold-Predecessor : {A : Type 0} (f : Term-F A → A) (c : Term) → fold-Term A f (term.Predecessor c) ≡ f (layer.Predecessor (fold-Term A f c))
fold-Predecessor {A} f c = ap (fold-Term A f) (sym (term.rolls-Predecessor c)) ∙ fold-roll-Term A f (layer.Predecessor c)

pub fold-Tuple : {A : Type 0} (f : Term-F A → A) (cs : List Term) → fold-Term A f (term.Tuple cs) ≡ f (layer.Tuple (map (fold-Term A f) cs))
fold-Tuple {A} f cs = ap (fold-Term A f) (sym (term.rolls-Tuple cs)) ∙ fold-roll-Term A f (layer.Tuple cs)

pub fold-All : {A : Type 0} (f : Term-F A → A) (written : SortTerm) → fold-Term A f (term.All written) ≡ f (layer.All written)
fold-All {A} f written = ap (fold-Term A f) (sym (term.rolls-All written)) ∙ fold-roll-Term A f (layer.All written)

pub fold-Empty : {A : Type 0} (f : Term-F A → A) (written : SortTerm) → fold-Term A f (term.Empty written) ≡ f (layer.Empty written)
fold-Empty {A} f written = ap (fold-Term A f) (sym (term.rolls-Empty written)) ∙ fold-roll-Term A f (layer.Empty written)

pub fold-NumberOf : {A : Type 0} (f : Term-F A → A) (number : ℕ) (c : Term) → fold-Term A f (term.NumberOf number c) ≡ f (layer.NumberOf number (fold-Term A f c))
fold-NumberOf {A} f number c = ap (fold-Term A f) (sym (term.rolls-NumberOf number c)) ∙ fold-roll-Term A f (layer.NumberOf number c)

pub fold-Scalar : {A : Type 0} (f : Term-F A → A) (number : ℕ) (c : Term) → fold-Term A f (term.Scalar number c) ≡ f (layer.Scalar number (fold-Term A f c))
fold-Scalar {A} f number c = ap (fold-Term A f) (sym (term.rolls-Scalar number c)) ∙ fold-roll-Term A f (layer.Scalar number c)

pub fold-Add : {A : Type 0} (f : Term-F A → A) (cs : List Term) → fold-Term A f (term.Add cs) ≡ f (layer.Add (map (fold-Term A f) cs))
fold-Add {A} f cs = ap (fold-Term A f) (sym (term.rolls-Add cs)) ∙ fold-roll-Term A f (layer.Add cs)

pub fold-Subtract : {A : Type 0} (f : Term-F A → A) (whole part : Term) → fold-Term A f (term.Subtract whole part) ≡ f (layer.Subtract (fold-Term A f whole) (fold-Term A f part))
fold-Subtract {A} f whole part = ap (fold-Term A f) (sym (term.rolls-Subtract whole part)) ∙ fold-roll-Term A f (layer.Subtract whole part)

pub fold-BlockOf : {A : Type 0} (f : Term-F A → A) (id : List ℕ) (c : Term) → fold-Term A f (term.BlockOf id c) ≡ f (layer.BlockOf id (fold-Term A f c))
fold-BlockOf {A} f id c = ap (fold-Term A f) (sym (term.rolls-BlockOf id c)) ∙ fold-roll-Term A f (layer.BlockOf id c)

pub fold-Compare : {A : Type 0} (f : guard_layer.Guard-F A → A) (order : Order) (a b : Term) → fold-Guard A f (guard.Compare order a b) ≡ f (guard_layer.Compare order a b)
fold-Compare {A} f order a b = ap (fold-Guard A f) (sym (guard.rolls-Compare order a b)) ∙ fold-roll-Guard A f (guard_layer.Compare order a b)

pub guard-Constant : {A : Type 0} (f : guard_layer.Guard-F A → A) (value : Bool) → fold-Guard A f (guard.Constant value) ≡ f (guard_layer.Constant value)
guard-Constant {A} f value = ap (fold-Guard A f) (sym (guard.rolls-Constant value)) ∙ fold-roll-Guard A f (guard_layer.Constant value)

pub guard-And : {A : Type 0} (f : guard_layer.Guard-F A → A) (gs : List Guard) → fold-Guard A f (guard.And gs) ≡ f (guard_layer.And (map (fold-Guard A f) gs))
guard-And {A} f gs = ap (fold-Guard A f) (sym (guard.rolls-And gs)) ∙ fold-roll-Guard A f (guard_layer.And gs)

pub guard-Or : {A : Type 0} (f : guard_layer.Guard-F A → A) (gs : List Guard) → fold-Guard A f (guard.Or gs) ≡ f (guard_layer.Or (map (fold-Guard A f) gs))
guard-Or {A} f gs = ap (fold-Guard A f) (sym (guard.rolls-Or gs)) ∙ fold-roll-Guard A f (guard_layer.Or gs)

pub guard-Not : {A : Type 0} (f : guard_layer.Guard-F A → A) (g : Guard) → fold-Guard A f (guard.Not g) ≡ f (guard_layer.Not (fold-Guard A f g))
guard-Not {A} f g = ap (fold-Guard A f) (sym (guard.rolls-Not g)) ∙ fold-roll-Guard A f (guard_layer.Not g)

pub guard-Imply : {A : Type 0} (f : guard_layer.Guard-F A → A) (g h : Guard) → fold-Guard A f (guard.Imply g h) ≡ f (guard_layer.Imply (fold-Guard A f g) (fold-Guard A f h))
guard-Imply {A} f g h = ap (fold-Guard A f) (sym (guard.rolls-Imply g h)) ∙ fold-roll-Guard A f (guard_layer.Imply g h)
