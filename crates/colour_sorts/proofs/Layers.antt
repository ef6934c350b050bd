-- Folds at each kind of sort.
use Rattle.std.proofs.Common.{◌≡◌, ℕ, List, map, sym, ap, ◌∙◌}
use Rattle.net_model.specs.declared.sorts.Span.{Span}
use Rattle.colour_sorts.specs.declared.sorts.Sort.{Sort, fold-Sort, fold-roll-Sort}
use Rattle.colour_sorts.specs.declared.sorts.Sort.TheOpen as layer
use Rattle.colour_sorts.specs.declared.sorts.Sort.TheVariants as sort

pub at-Dot : {R : Type 0} (step : layer.Sort-F R → R) → fold-Sort R step sort.Dot ≡ step layer.Dot
at-Dot {R} step = ap (fold-Sort R step) (sym sort.rolls-Dot) ∙ fold-roll-Sort R step layer.Dot

pub at-Listed : {R : Type 0} (step : layer.Sort-F R → R) (at : ℕ) → fold-Sort R step (sort.Listed at) ≡ step (layer.Listed at)
at-Listed {R} step at = ap (fold-Sort R step) (sym (sort.rolls-Listed at)) ∙ fold-roll-Sort R step (layer.Listed at)

pub at-Cyclic : {R : Type 0} (step : layer.Sort-F R → R) (at : ℕ) → fold-Sort R step (sort.Cyclic at) ≡ step (layer.Cyclic at)
at-Cyclic {R} step at = ap (fold-Sort R step) (sym (sort.rolls-Cyclic at)) ∙ fold-roll-Sort R step (layer.Cyclic at)

pub at-Range : {R : Type 0} (step : layer.Sort-F R → R) (span : Span) → fold-Sort R step (sort.Range span) ≡ step (layer.Range span)
at-Range {R} step span = ap (fold-Sort R step) (sym (sort.rolls-Range span)) ∙ fold-roll-Sort R step (layer.Range span)

pub at-Product : {R : Type 0} (step : layer.Sort-F R → R) (parts : List Sort) → fold-Sort R step (sort.Product parts) ≡ step (layer.Product (map (fold-Sort R step) parts))
at-Product {R} step parts = ap (fold-Sort R step) (sym (sort.rolls-Product parts)) ∙ fold-roll-Sort R step (layer.Product parts)
