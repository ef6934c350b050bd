-- Numbers that are read back from the texts that they are written as.
use Rattle.std.proofs.Common.{◌≡◌, ℕ, ◌<◌, ◌^◌, ℤ, unsigned_abs, true, false, ap, ◌∙◌}
use Rattle.std.proofs.lemmas.Bool.{and_parts, ltb-true}
use Rattle.std.specs.Fmt.{decimal, signed_decimal}
use Rattle.name_tables.proofs.Numbers.{decimal-read_back, signed_decimal-read_back}
use Rattle.net_model.specs.declared.sorts.Span.{Span}
use Rattle.pnml_read.specs.Nets.{or_zero, signed, unsigned}
use Rattle.canon_laws.specs.Fitting.{fits, span_fits}

pub unsigned_back : (n : ℕ) → n < 2 ^ 63 → unsigned (decimal n) ≡ n
unsigned_back n small = ap (λ o. unsigned_abs (or_zero o)) (decimal-read_back n false small)

pub signed_back : (n : ℤ) → fits n ≡ true → signed (signed_decimal n) ≡ n
signed_back n h = ap or_zero (signed_decimal-read_back n (ltb-true (unsigned_abs n) (2 ^ 63) h))

pub span_back : (span : Span) → span_fits span ≡ true → record { first = signed (signed_decimal span.first); last = signed (signed_decimal span.last) } ≡ span
span_back span h =
    ap (λ n. record { first = n; last = signed (signed_decimal span.last) }) (signed_back span.first (and_parts (fits span.first) (fits span.last) h).0)
    ∙ ap (λ n. record { first = span.first; last = n }) (signed_back span.last (and_parts (fits span.first) (fits span.last) h).1)
