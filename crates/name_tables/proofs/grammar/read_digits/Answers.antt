use Rattle.std.proofs.Common.{◌≡◌, ◌∙◌, ◌<◌, ℕ, zero, suc, false, ap, drop, length, length-drop, pos, sym, arith}
use Rattle.std.specs.Prelude.{◌==◌}
use Rattle.std.specs.Option.{option_map}
use Rattle.std.proofs.lemmas.Bool.{true≢false}
use Rattle.name_tables.proofs.Numbers.{magnitude_read, read_on-past_before}
use Rattle.name_tables.proofs.grammar.read_digits.Goals as goal

some : (n : ℕ) → (n == 0) ≡ false → 0 < n
some zero none = absurd (true≢false none)
some (suc n) not_none = omega arith

pub loop-byte-init : goal.loop-byte-init
loop-byte-init c = magnitude_read c.args.digits.now (some (length c.args.digits.now) (sym c.is_empty.ensures ∙ c.if-is_empty.false))

pub returns-then-value-gt-MOST_BEFORE_A_DIGIT : goal.returns-then-value-gt-MOST_BEFORE_A_DIGIT
returns-then-value-gt-MOST_BEFORE_A_DIGIT c =
    let digits = c.args.digits.now in
    let at = c.loop-byte.byte-index in
    sym (ap (option_map pos) (c.loop-byte.invariant ∙ read_on-past_before (drop at digits) c.loop-byte.value (omega (arith, length-drop at digits)) c.if-value-gt-MOST_BEFORE_A_DIGIT.true))
