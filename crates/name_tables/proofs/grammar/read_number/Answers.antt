use Rattle.std.proofs.Common.{◌≡◌, ◌-◌, get_or, take, drop, length, neg_ℤ, pos, ap, ◌∙◌, arith, rules}
use Rattle.std.proofs.lemmas.List.{take_all, length-drop}
use Rattle.std.specs.Option.{option_map}
use Rattle.std.proofs.lemmas.Grind.{common_steps}
use Rattle.name_tables.specs.Grammar.{magnitude_of}
use Rattle.name_tables.proofs.Numbers.{number_negative, number_plain}
use Rattle.name_tables.proofs.grammar.read_number.Goals as goal
use Rattle.name_tables.proofs.grammar.read_number.Goals.{in_default-via-then-bytes-lt1, in_default-via-in-45+else-signed, in_default-via-else-bytes-lt1+in_default-1}

pub returns-in-45 : goal.returns-in-45
returns-in-45 c =
    let text = c.args.bytes.now in
    let minus : get_or text 0 0 ≡ 45 = search rules in
    let rest : take (length text - 1) (drop 1 text) ≡ drop 1 text = take_all _ _ (omega (arith, length-drop 1 text)) in
    rw c.if-signed.true
    (c.read_negative.ensures ∙ ap (λ digits. option_map (λ n. neg_ℤ (pos n)) (magnitude_of digits)) rest ∙ number_negative text minus)

pub returns-in_default : goal.returns-in_default
returns-in_default c =
    c.read_digits.ensures
    ∙ number_plain c.args.signed c.args.bytes.now (λ signed minus. elim c.in_default.branch [ in_default-via-then-bytes-lt1 w ↦ grind (arith, common_steps) | in_default-via-in-45+else-signed w ↦ grind (arith, common_steps) | in_default-via-else-bytes-lt1+in_default-1 w ↦ grind (arith, common_steps) ])
