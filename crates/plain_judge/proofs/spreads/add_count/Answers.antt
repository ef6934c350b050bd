use Rattle.std.proofs.Common.{◌≡◌, ◌<◌, ℕ, List, [], ◌∷◌, All, false, length, refl, sym, subst, arith, true≢false}
use Rattle.std.specs.Prelude.{Contains}
use Rattle.std.specs.Bool.{IsTrue}
use Rattle.plain_model.specs.Plain.{IsPlainCount}
use Rattle.plain_judge.proofs.spreads.add_count.Goals as goal

some_listed : (names : List (List ℕ)) → (names ≡ [] → IsTrue false) → 0 < length names
some_listed [] empty = absurd (true≢false (sym (empty refl)))
some_listed (name ∷ names) empty = omega arith

pub returns-in_ok-add_listed-in-Tokens-clause-plain : goal.returns-in_ok-add_listed-in-Tokens-clause-plain
returns-in_ok-add_listed-in-Tokens-clause-plain c =
    let ids = c.args.ids.now in
    subst (IsPlainCount ids) (sym c.in-Tokens.is)
    (some_listed c.in-Tokens.listed c.if-is_empty.ensures.1, subst (All (Contains ids)) c.as_slice.ensures c.in_ok-add_listed-in-Tokens.ensures.known)
