use Rattle.std.proofs.Common.{◌≡◌, ℕ, Bool, true, false, List, Some, Bor, map, ap, sym, ◌∙◌}
use Rattle.std.specs.Prelude.{slice_get}
use Rattle.std.specs.Bool.{OnTrue}
use Rattle.std.specs.Option.{option_map}
use Rattle.std.specs.Str.{bytes_eq}
use Rattle.std.proofs.lemmas.Option.{slice_get-map}
use Rattle.std.proofs.lemmas.Slice.Eq.{bytes_eq-Decides}
use Rattle.plain_rows.proofs.numbers.Numbers.is_at.Goals as goal

told : (keys : List (Bor (List ℕ))) (number : ℕ) (there : Bor (List ℕ)) (name : List ℕ) (is_same : Bool) → Some there ≡ slice_get keys number → is_same ≡ bytes_eq there.now name
    → OnTrue is_same (slice_get (map (λ (key : Bor (List ℕ)). key.now) keys) number ≡ Some name)
told keys number there name true stands same =
    slice_get-map (λ (key : Bor (List ℕ)). key.now) keys number
    ∙ ap (option_map (λ (key : Bor (List ℕ)). key.now)) (sym stands)
    ∙ ap Some ((bytes_eq-Decides there.now name).0 (sym same))
told keys number there name false stands same = tt

pub returns-in-Some : goal.returns-in-Some
returns-in-Some c =
    rw (← c.self.view_is) (told c.self.inside.set.keys c.args.number c.in-Some.there.now c.args.name.now c.eq.result c.in-Some.ensures.key c.eq.ensures)
