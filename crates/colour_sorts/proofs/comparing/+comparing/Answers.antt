use Rattle.std.proofs.Common.{◌≡◌, suc, Bool, false, List, [], ◌∷◌, map, length, refl, sym, ap, ◌∙◌}
use Rattle.std.proofs.lemmas.List.{length-map}
use Rattle.colour_sorts.specs.declared.sorts.Sort.{Sort}
use Rattle.colour_sorts.specs.Comparing.{all_same, is_same_sort}
use Rattle.colour_sorts.proofs.SameSort.{and-false}
use Rattle.colour_sorts.proofs.comparing.+comparing.Goals as goal

apart : (tests : List (Sort → Bool)) (sorts : List Sort) → (length tests ≡ length sorts → ⊥) → all_same tests sorts ≡ false
apart [] [] h = absurd (h refl)
apart [] (s ∷ sorts) h = refl
apart (test ∷ tests) [] h = refl
apart (test ∷ tests) (s ∷ sorts) h = and-false (test s) (all_same tests sorts) (apart tests sorts (λ same. h (ap suc same)))

pub same_sorts-returns-then-first-second : goal.same_sorts-returns-then-first-second
same_sorts-returns-then-first-second t c = sym (apart (map is_same_sort c.args.first.now) c.args.second.now (λ same. c.if-first-second.true (sym (length-map c.args.first.now is_same_sort) ∙ same)))
