-- What the first summands of a `close` line have added up to.
use Rattle.std.proofs.Common.{◌≡◌, ℕ, zero, suc, ◌+◌, ◌^◌, ◌<◌, ◌≤◌, Bool, true, false, cond, ◌||◌, ◌&&◌, inl, inr, List, [], ◌∷◌, ◌++◌, map, length, get_or, take, ℤ, pos, ◌*ℤ◌, refl, sym, ◌∙◌, ap, subst, arith}
use Rattle.std.specs.Prelude.{int_le, int_lt}
use Rattle.std.specs.List.{list_all, list_any}
use Rattle.std.proofs.lemmas.List.Folds.{list_any-append}
use Rattle.std.proofs.lemmas.Simd.{map-map}
use Rattle.std.proofs.lemmas.Bool.Decides.{nat_tests}
use Rattle.std.proofs.lemmas.List.{get_or-map, map-append, take-map, take_more, length-map}
use Rattle.wide_sums.specs.Total.{Total, zero_total, with_term, total_of}
use Rattle.wide_sums.proofs.Totals.{total_of_push, size_take-le}
use Rattle.plain_model.specs.declared.nets.PlainNet.{PlainNet}
use Rattle.plain_model.specs.declared.nets.Place.{Place}
use Rattle.plain_model.specs.declared.properties.Property.{Property}
use Rattle.plain_model.specs.declared.certificates.Certificate.{Certificate}
use Rattle.plain_model.specs.declared.certificates.Multiplier.{Multiplier}
use Rattle.plain_model.specs.declared.verdicts.Check.TheVariants as check
use Rattle.plain_model.specs.Forms.{slack_of, multiplier_of}
use Rattle.plain_model.specs.Obligations.{Part, parts, residual_coefficient, residual_constant, close_sums, is_refuted, judged}
use Rattle.plain_model.specs.Sums.{sum_of, is_wide}
use Rattle.plain_model.specs.Plain.{place_ids}
use Rattle.plain_judge.specs.Residuals.{AddsPart, FitPart, IsPartWide}
use Rattle.plain_judge.specs.Closing.{AreResiduals, IsConstantInRange, IsSlackWide, residual_check}

-- the summand of a multiplier
abbrev pub part_of : PlainNet → Property → Certificate → Multiplier → Part
part_of net property certificate m = record { multiplier = multiplier_of m; slack = slack_of net property certificate.flows m }

abbrev pub parts_of : PlainNet → Property → Certificate → List Multiplier → List Part
parts_of net property certificate ms = map (part_of net property certificate) ms

pub record IsAddedUp (net : PlainNet) (property : Property) (certificate : Certificate) (names : List (List ℕ)) (ms : List Multiplier) (sums : List Total) (total : Total) : Type 0 where
  pub residuals : AreResiduals names (parts_of net property certificate ms) sums
  pub constant : total ≡ total_of (residual_constant (parts_of net property certificate ms))
  pub slacks : list_any is_wide (map (λ part. part.slack.constant) (parts_of net property certificate ms)) ≡ false

coefficient-push : (ps : List Part) (part : Part) (id : List ℕ) → residual_coefficient (ps ++ part ∷ []) id ≡ residual_coefficient ps id ++ (part.multiplier *ℤ part.slack.coefficient id) ∷ []
coefficient-push ps part id = map-append (λ (p : Part). p.multiplier *ℤ p.slack.coefficient id) ps (part ∷ [])

constant-push : (ps : List Part) (part : Part) → residual_constant (ps ++ part ∷ []) ≡ residual_constant ps ++ (part.multiplier *ℤ sum_of part.slack.constant) ∷ []
constant-push ps part = map-append (λ (p : Part). p.multiplier *ℤ sum_of p.slack.constant) ps (part ∷ [])

or_true : (a b : Bool) → b ≡ true → (a || b) ≡ true
or_true true b h = refl
or_true false b h = h

true_or : (a b : Bool) → a ≡ true → (a || b) ≡ true
true_or true b h = refl
true_or false b h = absurd cc

or_false : (a b : Bool) → a ≡ false → b ≡ false → (a || b) ≡ false
or_false true b h k = absurd cc
or_false false b h k = k

list_any-at : {X : Type 0} (p : X → Bool) (xs : List X) (i : ℕ) (d : X) → i < length xs → p (get_or xs i d) ≡ true → list_any p xs ≡ true
list_any-at p [] i d within h = absurd (omega arith)
list_any-at p (x ∷ xs) zero d within h = true_or (p x) (list_any p xs) h
list_any-at p (x ∷ xs) (suc i) d within h = or_true (p x) (list_any p xs) (list_any-at p xs i d (omega arith) h)

is_wide-true : (terms : List ℤ) → 2 ^ 127 ≤ (total_of terms).size → is_wide terms ≡ true
is_wide-true terms h = grind (arith, nat_tests)

is_wide-false : (terms : List ℤ) → (total_of terms).size < 2 ^ 127 → is_wide terms ≡ false
is_wide-false terms h = grind (arith, nat_tests)

-- the sums of one summand more
pub added_more : (net : PlainNet) (property : Property) (certificate : Certificate) (names : List (List ℕ)) (ms more : List Multiplier) (m : Multiplier) (old new : List Total) (total next : Total) (ys : List ℤ) (constant : ℤ)
    → IsAddedUp net property certificate names ms old total
    → more ≡ ms ++ m ∷ []
    → ys ≡ map (slack_of net property certificate.flows m).coefficient names
    → constant ≡ sum_of (slack_of net property certificate.flows m).constant
    → (total_of (slack_of net property certificate.flows m).constant).size < 2 ^ 127
    → AddsPart (multiplier_of m) ys old new → FitPart (multiplier_of m) ys old
    → next ≡ with_term total (multiplier_of m *ℤ constant)
    → IsAddedUp net property certificate names more new next
added_more net property certificate names ms more m old new total next ys constant before is spread value fits adds fit added =
    subst (λ all. IsAddedUp net property certificate names all new next) (sym is) (record {
      residuals = λ place within.
          let long : length ys ≡ length names = ap length spread ∙ length-map names _ in
          let inside : place < length ys = omega arith in
          let own : get_or ys place (pos 0) ≡ (slack_of net property certificate.flows m).coefficient (get_or names place []) =
          ap (λ xs. get_or xs place (pos 0)) spread ∙ get_or-map (slack_of net property certificate.flows m).coefficient names place [] (pos 0) within in
          let parts_before = parts_of net property certificate ms in
          let step : get_or new place zero_total ≡ with_term (total_of (residual_coefficient (parts_of net property certificate ms) (get_or names place []))) (multiplier_of m *ℤ (slack_of net property certificate.flows m).coefficient (get_or names place [])) =
          adds place inside
          ∙ ap (λ (t : Total). with_term t (multiplier_of m *ℤ get_or ys place (pos 0))) (before.residuals place within).0
          ∙ ap (λ z. with_term (total_of (residual_coefficient (parts_of net property certificate ms) (get_or names place []))) (multiplier_of m *ℤ z)) own in
          let whole : total_of (residual_coefficient (parts_of net property certificate (ms ++ m ∷ [])) (get_or names place [])) ≡ with_term (total_of (residual_coefficient (parts_of net property certificate ms) (get_or names place []))) (multiplier_of m *ℤ (slack_of net property certificate.flows m).coefficient (get_or names place [])) =
          ap (λ ps. total_of (residual_coefficient ps (get_or names place []))) (map-append (part_of net property certificate) ms (m ∷ []))
          ∙ ap total_of (coefficient-push (parts_of net property certificate ms) (part_of net property certificate m) (get_or names place []))
          ∙ total_of_push (residual_coefficient (parts_of net property certificate ms) (get_or names place [])) (multiplier_of m *ℤ (slack_of net property certificate.flows m).coefficient (get_or names place [])) in
          (step ∙ sym whole, subst (λ (t : Total). t.size < 2 ^ 127) (sym (adds place inside)) (fit place inside));
      constant =
          added
          ∙ ap (λ z. with_term total (multiplier_of m *ℤ z)) value
          ∙ ap (λ (t : Total). with_term t (multiplier_of m *ℤ sum_of (slack_of net property certificate.flows m).constant)) before.constant
          ∙ sym (ap (λ ps. total_of (residual_constant ps)) (map-append (part_of net property certificate) ms (m ∷ []))
          ∙ ap total_of (constant-push (parts_of net property certificate ms) (part_of net property certificate m))
          ∙ total_of_push (residual_constant (parts_of net property certificate ms)) (multiplier_of m *ℤ sum_of (slack_of net property certificate.flows m).constant));
      slacks =
          ap (λ ps. list_any is_wide (map (λ (part : Part). part.slack.constant) ps)) (map-append (part_of net property certificate) ms (m ∷ []))
          ∙ ap (list_any is_wide) (map-append (λ (part : Part). part.slack.constant) (parts_of net property certificate ms) (part_of net property certificate m ∷ []))
          ∙ list_any-append is_wide (map (λ (part : Part). part.slack.constant) (parts_of net property certificate ms)) ((slack_of net property certificate.flows m).constant ∷ [])
          ∙ or_false (list_any is_wide (map (λ (part : Part). part.slack.constant) (parts_of net property certificate ms))) (is_wide (slack_of net property certificate.flows m).constant || false)
          before.slacks (or_false (is_wide (slack_of net property certificate.flows m).constant) false (is_wide-false (slack_of net property certificate.flows m).constant fits) refl);
    })

pub taken_parts : (net : PlainNet) (property : Property) (certificate : Certificate) (ms : List Multiplier) (i : ℕ) (m : Multiplier) → i < length ms → get_or ms i m ≡ m
    → take (i + 1) ms ≡ take i ms ++ m ∷ []
taken_parts net property certificate ms i m within item = take_more ms i m within ∙ ap (λ x. take i ms ++ x ∷ []) item

any_left : (a b c : List (List ℤ)) → list_any is_wide a ≡ true → list_any is_wide (a ++ b ++ c) ≡ true
any_left a b c h = list_any-append is_wide (a ++ b) c ∙ true_or (list_any is_wide (a ++ b)) (list_any is_wide c) (list_any-append is_wide a b ∙ true_or (list_any is_wide a) (list_any is_wide b) h)

any_middle : (a b c : List (List ℤ)) → list_any is_wide b ≡ true → list_any is_wide (a ++ b ++ c) ≡ true
any_middle a b c h = list_any-append is_wide (a ++ b) c ∙ true_or (list_any is_wide (a ++ b)) (list_any is_wide c) (list_any-append is_wide a b ∙ or_true (list_any is_wide a) (list_any is_wide b) h)

any_right : (a b c : List (List ℤ)) → list_any is_wide c ≡ true → list_any is_wide (a ++ b ++ c) ≡ true
any_right a b c h = list_any-append is_wide (a ++ b) c ∙ or_true (list_any is_wide (a ++ b)) (list_any is_wide c) h

-- a wide constant of a slack form makes the line wide
pub wide_slack : (net : PlainNet) (property : Property) (certificate : Certificate) (i : ℕ) (m : Multiplier) → i < length certificate.close → get_or certificate.close i m ≡ m
    → 2 ^ 127 ≤ (total_of (slack_of net property certificate.flows m).constant).size
    → list_any is_wide (close_sums net (parts net property certificate)) ≡ true
wide_slack net property certificate i m within item wide =
    let ps : List Part = parts net property certificate in
    let constants : List (List ℤ) = map (λ (part : Part). part.slack.constant) (parts net property certificate) in
    let inside : i < length (parts net property certificate) = omega (arith, length-map certificate.close (part_of net property certificate)) in
    let there : i < length (map (λ (part : Part). part.slack.constant) (parts net property certificate)) = omega (arith, length-map (parts net property certificate) (λ (part : Part). part.slack.constant)) in
    let at : get_or (map (λ (part : Part). part.slack.constant) (parts net property certificate)) i [] ≡ (slack_of net property certificate.flows m).constant =
    get_or-map (λ (part : Part). part.slack.constant) (parts net property certificate) i (part_of net property certificate m) [] inside
    ∙ ap (λ (part : Part). part.slack.constant) (get_or-map (part_of net property certificate) certificate.close i m (part_of net property certificate m) within)
    ∙ ap (λ x. (slack_of net property certificate.flows x).constant) item in
    any_left (map (λ (part : Part). part.slack.constant) (parts net property certificate)) (map (λ (place : Place). residual_coefficient (parts net property certificate) place.id) net.places) (residual_constant (parts net property certificate) ∷ [])
    (list_any-at is_wide (map (λ (part : Part). part.slack.constant) (parts net property certificate)) i [] there (ap is_wide at ∙ is_wide-true (slack_of net property certificate.flows m).constant wide))

-- the terms of the first summands are the first terms
coefficient-take : (net : PlainNet) (property : Property) (certificate : Certificate) (n : ℕ) (id : List ℕ)
    → residual_coefficient (parts_of net property certificate (take n certificate.close)) id ≡ take n (residual_coefficient (parts net property certificate) id)
coefficient-take net property certificate n id =
    ap (λ ps. residual_coefficient ps id) (sym (take-map (part_of net property certificate) n certificate.close))
    ∙ sym (take-map (λ (p : Part). p.multiplier *ℤ p.slack.coefficient id) n (parts net property certificate))

constant-take : (net : PlainNet) (property : Property) (certificate : Certificate) (n : ℕ)
    → residual_constant (parts_of net property certificate (take n certificate.close)) ≡ take n (residual_constant (parts net property certificate))
constant-take net property certificate n =
    ap residual_constant (sym (take-map (part_of net property certificate) n certificate.close))
    ∙ sym (take-map (λ (p : Part). p.multiplier *ℤ sum_of p.slack.constant) n (parts net property certificate))

-- a residual coefficient that is out of range on the way makes the line wide
pub wide_coefficient : (net : PlainNet) (property : Property) (certificate : Certificate) (names : List (List ℕ)) (i : ℕ) (m : Multiplier) (sums : List Total) (ys : List ℤ)
    → i < length certificate.close → get_or certificate.close i m ≡ m → names ≡ place_ids net
    → AreResiduals names (parts_of net property certificate (take i certificate.close)) sums
    → ys ≡ map (slack_of net property certificate.flows m).coefficient names
    → IsPartWide (multiplier_of m) ys sums
    → list_any is_wide (close_sums net (parts net property certificate)) ≡ true
wide_coefficient net property certificate names i m sums ys within item places before spread (place, inside, wide) =
    let long : length ys ≡ length names = ap length spread ∙ length-map names _ in
    let named : place < length names = omega arith in
    let count : length names ≡ length net.places = ap length places ∙ length-map net.places _ in
    let there : place < length net.places = omega arith in
    let own : get_or ys place (pos 0) ≡ (slack_of net property certificate.flows m).coefficient (get_or names place []) =
    ap (λ xs. get_or xs place (pos 0)) spread ∙ get_or-map (slack_of net property certificate.flows m).coefficient names place [] (pos 0) named in
    let id : List ℕ = get_or names place [] in
    let terms : residual_coefficient (parts_of net property certificate (take (i + 1) certificate.close)) (get_or names place [])
    ≡ residual_coefficient (parts_of net property certificate (take i certificate.close)) (get_or names place []) ++ (multiplier_of m *ℤ (slack_of net property certificate.flows m).coefficient (get_or names place [])) ∷ [] =
    ap (λ ms. residual_coefficient (parts_of net property certificate ms) (get_or names place [])) (taken_parts net property certificate certificate.close i m within item)
    ∙ ap (λ ps. residual_coefficient ps (get_or names place [])) (map-append (part_of net property certificate) (take i certificate.close) (m ∷ []))
    ∙ coefficient-push (parts_of net property certificate (take i certificate.close)) (part_of net property certificate m) (get_or names place []) in
    let now : with_term (get_or sums place zero_total) (multiplier_of m *ℤ get_or ys place (pos 0)) ≡ total_of (residual_coefficient (parts_of net property certificate (take (i + 1) certificate.close)) (get_or names place [])) =
    ap (λ (t : Total). with_term t (multiplier_of m *ℤ get_or ys place (pos 0))) (before place named).0
    ∙ ap (λ z. with_term (total_of (residual_coefficient (parts_of net property certificate (take i certificate.close)) (get_or names place []))) (multiplier_of m *ℤ z)) own
    ∙ sym (ap total_of terms ∙ total_of_push (residual_coefficient (parts_of net property certificate (take i certificate.close)) (get_or names place [])) (multiplier_of m *ℤ (slack_of net property certificate.flows m).coefficient (get_or names place []))) in
    let sizes = ap (λ (t : Total). t.size) now in
    let taken = ap (λ ts. (total_of ts).size) (coefficient-take net property certificate (i + 1) (get_or names place [])) in
    let part = size_take-le (residual_coefficient (parts net property certificate) (get_or names place [])) (i + 1) in
    let large : 2 ^ 127 ≤ (total_of (residual_coefficient (parts net property certificate) (get_or names place []))).size = omega (arith, sizes, taken, part, wide) in
    let columns : List (List ℤ) = map (λ (p : Place). residual_coefficient (parts net property certificate) p.id) net.places in
    let inner : place < length (map (λ (p : Place). residual_coefficient (parts net property certificate) p.id) net.places) = omega (arith, length-map net.places (λ (p : Place). residual_coefficient (parts net property certificate) p.id)) in
    let by_names : map (λ (p : Place). residual_coefficient (parts net property certificate) p.id) net.places ≡ map (residual_coefficient (parts net property certificate)) names =
    sym (ap (map (residual_coefficient (parts net property certificate))) places ∙ map-map (residual_coefficient (parts net property certificate)) (λ (p : Place). p.id) net.places) in
    let at : get_or (map (λ (p : Place). residual_coefficient (parts net property certificate) p.id) net.places) place [] ≡ residual_coefficient (parts net property certificate) (get_or names place []) =
    ap (λ xs. get_or xs place []) by_names ∙ get_or-map (residual_coefficient (parts net property certificate)) names place [] [] named in
    any_middle (map (λ (part : Part). part.slack.constant) (parts net property certificate)) (map (λ (p : Place). residual_coefficient (parts net property certificate) p.id) net.places) (residual_constant (parts net property certificate) ∷ [])
    (list_any-at is_wide (map (λ (p : Place). residual_coefficient (parts net property certificate) p.id) net.places) place [] inner
    (ap is_wide at ∙ is_wide-true (residual_coefficient (parts net property certificate) (get_or names place [])) large))

-- a residual constant that is out of range on the way makes the line wide
pub wide_constant : (net : PlainNet) (property : Property) (certificate : Certificate) (i : ℕ) (m : Multiplier) (total : Total) (constant : ℤ)
    → i < length certificate.close → get_or certificate.close i m ≡ m
    → total ≡ total_of (residual_constant (parts_of net property certificate (take i certificate.close)))
    → constant ≡ sum_of (slack_of net property certificate.flows m).constant
    → 2 ^ 127 ≤ (with_term total (multiplier_of m *ℤ constant)).size
    → list_any is_wide (close_sums net (parts net property certificate)) ≡ true
wide_constant net property certificate i m total constant within item before value wide =
    let terms : residual_constant (parts_of net property certificate (take (i + 1) certificate.close))
    ≡ residual_constant (parts_of net property certificate (take i certificate.close)) ++ (multiplier_of m *ℤ sum_of (slack_of net property certificate.flows m).constant) ∷ [] =
    ap (λ ms. residual_constant (parts_of net property certificate ms)) (taken_parts net property certificate certificate.close i m within item)
    ∙ ap residual_constant (map-append (part_of net property certificate) (take i certificate.close) (m ∷ []))
    ∙ constant-push (parts_of net property certificate (take i certificate.close)) (part_of net property certificate m) in
    let now : with_term total (multiplier_of m *ℤ constant) ≡ total_of (residual_constant (parts_of net property certificate (take (i + 1) certificate.close))) =
    ap (λ z. with_term total (multiplier_of m *ℤ z)) value
    ∙ ap (λ (t : Total). with_term t (multiplier_of m *ℤ sum_of (slack_of net property certificate.flows m).constant)) before
    ∙ sym (ap total_of terms ∙ total_of_push (residual_constant (parts_of net property certificate (take i certificate.close))) (multiplier_of m *ℤ sum_of (slack_of net property certificate.flows m).constant)) in
    let sizes = ap (λ (t : Total). t.size) now in
    let taken = ap (λ ts. (total_of ts).size) (constant-take net property certificate (i + 1)) in
    let part = size_take-le (residual_constant (parts net property certificate)) (i + 1) in
    let large : 2 ^ 127 ≤ (total_of (residual_constant (parts net property certificate))).size = omega (arith, sizes, taken, part, wide) in
    any_right (map (λ (part : Part). part.slack.constant) (parts net property certificate)) (map (λ (place : Place). residual_coefficient (parts net property certificate) place.id) net.places) (residual_constant (parts net property certificate) ∷ [])
    (true_or (is_wide (residual_constant (parts net property certificate))) false (is_wide-true (residual_constant (parts net property certificate)) large))

all_by_places : (places : List Place) (p : List ℕ → Bool) (q : Total → Bool) (sums : List Total) → length sums ≡ length places
    → ((i : ℕ) (d : Place) → i < length places → q (get_or sums i zero_total) ≡ p (get_or places i d).id) → list_all q sums ≡ list_all (λ (place : Place). p place.id) places
all_by_places [] p q [] long each = refl
all_by_places [] p q (s ∷ sums) long each = absurd (omega arith)
all_by_places (place ∷ places) p q [] long each = absurd (omega arith)
all_by_places (place ∷ places) p q (s ∷ sums) long each =
    ap (λ b. b && list_all q sums) (each 0 place (omega arith))
    ∙ ap (λ b. p place.id && b) (all_by_places places p q sums (omega arith) (λ i d within. each (suc i) d (omega arith)))

none_of : {X : Type 0} (p : X → Bool) (xs : List X) → ((i : ℕ) (d : X) → i < length xs → p (get_or xs i d) ≡ false) → list_any p xs ≡ false
none_of p [] each = refl
none_of p (x ∷ xs) each = or_false (p x) (list_any p xs) (each 0 x (omega arith)) (none_of p xs (λ i d within. each (suc i) d (omega arith)))

-- where all sums are in range, the line is judged by the residual
pub judged_by_residual : (net : PlainNet) (property : Property) (certificate : Certificate) (names : List (List ℕ)) (sums : List Total) (constant : ℤ)
    → names ≡ place_ids net → length sums ≡ length names
    → AreResiduals names (parts net property certificate) sums → IsConstantInRange (parts net property certificate)
    → constant ≡ sum_of (residual_constant (parts net property certificate))
    → residual_check sums constant ≡ judged (close_sums net (parts net property certificate)) (is_refuted net (parts net property certificate))
judged_by_residual net property certificate names sums constant places long residuals range value =
    let ps : List Part = parts net property certificate in
    let count : length names ≡ length net.places = ap length places ∙ length-map net.places _ in
    let named : (i : ℕ) (d : Place) → i < length net.places → get_or names i [] ≡ (get_or net.places i d).id =
    λ i d within. ap (λ ns. get_or ns i []) places ∙ get_or-map (λ (p : Place). p.id) net.places i d [] within in
    let signs : list_all (λ (sum : Total). int_le sum.value (pos 0)) sums ≡ list_all (λ (place : Place). int_le (sum_of (residual_coefficient (parts net property certificate) place.id)) (pos 0)) net.places =
    all_by_places net.places (λ id. int_le (sum_of (residual_coefficient (parts net property certificate) id)) (pos 0)) (λ (sum : Total). int_le sum.value (pos 0)) sums (omega arith)
    (λ i d within. ap (λ (t : Total). int_le t.value (pos 0)) (residuals i (omega arith)).0 ∙ ap (λ id. int_le (sum_of (residual_coefficient (parts net property certificate) id)) (pos 0)) (named i d within)) in
    let columns : list_any is_wide (map (λ (place : Place). residual_coefficient (parts net property certificate) place.id) net.places) ≡ false =
    none_of is_wide (map (λ (place : Place). residual_coefficient (parts net property certificate) place.id) net.places)
    (λ i d within.
    let inside : i < length net.places = omega (arith, length-map net.places (λ (place : Place). residual_coefficient (parts net property certificate) place.id)) in
    let here = residuals i (omega arith) in
    let by_names : map (λ (p : Place). residual_coefficient (parts net property certificate) p.id) net.places ≡ map (residual_coefficient (parts net property certificate)) names =
    sym (ap (map (residual_coefficient (parts net property certificate))) places ∙ map-map (residual_coefficient (parts net property certificate)) (λ (p : Place). p.id) net.places) in
    let at : get_or (map (λ (p : Place). residual_coefficient (parts net property certificate) p.id) net.places) i d ≡ residual_coefficient (parts net property certificate) (get_or names i []) =
    ap (λ xs. get_or xs i d) by_names ∙ get_or-map (residual_coefficient (parts net property certificate)) names i [] d (omega arith) in
    ap is_wide at ∙ is_wide-false (residual_coefficient (parts net property certificate) (get_or names i [])) (subst (λ (t : Total). t.size < 2 ^ 127) here.0 here.1)) in
    let none : list_any is_wide (close_sums net (parts net property certificate)) ≡ false =
    list_any-append is_wide (map (λ (part : Part). part.slack.constant) (parts net property certificate) ++ map (λ (place : Place). residual_coefficient (parts net property certificate) place.id) net.places) (residual_constant (parts net property certificate) ∷ [])
    ∙ or_false _ _
    (list_any-append is_wide (map (λ (part : Part). part.slack.constant) (parts net property certificate)) (map (λ (place : Place). residual_coefficient (parts net property certificate) place.id) net.places)
    ∙ or_false _ _ range.slacks columns)
    (or_false (is_wide (residual_constant (parts net property certificate))) false (is_wide-false (residual_constant (parts net property certificate)) range.residual) refl) in
    ap (λ b. cond (b && int_lt constant (pos 0)) check.True check.False) signs
    ∙ ap (λ z. cond (list_all (λ (place : Place). int_le (sum_of (residual_coefficient (parts net property certificate) place.id)) (pos 0)) net.places && int_lt z (pos 0)) check.True check.False) value
    ∙ sym (ap (λ b. cond b check.Wide (cond (is_refuted net (parts net property certificate)) check.True check.False)) none)

-- a multiple that is out of range makes the obligation so
pub wide_multiple : (net : PlainNet) (property : Property) (certificate : Certificate) (names : List (List ℕ)) (i : ℕ) (m : Multiplier) (sums : List Total)
    → i < length certificate.close → get_or certificate.close i m ≡ m → names ≡ place_ids net
    → AreResiduals names (parts_of net property certificate (take i certificate.close)) sums
    → IsSlackWide names (multiplier_of m) (slack_of net property certificate.flows m) sums
    → list_any is_wide (close_sums net (parts net property certificate)) ≡ true
wide_multiple net property certificate names i m sums within item places before (inl part) =
    wide_coefficient net property certificate names i m sums (map (slack_of net property certificate.flows m).coefficient names) within item places before refl part
wide_multiple net property certificate names i m sums within item places before (inr constant) = wide_slack net property certificate i m within item constant
