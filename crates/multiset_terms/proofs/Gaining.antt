-- What cells that are appended add to a buffer.
use Rattle.std.proofs.Common.{◌≡◌, ◌≢◌, ℕ, ◌+◌, ◌-◌, ◌*◌, ◌<◌, ◌≤◌, inl, inr, List, [], ◌∷◌, ◌++◌, ap, sym, ◌∙◌, subst, arith, refl}
use Rattle.std.specs.Prelude.{nat_eq, if◌then◌else◌}
use Rattle.std.proofs.Math.Nat.{mul-add, mul-le-mul_left}
use Rattle.std.proofs.lemmas.Bool.{cases_eq, cases_lt}
use Rattle.std.proofs.lemmas.Bool.Decides.{nat_tests}
use Rattle.std.proofs.lemmas.List.Elements.{All-push}
use Rattle.std.proofs.lemmas.List.Sums.{sum_by_push}
use Rattle.wide_sums.specs.declared.rows.Cell.{Cell}
use Rattle.wide_sums.specs.Cells.{amount, count_at}
use Rattle.wide_sums.proofs.Amounts.{count_at-same, count_at-other}
use Rattle.multiset_terms.specs.declared.buffers.Scale.{Scale}
use Rattle.multiset_terms.specs.Buffers.{Gains, cell_of, placed}
use Rattle.multiset_terms.specs.Rows.{AreBelow, total}

pub placed-inside : (offset size at : ℕ) (f : ℕ → ℕ) → at < size → placed offset size f (offset + at) ≡ f at
placed-inside offset size at f within =
    let here : offset + at - offset ≡ at = omega arith in
    let there : placed offset size f (offset + at) ≡ f (offset + at - offset) = grind (arith, nat_tests) in
    there ∙ ap f here

pub placed-far : (offset size p : ℕ) (f : ℕ → ℕ) → offset + size ≤ p → placed offset size f p ≡ 0
placed-far offset size p f far = grind (arith, nat_tests)

pub placed-before : (offset size p : ℕ) (f : ℕ → ℕ) → p < offset → placed offset size f p ≡ 0
placed-before offset size p f before = grind (arith, nat_tests)

placed-sum : (offset size p : ℕ) (f g : ℕ → ℕ) → placed offset size (λ q. f q + g q) p ≡ placed offset size f p + placed offset size g p
placed-sum offset size p f g = grind (arith, nat_tests)

-- counts that are the same but at one place
placed-away : (offset size at p : ℕ) (f g : ℕ → ℕ) → ((q : ℕ) → q ≢ at → g q ≡ f q) → offset + at ≢ p → placed offset size g p ≡ placed offset size f p
placed-away offset size at p f g same away = grind (arith, nat_tests)

pub placed-same : (offset size p : ℕ) (f g : ℕ → ℕ) → ((q : ℕ) → q < size → g q ≡ f q) → placed offset size g p ≡ placed offset size f p
placed-same offset size p f g same = elim (cases_lt p offset) [
  | inl before ↦ placed-before offset size p g before ∙ sym (placed-before offset size p f before)
  | inr from ↦
      elim (cases_lt p (offset + size)) [
        | inl to ↦
            let is : offset + (p - offset) ≡ p = omega arith in
            let within : p - offset < size = omega arith in
            ap (placed offset size g) (sym is) ∙ placed-inside offset size (p - offset) g within ∙ same (p - offset) within
            ∙ sym (placed-inside offset size (p - offset) f within) ∙ ap (placed offset size f) is
        | inr far ↦ placed-far offset size p g far ∙ sym (placed-far offset size p f far)
      ]
]

-- nothing is added
pub gain-none : (scale : Scale) (size : ℕ) (f : ℕ → ℕ) (old : List Cell) → ((q : ℕ) → f q ≡ 0) → Gains scale size f 0 old old
gain-none scale size f old none = record {
  counts = λ p. let h = placed-none scale.offset size p f none in let z = ap (λ x. scale.times * x) h in omega (arith, z);
  elements = omega arith;
  below = λ bound all room. all;
}
  where
    placed-none : (offset size p : ℕ) (f : ℕ → ℕ) → ((q : ℕ) → f q ≡ 0) → placed offset size f p ≡ 0
    placed-none offset size p f none = grind (arith, nat_tests)

-- one more cell
pub gain-one : (scale : Scale) (size : ℕ) (f g : ℕ → ℕ) (gross at count : ℕ) (old now new : List Cell) → Gains scale size f gross old now → at < size
    → g at ≡ f at + count → ((q : ℕ) → q ≢ at → g q ≡ f q) → new ≡ now ++ cell_of scale at count ∷ [] → Gains scale size g (gross + count) old new
gain-one scale size f g gross at count old now new known within here away is =
    let cell = cell_of scale at count in
    record {
      counts = λ p.
          let more = ap (amount p) is ∙ sum_by_push (count_at p) now cell in
          let before = known.counts p in
          elim (cases_eq (scale.offset + at) p) [
            | inl same ↦
                let own = count_at-same p cell same in
                let first = ap (placed scale.offset size f) (sym same) ∙ placed-inside scale.offset size at f within in
                let second = ap (placed scale.offset size g) (sym same) ∙ placed-inside scale.offset size at g within ∙ here in
                let product = ap (λ x. scale.times * x) second ∙ mul-add scale.times (f at) count in
                let other = ap (λ x. scale.times * x) first in
                omega (arith, more, before, own, product, other)
            | inr apart ↦
                let none = count_at-other p cell apart in
                let same = ap (λ x. scale.times * x) (placed-away scale.offset size at p f g away apart) in
                omega (arith, more, before, none, same)
          ];
      elements =
          let more = ap total is ∙ sum_by_push (λ c. c.count) now cell in
          let before = known.elements in
          let product = mul-add scale.times gross count in
          omega (arith, more, before, product);
      below = λ bound all room. subst (AreBelow bound) (sym is) (All-push (λ c. c.at < bound) now cell (known.below bound all room) (omega (arith, within, room)));
    }

pub gain-same : (scale : Scale) (size : ℕ) (f g : ℕ → ℕ) (gross : ℕ) (old new : List Cell) → Gains scale size f gross old new → ((q : ℕ) → q < size → g q ≡ f q) → Gains scale size g gross old new
gain-same scale size f g gross old new known same = record {
  counts = λ p. known.counts p ∙ ap (λ x. amount p old + scale.times * x) (sym (placed-same scale.offset size p f g same));
  elements = known.elements;
  below = known.below;
}

-- a greater bound for all together
pub gain-more : (scale : Scale) (size : ℕ) (f : ℕ → ℕ) (gross more : ℕ) (old new : List Cell) → Gains scale size f gross old new → gross ≤ more → Gains scale size f more old new
gain-more scale size f gross more old new known fits = record {
  counts = known.counts;
  elements = let less : scale.times * gross ≤ scale.times * more = mul-le-mul_left scale.times fits in let all = known.elements in omega (arith, less, all);
  below = known.below;
}

-- one after the other
pub gain-both : (scale : Scale) (size : ℕ) (f g : ℕ → ℕ) (gross more : ℕ) (old now new : List Cell) → Gains scale size f gross old now → Gains scale size g more now new
    → Gains scale size (λ q. f q + g q) (gross + more) old new
gain-both scale size f g gross more old now new first second = record {
  counts = λ p.
      let x = first.counts p in
      let y = second.counts p in
      let z = ap (λ n. scale.times * n) (placed-sum scale.offset size p f g) ∙ mul-add scale.times (placed scale.offset size f p) (placed scale.offset size g p) in
      omega (arith, x, y, z);
  elements = let x = first.elements in let y = second.elements in let z = mul-add scale.times gross more in omega (arith, x, y, z);
  below = λ bound all room. second.below bound (first.below bound all room) room;
}

pub placed-times : (offset size p n : ℕ) (f : ℕ → ℕ) → placed offset size (λ q. n * f q) p ≡ n * placed offset size f p
placed-times offset size p n f = elim (cases_lt p offset) [
  | inl before ↦ let x = placed-before offset size p (λ q. n * f q) before in let y = ap (λ m. n * m) (placed-before offset size p f before) in omega (arith, x, y)
  | inr from ↦
      elim (cases_lt p (offset + size)) [
        | inl to ↦
            let is : offset + (p - offset) ≡ p = omega arith in
            let within : p - offset < size = omega arith in
            ap (placed offset size (λ q. n * f q)) (sym is) ∙ placed-inside offset size (p - offset) (λ q. n * f q) within
            ∙ ap (λ m. n * m) (sym (placed-inside offset size (p - offset) f within) ∙ ap (placed offset size f) is)
        | inr far ↦ let x = placed-far offset size p (λ q. n * f q) far in let y = ap (λ m. n * m) (placed-far offset size p f far) in omega (arith, x, y)
      ]
]
