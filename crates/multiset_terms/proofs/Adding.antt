-- Values of terms that are added to the cells of a buffer.
use Rattle.std.proofs.Common.{◌≡◌, ◌≢◌, subst, ℕ, ◌+◌, ◌-◌, ◌*◌, ◌<◌, ◌≤◌, ◌^◌, inl, inr, Bool, true, false, List, [], ◌∷◌, ◌++◌, length, get_or, refl, ap, sym, ◌∙◌, arith}
use Rattle.std.specs.Prelude.{◌&&◌, All, Err, Ok, OnOk, Result, nat_eq, nat_le, nat_lt, sum_by}
use Rattle.std.proofs.Math.Nat.{mul_assoc, mul-le-mul_left}
use Rattle.std.proofs.lemmas.Bool.{cases_eq, cases_lt}
use Rattle.std.proofs.lemmas.Bool.Decides.{nat_tests}
use Rattle.std.proofs.lemmas.List.Elements.{All-cons}
use Rattle.std.proofs.lemmas.List.Folds.{list_all-append}
use Rattle.std.proofs.lemmas.List.Sums.{sum_by-le-sum_by, sum_by_push}
use Rattle.wide_sums.specs.declared.rows.Cell.{Cell}
use Rattle.wide_sums.specs.Cells.{IsRow, amount, count_at}
use Rattle.wide_sums.proofs.Amounts.{count_at-same, count_at-other}
use Rattle.multiset_terms.specs.declared.buffers.Scale.{Scale}
use Rattle.multiset_terms.specs.declared.trees.Tree.TheOpen.{Times, Sum, Minus, Product}
use Rattle.multiset_terms.specs.Buffers.{Gains, cell_of, placed}
use Rattle.multiset_terms.specs.Rows.{AreBelow, IsShort, IsWithin, total}
use Rattle.multiset_terms.specs.Added.{AreAdded, IsAdded, IsNothing, IsValue}
use Rattle.multiset_terms.specs.Trees.{HasTuples, Reading, are_defined, are_of_size, choices, count_sum, gross_sum, most, once, product_count, reading_of_parts, tuple_size}
use Rattle.multiset_terms.proofs.Gaining.{gain-both, gain-more, gain-none, gain-one, gain-same, placed-before, placed-far, placed-inside, placed-times}
use Rattle.std.proofs.lemmas.Option.{slice_get_within}
use Rattle.colour_sorts.specs.declared.sorts.Sort.{Sort}
use Rattle.net_model.specs.declared.terms.Term.{Term}
use Rattle.multiset_terms.specs.Context.{Context}
use Rattle.multiset_terms.specs.Standing.{AddsDen, Agrees, IsDen}
use Rattle.multiset_terms.specs.Values.{Binding, colours_of, meaning}
use Rattle.multiset_terms.proofs.Readings.{and-true}
use Rattle.multiset_terms.proofs.ValueLaws.{IsOne, within-from, within-not}

-- no cells have more at a place than all together
count-of-cell : (p : ℕ) (c : Cell) → count_at p c ≤ c.count
count-of-cell p c = elim (cases_eq c.at p) [
  | inl here ↦ let own = count_at-same p c here in omega (arith, own)
  | inr away ↦ let none = count_at-other p c away in omega (arith, none)
]

pub amount-total : (p : ℕ) (cells : List Cell) → amount p cells ≤ total cells
amount-total p cells = sum_by-le-sum_by (count_at p) (λ c. c.count) cells (count-of-cell p)

-- one colour
at-one : (at : ℕ) → once (nat_eq at at) ≡ 0 + 1
at-one at = grind (arith, nat_tests)

not-one : (at q : ℕ) → q ≢ at → once (nat_eq at q) ≡ 0
not-one at q away = grind (arith, nat_tests)

pub one-added : (r : Reading) (scale : Scale) (old new : List Cell) → IsOne r → r.place < r.size → new ≡ old ++ cell_of scale r.place 1 ∷ [] → IsAdded r scale old new
one-added r scale old new one within is = record {
  defined = one.defined;
  gains = gain-more scale r.size r.count 1 r.gross old new
      (gain-one scale r.size (λ q. 0) r.count 0 r.place 1 old old new (gain-none scale r.size (λ q. 0) old (λ q. refl)) within
      (one.counts r.place ∙ at-one r.place) (λ q away. one.counts q ∙ not-one r.place q away) is)
      (omega (arith, one.gross));
}

-- so many times
pub times-fits : (times n gross more : ℕ) → times * (n * gross) < 2 ^ 63 → more ≡ times * n → more * gross < 2 ^ 63
times-fits times n gross more fits is = let same = ap (λ x. x * gross) is in let other = mul_assoc times n gross in omega (arith, fits, same, other)

pub times-added : (b : List ℕ) (n : ℕ) (c : Reading) (scale more : Scale) (old new : List Cell) → IsAdded c more old new → more.times ≡ scale.times * n → more.offset ≡ scale.offset
    → IsAdded (reading_of_parts b (Times n c)) scale old new
times-added b n c scale more old new known is there = record {
  defined = known.defined;
  gains = record {
    counts = λ p.
        let x = known.gains.counts p in
        let y = ap (λ m. m * placed more.offset c.size c.count p) is ∙ mul_assoc scale.times n (placed more.offset c.size c.count p) in
        let z = ap (λ m. scale.times * m) (ap (λ o. n * placed o c.size c.count p) there ∙ sym (placed-times scale.offset c.size p n c.count)) in
        omega (arith, x, y, z);
    elements =
        let x = known.gains.elements in
        let y = ap (λ m. m * c.gross) is ∙ mul_assoc scale.times n c.gross in
        omega (arith, x, y);
    below = λ bound all room. known.gains.below bound all (omega (arith, there, room));
  };
}

-- more times than 64 bits can count, what has no elements
pub times-none : (times n gross : ℕ) → times * (n * gross) < 2 ^ 63 → 2 ^ 64 ≤ times * n → gross ≡ 0
times-none times n gross fits far = elim (cases_eq gross 0) [
  | inl none ↦ none
  | inr some ↦
      let same = mul_assoc times n gross in
      let more : times * n * 1 ≤ times * n * gross = mul-le-mul_left (times * n) (omega arith) in
      absurd (omega (arith, same, more, fits, far))
]

pub nothing-there : (r : Reading) (scale : Scale) (cells : List Cell) → r.gross ≡ 0 → scale.times ≡ 1 → IsAdded r scale [] cells → IsNothing r scale.offset
nothing-there r scale cells none once known = record {
  defined = known.defined;
  none = λ p.
      let all = known.gains.elements in
      let product = ap (λ m. m * r.gross) once in
      let most = amount-total p cells in
      let here = known.gains.counts p in
      let own = ap (λ m. m * placed scale.offset r.size r.count p) once in
      omega (arith, all, product, none, most, here, own);
}

pub times-nothing : (b : List ℕ) (n : ℕ) (c : Reading) (scale : Scale) (old : List Cell) → IsNothing c scale.offset → IsAdded (reading_of_parts b (Times n c)) scale old old
times-nothing b n c scale old known = record {
  defined = known.defined;
  gains = record {
    counts = λ p.
        let z = ap (λ m. scale.times * m) (placed-times scale.offset c.size p n c.count ∙ ap (λ m. n * m) (known.none p)) in
        omega (arith, z);
    elements = omega arith;
    below = λ bound all room. all;
  };
}

-- a sum
pub sum-start : (scale : Scale) (old : List Cell) → AreAdded [] scale old old
sum-start scale old = record { defined = refl; gains = λ size sizes. gain-none scale size (count_sum []) old (λ q. refl) }

pub sum-step : (rs : List Reading) (r : Reading) (scale : Scale) (old now new : List Cell) → AreAdded rs scale old now → IsAdded r scale now new → AreAdded (rs ++ r ∷ []) scale old new
sum-step rs r scale old now new known one = record {
  defined = list_all-append (λ c. c.is_defined) rs (r ∷ []) ∙ rw known.defined (rw one.defined refl);
  gains = λ size sizes.
      let both = and-true (are_of_size size rs) (nat_eq r.size size && true) (sym (list_all-append (λ c. nat_eq c.size size) rs (r ∷ [])) ∙ sizes) in
      let same : r.size ≡ size = grind (arith, nat_tests, both.1) in
      let last : Gains scale size r.count r.gross now new = subst (λ n. Gains scale n r.count r.gross now new) same one.gains in
      gain-more scale size (count_sum (rs ++ r ∷ [])) (gross_sum rs + r.gross) (gross_sum (rs ++ r ∷ [])) old new
      (gain-same scale size (λ q. count_sum rs q + r.count q) (count_sum (rs ++ r ∷ [])) (gross_sum rs + r.gross) old new
      (gain-both scale size (count_sum rs) r.count (gross_sum rs) r.gross old now new (known.gains size both.0) last)
      (λ q inside. sum_by_push (λ c. c.count q) rs r))
      (let gross = sum_by_push (λ c. c.gross) rs r in omega (arith, gross));
}

pub sum-added : (b : List ℕ) (size : ℕ) (cs : List Reading) (scale : Scale) (old new : List Cell) → are_of_size size cs ≡ true → AreAdded cs scale old new
    → IsAdded (reading_of_parts b (Sum size cs)) scale old new
sum-added b size cs scale old new sizes known = record { defined = known.defined; gains = known.gains size sizes }

pub rooms : (offset size : ℕ) (cs : List Reading) → are_of_size size cs ≡ true → offset + size ≤ 2 ^ 32 → All (λ r. offset + r.size ≤ 2 ^ 32) cs
rooms offset size [] sizes room = λ k d within. absurd (omega (arith, within))
rooms offset size (c ∷ cs) sizes room = All-cons (λ r. offset + r.size ≤ 2 ^ 32) c cs
    (let same : c.size ≡ size = grind (arith, nat_tests) in omega (arith, same, room))
    (rooms offset size cs (grind (arith, nat_tests)) room)

-- a tuple of choices
pub product-added : (b : List ℕ) (size : ℕ) (cs : List Reading) (scale : Scale) (row old new : List Cell) → tuple_size cs ≡ size → HasTuples cs row
    → ((n : ℕ) → AreBelow n row → Gains scale n (λ q. amount q row) (total row) old new) → IsAdded (reading_of_parts b (Product size cs)) scale old new
product-added b size cs scale row old new same is known = record {
  defined = refl;
  gains = subst (λ n. Gains scale n (product_count cs) (choices cs) old new) same
      (gain-more scale (tuple_size cs) (product_count cs) (total row) (choices cs) old new
      (gain-same scale (tuple_size cs) (λ q. amount q row) (product_count cs) (total row) old new (known (tuple_size cs) is.inside) (λ q within. sym (is.counts q)))
      is.elements);
}

-- a difference
here-in : (size p : ℕ) (f : ℕ → ℕ) → p < size → placed 0 size f p ≡ f p
here-in size p f within = let is : 0 + p ≡ p = omega arith in ap (placed 0 size f) (sym is) ∙ placed-inside 0 size p f within

pub minus-added : (b : List ℕ) (a c : Reading) (scale : Scale) (whole part old new : List Cell) → IsValue a whole → IsValue c part → a.size ≡ c.size → IsWithin part whole
    → ((n : ℕ) → AreBelow n whole → Gains scale n (λ q. amount q whole - amount q part) (total whole) old new) → IsAdded (reading_of_parts b (Minus a c)) scale old new
minus-added b a c scale whole part old new first second same inside known = record {
  defined = rw first.defined (rw second.defined (within-from a.size c.count a.count (λ p within.
      let h = inside p in
      let x = first.counts p ∙ here-in a.size p a.count within in
      let y = second.counts p ∙ here-in c.size p c.count (omega (arith, within, same)) in
      omega (arith, h, x, y))));
  gains = gain-more scale a.size (λ q. a.count q - c.count q) (total whole) (a.gross + c.gross) old new
      (gain-same scale a.size (λ q. amount q whole - amount q part) (λ q. a.count q - c.count q) (total whole) old new (known a.size first.inside) (λ q within.
      let x = first.counts q ∙ here-in a.size q a.count within in
      let y = second.counts q ∙ here-in c.size q c.count (omega (arith, within, same)) in
      omega (arith, x, y)))
      (let h = first.elements in omega (arith, h));
}

pub minus-none : (b : List ℕ) (a c : Reading) (whole part : List Cell) → IsValue a whole → IsValue c part → a.size ≡ c.size → IsShort part whole
    → (reading_of_parts b (Minus a c)).is_defined ≡ false
minus-none b a c whole part first second same (p, short) =
    elim (cases_lt p c.size) [
      | inl within ↦
          rw first.defined (rw second.defined (within-not a.size p c.count a.count (omega (arith, within, same))
          (let x = first.counts p ∙ here-in a.size p a.count (omega (arith, within, same)) in let y = second.counts p ∙ here-in c.size p c.count within in omega (arith, short, x, y))))
      | inr far ↦ let none = second.counts p ∙ placed-far 0 c.size p c.count (omega (arith, far)) in absurd (omega (arith, none, short))
    ]

-- the cells of a value as a row
pub value-of : (r : Reading) (scale : Scale) (cells row : List Cell) → scale.times ≡ 1 → scale.offset ≡ 0 → IsAdded r scale [] cells → IsRow row → ((p : ℕ) → amount p row ≡ amount p cells) → total row ≡ total cells
    → ((bound : ℕ) → AreBelow bound cells → AreBelow bound row) → IsValue r row
value-of r scale cells row once there known is counts all below = record {
  is_row = is;
  defined = known.defined;
  counts = λ p.
      let x = known.gains.counts p in
      let y = ap (λ m. m * placed scale.offset r.size r.count p) once in
      let z = ap (λ o. placed o r.size r.count p) there in
      let w = counts p in
      omega (arith, x, y, z, w);
  elements = let x = known.gains.elements in let y = ap (λ m. m * r.gross) once in omega (arith, x, y, all);
  inside = below r.size (known.gains.below r.size (λ k d within. absurd (omega (arith, within))) (omega (arith, there)));
}

pub merge-fits : (r : Reading) (scale : Scale) (cells : List Cell) → scale.times ≡ 1 → r.gross < 2 ^ 63 → IsAdded r scale [] cells → (p : ℕ) → amount p cells < 2 ^ 63
merge-fits r scale cells once fits known p =
    let x = known.gains.elements in
    let y = ap (λ m. m * r.gross) once in
    let z = amount-total p cells in
    omega (arith, x, y, z, fits)

-- what a difference, and a tuple of choices, asks of its parts
pub record MinusNeeds (a c : Reading) : Type 0 where
  pub first_sound : a.is_sound ≡ true
  pub second_sound : c.is_sound ≡ true
  pub same : a.size ≡ c.size
  pub first_fits : a.gross < 2 ^ 63
  pub second_fits : c.gross < 2 ^ 63
  pub room : a.size ≤ 2 ^ 32

pub minus-needs : (b : List ℕ) (a c : Reading) (offset : ℕ) → (reading_of_parts b (Minus a c)).is_sound ≡ true → offset + a.size ≤ 2 ^ 32 → MinusNeeds a c
minus-needs b a c offset sound room =
    let outer = and-true (a.is_sound && c.is_sound && nat_eq a.size c.size) (nat_le (a.gross + c.gross) most) sound in
    let gross : a.gross + c.gross ≤ 2 ^ 63 - 1 = grind (arith, nat_tests, outer.1) in
    record {
      first_sound = grind (arith, nat_tests);
      second_sound = grind (arith, nat_tests);
      same = grind (arith, nat_tests);
      first_fits = omega (arith, gross);
      second_fits = omega (arith, gross);
      room = omega (arith, room);
    }

pub product-needs : (b : List ℕ) (size : ℕ) (cs : List Reading) (scale : Scale) (row : List Cell) → (reading_of_parts b (Product size cs)).is_sound ≡ true → scale.times * choices cs < 2 ^ 63
    → scale.offset + size ≤ 2 ^ 32 → HasTuples cs row → (tuple_size cs ≡ size) × (All (λ c. scale.offset + c.at < 2 ^ 32) row) × (scale.times * total row < 2 ^ 63)
product-needs b size cs scale row sound fits room is =
    let same : tuple_size cs ≡ size = grind (arith, nat_tests) in
    let less : scale.times * total row ≤ scale.times * choices cs = mul-le-mul_left scale.times is.elements in
    (same, (λ k d within. let low = is.inside k d within in omega (arith, low, same, room)), omega (arith, less, fits))

-- what follows where a call is done
pub if-done : {E : Type 0} (r : Result (Unit {0}) E) (P Q : Type 0) → (P → Q) → OnOk r P → OnOk r Q
if-done (Ok done) P Q step known = step known
if-done (Err fault) P Q step known = tt

pub if-both : {E P Q S : Type 0} (r : Result (Unit {0}) E) → (P → Q → S) → OnOk r P → OnOk r Q → OnOk r S
if-both (Ok done) step first second = step first second
if-both (Err fault) step first second = tt

-- what the value of a compiled term is of the written one
pub value-den : (ctx : Context) (s : Sort) (t : Term) (b : Binding) (r : Reading) (row : List Cell) → Agrees ctx s (meaning ctx b t) r → IsValue r row → IsDen ctx s t b row
value-den ctx s t b r row agrees known = record {
  defined = sym agrees.defined ∙ known.defined;
  counts = λ at colour place.
      let within = slice_get_within (colours_of ctx s) at colour place in
      known.counts at ∙ here-in r.size at r.count (let size = agrees.size in omega (arith, size, within)) ∙ agrees.counts at colour place;
  inside = subst (λ n. AreBelow n row) agrees.size known.inside;
}

pub added-den : (ctx : Context) (s : Sort) (t : Term) (b : Binding) (scale : Scale) (r : Reading) (old new : List Cell) → Agrees ctx s (meaning ctx b t) r → IsAdded r scale old new
    → AddsDen ctx s t b scale old new
added-den ctx s t b scale r old new agrees known =
    let size = agrees.size in
    record {
      defined = sym agrees.defined ∙ known.defined;
      counts = λ at colour place.
          let within = slice_get_within (colours_of ctx s) at colour place in
          let there = placed-inside scale.offset r.size at r.count (omega (arith, size, within)) ∙ agrees.counts at colour place in
          known.gains.counts (scale.offset + at) ∙ ap (λ n. amount (scale.offset + at) old + scale.times * n) there;
      before = λ p low. let x = known.gains.counts p in let y = ap (λ n. scale.times * n) (placed-before scale.offset r.size p r.count low) in omega (arith, x, y);
      behind = λ p far. let x = known.gains.counts p in let y = ap (λ n. scale.times * n) (placed-far scale.offset r.size p r.count (omega (arith, size, far))) in omega (arith, x, y);
      below = λ bound all room. known.gains.below bound all (omega (arith, size, room));
    }

-- an error of one result as that of another
pub err-moves : {A B E : Type 0} (x y : E) → ◌≡◌ {A = Result A E} (Err x) (Err y) → ◌≡◌ {A = Result B E} (Err x) (Err y)
err-moves x y h = let same : x ≡ y = cc (h) in ap Err same
