-- The entries of a net against its arcs: the weights between two nodes, and how many arcs there are between them.
use Rattle.std.proofs.Common.{◌≡◌, ◌≢◌, ℕ, zero, suc, ◌+◌, ◌<◌, ◌≤◌, Bool, true, false, cond, ◌&&◌, nat_eq, inl, inr, List, [], ◌∷◌, ◌++◌, map, filter, length, take, get_or, Some, arith, refl, ap, subst, sym, ◌∙◌}
use Rattle.std.specs.Prelude.{All, AllPairs, sum_by, slice_get, IsPermutation}
use Rattle.std.specs.Str.{bytes_eq}
use Rattle.std.proofs.lemmas.Bool.{cases_eq, cases_lt}
use Rattle.std.proofs.lemmas.Bool.Decides.{nat_tests}
use Rattle.std.proofs.lemmas.List.{length-take, get_or-take}
use Rattle.std.proofs.lemmas.List.Sums.{sum_by-cons, sum_by_more_le, get_or-le-sum_by}
use Rattle.std.proofs.lemmas.List.Elements.{All-head, All-tail}
use Rattle.std.proofs.lemmas.List.Sorted.{sum_by-IsPermutation}
use Rattle.std.proofs.lemmas.Option.{none-some, same_Some, slice_get_within, get_or_from_slice_get}
use Rattle.std.proofs.lemmas.Slice.Eq.{bytes_eq-Decides}
use Rattle.wide_sums.specs.declared.rows.Cell.{Cell}
use Rattle.wide_sums.specs.Cells.{IsRising}
use Rattle.wide_sums.proofs.Amounts.{rising_behind, above_first}
use Rattle.pt_net.specs.declared.instances.Side.{Side}
use Rattle.pt_net.specs.declared.instances.Side.TheVariants.{Pre, Post}
use Rattle.plain_model.specs.declared.nets.Arc.{Arc}
use Rattle.plain_model.specs.declared.nets.PlainNet.{PlainNet}
use Rattle.plain_model.specs.Plain.{AreApart, AreDistinct, node_ids, place_ids}
use Rattle.plain_model.specs.Firing.{weight_between, total_weight}
use Rattle.plain_rows.specs.declared.entries.Entry.{Entry}
use Rattle.plain_rows.specs.Entries.{Ends, IsEntryOf, AreEntriesOf, is_on, cell_of, cells_of}
use Rattle.plain_rows.proofs.Rows.{entry_at}

-- what an entry adds to one side of a transition at a place, by any measure of its weight
abbrev pub share : (ℕ → ℕ) → Side → ℕ → ℕ → Entry → ℕ
share w side t p entry = cond (is_on side t entry) (cond (nat_eq entry.place p) (w entry.weight) 0) 0

-- and what a cell adds there
abbrev pub held : (ℕ → ℕ) → ℕ → Cell → ℕ
held w p cell = cond (nat_eq cell.at p) (w cell.count) 0

held_first : (w : ℕ → ℕ) (p : ℕ) (b : Bool) (entry : Entry) (others : List Entry)
    → sum_by (held w p) (map cell_of (cond b (entry ∷ others) others)) ≡ cond b (held w p (cell_of entry)) 0 + sum_by (held w p) (map cell_of others)
held_first w p true entry others = sum_by-cons (held w p) (cell_of entry) (map cell_of others)
held_first w p false entry others = omega arith

-- the cells of a side have together what its entries add
pub held_by_cells : (w : ℕ → ℕ) (side : Side) (t p : ℕ) (entries : List Entry) → sum_by (held w p) (cells_of entries side t) ≡ sum_by (share w side t p) entries
held_by_cells w side t p [] = refl
held_by_cells w side t p (entry ∷ entries) =
    held_first w p (is_on side t entry) entry (filter (is_on side t) entries)
    ∙ ap (λ n. share w side t p entry + n) (held_by_cells w side t p entries)
    ∙ sym (sum_by-cons (share w side t p) entry entries)

-- also in another order
pub held_in_order : (w : ℕ → ℕ) (side : Side) (t p : ℕ) (entries sorted : List Entry) → IsPermutation entries sorted → sum_by (held w p) (cells_of sorted side t) ≡ sum_by (share w side t p) entries
held_in_order w side t p entries sorted moved = held_by_cells w side t p sorted ∙ sum_by-IsPermutation (share w side t p) entries sorted moved

-- an element stays behind more of them, and behind those before it
got_left : (xs ys : List (List ℕ)) (i : ℕ) (a : List ℕ) → slice_get xs i ≡ Some a → slice_get (xs ++ ys) i ≡ Some a
got_left [] ys i a got = absurd (none-some a got)
got_left (x ∷ xs) ys zero a got = got
got_left (x ∷ xs) ys (suc i) a got = got_left xs ys i a got

got_right : (xs ys : List (List ℕ)) (j k : ℕ) (b : List ℕ) → k ≡ length xs + j → slice_get ys j ≡ Some b → slice_get (xs ++ ys) k ≡ Some b
got_right [] ys j k b at got =
    let same : j ≡ k = omega arith in
    subst (λ n. slice_get ys n ≡ Some b) same got
got_right (x ∷ xs) ys j zero b at got = absurd (omega arith)
got_right (x ∷ xs) ys j (suc k) b at got = got_right xs ys j k b (omega arith) got

pub place_got : (net : PlainNet) (i : ℕ) (a : List ℕ) → slice_get (place_ids net) i ≡ Some a → slice_get (node_ids net) i ≡ Some a
place_got net i a got = got_left (place_ids net ++ net.transitions) (map (λ arc. arc.id) net.arcs) i a (got_left (place_ids net) net.transitions i a got)

pub transition_got : (net : PlainNet) (j : ℕ) (b : List ℕ) → slice_get net.transitions j ≡ Some b → slice_get (node_ids net) (length (place_ids net) + j) ≡ Some b
transition_got net j b got =
    got_left (place_ids net ++ net.transitions) (map (λ arc. arc.id) net.arcs) (length (place_ids net) + j) b
    (got_right (place_ids net) net.transitions j (length (place_ids net) + j) b refl got)

false_unless : (b : Bool) → (b ≡ true → ⊥) → b ≡ false
false_unless true never = absurd (never refl)
false_unless false never = refl

differ : (ids : List (List ℕ)) (i j : ℕ) (a b : List ℕ) → AreDistinct ids → slice_get ids i ≡ Some a → slice_get ids j ≡ Some b → i < j → a ≢ b
differ ids i j a b distinct at_i at_j below same =
    distinct i j a below (slice_get_within ids j b at_j)
    (get_or_from_slice_get ids i a a at_i ∙ same ∙ sym (get_or_from_slice_get ids j b a at_j))

-- distinct names are equal exactly where their numbers are
same_number : (ids : List (List ℕ)) (i j : ℕ) (a b : List ℕ) → AreDistinct ids → slice_get ids i ≡ Some a → slice_get ids j ≡ Some b → bytes_eq a b ≡ nat_eq i j
same_number ids i j a b distinct at_i at_j =
    elim (cases_eq i j) [
      | inl same ↦
          let equal : nat_eq i j ≡ true = grind (arith, nat_tests) in
          let one : a ≡ b = same_Some a b (sym at_i ∙ ap (slice_get ids) same ∙ at_j) in
          (bytes_eq-Decides a b).1 one ∙ sym equal
      | inr away ↦
          let unequal : nat_eq i j ≡ false = grind (arith, nat_tests) in
          false_unless (bytes_eq a b) (λ equal. elim (cases_lt i j) [
            | inl below ↦ differ ids i j a b distinct at_i at_j below ((bytes_eq-Decides a b).0 equal)
            | inr above ↦ differ ids j i b a distinct at_j at_i (omega arith) (sym ((bytes_eq-Decides a b).0 equal))
          ])
          ∙ sym unequal
    ]

same_place : (net : PlainNet) (i j : ℕ) (a b : List ℕ) → AreDistinct (node_ids net) → slice_get (place_ids net) i ≡ Some a → slice_get (place_ids net) j ≡ Some b → bytes_eq a b ≡ nat_eq i j
same_place net i j a b distinct at_i at_j = same_number (node_ids net) i j a b distinct (place_got net i a at_i) (place_got net j b at_j)

behind : (n i j : ℕ) → nat_eq (n + i) (n + j) ≡ nat_eq i j
behind n i j = elim (cases_eq i j) [
  | inl same ↦ grind (arith, nat_tests)
  | inr away ↦ grind (arith, nat_tests)
]

same_transition : (net : PlainNet) (i j : ℕ) (a b : List ℕ) → AreDistinct (node_ids net) → slice_get net.transitions i ≡ Some a → slice_get net.transitions j ≡ Some b → bytes_eq a b ≡ nat_eq i j
same_transition net i j a b distinct at_i at_j =
    same_number (node_ids net) (length (place_ids net) + i) (length (place_ids net) + j) a b distinct (transition_got net i a at_i) (transition_got net j b at_j)
    ∙ behind (length (place_ids net)) i j

-- no place is a transition
other_kind : (net : PlainNet) (i j : ℕ) (a b : List ℕ) → AreDistinct (node_ids net) → slice_get (place_ids net) i ≡ Some a → slice_get net.transitions j ≡ Some b → a ≢ b
other_kind net i j a b distinct at_i at_j =
    let within = slice_get_within (place_ids net) i a at_i in
    differ (node_ids net) i (length (place_ids net) + j) a b distinct (place_got net i a at_i) (transition_got net j b at_j) (omega arith)

unequal_names : (a b : List ℕ) → a ≢ b → bytes_eq a b ≡ false
unequal_names a b away = false_unless (bytes_eq a b) (λ equal. away ((bytes_eq-Decides a b).0 equal))

both : (x y : Bool) (n : ℕ) → cond (x && y) n 0 ≡ cond y (cond x n 0) 0
both true true n = refl
both true false n = refl
both false true n = refl
both false false n = refl

both_back : (x y : Bool) (n : ℕ) → cond (x && y) n 0 ≡ cond x (cond y n 0) 0
both_back true true n = refl
both_back true false n = refl
both_back false true n = refl
both_back false false n = refl

weight_is : (arc : Arc) (from to : List ℕ) (x y : Bool) (n : ℕ) → bytes_eq arc.source from ≡ x → bytes_eq arc.target to ≡ y → n ≡ arc.weight → weight_between from to arc ≡ cond (x && y) n 0
weight_is arc from to x y n source target weight =
    ap (λ (b : Bool). cond (b && bytes_eq arc.target to) arc.weight 0) source
    ∙ ap (λ (b : Bool). cond (x && b) arc.weight 0) target
    ∙ ap (λ (m : ℕ). cond (x && y) m 0) (sym weight)

-- an arc has between a place and a transition what its entry adds there
arc_in : (net : PlainNet) (arc : Arc) (side : Side) (place transition weight p t : ℕ) (from to : List ℕ) → AreDistinct (node_ids net)
    → Ends net arc side place transition → weight ≡ arc.weight → slice_get (place_ids net) p ≡ Some from → slice_get net.transitions t ≡ Some to
    → weight_between from to arc ≡ share (λ n. n) Pre t p (entry_at side transition place weight)
arc_in net arc Pre place transition weight p t from to distinct ends is at_p at_t =
    weight_is arc from to _ _ weight (same_place net place p arc.source from distinct ends.0 at_p) (same_transition net transition t arc.target to distinct ends.1 at_t) is
    ∙ both (nat_eq place p) (nat_eq transition t) weight
arc_in net arc Post place transition weight p t from to distinct ends is at_p at_t =
    weight_is arc from to false _ weight (unequal_names arc.source from (λ same. other_kind net p transition from arc.source distinct at_p ends.1 (sym same))) refl is

arc_out : (net : PlainNet) (arc : Arc) (side : Side) (place transition weight p t : ℕ) (from to : List ℕ) → AreDistinct (node_ids net)
    → Ends net arc side place transition → weight ≡ arc.weight → slice_get net.transitions t ≡ Some from → slice_get (place_ids net) p ≡ Some to
    → weight_between from to arc ≡ share (λ n. n) Post t p (entry_at side transition place weight)
arc_out net arc Pre place transition weight p t from to distinct ends is at_t at_p =
    weight_is arc from to false _ weight (unequal_names arc.source from (other_kind net place t arc.source from distinct ends.0 at_t)) refl is
arc_out net arc Post place transition weight p t from to distinct ends is at_t at_p =
    weight_is arc from to _ _ weight (same_transition net transition t arc.source from distinct ends.1 at_t) (same_place net place p arc.target to distinct ends.0 at_p) is
    ∙ both_back (nat_eq transition t) (nat_eq place p) weight

-- all arcs have together what all entries add
pub arcs_in : (net : PlainNet) (arcs : List Arc) (entries : List Entry) (p t : ℕ) (from to : List ℕ) → AreDistinct (node_ids net) → AreEntriesOf net arcs entries
    → slice_get (place_ids net) p ≡ Some from → slice_get net.transitions t ≡ Some to → total_weight arcs from to ≡ sum_by (share (λ n. n) Pre t p) entries
arcs_in net [] [] p t from to distinct all at_p at_t = refl
arcs_in net (arc ∷ arcs) (e ∷ entries) p t from to distinct all at_p at_t =
    let one = arc_in net arc e.side e.place e.transition e.weight p t from to distinct all.0.ends all.0.weight at_p at_t in
    let others = arcs_in net arcs entries p t from to distinct all.1 at_p at_t in
    ap (λ n. n + total_weight arcs from to) one ∙ ap (λ n. share (λ m. m) Pre t p e + n) others ∙ sym (sum_by-cons (share (λ n. n) Pre t p) e entries)
arcs_in net [] (e ∷ entries) p t from to distinct all at_p at_t = absurd all
arcs_in net (arc ∷ arcs) [] p t from to distinct all at_p at_t = absurd all

pub arcs_out : (net : PlainNet) (arcs : List Arc) (entries : List Entry) (p t : ℕ) (from to : List ℕ) → AreDistinct (node_ids net) → AreEntriesOf net arcs entries
    → slice_get net.transitions t ≡ Some from → slice_get (place_ids net) p ≡ Some to → total_weight arcs from to ≡ sum_by (share (λ n. n) Post t p) entries
arcs_out net [] [] p t from to distinct all at_t at_p = refl
arcs_out net (arc ∷ arcs) (e ∷ entries) p t from to distinct all at_t at_p =
    let one = arc_out net arc e.side e.place e.transition e.weight p t from to distinct all.0.ends all.0.weight at_t at_p in
    let others = arcs_out net arcs entries p t from to distinct all.1 at_t at_p in
    ap (λ n. n + total_weight arcs from to) one ∙ ap (λ n. share (λ m. m) Post t p e + n) others ∙ sym (sum_by-cons (share (λ n. n) Post t p) e entries)
arcs_out net [] (e ∷ entries) p t from to distinct all at_t at_p = absurd all
arcs_out net (arc ∷ arcs) [] p t from to distinct all at_t at_p = absurd all

-- where places rise, at most one cell is at each
ones_above : (p : ℕ) (cells : List Cell) → All (λ c. p < c.at) cells → sum_by (held (λ n. 1) p) cells ≡ 0
ones_above p [] above = refl
ones_above p (c ∷ cs) above =
    let first : p < c.at = All-head (λ d. p < d.at) c cs above in
    let away : nat_eq c.at p ≡ false = grind (arith, nat_tests) in
    let none : held (λ n. 1) p c ≡ 0 = ap (λ (b : Bool). cond b 1 0) away in
    let others = ones_above p cs (All-tail (λ d. p < d.at) c cs above) in
    omega (arith, sum_by-cons (held (λ n. 1) p) c cs)

pub ones_rising : (p : ℕ) (cells : List Cell) → IsRising cells → sum_by (held (λ n. 1) p) cells ≤ 1
ones_rising p [] rising = omega arith
ones_rising p (c ∷ cs) rising =
    elim (cases_eq c.at p) [
      | inl here ↦
          let equal : nat_eq c.at p ≡ true = grind (arith, nat_tests) in
          let one : held (λ n. 1) p c ≡ 1 = ap (λ (b : Bool). cond b 1 0) equal in
          let above : All (λ d. p < d.at) cs = λ k d within. let rises : c.at < (get_or cs k d).at = above_first c cs rising k d within in omega arith in
          let others = ones_above p cs above in
          omega (arith, sum_by-cons (held (λ n. 1) p) c cs)
      | inr away ↦
          let unequal : nat_eq c.at p ≡ false = grind (arith, nat_tests) in
          let none : held (λ n. 1) p c ≡ 0 = ap (λ (b : Bool). cond b 1 0) unequal in
          let others = ones_rising p cs (rising_behind c cs rising) in
          omega (arith, sum_by-cons (held (λ n. 1) p) c cs)
    ]

-- two elements that count give a sum of two
pub two_ones : {X : Type 0} (f : X → ℕ) (xs : List X) (i j : ℕ) (d : X) → i < j → j < length xs → f (get_or xs i d) ≡ 1 → f (get_or xs j d) ≡ 1 → 2 ≤ sum_by f xs
two_ones f xs i j d below within one other =
    let inside : i < length (take j xs) = omega (arith, length-take j xs) in
    let first = get_or-le-sum_by f (take j xs) i d inside in
    let same = ap f (get_or-take j xs i d below) in
    omega (arith, sum_by_more_le f xs j d within)

-- the entry of an arc
pub entry_got : (net : PlainNet) (arcs : List Arc) (entries : List Entry) (i : ℕ) (a : Arc) (e : Entry) → AreEntriesOf net arcs entries → i < length arcs → IsEntryOf net (get_or arcs i a) (get_or entries i e)
entry_got net [] [] i a e all within = absurd (omega arith)
entry_got net (arc ∷ arcs) (entry ∷ entries) zero a e all within = all.0
entry_got net (arc ∷ arcs) (entry ∷ entries) (suc i) a e all within = entry_got net arcs entries i a e all.1 (omega arith)
entry_got net [] (entry ∷ entries) i a e all within = absurd all
entry_got net (arc ∷ arcs) [] i a e all within = absurd all

pub as_many_entries : (net : PlainNet) (arcs : List Arc) (entries : List Entry) → AreEntriesOf net arcs entries → length entries ≡ length arcs
as_many_entries net [] [] all = refl
as_many_entries net (arc ∷ arcs) (entry ∷ entries) all = ap suc (as_many_entries net arcs entries all.1)
as_many_entries net [] (entry ∷ entries) all = absurd all
as_many_entries net (arc ∷ arcs) [] all = absurd all

-- entries of arcs with the same ends are on the same side of the same transition, at the same place
counted_once : (side : Side) (t p : ℕ) (weight : ℕ) → share (λ n. 1) side t p (entry_at side t p weight) ≡ 1
counted_once Pre t p weight = grind (arith, nat_tests)
counted_once Post t p weight = grind (arith, nat_tests)

same_numbers : (x y : ℕ) (a b : List ℕ) → bytes_eq a b ≡ nat_eq x y → a ≡ b → x ≡ y
same_numbers x y a b tests same =
    let equal = sym tests ∙ (bytes_eq-Decides a b).1 same in
    grind (arith, nat_tests)

counted_again : (net : PlainNet) (arc other : Arc) (side side' : Side) (p t weight p' t' weight' : ℕ) → AreDistinct (node_ids net)
    → Ends net arc side p t → Ends net other side' p' t' → arc.source ≡ other.source → arc.target ≡ other.target
    → share (λ n. 1) side t p (entry_at side' t' p' weight') ≡ 1
counted_again net arc other Pre Pre p t weight p' t' weight' distinct ends ends' sources targets =
    let places : p' ≡ p = same_numbers p' p other.source arc.source (same_place net p' p other.source arc.source distinct ends'.0 ends.0) (sym sources) in
    let transitions : t' ≡ t = same_numbers t' t other.target arc.target (same_transition net t' t other.target arc.target distinct ends'.1 ends.1) (sym targets) in
    grind (arith, nat_tests)
counted_again net arc other Post Post p t weight p' t' weight' distinct ends ends' sources targets =
    let places : p' ≡ p = same_numbers p' p other.target arc.target (same_place net p' p other.target arc.target distinct ends'.0 ends.0) (sym targets) in
    let transitions : t' ≡ t = same_numbers t' t other.source arc.source (same_transition net t' t other.source arc.source distinct ends'.1 ends.1) (sym sources) in
    grind (arith, nat_tests)
counted_again net arc other Pre Post p t weight p' t' weight' distinct ends ends' sources targets =
    absurd (other_kind net p t' arc.source other.source distinct ends.0 ends'.1 sources)
counted_again net arc other Post Pre p t weight p' t' weight' distinct ends ends' sources targets =
    absurd (other_kind net p' t other.source arc.source distinct ends'.0 ends.1 (sym sources))

pub transition_within : (net : PlainNet) (arc : Arc) (side : Side) (p t : ℕ) → Ends net arc side p t → t < length net.transitions
transition_within net arc Pre p t ends = slice_get_within net.transitions t arc.target ends.1
transition_within net arc Post p t ends = slice_get_within net.transitions t arc.source ends.1

pub place_within : (net : PlainNet) (arc : Arc) (side : Side) (p t : ℕ) → Ends net arc side p t → p < length (place_ids net)
place_within net arc Pre p t ends = slice_get_within (place_ids net) p arc.source ends.0
place_within net arc Post p t ends = slice_get_within (place_ids net) p arc.target ends.0

-- where the cells of each side rise, no two arcs have both ends in common
pub apart_from_rising : (net : PlainNet) (entries sorted : List Entry) → AreDistinct (node_ids net) → AreEntriesOf net net.arcs entries → IsPermutation entries sorted
    → ((side : Side) (t : ℕ) → t < length net.transitions → IsRising (cells_of sorted side t)) → AllPairs AreApart net.arcs
apart_from_rising net entries sorted distinct all moved rising = λ i j d below within sources targets.
    let none : Entry = entry_at Pre 0 0 0 in
    let one = get_or entries i none in
    let other = get_or entries j none in
    let arc = get_or net.arcs i d in
    let arc' = get_or net.arcs j d in
    let is : IsEntryOf net arc one = entry_got net net.arcs entries i d none all (omega arith) in
    let is' : IsEntryOf net arc' other = entry_got net net.arcs entries j d none all within in
    let long = as_many_entries net net.arcs entries all in
    let first = counted_once one.side one.transition one.place one.weight in
    let second = counted_again net arc arc' one.side other.side one.place one.transition one.weight other.place other.transition other.weight distinct is.ends is'.ends sources targets in
    let two : 2 ≤ sum_by (share (λ n. 1) one.side one.transition one.place) entries =
    two_ones (share (λ n. 1) one.side one.transition one.place) entries i j none below (omega arith) first second in
    let same = held_in_order (λ n. 1) one.side one.transition one.place entries sorted moved in
    let most = ones_rising one.place (cells_of sorted one.side one.transition)
    (rising one.side one.transition (transition_within net arc one.side one.place one.transition is.ends)) in
    omega arith
