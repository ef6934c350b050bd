-- Rows that stand one after another in an array, as one more is put behind them.
use Rattle.std.proofs.Common.{◌≡◌, ◌≢◌, ℕ, zero, suc, ◌+◌, ◌-◌, ◌<◌, ◌≤◌, inl, inr, List, [], ◌∷◌, ◌++◌, length, get_or, take, drop, map, All, AllPairs, arith, refl, ap, ap₂, subst, sym, ◌∙◌, sum_by, slice_index, slice_range, length-append, length-take, length-drop, add-one}
use Rattle.std.specs.List.{range_with_len}
use Rattle.std.proofs.lemmas.Bool.{cases_lt}
use Rattle.std.proofs.lemmas.List.{length-map, get_or-map, map-append, map_push}
use Rattle.std.proofs.lemmas.List.FromFn.{length-map-range_with_len, get_or-map-range_with_len, map-range_with_len_more, sum_by-map-range_with_len_more, fill_by_all}
use Rattle.std.proofs.Math.ListN.{get_or-append}
use Rattle.std.proofs.Math.Seq.{get_or-append_seam, take-length, drop-append_seam}
use Rattle.wide_sums.specs.declared.rows.Cell.{Cell}
use Rattle.wide_sums.specs.Cells.{IsRow}
use Rattle.pt_net.specs.declared.arrays.Head.{Head}
use Rattle.pt_net.specs.declared.instances.Instance.{Instance}
use Rattle.pt_net.specs.declared.instances.Side.{Side}
use Rattle.pt_net.specs.declared.instances.Side.TheVariants.{Pre, Post}
use Rattle.pt_net.specs.declared.instances.Origin.{Origin}
use Rattle.pt_net.specs.Instances.{IsBefore, row_of, origin_of}
use Rattle.pt_net.specs.InArrays.{ArePacked, AreInArrays, array_of, end_of, ends_of, head_at, instance_in, instances_in, one_at, origin_from, row_in, start_of}

-- a range that lies within the front, and the whole of what stands behind it
take_front : {X : Type 0} (xs ys : List X) (n : ℕ) → n ≤ length xs → take n (xs ++ ys) ≡ take n xs
take_front xs ys zero le = refl
take_front [] ys (suc n) le = absurd (omega arith)
take_front (x ∷ xs) ys (suc n) le = ap (λ (zs : List _). x ∷ zs) (take_front xs ys n (omega arith))

drop_front : {X : Type 0} (xs ys : List X) (n : ℕ) → n ≤ length xs → drop n (xs ++ ys) ≡ drop n xs ++ ys
drop_front xs ys zero le = refl
drop_front [] ys (suc n) le = absurd (omega arith)
drop_front (x ∷ xs) ys (suc n) le = drop_front xs ys n (omega arith)

range_front : {X : Type 0} (xs ys : List X) (a b : ℕ) → a ≤ length xs → b ≤ length xs → slice_range (xs ++ ys) a b ≡ slice_range xs a b
range_front xs ys a b low le = ap (take (b - a)) (drop_front xs ys a low) ∙ take_front (drop a xs) ys (b - a) (let long = length-drop a xs in omega arith)

range_behind : {X : Type 0} (xs ys : List X) (a b : ℕ) → a ≡ length xs → b ≡ length xs + length ys → slice_range (xs ++ ys) a b ≡ ys
range_behind xs ys a b here end =
    let long : b - a ≡ length ys = omega arith in
    ap₂ take long (ap (λ n. drop n (xs ++ ys)) here ∙ drop-append_seam xs ys) ∙ take-length ys

range_long : {X : Type 0} (xs : List X) (a b : ℕ) → a ≤ b → b ≤ length xs → length (slice_range xs a b) + a ≡ b
range_long xs a b le within = let one = length-take (b - a) (drop a xs) in let two = length-drop a xs in omega arith

-- starts
start_within : (ends : List ℕ) (cells : List Cell) (i : ℕ) → ArePacked ends cells → i ≤ length ends → start_of ends i ≤ length cells
start_within ends cells zero packed le = omega arith
start_within ends cells (suc i) packed le = packed.within i (omega arith)

start_front : (ends more : List ℕ) (i : ℕ) → i ≤ length ends → start_of (ends ++ more) i ≡ start_of ends i
start_front ends more zero le = refl
start_front ends more (suc i) le = get_or-append ends more 0 i (omega arith)

row_front : (ends more : List ℕ) (cells row : List Cell) (i : ℕ) → ArePacked ends cells → i < length ends → row_in (ends ++ more) (cells ++ row) i ≡ row_in ends cells i
row_front ends more cells row i packed within =
    ap₂ (slice_range (cells ++ row)) (start_front ends more i (omega arith)) (get_or-append ends more 0 i within)
    ∙ range_front cells row (start_of ends i) (slice_index ends i) (start_within ends cells i packed (omega arith)) (packed.within i within)

row_behind : (ends : List ℕ) (cells row : List Cell) → ArePacked ends cells → row_in (ends ++ (length cells + length row) ∷ []) (cells ++ row) (length ends) ≡ row
row_behind ends cells row packed =
    range_behind cells row (start_of (ends ++ (length cells + length row) ∷ []) (length ends)) (slice_index (ends ++ (length cells + length row) ∷ []) (length ends))
    (start_front ends ((length cells + length row) ∷ []) (length ends) (omega arith) ∙ packed.whole)
    (get_or-append_seam ends (length cells + length row) [] 0)

pub packed_none : ArePacked [] []
packed_none = record { rising = λ i within. absurd (omega arith); within = λ i within. absurd (omega arith); whole = refl; rows = λ i within. absurd (omega arith) }

pub packed_more : (ends : List ℕ) (cells row : List Cell) → ArePacked ends cells → IsRow row → ArePacked (ends ++ (length cells + length row) ∷ []) (cells ++ row)
packed_more ends cells row packed is_row =
    let last = length cells + length row in
    let ends' = ends ++ last ∷ [] in
    let long = length-append ends (last ∷ []) in
    let more = length-append cells row in
    let end : slice_index ends' (length ends) ≡ last = get_or-append_seam ends last [] 0 in
    record {
      rising = λ i within. elim (cases_lt i (length ends)) [
        | inl below ↦
            let one = start_front ends (last ∷ []) i (omega arith) in
            let two : slice_index ends' i ≡ slice_index ends i = get_or-append ends (last ∷ []) 0 i below in
            let old = packed.rising i below in
            omega arith
        | inr above ↦
            let here : i ≡ length ends = omega arith in
            let one = ap (start_of ends') here ∙ start_front ends (last ∷ []) (length ends) (omega arith) ∙ packed.whole in
            let two : slice_index ends' i ≡ last = ap (slice_index ends') here ∙ end in
            omega arith
      ];
      within = λ i within. elim (cases_lt i (length ends)) [
        | inl below ↦
            let two : slice_index ends' i ≡ slice_index ends i = get_or-append ends (last ∷ []) 0 i below in
            let old = packed.within i below in
            omega arith
        | inr above ↦
            let here : i ≡ length ends = omega arith in
            let two : slice_index ends' i ≡ last = ap (slice_index ends') here ∙ end in
            omega arith
      ];
      whole = ap (start_of ends') (long ∙ add-one (length ends)) ∙ end ∙ sym more;
      rows = λ i within. elim (cases_lt i (length ends)) [
        | inl below ↦ subst IsRow (sym (row_front ends (last ∷ []) cells row i packed below)) (packed.rows i below)
        | inr above ↦
            let here : i ≡ length ends = omega arith in
            subst IsRow (sym (ap (row_in ends' (cells ++ row)) here ∙ row_behind ends cells row packed)) is_row
      ];
    }

-- the instances
pub instances_count : (heads : List Head) (inputs outputs : List Cell) → length (instances_in heads inputs outputs) ≡ length heads
unfolding instances_in
instances_count heads inputs outputs = length-map-range_with_len (instance_in heads inputs outputs) 0 (length heads)

pub instance_is : (heads : List Head) (inputs outputs : List Cell) (i : ℕ) (d : Instance) → i < length heads → get_or (instances_in heads inputs outputs) i d ≡ instance_in heads inputs outputs i
unfolding instances_in
instance_is heads inputs outputs i d within = get_or-map-range_with_len (instance_in heads inputs outputs) 0 (length heads) i i d within (omega arith)

pub ends_long : (side : Side) (heads : List Head) → length (ends_of side heads) ≡ length heads
ends_long side heads = length-map heads (end_of side)

-- the cells of all rows are those of the array
sum_to : (heads : List Head) (inputs outputs : List Cell) (g : Instance → ℕ) (ends : List ℕ) (cells : List Cell) → length ends ≡ length heads → ArePacked ends cells
    → ((i : ℕ) → g (instance_in heads inputs outputs i) ≡ length (row_in ends cells i)) → (n : ℕ) → n ≤ length heads → sum_by g (map (instance_in heads inputs outputs) (range_with_len 0 n)) ≡ start_of ends n
sum_to heads inputs outputs g ends cells long packed is zero le = refl
sum_to heads inputs outputs g ends cells long packed is (suc n) le =
    let before = sum_to heads inputs outputs g ends cells long packed is n (omega arith) in
    let more = sum_by-map-range_with_len_more g (instance_in heads inputs outputs) 0 n n (omega arith) in
    let one = is n in
    let row = range_long cells (start_of ends n) (slice_index ends n) (packed.rising n (omega arith)) (packed.within n (omega arith)) in
    let step = ap (λ k. sum_by g (map (instance_in heads inputs outputs) (range_with_len 0 k))) (add-one n) in
    omega arith

pub sum_inputs : (heads : List Head) (inputs outputs : List Cell) → AreInArrays heads inputs outputs → sum_by (λ t. length t.pre) (instances_in heads inputs outputs) ≡ length inputs
unfolding instances_in
sum_inputs heads inputs outputs are =
    let long = ends_long Pre heads in
    sum_to heads inputs outputs (λ t. length t.pre) (ends_of Pre heads) inputs long are.pre (λ i. refl) (length heads) (omega arith) ∙ ap (start_of (ends_of Pre heads)) (sym long) ∙ are.pre.whole

pub sum_outputs : (heads : List Head) (inputs outputs : List Cell) → AreInArrays heads inputs outputs → sum_by (λ t. length t.post) (instances_in heads inputs outputs) ≡ length outputs
unfolding instances_in
sum_outputs heads inputs outputs are =
    let long = ends_long Post heads in
    sum_to heads inputs outputs (λ t. length t.post) (ends_of Post heads) outputs long are.post (λ i. refl) (length heads) (omega arith) ∙ ap (start_of (ends_of Post heads)) (sym long) ∙ are.post.whole

-- one more instance
abbrev pub head_for : ℕ → ℕ → List Cell → List Cell → List Cell → List Cell → Head
head_for transition binding inputs outputs pre post = record { transition = transition; binding = binding; inputs_end = length inputs + length pre; outputs_end = length outputs + length post }

pub in_arrays_more : (heads : List Head) (inputs outputs pre post : List Cell) (transition binding : ℕ) → AreInArrays heads inputs outputs → IsRow pre → IsRow post
    → AreInArrays (heads ++ head_for transition binding inputs outputs pre post ∷ []) (inputs ++ pre) (outputs ++ post)
in_arrays_more heads inputs outputs pre post transition binding are is_pre is_post =
    let head = head_for transition binding inputs outputs pre post in
    record {
      pre = subst (λ (es : List ℕ). ArePacked es (inputs ++ pre)) (sym (map-append (end_of Pre) heads (head ∷ []))) (packed_more (ends_of Pre heads) inputs pre are.pre is_pre);
      post = subst (λ (es : List ℕ). ArePacked es (outputs ++ post)) (sym (map-append (end_of Post) heads (head ∷ []))) (packed_more (ends_of Post heads) outputs post are.post is_post);
    }

abbrev pub of_parts : Head → List Cell → List Cell → Instance
of_parts head pre post = record { transition = head.transition; binding = head.binding; pre = pre; post = post }

pub instances_more : (heads : List Head) (inputs outputs pre post : List Cell) (transition binding : ℕ) → AreInArrays heads inputs outputs
    → instances_in (heads ++ head_for transition binding inputs outputs pre post ∷ []) (inputs ++ pre) (outputs ++ post) ≡ instances_in heads inputs outputs ++ of_parts (head_for transition binding inputs outputs pre post) pre post ∷ []
unfolding instances_in
instances_more heads inputs outputs pre post transition binding are =
    let head = head_for transition binding inputs outputs pre post in
    let heads' = heads ++ head ∷ [] in
    let f = instance_in heads' (inputs ++ pre) (outputs ++ post) in
    let long = length-append heads (head ∷ []) in
    let long_pre = ends_long Pre heads in
    let long_post = ends_long Post heads in
    let parts : (i : ℕ) (h : Head) (p q : List Cell) → head_at heads' i ≡ h → row_in (ends_of Pre heads') (inputs ++ pre) i ≡ p → row_in (ends_of Post heads') (outputs ++ post) i ≡ q → f i ≡ of_parts h p q
    = λ i h p q a b c. (ap (λ x. of_parts x (row_in (ends_of Pre heads') (inputs ++ pre) i) (row_in (ends_of Post heads') (outputs ++ post) i)) a ∙ ap₂ (of_parts h) b c) in
    let pre_ends = map-append (end_of Pre) heads (head ∷ []) in
    let post_ends = map-append (end_of Post) heads (head ∷ []) in
    ap (λ n. map f (range_with_len 0 n)) long
    ∙ map-range_with_len_more f 0 (length heads) (length heads) (omega arith)
    ∙ ap₂ (λ (xs : List Instance) (x : Instance). xs ++ x ∷ [])
    (sym (fill_by_all f (map (instance_in heads inputs outputs) (range_with_len 0 (length heads))) (length heads) (of_parts head [] []) (length-map-range_with_len (instance_in heads inputs outputs) 0 (length heads)) (λ k within.
    get_or-map-range_with_len (instance_in heads inputs outputs) 0 (length heads) k k (of_parts head [] []) within (omega arith)
    ∙ sym (parts k (head_at heads k) (row_in (ends_of Pre heads) inputs k) (row_in (ends_of Post heads) outputs k)
    (get_or-append heads (head ∷ []) (record { transition = 0; binding = 0; inputs_end = 0; outputs_end = 0 }) k within)
    (ap (λ (es : List ℕ). row_in es (inputs ++ pre) k) pre_ends ∙ row_front (ends_of Pre heads) (end_of Pre head ∷ []) inputs pre k are.pre (omega arith))
    (ap (λ (es : List ℕ). row_in es (outputs ++ post) k) post_ends ∙ row_front (ends_of Post heads) (end_of Post head ∷ []) outputs post k are.post (omega arith))))))
    (parts (length heads) head pre post
    (get_or-append_seam heads head [] (record { transition = 0; binding = 0; inputs_end = 0; outputs_end = 0 }))
    (ap₂ (λ (es : List ℕ) (i : ℕ). row_in es (inputs ++ pre) i) pre_ends (sym long_pre) ∙ row_behind (ends_of Pre heads) inputs pre are.pre)
    (ap₂ (λ (es : List ℕ) (i : ℕ). row_in es (outputs ++ post) i) post_ends (sym long_post) ∙ row_behind (ends_of Post heads) outputs post are.post))

-- where the row of an instance starts
pub start_first : (side : Side) (heads : List Head) (i : ℕ) → i ≡ 0 → 0 ≡ start_of (ends_of side heads) i
start_first side heads i first = ap (start_of (ends_of side heads)) (sym first)

pub start_next : (side : Side) (heads : List Head) (i : ℕ) (d : Head) → i ≢ 0 → i < length heads → end_of side (get_or heads (i - 1) d) ≡ start_of (ends_of side heads) i
start_next side heads zero d some within = absurd (some refl)
start_next side heads (suc i) d some within =
    let before : suc i - 1 ≡ i = omega arith in ap (λ k. end_of side (get_or heads k d)) before ∙ sym (get_or-map (end_of side) heads i d 0 (omega arith))

-- the rows and origins of the instances
pub packed_on : (side : Side) (heads : List Head) (inputs outputs : List Cell) → AreInArrays heads inputs outputs → ArePacked (ends_of side heads) (array_of side inputs outputs)
packed_on Pre heads inputs outputs are = are.pre
packed_on Post heads inputs outputs are = are.post

-- what stands at a number that is within a list, whatever would stand past it
pub any_at : {X : Type 0} (xs : List X) (i : ℕ) (d e : X) → i < length xs → get_or xs i d ≡ get_or xs i e
any_at [] i d e within = absurd (omega arith)
any_at (x ∷ xs) zero d e within = refl
any_at (x ∷ xs) (suc i) d e within = any_at xs i d e (omega arith)

pub origin_is : (heads : List Head) (inputs outputs : List Cell) (i : ℕ) (d : Head) → i < length heads → origin_from (get_or heads i d) ≡ origin_of (one_at (instances_in heads inputs outputs) i)
origin_is heads inputs outputs i d within =
    ap origin_from (any_at heads i d (record { transition = 0; binding = 0; inputs_end = 0; outputs_end = 0 }) within)
    ∙ sym (ap origin_of (instance_is heads inputs outputs i (record { transition = 0; binding = 0; pre = []; post = [] }) within))

pub row_is : (side : Side) (heads : List Head) (inputs outputs : List Cell) (i : ℕ) → i < length heads → row_in (ends_of side heads) (array_of side inputs outputs) i ≡ row_of side (one_at (instances_in heads inputs outputs) i)
row_is Pre heads inputs outputs i within = sym (ap (row_of Pre) (instance_is heads inputs outputs i (record { transition = 0; binding = 0; pre = []; post = [] }) within))
row_is Post heads inputs outputs i within = sym (ap (row_of Post) (instance_is heads inputs outputs i (record { transition = 0; binding = 0; pre = []; post = [] }) within))

-- the origins of the heads
pub heads_rising : (heads : List Head) (inputs outputs : List Cell) → AllPairs (λ s t. IsBefore (origin_of s) (origin_of t)) (instances_in heads inputs outputs) → AllPairs (λ g h. IsBefore (origin_from g) (origin_from h)) heads
heads_rising heads inputs outputs rising = λ i j d below within.
    let count = instances_count heads inputs outputs in
    let at : (k : ℕ) → k < length heads → origin_from (get_or heads k d) ≡ origin_of (one_at (instances_in heads inputs outputs) k) = λ k inside. origin_is heads inputs outputs k d inside in
    subst (λ o. IsBefore o (origin_from (get_or heads j d))) (sym (at i (omega arith))) (subst (λ o. IsBefore (origin_of (one_at (instances_in heads inputs outputs) i)) o) (sym (at j within)) (rising i j (record { transition = 0; binding = 0; pre = []; post = [] }) below (omega arith)))

pub missing_in : (heads : List Head) (inputs outputs : List Cell) (o : Origin) → All (λ h. origin_from h ≢ o) heads → All (λ t. origin_of t ≢ o) (instances_in heads inputs outputs)
missing_in heads inputs outputs o missing = λ k d within here.
    let count = instances_count heads inputs outputs in
    missing k (record { transition = 0; binding = 0; inputs_end = 0; outputs_end = 0 }) (omega arith) (sym (ap origin_of (instance_is heads inputs outputs k d (omega arith))) ∙ here)

-- what the arrays are behind a push
pub record ArePushed (heads heads' : List Head) (inputs inputs' outputs outputs' pre post : List Cell) (head : Head) : Type 0 where
  pub heads_are : heads' ≡ heads ++ head ∷ []
  pub inputs_are : inputs' ≡ inputs ++ pre
  pub outputs_are : outputs' ≡ outputs ++ post
  pub inputs_end : head.inputs_end ≡ length inputs + length pre
  pub outputs_end : head.outputs_end ≡ length outputs + length post

same_head : (head : Head) (a b : ℕ) → head.inputs_end ≡ a → head.outputs_end ≡ b → head ≡ record { transition = head.transition; binding = head.binding; inputs_end = a; outputs_end = b }
same_head head a b one two = ap₂ (λ (x y : ℕ). let h : Head = record { transition = head.transition; binding = head.binding; inputs_end = x; outputs_end = y } in h) one two

pushed_heads : {heads heads' : List Head} {inputs inputs' outputs outputs' pre post : List Cell} {head : Head} → ArePushed heads heads' inputs inputs' outputs outputs' pre post head
    → heads' ≡ heads ++ head_for head.transition head.binding inputs outputs pre post ∷ []
pushed_heads {heads = heads} {inputs = inputs} {outputs = outputs} {pre = pre} {post = post} {head = head} p =
    p.heads_are ∙ ap (λ (h : Head). heads ++ h ∷ []) (same_head head (length inputs + length pre) (length outputs + length post) p.inputs_end p.outputs_end)

pub pushed_in : (heads heads' : List Head) (inputs inputs' outputs outputs' pre post : List Cell) (head : Head) → AreInArrays heads inputs outputs → IsRow pre → IsRow post
    → ArePushed heads heads' inputs inputs' outputs outputs' pre post head → AreInArrays heads' inputs' outputs'
pushed_in heads heads' inputs inputs' outputs outputs' pre post head are is_pre is_post p =
    subst (λ (hs : List Head). AreInArrays hs inputs' outputs') (sym (pushed_heads p))
    (subst (λ (xs : List Cell). AreInArrays (heads ++ head_for head.transition head.binding inputs outputs pre post ∷ []) xs outputs') (sym p.inputs_are)
    (subst (λ (xs : List Cell). AreInArrays (heads ++ head_for head.transition head.binding inputs outputs pre post ∷ []) (inputs ++ pre) xs) (sym p.outputs_are)
    (in_arrays_more heads inputs outputs pre post head.transition head.binding are is_pre is_post)))

pub pushed_is : (heads heads' : List Head) (inputs inputs' outputs outputs' pre post : List Cell) (head : Head) → AreInArrays heads inputs outputs
    → ArePushed heads heads' inputs inputs' outputs outputs' pre post head → instances_in heads' inputs' outputs' ≡ instances_in heads inputs outputs ++ of_parts head pre post ∷ []
pushed_is heads heads' inputs inputs' outputs outputs' pre post head are p =
    ap (λ (hs : List Head). instances_in hs inputs' outputs') (pushed_heads p)
    ∙ ap₂ (instances_in (heads ++ head_for head.transition head.binding inputs outputs pre post ∷ [])) p.inputs_are p.outputs_are
    ∙ instances_more heads inputs outputs pre post head.transition head.binding are

pub instances_none : (heads : List Head) (inputs outputs : List Cell) → heads ≡ [] → instances_in heads inputs outputs ≡ []
unfolding instances_in
instances_none heads inputs outputs none = ap (λ (hs : List Head). instances_in hs inputs outputs) none

pub within_heads : (heads : List Head) (inputs outputs : List Cell) (instances : List Instance) (i : ℕ) → instances_in heads inputs outputs ≡ instances → i < length instances → i < length heads
within_heads heads inputs outputs instances i are within = let count = sym (ap length are) ∙ instances_count heads inputs outputs in omega arith
