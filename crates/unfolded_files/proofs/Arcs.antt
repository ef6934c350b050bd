-- The ids of all nodes and arcs of a file's net.
use Rattle.std.proofs.Common.{◌≡◌, ℕ, zero, suc, ◌+◌, ◌<◌, ◌≤◌, ◌^◌, Bool, true, false, List, [], ◌∷◌, ◌++◌, map, length, get_or, refl, sym, ap, subst, ◌∙◌, arith, All, sum_by}
use Rattle.std.specs.List.{AllByRecursion, IsDistinct}
use Rattle.std.specs.Str.{bytes_eq}
use Rattle.std.proofs.lemmas.List.{map-append}
use Rattle.std.proofs.lemmas.List.Elements.{All-append, All-from_recursion, recursion_from_All}
use Rattle.std.proofs.lemmas.List.Sums.{sum_by-cons}
use Rattle.std.proofs.lemmas.Map.Keys.{IsDistinct-cons}
use Rattle.wide_sums.specs.declared.rows.Cell.{Cell}
use Rattle.name_tables.specs.Grammar.{is_id_text}
use Rattle.net_model.specs.Ids.{node_ids}
use Rattle.net_model.specs.declared.nets.Arc.{Arc}
use Rattle.net_model.specs.declared.nets.Place.{Place}
use Rattle.net_model.specs.declared.nets.Transition.{Transition}
use Rattle.pt_net.specs.declared.instances.Instance.{Instance}
use Rattle.pt_net.specs.Systems.{IsSystem, NetSystem}
use Rattle.unfolded_files.specs.Files.{all_arcs, arc_id, arcs_of, file_net, input_arc, instance_id, numbered_arcs, output_arc, places_with, transition_with}
use Rattle.unfolded_files.specs.Ids.{AreInstanceIds, HasNodeIds, IsInstanceId}
use Rattle.unfolded_files.specs.Laws.{AreNamed}
use Rattle.unfolded_files.proofs.Reading.{ids_of}
use Rattle.unfolded_files.proofs.Texts.{arc_apart, arc_is_id, arc_number, distinct_both, not_same, told_apart}

-- ids of arcs whose numbers rise, from one on and below another
abbrev Rise : ℕ → ℕ → List (List ℕ) → Type 0
Rise low high [] = Unit {0}
Rise low high (id ∷ ids) = (m : ℕ) × ((id ≡ arc_id m) × ((low ≤ m) × ((m < high) × Rise (m + 1) high ids)))

from_lower : (low first high : ℕ) (ids : List (List ℕ)) → low ≤ first → Rise first high ids → Rise low high ids
from_lower low first high [] le rise = tt
from_lower low first high (id ∷ ids) le (m, (is, (over, (under, rest)))) = (m, (is, (omega (arith, le, over), (under, rest))))

to_higher : (low high top : ℕ) (ids : List (List ℕ)) → high ≤ top → Rise low high ids → Rise low top ids
to_higher low high top [] le rise = tt
to_higher low high top (id ∷ ids) le (m, (is, (over, (under, rest)))) = (m, (is, (over, (omega (arith, le, under), to_higher (m + 1) high top ids le rest))))

rise_both : (low middle high : ℕ) (xs ys : List (List ℕ)) → low ≤ middle → middle ≤ high → Rise low middle xs → Rise middle high ys → Rise low high (xs ++ ys)
rise_both low middle high [] ys le more one two = from_lower low middle high ys le two
rise_both low middle high (x ∷ xs) ys le more (m, (is, (over, (under, rest)))) two =
    (m, (is, (over, (omega (arith, more, under), rise_both (m + 1) middle high xs ys (omega (arith, under)) more rest two))))

abbrev ids_of_arcs : List Arc → List (List ℕ)
ids_of_arcs arcs = map (λ (a : Arc). a.id) arcs

inputs_rise : (ids : List (List ℕ)) (t : List ℕ) (number high : ℕ) (cells : List Cell) → number + length cells ≤ high → Rise number high (ids_of_arcs (numbered_arcs (input_arc ids t) number cells))
inputs_rise ids t number high [] le = tt
inputs_rise ids t number high (c ∷ cs) le = (number, (refl, (omega arith, (omega (arith, le), inputs_rise ids t (number + 1) high cs (omega (arith, le))))))

outputs_rise : (ids : List (List ℕ)) (t : List ℕ) (number high : ℕ) (cells : List Cell) → number + length cells ≤ high → Rise number high (ids_of_arcs (numbered_arcs (output_arc ids t) number cells))
outputs_rise ids t number high [] le = tt
outputs_rise ids t number high (c ∷ cs) le = (number, (refl, (omega arith, (omega (arith, le), outputs_rise ids t (number + 1) high cs (omega (arith, le))))))

abbrev next_number : ℕ → Instance → ℕ
next_number number i = number + length i.pre + length i.post

block_rises : (ids : List (List ℕ)) (t : List ℕ) (number : ℕ) (i : Instance) → Rise number (next_number number i) (ids_of_arcs (arcs_of ids t number i))
block_rises ids t number i =
    subst (Rise number (next_number number i)) (sym (map-append (λ (a : Arc). a.id) (numbered_arcs (input_arc ids t) number i.pre) (numbered_arcs (output_arc ids t) (number + length i.pre) i.post)))
    (rise_both number (number + length i.pre) (next_number number i) (ids_of_arcs (numbered_arcs (input_arc ids t) number i.pre)) (ids_of_arcs (numbered_arcs (output_arc ids t) (number + length i.pre) i.post))
    (omega arith) (omega arith) (inputs_rise ids t number (number + length i.pre) i.pre (omega arith)) (outputs_rise ids t (number + length i.pre) (next_number number i) i.post (omega arith)))

abbrev cells_in : List Instance → ℕ
cells_in is = sum_by (λ (t : Instance). length t.pre) is + sum_by (λ (t : Instance). length t.post) is

all_rise : (ids : List (List ℕ)) (number high : ℕ) (ts : List (List ℕ)) (is : List Instance) → number + cells_in is ≤ high → Rise number high (ids_of_arcs (all_arcs ids number ts is))
all_rise ids number high [] is le = tt
all_rise ids number high (t ∷ ts) [] le = tt
all_rise ids number high (t ∷ ts) (i ∷ is) le =
    let inputs = sum_by-cons (λ (t : Instance). length t.pre) i is in
    let outputs = sum_by-cons (λ (t : Instance). length t.post) i is in
    subst (Rise number high) (sym (map-append (λ (a : Arc). a.id) (arcs_of ids t number i) (all_arcs ids (next_number number i) ts is)))
    (rise_both number (next_number number i) high (ids_of_arcs (arcs_of ids t number i)) (ids_of_arcs (all_arcs ids (next_number number i) ts is))
    (omega arith) (omega (arith, le, inputs, outputs)) (block_rises ids t number i) (all_rise ids (next_number number i) high ts is (omega (arith, le, inputs, outputs))))

-- such ids are ids, that differ from each other and from those of instances
rise_apart : (n low high : ℕ) (ids : List (List ℕ)) → n < low → high ≤ 2 ^ 64 → Rise low high ids → AllByRecursion (λ y. bytes_eq (arc_id n) y ≡ false) ids
rise_apart n low high [] before le rise = tt
rise_apart n low high (id ∷ ids) before le (m, (is, (over, (under, rest)))) = (
  ap (bytes_eq (arc_id n)) is ∙ told_apart (arc_id n) (arc_id m) (λ same. absurd (omega (arith, before, over, arc_number n m (omega (arith, before, over, under, le)) (omega (arith, under, le)) same))),
  rise_apart n (m + 1) high ids (omega (arith, before, over)) le rest,
)

none_distinct : IsDistinct bytes_eq []
unfolding IsDistinct
none_distinct = tt

rise_distinct : (low high : ℕ) (ids : List (List ℕ)) → high ≤ 2 ^ 64 → Rise low high ids → IsDistinct bytes_eq ids
rise_distinct low high [] le rise = none_distinct
rise_distinct low high (id ∷ ids) le (m, (is, (over, (under, rest)))) =
    IsDistinct-cons bytes_eq id ids (subst (λ x. AllByRecursion (λ y. bytes_eq x y ≡ false) ids) (sym is) (rise_apart m (m + 1) high ids (omega arith) le rest)) (rise_distinct (m + 1) high ids le rest)

rise_ids : (low high : ℕ) (ids : List (List ℕ)) → high ≤ 2 ^ 64 → Rise low high ids → AllByRecursion (λ id. is_id_text id ≡ true) ids
rise_ids low high [] le rise = tt
rise_ids low high (id ∷ ids) le (m, (is, (over, (under, rest)))) = (ap is_id_text is ∙ arc_is_id m (omega (arith, under, le)), rise_ids (m + 1) high ids le rest)

instance_apart : (x : List ℕ) (low high : ℕ) (ids : List (List ℕ)) → IsInstanceId x → high ≤ 2 ^ 64 → Rise low high ids → AllByRecursion (λ y. bytes_eq x y ≡ false) ids
instance_apart x low high [] dotted le rise = tt
instance_apart x low high (id ∷ ids) dotted le (m, (is, (over, (under, rest)))) =
    (told_apart x id (λ same. arc_apart dotted.0 dotted.1.0 m (omega (arith, under, le)) (sym dotted.1.1 ∙ same ∙ is)), instance_apart x (m + 1) high ids dotted le rest)

all_apart : (xs : List (List ℕ)) (low high : ℕ) (ids : List (List ℕ)) → AllByRecursion IsInstanceId xs → high ≤ 2 ^ 64 → Rise low high ids → AllByRecursion (λ x. AllByRecursion (λ y. bytes_eq x y ≡ false) ids) xs
all_apart [] low high ids dotted le rise = tt
all_apart (x ∷ xs) low high ids dotted le rise = (instance_apart x low high ids dotted.0 le rise, all_apart xs low high ids dotted.1 le rise)

-- places and transitions, the one way and the other
turned : (x : List ℕ) (ts : List (List ℕ)) → AllByRecursion (λ t. bytes_eq t x ≡ false) ts → AllByRecursion (λ y. bytes_eq x y ≡ false) ts
turned x [] apart = tt
turned x (t ∷ ts) apart = (told_apart x t (λ same. not_same t x apart.0 (sym same)), turned x ts apart.1)

across : (xs ts : List (List ℕ)) → AllByRecursion (λ t. AllByRecursion (λ p. bytes_eq t p ≡ false) xs) ts → AllByRecursion (λ x. AllByRecursion (λ y. bytes_eq x y ≡ false) ts) xs
across [] ts apart = tt
across (x ∷ xs) ts apart = (turned x ts (heads x xs ts apart), across xs ts (tails x xs ts apart))
  where
    heads : (x : List ℕ) (xs ts : List (List ℕ)) → AllByRecursion (λ t. AllByRecursion (λ p. bytes_eq t p ≡ false) (x ∷ xs)) ts → AllByRecursion (λ t. bytes_eq t x ≡ false) ts
    heads x xs [] apart = tt
    heads x xs (t ∷ ts) apart = (apart.0.0, heads x xs ts apart.1)

    tails : (x : List ℕ) (xs ts : List (List ℕ)) → AllByRecursion (λ t. AllByRecursion (λ p. bytes_eq t p ≡ false) (x ∷ xs)) ts → AllByRecursion (λ t. AllByRecursion (λ p. bytes_eq t p ≡ false) xs) ts
    tails x xs [] apart = tt
    tails x xs (t ∷ ts) apart = (apart.0.1, tails x xs ts apart.1)

both_apart : (xs ts arcs : List (List ℕ)) → AllByRecursion (λ x. AllByRecursion (λ y. bytes_eq x y ≡ false) ts) xs → AllByRecursion (λ x. AllByRecursion (λ y. bytes_eq x y ≡ false) arcs) xs
    → AllByRecursion (λ x. AllByRecursion (λ y. bytes_eq x y ≡ false) (ts ++ arcs)) xs
both_apart [] ts arcs one two = tt
both_apart (x ∷ xs) ts arcs one two = (joined ts one.0 two.0, both_apart xs ts arcs one.1 two.1)
  where
    joined : (us : List (List ℕ)) → AllByRecursion (λ y. bytes_eq x y ≡ false) us → AllByRecursion (λ y. bytes_eq x y ≡ false) arcs → AllByRecursion (λ y. bytes_eq x y ≡ false) (us ++ arcs)
    joined [] p q = q
    joined (u ∷ us) p q = (p.0, joined us p.1 q)

ids_of_transitions : (ts : List (List ℕ)) → map (λ (t : Transition). t.id) (map transition_with ts) ≡ ts
ids_of_transitions [] = refl
ids_of_transitions (t ∷ ts) = ap (λ xs. t ∷ xs) (ids_of_transitions ts)

recursive_apart : (places ts : List (List ℕ)) → All (λ t. All (λ p. bytes_eq t p ≡ false) places) ts → AllByRecursion (λ t. AllByRecursion (λ p. bytes_eq t p ≡ false) places) ts
recursive_apart places ts apart = recursion_from_All (λ t. AllByRecursion (λ p. bytes_eq t p ≡ false) places) ts (λ k d within. recursion_from_All (λ p. bytes_eq (get_or ts k d) p ≡ false) places (apart k d within))

-- no references stand between
regroup : (a b c : List (List ℕ)) → a ++ b ++ [] ++ c ≡ a ++ (b ++ c)
regroup [] [] c = refl
regroup [] (x ∷ b) c = ap (λ xs. x ∷ xs) (regroup [] b c)
regroup (x ∷ a) b c = ap (λ xs. x ∷ xs) (regroup a b c)

pub nodes : (id : List ℕ) (places transitions : List (List ℕ)) (u : NetSystem) → IsSystem u → AreNamed places transitions u → AreInstanceIds places → AreInstanceIds transitions → HasNodeIds (file_net id places transitions u)
nodes id places transitions u system named own theirs =
    let arcs = ids_of_arcs (all_arcs places 0 transitions u.instances) in
    let few = system.inputs in
    let also = system.outputs in
    let rise : Rise 0 (2 ^ 64) arcs = all_rise places 0 (2 ^ 64) transitions u.instances (omega (arith, few, also)) in
    let listed : node_ids (file_net id places transitions u) ≡ places ++ (transitions ++ arcs) =
    regroup (map (λ (p : Place). p.id) (places_with places u.initial)) (map (λ (t : Transition). t.id) (map transition_with transitions)) arcs
    ∙ ap (λ xs. xs ++ (map (λ (t : Transition). t.id) (map transition_with transitions) ++ arcs)) (ids_of places u.initial named.each_place)
    ∙ ap (λ xs. places ++ (xs ++ arcs)) (ids_of_transitions transitions) in
    let behind : IsDistinct bytes_eq (transitions ++ arcs) =
    distinct_both transitions arcs named.transitions_differ (rise_distinct 0 (2 ^ 64) arcs (omega arith) rise) (all_apart transitions 0 (2 ^ 64) arcs (recursion_from_All IsInstanceId transitions theirs.dotted) (omega arith) rise) in
    record {
      texts = subst (All (λ id. is_id_text id ≡ true)) (sym listed)
          (All-append (λ id. is_id_text id ≡ true) places (transitions ++ arcs) own.texts
          (All-append (λ id. is_id_text id ≡ true) transitions arcs theirs.texts (All-from_recursion (λ id. is_id_text id ≡ true) arcs (rise_ids 0 (2 ^ 64) arcs (omega arith) rise))));
      differ = subst (IsDistinct bytes_eq) (sym listed)
          (distinct_both places (transitions ++ arcs) named.places_differ behind
          (both_apart places transitions arcs (across places transitions (recursive_apart places transitions named.apart))
          (all_apart places 0 (2 ^ 64) arcs (recursion_from_All IsInstanceId places own.dotted) (omega arith) rise)));
    }
