-- The file's net means what the unfolded net does.
use Rattle.std.proofs.Common.{◌≡◌, ℕ, zero, suc, ◌+◌, ◌<◌, ◌≤◌, ◌⊎◌, inl, inr, Bool, true, false, List, [], ◌∷◌, ◌++◌, map, filter, length, get_or, refl, sym, ap, subst, ◌∙◌, arith, Some, None, Ok, All}
use Rattle.std.specs.Prelude.{Option, Result, slice_get, slice_index}
use Rattle.std.specs.Str.{bytes_eq}
use Rattle.std.proofs.lemmas.Bool.{cases_lt}
use Rattle.std.proofs.lemmas.List.{ext_get_or}
use Rattle.std.proofs.lemmas.Option.{get_or_from_slice_get, slice_get-get_or, slice_get_within}
use Rattle.wide_sums.specs.declared.rows.Cell.{Cell}
use Rattle.wide_sums.specs.Cells.{IsRow, amount}
use Rattle.wide_sums.proofs.Amounts.{amount-none}
use Rattle.net_model.specs.declared.nets.Net.{Net}
use Rattle.net_model.specs.declared.nets.Transition.{Transition}
use Rattle.pt_net.specs.declared.instances.Instance.{Instance}
use Rattle.pt_net.specs.declared.instances.Side.{Side}
use Rattle.pt_net.specs.declared.instances.Side.TheVariants.{Pre, Post}
use Rattle.pt_net.specs.Firing as place_transition
use Rattle.pt_net.specs.Markings.{IsInRange}
use Rattle.pt_net.specs.Systems as systems
use Rattle.pt_net.specs.Systems.{NetSystem, PtReach}
use Rattle.net_firing.specs.Coloured.{ColouredNet, ColouredPlace, ColouredTransition}
use Rattle.net_firing.specs.FileNets.{arc_of, arcs_from, coloured_net, place_number, place_of, transition_of}
use Rattle.net_firing.specs.Firing.{Reach, put, taken}
use Rattle.net_firing.specs.Markings.{IsMarking, Marking, at_start, place_at}
use Rattle.net_firing.specs.Unfolding.{ArcFault, Candidate, Flat, all_ok, candidates_from, counts, first_undefined, in_front, instance, instance_of, instance_or, instances, is_true, row_of, system_with, unfolding_of}
use Rattle.net_firing.proofs.Firings.{reaches}
use Rattle.net_firing.proofs.Rows.{told}
use Rattle.unfolded_files.specs.Files.{all_arcs, file_net, id_at, transition_with}
use Rattle.unfolded_files.specs.Laws.{AreNamed, HaveRows, MeansTheSame, read, renumbered, renumbered_from}
use Rattle.unfolded_files.proofs.Reading.{count_inside, count_past, dots, long_counts, numbered, read_places, start_inside}
use Rattle.unfolded_files.proofs.Sums.{AreInRange, AreNumbered, IsApart, none_undefined, put_all, taken_all}

abbrev itself : List ℕ → List ℕ
itself node = node

-- a transition as it is read
abbrev plain : Net → List ℕ → ColouredTransition
plain net t = record { sizes = []; guard = λ _. true; arcs = map (arc_of net []) (arcs_from itself t 0 net.arcs) }

abbrev plains : Net → List (List ℕ) → List ColouredTransition
plains net ts = map (transition_of itself net) (map transition_with ts)

-- the row of the counts of a side is that of the instance
row_is : (net : ColouredNet) (initial : List ℕ) (f : ℕ → ℕ → ℕ) (row : List Cell) → net.places ≡ map dots initial → IsRow row → IsInRange (length initial) row
    → ((p : ℕ) → f p 0 ≡ amount p row) → row_of (counts net f) ≡ row
row_is net initial f row is known inside same = sym (told (counts net f) row known (λ p. elim (cases_lt p (length initial)) [
  | inl low ↦ sym (same p) ∙ sym (count_inside net initial f p is low)
  | inr high ↦
      amount-none p row (λ k d within equal. let below : (get_or row k d).at < length initial = inside k d within in absurd (omega (arith, below, high, equal)))
      ∙ sym (count_past net initial f p is high)
]))

-- what each transition makes
record IsGood (net : ColouredNet) (file : Net) (t : List ℕ) (i : Instance) : Type 0 where
  pre : row_of (counts net (taken (plain file t) [])) ≡ i.pre
  post : row_of (counts net (put (plain file t) [])) ≡ i.post
  defined : first_undefined (plain file t).arcs [] ≡ None

abbrev single : ℕ → Instance → Instance
single at i = record { transition = at; binding = 0; pre = i.pre; post = i.post }

abbrev candidate : Net → ℕ → List ℕ → Candidate
candidate file at t = record { transition = at; number = 0; rule = plain file t; binding = [] }

one_made : (net : ColouredNet) (file : Net) (at : ℕ) (t : List ℕ) (i : Instance) → IsGood net file t i → instance_of net (candidate file at t) ≡ Ok (single at i)
one_made net file at t i good =
    ap (instance_or (candidate file at t) (instance net (candidate file at t))) good.defined
    ∙ ap (λ (row : List Cell). let made : Result Instance ArcFault = Ok (record { transition = at; binding = 0; pre = row; post = row_of (counts net (put (plain file t) [])) }) in made) good.pre
    ∙ ap (λ (row : List Cell). let made : Result Instance ArcFault = Ok (record { transition = at; binding = 0; pre = i.pre; post = row }) in made) good.post

-- a net whose file has no variables
record HasNoVariables (net : ColouredNet) (file : Net) : Type 0 where
  is : (t : List ℕ) → transition_of itself file (transition_with t) ≡ plain file t

candidates_are : (net : ColouredNet) (file : Net) (at : ℕ) (ts : List (List ℕ)) → HasNoVariables net file → plains file ts ≡ map (plain file) ts
candidates_are net file at [] none = refl
candidates_are net file at (t ∷ ts) none = ap (λ (r : ColouredTransition). r ∷ plains file ts) (none.is t) ∙ ap (λ (rs : List ColouredTransition). plain file t ∷ rs) (candidates_are net file at ts none)

all_made : (net : ColouredNet) (file : Net) (at : ℕ) (ts : List (List ℕ)) (is : List Instance) → length ts ≡ length is
    → ((k : ℕ) (t : List ℕ) (i : Instance) → slice_get ts k ≡ Some t → slice_get is k ≡ Some i → IsGood net file t i)
    → all_ok (map (instance_of net) (filter is_true (candidates_from at (map (plain file) ts)))) ≡ Ok (renumbered_from at is)
all_made net file at [] [] long good = refl
all_made net file at [] (i ∷ is) long good = absurd (omega (arith, long))
all_made net file at (t ∷ ts) [] long good = absurd (omega (arith, long))
all_made net file at (t ∷ ts) (i ∷ is) long good =
    let rest = all_made net file (at + 1) ts is (omega (arith, long)) (λ k. good (suc k)) in
    ap (λ (first : Result Instance ArcFault). all_ok (first ∷ map (instance_of net) (filter is_true (candidates_from (at + 1) (map (plain file) ts))))) (one_made net file at t i (good 0 t i refl refl))
    ∙ ap (in_front (single at i)) rest

both_in_range : (ids : List (List ℕ)) (u : NetSystem) → length ids ≡ length u.initial → HaveRows u → All (AreInRange ids) u.instances
both_in_range ids u long rows k d within = (
  subst (λ n. IsInRange n (get_or u.instances k d).pre) (sym long) (rows.inputs_in_range k d within),
  subst (λ n. IsInRange n (get_or u.instances k d).post) (sym long) (rows.outputs_in_range k d within),
)

pub unfolds : (id : List ℕ) (places transitions : List (List ℕ)) (u : NetSystem) → AreNamed places transitions u → HaveRows u → unfolding_of (read id places transitions u) ≡ Ok (renumbered u)
unfolds id places transitions u named rows =
    let file = file_net id places transitions u in
    let net = read id places transitions u in
    let are : net.places ≡ map dots u.initial = read_places file places u.initial named.each_place in
    let has_numbers : AreNumbered file places = λ p inside. numbered id places transitions u p named inside in
    let good : (k : ℕ) (t : List ℕ) (i : Instance) → slice_get transitions k ≡ Some t → slice_get u.instances k ≡ Some i → IsGood net file t i = λ k t i here there.
    (let apart : IsApart places t = subst (IsApart places) (get_or_from_slice_get transitions k t t here) (named.apart k t (slice_get_within transitions k t here)) in
    let at : get_or u.instances k i ≡ i = get_or_from_slice_get u.instances k i i there in
    let within = slice_get_within u.instances k i there in
    let ranges = both_in_range places u named.each_place rows in
    record {
      pre = row_is net u.initial (taken (plain file t) []) i.pre are (subst (λ (j : Instance). IsRow j.pre) at (rows.inputs k i within)) (subst (λ (j : Instance). IsInRange (length u.initial) j.pre) at (rows.inputs_in_range k i within))
          (λ p. taken_all file places p transitions u.instances k t i has_numbers apart named.transitions_differ ranges here there);
      post = row_is net u.initial (put (plain file t) []) i.post are (subst (λ (j : Instance). IsRow j.post) at (rows.outputs k i within)) (subst (λ (j : Instance). IsInRange (length u.initial) j.post) at (rows.outputs_in_range k i within))
          (λ p. put_all file places p transitions u.instances k t i has_numbers apart named.transitions_differ ranges here there);
      defined = none_undefined file t places transitions u.instances;
    }) in
    let none : HasNoVariables net file = record { is = λ t. refl } in
    let made : instances net ≡ Ok (renumbered_from 0 u.instances) =
    ap (λ (rs : List ColouredTransition). all_ok (map (instance_of net) (filter is_true (candidates_from 0 rs)))) (candidates_are net file 0 transitions none)
    ∙ all_made net file 0 transitions u.instances named.each_transition good in
    let first : counts net (at_start net) ≡ u.initial = starts net u.initial are in
    ap (system_with (counts net (at_start net))) made
    ∙ ap (λ (xs : List ℕ). let s : Result NetSystem ArcFault = Ok (record { initial = xs; instances = renumbered_from 0 u.instances }) in s) first
  where
    starts : (net : ColouredNet) (initial : List ℕ) → net.places ≡ map dots initial → counts net (at_start net) ≡ initial
    starts net initial is = ext_get_or 0 (counts net (at_start net)) initial (long_counts net initial (at_start net) is) (λ p inside.
        (let low : p < length initial = omega (arith, inside, long_counts net initial (at_start net) is) in
        count_inside net initial (at_start net) p is low ∙ ap (λ (ps : List ColouredPlace). (place_at ps p).initial 0) is ∙ start_inside initial p low))

-- instances under new numbers fire as before
same_rows_at : (at : ℕ) (is : List Instance) (k : ℕ) → let d : Instance = record { transition = 0; binding = 0; pre = []; post = [] } in
    ((get_or (renumbered_from at is) k d).pre ≡ (get_or is k d).pre) × ((get_or (renumbered_from at is) k d).post ≡ (get_or is k d).post)
same_rows_at at [] k = (refl, refl)
same_rows_at at (i ∷ is) zero = (refl, refl)
same_rows_at at (i ∷ is) (suc k) = same_rows_at (at + 1) is k

long_renumbered : (at : ℕ) (is : List Instance) → length (renumbered_from at is) ≡ length is
long_renumbered at [] = refl
long_renumbered at (i ∷ is) = ap suc (long_renumbered (at + 1) is)

fires_same : (s t : Instance) (old new : List ℕ) → s.pre ≡ t.pre → s.post ≡ t.post → place_transition.Fires old s new → place_transition.Fires old t new
fires_same s t old new pre post fires = record {
  enabled = λ p. subst (λ row. amount p row ≤ slice_index old p) pre (fires.enabled p);
  as_long = fires.as_long;
  moved = λ p. subst (λ row. slice_index new p + amount p row ≡ slice_index old p + amount p t.post) pre
      (subst (λ row. slice_index new p + amount p s.pre ≡ slice_index old p + amount p row) post (fires.moved p));
}

run_to : (u : NetSystem) (is old new : List ℕ) → systems.Run u old is new → systems.Run (renumbered u) old is new
run_to u [] old new same = same
run_to u (i ∷ is) old new (inside, (mid, (fires, run))) =
    let rows = same_rows_at 0 u.instances i in (
      omega (arith, inside, long_renumbered 0 u.instances),
      (mid, (fires_same (systems.instance_at u i) (systems.instance_at (renumbered u) i) old mid (sym rows.0) (sym rows.1) fires, run_to u is mid new run)),
    )

run_from : (u : NetSystem) (is old new : List ℕ) → systems.Run (renumbered u) old is new → systems.Run u old is new
run_from u [] old new same = same
run_from u (i ∷ is) old new (inside, (mid, (fires, run))) =
    let rows = same_rows_at 0 u.instances i in (
      omega (arith, inside, long_renumbered 0 u.instances),
      (mid, (fires_same (systems.instance_at (renumbered u) i) (systems.instance_at u i) old mid rows.0 rows.1 fires, run_from u is mid new run)),
    )

pub means : (id : List ℕ) (places transitions : List (List ℕ)) (u : NetSystem) → AreNamed places transitions u → HaveRows u → MeansTheSame id places transitions u
means id places transitions u named rows =
    let net = read id places transitions u in
    let is : unfolding_of net ≡ Ok (renumbered u) = unfolds id places transitions u named rows in
    let both = reaches net (renumbered u) is in
    record {
      unfolds = is;
      reaches = λ xs (reach : PtReach u xs). both.counts xs (reach.0, run_to u reach.0 u.initial xs reach.1);
      reached = λ m reach.
          (let there : PtReach (renumbered u) (Flat net m) = (both.unfolded m reach).1 in
          (there.0, run_from u there.0 u.initial (Flat net m) there.1));
    }
