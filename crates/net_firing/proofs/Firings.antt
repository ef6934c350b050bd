-- Coloured firings and those of the unfolded net.
use Rattle.std.proofs.Common.{◌≡◌, ℕ, zero, suc, ◌+◌, ◌<◌, ◌≤◌, ◌⊎◌, inl, inr, Bool, true, false, List, [], ◌∷◌, map, length, refl, sym, ap, subst, ◌∙◌, arith, Some, Ok}
use Rattle.std.specs.Prelude.{slice_get, slice_index}
use Rattle.std.proofs.lemmas.Bool.{cases_lt}
use Rattle.std.proofs.lemmas.Option.{slice_get_within}
use Rattle.wide_sums.specs.Cells.{amount}
use Rattle.pt_net.specs.declared.instances.Instance.{Instance}
use Rattle.pt_net.specs.Firing as place_transition
use Rattle.pt_net.specs.Instances.{IsBefore, origin_of}
use Rattle.pt_net.specs.Systems as systems
use Rattle.pt_net.specs.Systems.{NetSystem, PtReach}
use Rattle.bindings.specs.Listed.{IsBinding, bindings, digits, number_of, product}
use Rattle.bindings.proofs.Digits.{digits-stand, found-binds, length-bindings, number-digits, number-stands}
use Rattle.net_firing.specs.Coloured.{ColouredNet, ColouredTransition}
use Rattle.net_firing.specs.Firing.{Fires, FiresAt, IsMode, Mode, Reach, Run, are_defined, put, taken}
use Rattle.net_firing.specs.Laws.{ComeFrom, ComesFrom, FiringsCorrespond, ModesAreNumbered, ReachesCorrespond, RunsCorrespond, start_of}
use Rattle.net_firing.specs.Markings.{HasColour, IsMarking, Marking, initial, pairs, tokens}
use Rattle.net_firing.specs.Unfolding.{Candidate, Flat, counts, instance, row_of, unfolding_of}
use Rattle.net_firing.proofs.Listed.{HasCandidate, HasInstance, IsMade, candidate_of, instance_from, parts_of}
use Rattle.net_firing.proofs.Lists.{same_some}
use Rattle.net_firing.proofs.Maps.{one_flat, some_flat, starts}
use Rattle.net_firing.proofs.Places.{at_each, index_at, many, past_all}
use Rattle.net_firing.proofs.Rising.{origins_rise}
use Rattle.net_firing.proofs.Rows.{amounts}

-- a binding has one number
number_is : (sizes : List ℕ) (n : ℕ) (b : List ℕ) → slice_get (bindings sizes) n ≡ Some b → number_of sizes b ≡ n
number_is sizes n b e =
    let within : n < product sizes = (let low = slice_get_within (bindings sizes) n b e in omega (arith, low, length-bindings sizes)) in
    ap (number_of sizes) (same_some b (digits sizes n) (sym e ∙ digits-stand sizes n within)) ∙ number-digits sizes n within

one_number : (sizes : List ℕ) (m n : ℕ) (b : List ℕ) → slice_get (bindings sizes) m ≡ Some b → slice_get (bindings sizes) n ≡ Some b → m ≡ n
one_number sizes m n b first second = sym (number_is sizes m b first) ∙ number_is sizes n b second

-- an instance from a transition and a binding, with its candidate
record HasMode (net : ColouredNet) (u : NetSystem) (i : ℕ) (mode : Mode) : Type 0 where
  transition : ColouredTransition
  rule : slice_get net.transitions mode.transition ≡ Some transition
  is_mode : IsMode transition mode.binding
  defined : are_defined transition mode.binding ≡ true
  pre : (systems.instance_at u i).pre ≡ row_of (counts net (taken transition mode.binding))
  post : (systems.instance_at u i).post ≡ row_of (counts net (put transition mode.binding))

mode_of : (net : ColouredNet) (u : NetSystem) (i : ℕ) (mode : Mode) → unfolding_of net ≡ Ok u → ComesFrom net u i mode → HasMode net u i mode
mode_of net u i mode e comes =
    let from = candidate_of net u i e comes.there in
    let c = from.candidate in
    let is : instance net c ≡ systems.instance_at u i = from.is_made.is in
    let at : c.transition ≡ mode.transition = ap (λ (t : Instance). t.transition) is ∙ comes.transition in
    let number : c.number ≡ (systems.instance_at u i).binding = ap (λ (t : Instance). t.binding) is in
    let place : from.is_candidate.at ≡ mode.transition = (let is = from.is_candidate.place in omega (arith, is, at)) in
    let rule : slice_get net.transitions mode.transition ≡ Some c.rule = subst (λ n. slice_get net.transitions n ≡ Some c.rule) place from.is_candidate.rule in
    let own = subst (λ n. slice_get (bindings c.rule.sizes) n ≡ Some c.binding) number from.is_candidate.binding in
    let binding : c.binding ≡ mode.binding = same_some c.binding mode.binding (sym own ∙ comes.binding c.rule rule) in
    record {
      transition = c.rule;
      rule = rule;
      is_mode = record {
        bound = subst (IsBinding c.rule.sizes) binding (found-binds c.rule.sizes c.number c.binding from.is_candidate.binding);
        guarded = ap c.rule.guard (sym binding) ∙ from.guarded;
      };
      defined = ap (are_defined c.rule) (sym binding) ∙ from.is_made.defined;
      pre = ap (λ (t : Instance). t.pre) (sym is) ∙ ap (λ b. row_of (counts net (taken c.rule b))) binding;
      post = ap (λ (t : Instance). t.post) (sym is) ∙ ap (λ b. row_of (counts net (put c.rule b))) binding;
    }

-- each mode has an instance
mode_instance : (net : ColouredNet) (u : NetSystem) (mode : Mode) (t : ColouredTransition) → unfolding_of net ≡ Ok u → slice_get net.transitions mode.transition ≡ Some t → IsMode t mode.binding
    → (i : ℕ) × ComesFrom net u i mode
mode_instance net u mode t e rule is_mode =
    let n = number_of t.sizes mode.binding in
    let bound = number-stands t.sizes mode.binding is_mode.bound in
    let made = instance_from net u mode.transition n t mode.binding e rule bound is_mode.guarded in (
      made.at,
      record {
        there = made.inside;
        transition = ap (λ (s : Instance). s.transition) (sym made.is);
        binding = λ other other_rule.
            subst (λ m. slice_get (bindings other.sizes) m ≡ Some mode.binding) (ap (λ (s : Instance). s.binding) made.is)
            (subst (λ (r : ColouredTransition). slice_get (bindings r.sizes) n ≡ Some mode.binding) (same_some t other (sym rule ∙ other_rule)) bound);
      },
    )

-- each instance has a mode
instance_mode : (net : ColouredNet) (u : NetSystem) (i : ℕ) → unfolding_of net ≡ Ok u → i < length u.instances
    → (mode : Mode) × ((t : ColouredTransition) × ((slice_get net.transitions mode.transition ≡ Some t) × (IsMode t mode.binding × ComesFrom net u i mode)))
instance_mode net u i e inside =
    let from = candidate_of net u i e inside in
    let c = from.candidate in
    let is : instance net c ≡ systems.instance_at u i = from.is_made.is in
    let place : from.is_candidate.at ≡ c.transition = (let is = from.is_candidate.place in omega (arith, is)) in
    let rule : slice_get net.transitions c.transition ≡ Some c.rule = subst (λ n. slice_get net.transitions n ≡ Some c.rule) place from.is_candidate.rule in
    let mode : Mode = record { transition = c.transition; binding = c.binding } in (
      mode,
      (
        c.rule,
        (
          rule,
          (
            record { bound = found-binds c.rule.sizes c.number c.binding from.is_candidate.binding; guarded = from.guarded },
            record {
              there = inside;
              transition = ap (λ (s : Instance). s.transition) (sym is);
              binding = λ other other_rule.
                  subst (λ m. slice_get (bindings other.sizes) m ≡ Some c.binding) (ap (λ (s : Instance). s.binding) is)
                  (subst (λ (r : ColouredTransition). slice_get (bindings r.sizes) c.number ≡ Some c.binding) (same_some c.rule other (sym rule ∙ other_rule)) from.is_candidate.binding);
            },
          ),
        ),
      ),
    )

-- and only one
not_before : (net : ColouredNet) (u : NetSystem) (i j : ℕ) (mode : Mode) (t : ColouredTransition) → unfolding_of net ≡ Ok u → slice_get net.transitions mode.transition ≡ Some t → ComesFrom net u i mode → ComesFrom net u j mode → j ≤ i
not_before net u i j mode t e rule first second = elim (cases_lt i j) [
  | inl low ↦
      let d : Instance = record { transition = 0; binding = 0; pre = []; post = [] } in
      let before : IsBefore (origin_of (systems.instance_at u i)) (origin_of (systems.instance_at u j)) = origins_rise net u e i j d low second.there in
      let same = one_number t.sizes (systems.instance_at u i).binding (systems.instance_at u j).binding mode.binding (first.binding t rule) (second.binding t rule) in
      let less = before.binding (first.transition ∙ sym second.transition) in
      absurd (omega (arith, same, less))
  | inr high ↦ high
]

pub numbered_modes : (net : ColouredNet) (u : NetSystem) → unfolding_of net ≡ Ok u → ModesAreNumbered net u
numbered_modes net u e = record {
  some = λ mode t rule is_mode. mode_instance net u mode t e rule is_mode;
  one = λ i j mode t rule first second.
      (let low = not_before net u i j mode t e rule first second in
      let high = not_before net u j i mode t e rule second first in
      omega (arith, low, high));
  origin = λ i inside. instance_mode net u i e inside;
  rising = origins_rise net u e;
}

-- the amounts of the row of some counts, at each place instance and past all
amount_at : (net : ColouredNet) (f : ℕ → ℕ → ℕ) (p k : ℕ) → HasColour net p k → amount (start_of net p + k) (row_of (counts net f)) ≡ f p k
amount_at net f p k has = amounts (counts net f) (start_of net p + k) ∙ index_at net f p k has

amount_past : (net : ColouredNet) (f : ℕ → ℕ → ℕ) (i : ℕ) → length (pairs net) ≤ i → amount i (row_of (counts net f)) ≡ 0
amount_past net f i high = amounts (counts net f) i ∙ past_all net f i high

-- a firing of the rows of some counts is one at each place and colour
record FiresEach (net : ColouredNet) (old new : Marking) (pre post : ℕ → ℕ → ℕ) : Type 0 where
  enabled : (p k : ℕ) → HasColour net p k → pre p k ≤ tokens old p k
  fired : (p k : ℕ) → HasColour net p k → tokens new p k + pre p k ≡ tokens old p k + post p k

flat_firing : (net : ColouredNet) (old new : Marking) (pre post : ℕ → ℕ → ℕ) (made : Instance) → made.pre ≡ row_of (counts net pre) → made.post ≡ row_of (counts net post)
    → FiresEach net old new pre post → place_transition.Fires (Flat net old) made (Flat net new)
flat_firing net old new pre post made first second each = record {
  enabled = λ i. subst (λ row. amount i row ≤ slice_index (Flat net old) i) (sym first)
      (at_each net (λ i. amount i (row_of (counts net pre)) ≤ slice_index (Flat net old) i)
      (λ p k has. (let enough = each.enabled p k has in omega (arith, enough, amount_at net pre p k has, index_at net (tokens old) p k has)))
      (λ i high. omega (arith, amount_past net pre i high)) i);
  as_long = many net (tokens new) ∙ sym (many net (tokens old));
  moved = λ i. subst (λ row. slice_index (Flat net new) i + amount i row ≡ slice_index (Flat net old) i + amount i made.post) (sym first)
      (subst (λ row. slice_index (Flat net new) i + amount i (row_of (counts net pre)) ≡ slice_index (Flat net old) i + amount i row) (sym second)
      (at_each net (λ i. slice_index (Flat net new) i + amount i (row_of (counts net pre)) ≡ slice_index (Flat net old) i + amount i (row_of (counts net post)))
      (λ p k has.
      (let is = each.fired p k has in
      omega (arith, is, amount_at net pre p k has, amount_at net post p k has, index_at net (tokens old) p k has, index_at net (tokens new) p k has)))
      (λ i high. omega (arith, amount_past net pre i high, amount_past net post i high, past_all net (tokens old) i high, past_all net (tokens new) i high)) i));
}

each_firing : (net : ColouredNet) (old new : Marking) (pre post : ℕ → ℕ → ℕ) (made : Instance) → made.pre ≡ row_of (counts net pre) → made.post ≡ row_of (counts net post)
    → place_transition.Fires (Flat net old) made (Flat net new) → FiresEach net old new pre post
each_firing net old new pre post made first second fires = record {
  enabled = λ p k has.
      (let enough = subst (λ row. amount (start_of net p + k) row ≤ slice_index (Flat net old) (start_of net p + k)) first (fires.enabled (start_of net p + k)) in
      omega (arith, enough, amount_at net pre p k has, index_at net (tokens old) p k has));
  fired = λ p k has.
      (let i = start_of net p + k in
      let one = subst (λ row. slice_index (Flat net new) i + amount i row ≡ slice_index (Flat net old) i + amount i made.post) first (fires.moved i) in
      let is = subst (λ row. slice_index (Flat net new) i + amount i (row_of (counts net pre)) ≡ slice_index (Flat net old) i + amount i row) second one in
      omega (arith, is, amount_at net pre p k has, amount_at net post p k has, index_at net (tokens old) p k has, index_at net (tokens new) p k has));
}

abbrev Unfolded : ColouredNet → NetSystem → Marking → Mode → Marking → Type 0
Unfolded net u old mode new = (i : ℕ) × (ComesFrom net u i mode × place_transition.Fires (Flat net old) (systems.instance_at u i) (Flat net new))

unfolded_firing : (net : ColouredNet) (u : NetSystem) (old new : Marking) (mode : Mode) → unfolding_of net ≡ Ok u → FiresAt net old mode new → IsMarking net new × Unfolded net u old mode new
unfolded_firing net u old new mode e (t, (rule, fires)) =
    let made = mode_instance net u mode t e rule fires.mode in
    let known = mode_of net u made.0 mode e made.1 in
    let same : t ≡ known.transition = same_some t known.transition (sym rule ∙ known.rule) in
    let each : FiresEach net old new (taken t mode.binding) (put t mode.binding) = record { enabled = fires.enabled; fired = fires.fired } in (
      fires.marking,
      (
        made.0,
        (
          made.1,
          flat_firing net old new (taken known.transition mode.binding) (put known.transition mode.binding) (systems.instance_at u made.0) known.pre known.post
              (subst (λ (r : ColouredTransition). FiresEach net old new (taken r mode.binding) (put r mode.binding)) same each),
        ),
      ),
    )

coloured_firing : (net : ColouredNet) (u : NetSystem) (old new : Marking) (mode : Mode) (i : ℕ) → unfolding_of net ≡ Ok u → IsMarking net new → ComesFrom net u i mode
    → place_transition.Fires (Flat net old) (systems.instance_at u i) (Flat net new) → FiresAt net old mode new
coloured_firing net u old new mode i e marking comes fires =
    let known = mode_of net u i mode e comes in
    let each = each_firing net old new (taken known.transition mode.binding) (put known.transition mode.binding) (systems.instance_at u i) known.pre known.post fires in
    (known.transition, (known.rule, record { mode = known.is_mode; defined = known.defined; enabled = each.enabled; marking = marking; fired = each.fired }))

pub firings : (net : ColouredNet) (u : NetSystem) → unfolding_of net ≡ Ok u → FiringsCorrespond net u
firings net u e = record {
  unfolded = λ old new mode fires. unfolded_firing net u old new mode e fires;
  coloured = λ old new mode i marking comes fires. coloured_firing net u old new mode i e marking comes fires;
}

-- runs, by induction over the list
unfolded_run : (net : ColouredNet) (u : NetSystem) (modes : List Mode) (old new : Marking) → unfolding_of net ≡ Ok u → IsMarking net old → Run net old modes new
    → IsMarking net new × ((is : List ℕ) × (ComeFrom net u is modes × systems.Run u (Flat net old) is (Flat net new)))
unfolded_run net u [] old new e marking same = (subst (IsMarking net) (sym same) marking, ([], (tt, ap (Flat net) same)))
unfolded_run net u (mode ∷ modes) old new e marking (mid, (fires, run)) =
    let first = unfolded_firing net u old mid mode e fires in
    let rest = unfolded_run net u modes mid new e first.0 run in
    (rest.0, (first.1.0 ∷ rest.1.0, ((first.1.1.0, rest.1.1.0), (first.1.1.0.there, (Flat net mid, (first.1.1.1, rest.1.1.1))))))

coloured_run : (net : ColouredNet) (u : NetSystem) (modes : List Mode) (is : List ℕ) (old new : Marking) → unfolding_of net ≡ Ok u → IsMarking net old → IsMarking net new → ComeFrom net u is modes
    → systems.Run u (Flat net old) is (Flat net new) → Run net old modes new
coloured_run net u [] [] old new e first last come same = one_flat net new old last first same
coloured_run net u [] (i ∷ is) old new e first last come run = absurd come
coloured_run net u (mode ∷ modes) [] old new e first last come run = absurd come
coloured_run net u (mode ∷ modes) (i ∷ is) old new e first last come (inside, (mid, (fires, run))) =
    let between = some_flat net mid (fires.as_long ∙ many net (tokens old)) in
    let m = between.0 in
    let same : Flat net m ≡ mid = between.1.1 in
    let fires' = subst (λ counts. place_transition.Fires (Flat net old) (systems.instance_at u i) counts) (sym same) fires in
    let run' = subst (λ counts. systems.Run u counts is (Flat net new)) (sym same) run in
    (m, (coloured_firing net u old m mode i e between.1.0 come.0 fires', coloured_run net u modes is m new e between.1.0 last come.1 run'))

pub runs : (net : ColouredNet) (u : NetSystem) → unfolding_of net ≡ Ok u → RunsCorrespond net u
runs net u e = record {
  unfolded = λ modes old new marking run. unfolded_run net u modes old new e marking run;
  coloured = λ modes is old new first last come run. coloured_run net u modes is old new e first last come run;
}

-- each list of instances that fire comes from modes
modes_of : (net : ColouredNet) (u : NetSystem) (is old new : List ℕ) → unfolding_of net ≡ Ok u → systems.Run u old is new → (modes : List Mode) × ComeFrom net u is modes
modes_of net u [] old new e run = ([], tt)
modes_of net u (i ∷ is) old new e (inside, (mid, (fires, run))) =
    let first = instance_mode net u i e inside in
    let rest = modes_of net u is mid new e run in
    (first.0 ∷ rest.0, (first.1.1.1.1, rest.1))

run_length : (u : NetSystem) (is old new : List ℕ) → systems.Run u old is new → length new ≡ length old
run_length u [] old new same = ap length same
run_length u (i ∷ is) old new (inside, (mid, (fires, run))) = run_length u is mid new run ∙ fires.as_long

starts_flat : (net : ColouredNet) (u : NetSystem) → unfolding_of net ≡ Ok u → Flat net (initial net) ≡ u.initial
starts_flat net u e = (starts net).1 ∙ (parts_of net u e).initial

coloured_reach : (net : ColouredNet) (u : NetSystem) (m : Marking) → unfolding_of net ≡ Ok u → IsMarking net m → PtReach u (Flat net m) → Reach net m
coloured_reach net u m e marking (is, run) =
    let begun = subst (λ counts. systems.Run u counts is (Flat net m)) (sym (starts_flat net u e)) run in
    let listed = modes_of net u is (Flat net (initial net)) (Flat net m) e begun in
    (listed.0, coloured_run net u listed.0 is (initial net) m e (starts net).0 marking listed.1 begun)

pub reaches : (net : ColouredNet) (u : NetSystem) → unfolding_of net ≡ Ok u → ReachesCorrespond net u
reaches net u e = record {
  unfolded = λ m (reach : Reach net m).
      (let listed = unfolded_run net u reach.0 (initial net) m e (starts net).0 reach.1 in
      (listed.0, (listed.1.0, subst (λ counts. systems.Run u counts listed.1.0 (Flat net m)) (starts_flat net u e) listed.1.1.1)));
  coloured = λ m marking reach. coloured_reach net u m e marking reach;
  counts = λ xs (reach : PtReach u xs).
      (let long = run_length u reach.0 u.initial xs reach.1 in
      let first : length u.initial ≡ length (pairs net) = ap length (sym (starts_flat net u e)) ∙ many net (tokens (initial net)) in
      let some = some_flat net xs (long ∙ first) in
      (some.0, (coloured_reach net u some.0 e some.1.0 (subst (PtReach u) (sym some.1.1) reach), some.1.1)));
}
