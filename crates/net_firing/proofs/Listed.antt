-- Candidates and the instances that are made of them.
use Rattle.std.proofs.Common.{◌≡◌, ℕ, zero, suc, ◌+◌, ◌<◌, ◌≤◌, ◌⊎◌, inl, inr, Bool, true, false, ◌&&◌, if◌then◌else◌, List, [], ◌∷◌, ◌++◌, map, filter, length, get_or, refl, sym, ap, subst, ◌∙◌, arith, Some, None, Ok, Err}
use Rattle.std.specs.Prelude.{Option, Result, slice_get}
use Rattle.std.specs.List.{list_all}
use Rattle.pt_net.specs.declared.instances.Instance.{Instance}
use Rattle.pt_net.specs.Systems as systems
use Rattle.pt_net.specs.Systems.{NetSystem}
use Rattle.bindings.specs.Listed.{bindings}
use Rattle.std.proofs.lemmas.Option.{get_or_from_slice_get, slice_get-get_or, slice_get_within}
use Rattle.net_firing.specs.Coloured.{ColouredArc, ColouredNet, ColouredTransition}
use Rattle.net_firing.specs.Firing.{are_defined}
use Rattle.net_firing.specs.Markings.{at_start}
use Rattle.net_firing.specs.Unfolding.{ArcFault, Candidate, candidates, candidates_from, counts, first_undefined, instance, instance_of, instance_or, instances, is_true, numbered, system_with, unfolding_of}
use Rattle.net_firing.proofs.Lists.{AreValues, HasSource, HasValue, IsKept, IsLeft, IsRight, Stands, get-append, get-left, get-right, keeps, kept, same_ok, same_some, source_of, value_of, values}

abbrev candidate : ℕ → ColouredTransition → ℕ → List ℕ → Candidate
candidate at t number b = record { transition = at; number = number; rule = t; binding = b }

-- the bindings of a transition with their numbers
pub record IsNumbered (at : ℕ) (t : ColouredTransition) (number : ℕ) (bs : List (List ℕ)) (c : Candidate) : Type 0 where
  pub place : ℕ
  pub there : slice_get bs place ≡ Some c.binding
  pub is : candidate at t (number + place) c.binding ≡ c

numbered_at : (at : ℕ) (t : ColouredTransition) (number : ℕ) (bs : List (List ℕ)) (i : ℕ) (c : Candidate) → slice_get (numbered at t number bs) i ≡ Some c → IsNumbered at t number bs c
numbered_at at t number [] i c e = absurd (none i e)
  where
    none : {A : Type 0} {x : A} (i : ℕ) → slice_get [] i ≡ Some x → ⊥
    none i e = cc
numbered_at at t number (b ∷ bs) zero c e =
    let same = same_some (candidate at t number b) c e in
    let first : number + 0 ≡ number = omega arith in
    let own : b ≡ c.binding = ap (λ (d : Candidate). d.binding) same in
    record { place = 0; there = ap Some own; is = ap (λ n. candidate at t n c.binding) first ∙ ap (candidate at t number) (sym own) ∙ same }
numbered_at at t number (b ∷ bs) (suc i) c e =
    let rest = numbered_at at t (number + 1) bs i c e in
    let next : number + suc rest.place ≡ number + 1 + rest.place = omega arith in
    record { place = suc rest.place; there = rest.there; is = ap (λ n. candidate at t n c.binding) next ∙ rest.is }

number_stands : (at : ℕ) (t : ColouredTransition) (number : ℕ) (bs : List (List ℕ)) (place n : ℕ) (b : List ℕ) → number + place ≡ n → slice_get bs place ≡ Some b
    → slice_get (numbered at t number bs) place ≡ Some (candidate at t n b)
number_stands at t number [] place n b is e = absurd (none place e)
  where
    none : {A : Type 0} {x : A} (i : ℕ) → slice_get [] i ≡ Some x → ⊥
    none i e = cc
number_stands at t number (x ∷ bs) zero n b is e =
    let same : number ≡ n = omega (arith, is) in
    ap (λ y. Some (candidate at t number y)) (same_some x b e) ∙ ap (λ m. Some (candidate at t m b)) same
number_stands at t number (x ∷ bs) (suc place) n b is e = number_stands at t (number + 1) bs place n b (omega (arith, is)) e

-- a candidate is a binding of a transition
pub record IsCandidate (first : ℕ) (ts : List ColouredTransition) (c : Candidate) : Type 0 where
  pub at : ℕ
  pub place : first + at ≡ c.transition
  pub rule : slice_get ts at ≡ Some c.rule
  pub binding : slice_get (bindings c.rule.sizes) c.number ≡ Some c.binding

of_numbered : (at : ℕ) (t : ColouredTransition) (c : Candidate) → IsNumbered at t 0 (bindings t.sizes) c → (at ≡ c.transition) × ((t ≡ c.rule) × (slice_get (bindings c.rule.sizes) c.number ≡ Some c.binding))
of_numbered at t c known =
    let rule : t ≡ c.rule = ap (λ (d : Candidate). d.rule) known.is in
    let number : known.place ≡ c.number = (let whole = ap (λ (d : Candidate). d.number) known.is in omega (arith, whole)) in (
      ap (λ (d : Candidate). d.transition) known.is,
      (rule, subst (λ r. slice_get (bindings r.sizes) c.number ≡ Some c.binding) rule (subst (λ n. slice_get (bindings t.sizes) n ≡ Some c.binding) number known.there)),
    )

pub candidate_at : (first : ℕ) (ts : List ColouredTransition) (i : ℕ) (c : Candidate) → slice_get (candidates_from first ts) i ≡ Some c → IsCandidate first ts c
candidate_at first [] i c e = absurd (none i e)
  where
    none : {A : Type 0} {x : A} (i : ℕ) → slice_get [] i ≡ Some x → ⊥
    none i e = cc
candidate_at first (t ∷ ts) i c e = elim (get-append (numbered first t 0 (bindings t.sizes)) (candidates_from (first + 1) ts) i c e) [
  | inl left ↦
      let known = of_numbered first t c (numbered_at first t 0 (bindings t.sizes) i c left.there) in
      record { at = 0; place = (let is = known.0 in omega (arith, is)); rule = ap Some known.1.0; binding = known.1.1 }
  | inr right ↦
      let rest = candidate_at (first + 1) ts right.at c right.there in
      record { at = suc rest.at; place = (let is = rest.place in omega (arith, is)); rule = rest.rule; binding = rest.binding }
]

pub candidate_stands : (first : ℕ) (ts : List ColouredTransition) (at n place : ℕ) (t : ColouredTransition) (b : List ℕ) → first + at ≡ place → slice_get ts at ≡ Some t → slice_get (bindings t.sizes) n ≡ Some b
    → Stands (candidates_from first ts) (candidate place t n b)
candidate_stands first [] at n place t b is rule bound = absurd (none at rule)
  where
    none : {A : Type 0} {x : A} (i : ℕ) → slice_get [] i ≡ Some x → ⊥
    none i e = cc
candidate_stands first (s ∷ ts) zero n place t b is rule bound =
    let same : s ≡ t = same_some s t rule in
    let here : first ≡ place = omega (arith, is) in
    let listed = number_stands place t 0 (bindings t.sizes) n n b (omega arith) bound in
    let own : slice_get (numbered first s 0 (bindings s.sizes)) n ≡ Some (candidate place t n b) =
    subst (λ m. slice_get (numbered m s 0 (bindings s.sizes)) n ≡ Some (candidate place t n b)) (sym here)
    (subst (λ r. slice_get (numbered place r 0 (bindings r.sizes)) n ≡ Some (candidate place t n b)) (sym same) listed) in
    record { at = n; there = get-left (numbered first s 0 (bindings s.sizes)) (candidates_from (first + 1) ts) n (candidate place t n b) own }
candidate_stands first (s ∷ ts) (suc at) n place t b is rule bound =
    let rest = candidate_stands (first + 1) ts at n place t b (omega (arith, is)) rule bound in
    let front = numbered first s 0 (bindings s.sizes) in
    record { at = length front + rest.at; there = get-right front (candidates_from (first + 1) ts) rest.at (length front + rest.at) refl ∙ rest.there }

-- where no arc is without a value, all have one
by_first : (d rest : Bool) (undefined : Option ℕ) (number : ℕ) → (undefined ≡ None → rest ≡ true) → (if d then undefined else Some number) ≡ None → (d && rest) ≡ true
by_first true rest undefined number behind e = behind e
by_first false rest undefined number behind e = cc

no_undefined : (arcs : List ColouredArc) (b : List ℕ) → first_undefined arcs b ≡ None → list_all (λ a. (a.value b).is_defined) arcs ≡ true
no_undefined [] b e = refl
no_undefined (a ∷ arcs) b e =
    by_first (a.value b).is_defined (list_all (λ a. (a.value b).is_defined) arcs) (first_undefined arcs b) a.number (λ none. no_undefined arcs b none) e

-- what a candidate makes
pub record IsMade (net : ColouredNet) (c : Candidate) (made : Instance) : Type 0 where
  pub is : instance net c ≡ made
  pub defined : are_defined c.rule c.binding ≡ true

made_by : (net : ColouredNet) (c : Candidate) (undefined : Option ℕ) (made : Instance) → first_undefined c.rule.arcs c.binding ≡ undefined → instance_or c (instance net c) undefined ≡ Ok made → IsMade net c made
made_by net c None made none e = record { is = same_ok (instance net c) made e; defined = no_undefined c.rule.arcs c.binding none }
made_by net c (Some arc) made some e = absurd (clash (record { transition = c.transition; binding = c.number; arc = arc }) made e)
  where
    clash : (fault : ArcFault) (made : Instance) → ◌≡◌ {A = Result Instance ArcFault} (Err fault) (Ok made) → ⊥
    clash fault made e = cc

pub made_of : (net : ColouredNet) (c : Candidate) (made : Instance) → instance_of net c ≡ Ok made → IsMade net c made
made_of net c made e = made_by net c (first_undefined c.rule.arcs c.binding) made refl e

-- the parts of an unfolded net
pub record AreParts (net : ColouredNet) (u : NetSystem) : Type 0 where
  pub initial : counts net (at_start net) ≡ u.initial
  pub instances_are : instances net ≡ Ok u.instances

parts_by : (net : ColouredNet) (u : NetSystem) (made : Result (List Instance) ArcFault) → instances net ≡ made → system_with (counts net (at_start net)) made ≡ Ok u → AreParts net u
parts_by net u (Ok listed) is e =
    let same = same_ok (systems.system_of (counts net (at_start net)) listed) u e in
    record { initial = ap (λ (s : NetSystem). s.initial) same; instances_are = is ∙ ap (λ (s : NetSystem). Ok s.instances) same }
parts_by net u (Err fault) is e = absurd (clash fault u e)
  where
    clash : (fault : ArcFault) (u : NetSystem) → ◌≡◌ {A = Result NetSystem ArcFault} (Err fault) (Ok u) → ⊥
    clash fault u e = cc

pub parts_of : (net : ColouredNet) (u : NetSystem) → unfolding_of net ≡ Ok u → AreParts net u
parts_of net u e = parts_by net u (instances net) refl e

pub instance_values : (net : ColouredNet) (u : NetSystem) → unfolding_of net ≡ Ok u → AreValues (instance_of net) (filter is_true (candidates net)) u.instances
instance_values net u e = values (instance_of net) (filter is_true (candidates net)) u.instances (parts_of net u e).instances_are

-- each instance is made of a candidate whose guard is true
pub record HasCandidate (net : ColouredNet) (made : Instance) : Type 0 where
  pub candidate : Candidate
  pub is_candidate : IsCandidate 0 net.transitions candidate
  pub guarded : candidate.rule.guard candidate.binding ≡ true
  pub is_made : IsMade net candidate made

pub candidate_of : (net : ColouredNet) (u : NetSystem) (i : ℕ) → unfolding_of net ≡ Ok u → i < length u.instances → HasCandidate net (systems.instance_at u i)
candidate_of net u i e inside =
    let made = systems.instance_at u i in
    let there = slice_get-get_or u.instances i (record { transition = 0; binding = 0; pre = []; post = [] }) inside in
    let from = source_of (instance_of net) (filter is_true (candidates net)) u.instances i made (instance_values net u e) there in
    let passed = kept is_true (candidates net) i from.source from.there in
    record {
      candidate = from.source;
      is_candidate = candidate_at 0 net.transitions passed.at from.source passed.there;
      guarded = passed.passes;
      is_made = made_of net from.source made from.value;
    }

-- each candidate whose guard is true makes an instance
pub record HasInstance (net : ColouredNet) (u : NetSystem) (c : Candidate) : Type 0 where
  pub at : ℕ
  pub inside : at < length u.instances
  pub is : instance net c ≡ systems.instance_at u at

pub instance_from : (net : ColouredNet) (u : NetSystem) (at n : ℕ) (t : ColouredTransition) (b : List ℕ) → unfolding_of net ≡ Ok u → slice_get net.transitions at ≡ Some t → slice_get (bindings t.sizes) n ≡ Some b → t.guard b ≡ true
    → HasInstance net u (candidate at t n b)
instance_from net u at n t b e rule bound guarded =
    let c = candidate at t n b in
    let listed = candidate_stands 0 net.transitions at n at t b (omega arith) rule bound in
    let passed = keeps is_true (candidates net) listed.at c listed.there guarded in
    let made = value_of (instance_of net) (filter is_true (candidates net)) u.instances passed.at c (instance_values net u e) passed.there in
    record {
      at = passed.at;
      inside = slice_get_within u.instances passed.at made.made made.there;
      is = (made_of net c made.made made.value).is ∙ sym (get_or_from_slice_get u.instances passed.at made.made (record { transition = 0; binding = 0; pre = []; post = [] }) made.there);
    }
