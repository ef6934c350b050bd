-- The origins of the instances rise.
use Rattle.std.proofs.Common.{◌≡◌, ℕ, zero, suc, ◌+◌, ◌<◌, ◌≤◌, ◌⊎◌, inl, inr, Bool, true, false, List, [], ◌∷◌, ◌++◌, map, filter, length, get_or, refl, sym, ap, subst, ◌∙◌, arith, length-append, Ok}
use Rattle.std.specs.Prelude.{All, AllPairs, Result}
use Rattle.std.proofs.lemmas.List.Elements.{All-append, All-cons, All-head, All-nil, All-tail, All-weaker}
use Rattle.std.proofs.lemmas.List.Kept.{AllPairs-cons, AllPairs-filter}
use Rattle.pt_net.specs.declared.instances.Instance.{Instance}
use Rattle.pt_net.specs.declared.instances.Origin.{Origin}
use Rattle.pt_net.specs.Instances.{IsBefore, origin_of}
use Rattle.pt_net.specs.Systems.{NetSystem}
use Rattle.bindings.specs.Listed.{bindings}
use Rattle.net_firing.specs.Coloured.{ColouredNet, ColouredTransition}
use Rattle.net_firing.specs.Unfolding.{ArcFault, Candidate, candidates, candidates_from, instance_of, is_true, numbered, unfolding_of}
use Rattle.net_firing.proofs.Lists.{AreValues}
use Rattle.net_firing.proofs.Listed.{IsMade, instance_values, made_of}

abbrev origin : Candidate → Origin
origin c = record { transition = c.transition; binding = c.number }

abbrev Rise : List Candidate → Type 0
Rise cs = AllPairs (λ c d. IsBefore (origin c) (origin d)) cs

pairs_tail : {X : Type 0} (R : X → X → Type 0) (x : X) (xs : List X) → AllPairs R (x ∷ xs) → AllPairs R xs
pairs_tail R x xs h i j d low inside = h (suc i) (suc j) d (omega (arith, low)) (omega (arith, inside))

pairs_head : {X : Type 0} (R : X → X → Type 0) (x : X) (xs : List X) → AllPairs R (x ∷ xs) → All (R x) xs
pairs_head R x xs h k d inside = h zero (suc k) d (omega arith) (omega (arith, inside))

no_pairs : {X : Type 0} (R : X → X → Type 0) → AllPairs R []
no_pairs R i j d low inside = absurd (omega (arith, low, inside))

-- two lists that rise, each of the first before each of the second
joined : (xs ys : List Candidate) → Rise xs → Rise ys → All (λ c. All (λ d. IsBefore (origin c) (origin d)) ys) xs → Rise (xs ++ ys)
joined [] ys one two before = two
joined (x ∷ xs) ys one two before =
    let R : Candidate → Candidate → Type 0 = λ c d. IsBefore (origin c) (origin d) in
    let P : Candidate → Type 0 = λ c. All (λ d. IsBefore (origin c) (origin d)) ys in
    AllPairs-cons R x (xs ++ ys) (All-append (R x) xs ys (pairs_head R x xs one) (All-head P x xs before)) (joined xs ys (pairs_tail R x xs one) two (All-tail P x xs before))

abbrev IsOf : ℕ → ℕ → Candidate → Type 0
IsOf at number c = (c.transition ≡ at) × (number ≤ c.number)

numbers_of : (at : ℕ) (t : ColouredTransition) (number low : ℕ) (bs : List (List ℕ)) → low ≤ number → All (IsOf at low) (numbered at t number bs)
numbers_of at t number low [] le = All-nil (IsOf at low)
numbers_of at t number low (b ∷ bs) le =
    All-cons (IsOf at low) (record { transition = at; number = number; rule = t; binding = b }) (numbered at t (number + 1) bs) (refl, le) (numbers_of at t (number + 1) low bs (omega (arith, le)))

numbers_rise : (at : ℕ) (t : ColouredTransition) (number : ℕ) (bs : List (List ℕ)) → Rise (numbered at t number bs)
numbers_rise at t number [] = no_pairs (λ c d. IsBefore (origin c) (origin d))
numbers_rise at t number (b ∷ bs) =
    let c : Candidate = record { transition = at; number = number; rule = t; binding = b } in
    AllPairs-cons (λ c d. IsBefore (origin c) (origin d)) c (numbered at t (number + 1) bs)
    (λ k d inside.
    (let of = numbers_of at t (number + 1) (number + 1) bs (omega arith) k d inside in
    record { transition = (let is = of.0 in omega (arith, is)); binding = λ _. (let over = of.1 in omega (arith, over)) }))
    (numbers_rise at t (number + 1) bs)

later : (first low : ℕ) (ts : List ColouredTransition) → low ≤ first → All (λ c. low ≤ c.transition) (candidates_from first ts)
later first low [] le = All-nil (λ c. low ≤ c.transition)
later first low (t ∷ ts) le =
    All-append (λ c. low ≤ c.transition) (numbered first t 0 (bindings t.sizes)) (candidates_from (first + 1) ts)
    (λ k d inside. (let of = numbers_of first t 0 0 (bindings t.sizes) (omega arith) k d inside in let is = of.0 in omega (arith, is, le)))
    (later (first + 1) low ts (omega (arith, le)))

pub candidates_rise : (first : ℕ) (ts : List ColouredTransition) → Rise (candidates_from first ts)
candidates_rise first [] = no_pairs (λ c d. IsBefore (origin c) (origin d))
candidates_rise first (t ∷ ts) =
    let front = numbered first t 0 (bindings t.sizes) in
    joined front (candidates_from (first + 1) ts) (numbers_rise first t 0 (bindings t.sizes)) (candidates_rise (first + 1) ts)
    (λ k d inside. λ j e within.
    (let of = numbers_of first t 0 0 (bindings t.sizes) (omega arith) k d inside in
    let is = of.0 in
    let over = later (first + 1) (first + 1) ts (omega arith) j e within in
    record { transition = omega (arith, is, over); binding = λ same. absurd (omega (arith, is, over, same)) }))

-- the origins of instances are those of their candidates
made_origin : (net : ColouredNet) (c : Candidate) (made : Instance) → instance_of net c ≡ Ok made → origin c ≡ origin_of made
made_origin net c made e = ap origin_of (made_of net c made e).is

all_before : (net : ColouredNet) (o : Origin) (cs : List Candidate) (made : List Instance) → AreValues (instance_of net) cs made → All (λ d. IsBefore o (origin d)) cs → All (λ t. IsBefore o (origin_of t)) made
all_before net o [] [] known before = All-nil (λ t. IsBefore o (origin_of t))
all_before net o [] (t ∷ made) known before = absurd known
all_before net o (c ∷ cs) [] known before = absurd known
all_before net o (c ∷ cs) (t ∷ made) known before =
    All-cons (λ t. IsBefore o (origin_of t)) t made (subst (IsBefore o) (made_origin net c t known.0) (All-head (λ d. IsBefore o (origin d)) c cs before))
    (all_before net o cs made known.1 (All-tail (λ d. IsBefore o (origin d)) c cs before))

instances_rise : (net : ColouredNet) (cs : List Candidate) (made : List Instance) → AreValues (instance_of net) cs made → Rise cs → AllPairs (λ s t. IsBefore (origin_of s) (origin_of t)) made
instances_rise net [] [] known rises = no_pairs (λ s t. IsBefore (origin_of s) (origin_of t))
instances_rise net [] (t ∷ made) known rises = absurd known
instances_rise net (c ∷ cs) [] known rises = absurd known
instances_rise net (c ∷ cs) (t ∷ made) known rises =
    let R : Candidate → Candidate → Type 0 = λ c d. IsBefore (origin c) (origin d) in
    AllPairs-cons (λ s t. IsBefore (origin_of s) (origin_of t)) t made
    (subst (λ o. All (λ t. IsBefore o (origin_of t)) made) (made_origin net c t known.0) (all_before net (origin c) cs made known.1 (pairs_head R c cs rises)))
    (instances_rise net cs made known.1 (pairs_tail R c cs rises))

pub origins_rise : (net : ColouredNet) (u : NetSystem) → unfolding_of net ≡ Ok u → AllPairs (λ s t. IsBefore (origin_of s) (origin_of t)) u.instances
origins_rise net u e =
    instances_rise net (filter is_true (candidates net)) u.instances (instance_values net u e)
    (AllPairs-filter (λ c d. IsBefore (origin c) (origin d)) is_true (candidates net) (candidates_rise 0 net.transitions))
