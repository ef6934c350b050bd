-- Small certificates, and what they come to.
use Rattle.std.specs.Prelude.{◌≡◌, ℕ, zero, suc, ◌-◌, ◌^◌, List, [], ◌∷◌, map, true, ℤ, pos, negsuc, Some, None}
use Rattle.cert_model.specs.Names.{Place, PlaceInstance, Instance, Fact, Named, first_unknown}
use Rattle.cert_model.specs.Nets.{Counts, Net}
use Rattle.cert_model.specs.Facts.{StepLine, Flow, Trap, Bound}
use Rattle.cert_model.specs.Formulas.{Formula, Compare, Fireable, Not, And, Or, End, More}
use Rattle.cert_model.specs.Trees.{Multiplier, OfFact, OfHypothesis, Kind, Close, Clash, Split, Cases, Each, Node, cost, walk}
use Rattle.cert_model.specs.Judging.{Stated, Section, Shown, NotShown, Range, Base, Step, AtNode, judgement, tree_limit}

-- the numbers of a list at the places from 0 on
abbrev row : List ℕ → Counts
row [] p = 0
row (n ∷ ns) zero = n
row (n ∷ ns) (suc p) = row ns p

abbrev weights : List ℤ → ℕ → ℤ
weights [] p = pos 0
weights (n ∷ ns) zero = n
weights (n ∷ ns) (suc p) = weights ns p

abbrev node : ℕ → Kind → Node
node line kind = record { line = line; kind = kind }

abbrev fact : ℤ → ℕ → Multiplier
fact value number = OfFact (record { value = value; fact = number })

abbrev hypothesis : ℤ → ℕ → Multiplier
hypothesis value number = OfHypothesis value number

-- `p=3; t: 2 p -> p`
abbrev halving : Net
halving = record {
  places = 1;
  initial = row (3 ∷ []);
  kept = record { number = 0; pre = row (2 ∷ []); post = row (1 ∷ []) } ∷ [];
  live = record { transition = 0; needs = (0, 2) ∷ [] } ∷ [];
}

-- `1 <= p`
abbrev some_left : Formula
some_left = Compare (record { coefficient = weights (pos 1 ∷ []); constant = pos 0 ∷ negsuc 0 ∷ [] })

-- `bound g -1 -1*p` in line 3, with this step line for the instance
abbrev at_least_one : StepLine → Stated
at_least_one line = record { line = 3; fact = Bound (weights (negsuc 0 ∷ [])) (negsuc 0 ∷ []) (λ i. line) }

abbrev close_on_bound : Section
close_on_bound = record { invariant = some_left; tree = node 6 (Close (hypothesis (pos 1) 1 ∷ fact (pos 1) 0 ∷ [])) ∷ [] }

-- `a=3, b=0; t: 3 a -> b; u: b -> 3 a`, and without the three
abbrev folding : ℕ → Net
folding tokens = record {
  places = 2;
  initial = row (tokens ∷ 0 ∷ []);
  kept = record { number = 0; pre = row (3 ∷ 0 ∷ []); post = row (0 ∷ 1 ∷ []) } ∷ record { number = 1; pre = row (0 ∷ 1 ∷ []); post = row (3 ∷ 0 ∷ []) } ∷ [];
  live = record { transition = 0; needs = (0, 3) ∷ [] } ∷ record { transition = 1; needs = (1, 1) ∷ [] } ∷ [];
}

-- `not (a + b <= 0)`, closed by the trap of both places
abbrev marked_trap : Stated
marked_trap = record { line = 3; fact = Trap (λ p. true) }

abbrev close_on_trap : Section
close_on_trap = record {
  invariant = Not (Compare (record { coefficient = weights (negsuc 0 ∷ negsuc 0 ∷ []); constant = pos 0 ∷ [] }));
  tree = node 5 (Close (hypothesis (pos 1) 1 ∷ fact (pos 1) 0 ∷ [])) ∷ [];
}

-- `p0=1, p1=0; t: p0 -> p1; u: p1 -> p0`
abbrev ring : Net
ring = record {
  places = 2;
  initial = row (1 ∷ 0 ∷ []);
  kept = record { number = 0; pre = row (1 ∷ 0 ∷ []); post = row (0 ∷ 1 ∷ []) } ∷ record { number = 1; pre = row (0 ∷ 1 ∷ []); post = row (1 ∷ 0 ∷ []) } ∷ [];
  live = record { transition = 0; needs = (0, 1) ∷ [] } ∷ record { transition = 1; needs = (1, 1) ∷ [] } ∷ [];
}

-- `not (p0 + p0 <= 1 and 1 <= p0 + p0)`, with `split 0 1*p0`
abbrev split_once : Section
split_once = record {
  invariant = Not (And (More (Compare (record { coefficient = weights (negsuc 1 ∷ pos 0 ∷ []); constant = pos 1 ∷ [] })) (More (Compare (record { coefficient = weights (pos 2 ∷ pos 0 ∷ []); constant = negsuc 0 ∷ [] })) End)));
  tree = node 4 (Split (record { coefficient = weights (pos 1 ∷ []); constant = [] }) (pos 0))
      ∷ node 5 (Close (hypothesis (pos 1) 2 ∷ hypothesis (pos 2) 3 ∷ []))
      ∷ node 6 (Close (hypothesis (pos 1) 1 ∷ hypothesis (pos 2) 3 ∷ [])) ∷ [];
}

-- `flow f 1*p0 1*p1` in line 3, and with another weight on `p1`
abbrev one_token : ℕ → Stated
one_token weight = record { line = 3; fact = Flow (weights (pos 1 ∷ pos weight ∷ [])) }

-- `p0 + p1 <= 1`, and `not (2 <= p0 + p1)`
abbrev never_two : Formula
never_two = Compare (record { coefficient = weights (negsuc 0 ∷ negsuc 0 ∷ []); constant = pos 1 ∷ [] })

abbrev not_two : Formula
not_two = Not (Compare (record { coefficient = weights (pos 1 ∷ pos 1 ∷ []); constant = negsuc 1 ∷ [] }))

-- `close 1*@1 -1*f` in line 5
abbrev close_on_flow : Node
close_on_flow = node 5 (Close (hypothesis (pos 1) 1 ∷ fact (negsuc 0) 0 ∷ []))

-- `bound g 1 1*p0` in line 4, with a step line of the scale 1 and this multiple of the flow for `u`
abbrev at_most_one : ℤ → Stated
at_most_one factor = record { line = 4; fact = Bound (weights (pos 1 ∷ [])) (pos 1 ∷ []) lines }
  where
    lines : ℕ → StepLine
    lines zero = record { scale = pos 1; keep = pos 1; factors = [] }
    lines (suc i) = record { scale = pos 1; keep = pos 0; factors = record { value = factor; fact = 0 } ∷ [] }

-- `p0 <= 1`, closed by the bound
abbrev close_on_at_most_one : Section
close_on_at_most_one = record {
  invariant = Compare (record { coefficient = weights (negsuc 0 ∷ []); constant = pos 1 ∷ [] });
  tree = node 6 (Close (hypothesis (pos 1) 1 ∷ fact (pos 1) 1 ∷ [])) ∷ [];
}

-- the ring with the instances `t`, `v`, which is merged with it, and `w`, which is too
abbrev merged : Net
merged = record {
  places = 2;
  initial = row (1 ∷ 0 ∷ []);
  kept = record { number = 0; pre = row (1 ∷ 0 ∷ []); post = row (0 ∷ 1 ∷ []) } ∷ [];
  live = record { transition = 0; needs = (0, 1) ∷ [] } ∷ record { transition = 1; needs = (0, 1) ∷ [] } ∷ record { transition = 2; needs = (0, 1) ∷ [] } ∷ [];
}

-- a net without places, and `0 <= 0`
abbrev nothing : Net
nothing = record { places = 0; initial = row []; kept = []; live = [] }

abbrev zero_at_most_zero : Section
zero_at_most_zero = record { invariant = Compare (record { coefficient = weights []; constant = pos 0 ∷ pos 0 ∷ [] }); tree = node 4 (Close (hypothesis (pos 1) 1 ∷ [])) ∷ [] }

-- `p0=0; src: -> p0`, and `is-fireable src`
abbrev source : Net
source = record { places = 1; initial = row []; kept = record { number = 0; pre = row []; post = row (1 ∷ []) } ∷ []; live = record { transition = 0; needs = [] } ∷ [] }

abbrev always_fireable : Section
always_fireable = record { invariant = Fireable (0 ∷ []); tree = node 4 (Cases 1 0) ∷ [] }

-- three philosophers: the places 0 to 2 think, 3 to 5 are forks, 6 to 8 eat
abbrev table : Net
table = record {
  places = 9;
  initial = row (1 ∷ 1 ∷ 1 ∷ 1 ∷ 1 ∷ 1 ∷ 0 ∷ 0 ∷ 0 ∷ []);
  kept = record { number = 0; pre = row (1 ∷ 0 ∷ 0 ∷ 1 ∷ 1 ∷ 0 ∷ []); post = row (0 ∷ 0 ∷ 0 ∷ 0 ∷ 0 ∷ 0 ∷ 1 ∷ []) }
      ∷ record { number = 1; pre = row (0 ∷ 0 ∷ 0 ∷ 0 ∷ 0 ∷ 0 ∷ 1 ∷ []); post = row (1 ∷ 0 ∷ 0 ∷ 1 ∷ 1 ∷ 0 ∷ []) } ∷ [];
  live = record { transition = 0; needs = (0, 1) ∷ (3, 1) ∷ (4, 1) ∷ [] }
      ∷ record { transition = 0; needs = (1, 1) ∷ (4, 1) ∷ (5, 1) ∷ [] }
      ∷ record { transition = 0; needs = (2, 1) ∷ (5, 1) ∷ (3, 1) ∷ [] } ∷ [];
}

-- `flow f 1*Fork 2*Eat`
abbrev forks : Stated
forks = record { line = 3; fact = Flow (weights (pos 0 ∷ pos 0 ∷ pos 0 ∷ pos 1 ∷ pos 1 ∷ pos 1 ∷ pos 2 ∷ pos 2 ∷ pos 2 ∷ [])) }

-- `Eat <= 1`, closed with twice the hypothesis
abbrev one_eats : Section
one_eats = record {
  invariant = Compare (record { coefficient = weights (pos 0 ∷ pos 0 ∷ pos 0 ∷ pos 0 ∷ pos 0 ∷ pos 0 ∷ negsuc 0 ∷ negsuc 0 ∷ negsuc 0 ∷ []); constant = pos 1 ∷ [] });
  tree = node 5 (Close (hypothesis (pos 2) 1 ∷ fact (negsuc 0) 0 ∷ [])) ∷ [];
}

-- `not (is-fireable take and 1 <= Eat)`
abbrev none_eats : Formula
none_eats = Not (And (More (Fireable (0 ∷ [])) (More (Compare (record { coefficient = weights (pos 0 ∷ pos 0 ∷ pos 0 ∷ pos 0 ∷ pos 0 ∷ pos 0 ∷ pos 1 ∷ pos 1 ∷ pos 1 ∷ []); constant = negsuc 0 ∷ [] })) End)))

abbrev close_on_forks : ℕ → Node
close_on_forks line = node line (Close (hypothesis (pos 2) 1 ∷ fact (negsuc 0) 0 ∷ []))

-- fireable and not fireable: `each 1`, `each 2`, `clash p`
abbrev never_both : Section
never_both = record {
  invariant = Not (And (More (Fireable (0 ∷ [])) (More (Not (Fireable (0 ∷ []))) End)));
  tree = node 4 (Each 1) ∷ node 5 (Each 2) ∷ node 6 (Clash (0 ∷ [])) ∷ [];
}

-- `t` is dead
abbrev dead : Net
dead = record halving { kept = []; live = [] }

abbrev never_fireable : List Node → Section
never_fireable tree = record { invariant = Not (Fireable (0 ∷ [])); tree = tree }

-- `not (is-fireable t or is-fireable t)`: `cases 1 2`, and on each branch `cases 2 0`
abbrev neither : Section
neither = record {
  invariant = Not (Or (More (Fireable (0 ∷ [])) (More (Fireable (0 ∷ [])) End)));
  tree = node 4 (Cases 1 2) ∷ node 5 (Cases 2 0) ∷ node 6 (Cases 2 0) ∷ [];
}

-- an invariant whose constant has these two numbers, closed by its hypothesis
abbrev closed_constant : ℤ → ℤ → ℤ → Section
closed_constant multiplier one other = record { invariant = Compare (record { coefficient = λ p. pos 0; constant = one ∷ other ∷ [] }); tree = node 4 (Close (hypothesis multiplier 1 ∷ [])) ∷ [] }

abbrev greatest : ℕ
greatest = 2 ^ 63 - 1

-- `p0=W, p1=W, ..; t: W p0, W p1 -> W p2, W p3`, and a weight of `W` on the places up to a number
abbrev heavy : Net
heavy = record {
  places = 4;
  initial = row (greatest ∷ greatest ∷ 0 ∷ 0 ∷ []);
  kept = record { number = 0; pre = row (greatest ∷ greatest ∷ []); post = row (0 ∷ 0 ∷ greatest ∷ greatest ∷ []) } ∷ [];
  live = [];
}

abbrev heavy_flow : ℕ → ℕ → Stated
heavy_flow here there = record { line = 3; fact = Flow (weights (pos here ∷ pos here ∷ pos there ∷ pos there ∷ [])) }

-- the negative of the greatest weight on the places from which `t` takes, and the weight on the others
abbrev heavy_bound : Stated
heavy_bound = record { line = 3; fact = Bound (weights (negsuc (greatest - 1) ∷ negsuc (greatest - 1) ∷ pos greatest ∷ pos greatest ∷ [])) (pos 0 ∷ []) (λ i. record { scale = pos 1; keep = pos 1; factors = [] }) }

-- a place `p` of two colours, `t` with the bindings 0 and 2, and a flow before a bound
abbrev named : Named
named = record { places = ((112 ∷ [], 2) ∷ []); instances = (116 ∷ [], 0) ∷ (116 ∷ [], 2) ∷ []; facts = (102 ∷ []) ∷ (103 ∷ []) ∷ [] }

pub record ExamplesAreRight : Type 0 where
  pub ring_holds : judgement ring (one_token 1 ∷ []) (record { invariant = never_two; tree = close_on_flow ∷ [] } ∷ []) ≡ Shown
  pub ring_fails : judgement ring (one_token 2 ∷ []) (record { invariant = never_two; tree = close_on_flow ∷ [] } ∷ []) ≡ NotShown 3 (Step 0)
  pub ring_is_never : judgement ring (one_token 1 ∷ []) (record { invariant = not_two; tree = close_on_flow ∷ [] } ∷ []) ≡ Shown
  pub merged_fails : judgement merged (one_token 2 ∷ []) (record { invariant = never_two; tree = close_on_flow ∷ [] } ∷ []) ≡ NotShown 3 (Step 0)
  pub eaters : judgement table (forks ∷ []) (one_eats ∷ []) ≡ Shown
  pub no_places : judgement nothing [] (zero_at_most_zero ∷ []) ≡ Shown
  pub source_is_fireable : judgement source [] (always_fireable ∷ []) ≡ Shown
  pub earlier_fact : judgement ring (one_token 1 ∷ at_most_one (negsuc 0) ∷ []) (close_on_at_most_one ∷ []) ≡ Shown
  pub wrong_factor : judgement ring (one_token 1 ∷ at_most_one (pos 1) ∷ []) (close_on_at_most_one ∷ []) ≡ NotShown 4 (Step 1)
  pub either : judgement dead [] (neither ∷ []) ≡ Shown
  pub wide_bound : judgement heavy (heavy_bound ∷ []) [] ≡ Range 3 (Step 0)
  pub cancelled : judgement halving [] (closed_constant (pos 1) (pos (2 ^ 126)) (negsuc (2 ^ 126 - 1)) ∷ []) ≡ Range 4 AtNode
  pub wide_times_nothing : judgement halving [] (closed_constant (pos 0) (pos (2 ^ 126)) (pos (2 ^ 126)) ∷ []) ≡ Range 4 AtNode
  pub sign_before_range : judgement halving [] (closed_constant (negsuc 0) (pos (2 ^ 126)) (pos (2 ^ 126)) ∷ []) ≡ NotShown 4 AtNode
  pub known : first_unknown named (record { number = 3; uses = Place (112 ∷ []) ∷ PlaceInstance (112 ∷ []) 1 ∷ [] } ∷ record { number = 5; uses = Instance (116 ∷ []) 2 ∷ Fact 1 (102 ∷ []) ∷ [] } ∷ []) ≡ None
  pub no_colour : first_unknown named (record { number = 3; uses = PlaceInstance (112 ∷ []) 2 ∷ [] } ∷ record { number = 4; uses = Place (113 ∷ []) ∷ [] } ∷ []) ≡ Some 3
  pub no_binding : first_unknown named (record { number = 5; uses = Instance (116 ∷ []) 1 ∷ [] } ∷ []) ≡ Some 5
  pub later_fact : first_unknown named (record { number = 5; uses = Fact 1 (103 ∷ []) ∷ [] } ∷ []) ≡ Some 5
  pub bound : judgement halving (at_least_one (record { scale = pos 1; keep = pos 0; factors = [] }) ∷ []) (close_on_bound ∷ []) ≡ Shown
  pub no_step_line : judgement halving (at_least_one (record { scale = pos 1; keep = pos 1; factors = [] }) ∷ []) (close_on_bound ∷ []) ≡ NotShown 3 (Step 0)
  pub trap : judgement (folding 3) (marked_trap ∷ []) (close_on_trap ∷ []) ≡ Shown
  pub empty_trap : judgement (folding 0) (marked_trap ∷ []) (close_on_trap ∷ []) ≡ NotShown 3 Base
  pub split : judgement ring [] (split_once ∷ []) ≡ Shown
  pub each : judgement table (forks ∷ []) (record { invariant = none_eats; tree = node 5 (Each 1) ∷ close_on_forks 6 ∷ [] } ∷ []) ≡ Shown
  pub cases : judgement table (forks ∷ []) (record { invariant = none_eats; tree = node 5 (Cases 1 2) ∷ close_on_forks 6 ∷ close_on_forks 7 ∷ [] } ∷ []) ≡ NotShown 5 AtNode
  pub missing : judgement halving [] (record { invariant = some_left; tree = node 4 (Close (hypothesis (pos 1) 2 ∷ [])) ∷ [] } ∷ []) ≡ NotShown 4 AtNode
  pub clash : judgement halving [] (never_both ∷ []) ≡ Shown
  pub cases_of_none : judgement dead [] (never_fireable (node 4 (Cases 1 0) ∷ []) ∷ []) ≡ Shown
  pub each_of_none : judgement dead [] (never_fireable (node 4 (Each 1) ∷ node 5 (Close []) ∷ []) ∷ []) ≡ Shown
  pub second_section : judgement dead [] (never_fireable (node 4 (Cases 1 0) ∷ []) ∷ never_fireable (node 9 (Close []) ∷ []) ∷ []) ≡ NotShown 9 AtNode
  pub wide : judgement heavy (heavy_flow greatest greatest ∷ []) [] ≡ Range 3 (Step 0)
  pub not_wide : judgement heavy (heavy_flow 1 1 ∷ []) [] ≡ Shown
  pub costs : map (λ v. cost v.1) (walk table none_eats (node 5 (Each 1) ∷ close_on_forks 6 ∷ [])) ≡ 5 ∷ 4 ∷ 4 ∷ 4 ∷ []
  pub limit : tree_limit table (record { invariant = none_eats; tree = node 5 (Each 1) ∷ close_on_forks 6 ∷ [] } ∷ []) ≡ None
  pub wrong_sign : judgement (folding 3) (marked_trap ∷ []) (record { invariant = close_on_trap.invariant; tree = node 5 (Close (hypothesis (pos 1) 1 ∷ fact (negsuc 0) 0 ∷ [])) ∷ [] } ∷ []) ≡ NotShown 5 AtNode
  pub no_upper_bound : judgement halving [] (record { invariant = Compare (record { coefficient = weights (negsuc 0 ∷ []); constant = pos 3 ∷ [] }); tree = node 4 (Close (hypothesis (pos 1) 1 ∷ [])) ∷ [] } ∷ []) ≡ NotShown 4 AtNode
  pub wide_constant : judgement halving [] (closed_constant (pos 1) (pos (2 ^ 126)) (pos (2 ^ 126)) ∷ []) ≡ Range 4 AtNode
  pub fits_just : judgement halving [] (closed_constant (pos 1) (pos (2 ^ 126)) (pos (2 ^ 126 - 2)) ∷ []) ≡ Shown
