-- What the arcs of the file's net move together.
use Rattle.std.proofs.Common.{◌≡◌, ℕ, zero, suc, ◌+◌, ◌<◌, ◌≤◌, Bool, true, false, cond, ◌&&◌, if◌then◌else◌, List, [], ◌∷◌, ◌++◌, map, length, get_or, nat_eq, refl, sym, ap, subst, ◌∙◌, arith, Some, None, All, sum_by}
use Rattle.std.specs.Prelude.{Option, slice_get, slice_index_or}
use Rattle.std.specs.List.{AllByRecursion, IsDistinct}
use Rattle.std.specs.Str.{bytes_eq}
use Rattle.std.proofs.lemmas.Cmp.{nat_list_eq_equiv}
use Rattle.std.proofs.lemmas.List.{map-append}
use Rattle.std.proofs.lemmas.List.Elements.{All-head, All-tail, All-get_or}
use Rattle.std.proofs.lemmas.List.Sums.{sum_by-append, sum_by-cons}
use Rattle.std.proofs.lemmas.Map.Keys.{IsDistinct-head, IsDistinct-tail}
use Rattle.wide_sums.specs.declared.rows.Cell.{Cell}
use Rattle.wide_sums.specs.Cells.{amount, count_at}
use Rattle.wide_sums.proofs.Amounts.{amount-cons}
use Rattle.net_model.specs.declared.nets.Arc.{Arc}
use Rattle.net_model.specs.declared.nets.Label.{Label}
use Rattle.net_model.specs.declared.nets.Label.TheVariants.{Count}
use Rattle.net_model.specs.declared.nets.Net.{Net}
use Rattle.pt_net.specs.declared.instances.Instance.{Instance}
use Rattle.pt_net.specs.declared.instances.Side.{Side}
use Rattle.pt_net.specs.declared.instances.Side.TheVariants.{Pre, Post}
use Rattle.pt_net.specs.Markings.{IsInRange}
use Rattle.net_firing.specs.Coloured.{ColouredArc}
use Rattle.net_firing.specs.FileNets.{NodeArc, arc_of, arcs_from, binding_of, context_of, inscription, place_number, sort_at_place, value_of}
use Rattle.net_firing.specs.Firing.{is_side, joins}
use Rattle.net_firing.specs.Unfolding.{first_undefined}
use Rattle.unfolded_files.specs.Files.{all_arcs, arcs_of, id_at, input_arc, numbered_arcs, output_arc}

if_true : {A : Type 0} (x y : A) (b : Bool) → b ≡ true → (if b then x else y) ≡ x
if_true x y b e = ap (λ t. if t then x else y) e

if_false : {A : Type 0} (x y : A) (b : Bool) → b ≡ false → (if b then x else y) ≡ y
if_false x y b e = ap (λ t. if t then x else y) e

-- what an arc of a side adds at a place, by the place's id and its label
abbrev added : Net → Side → Side → ℕ → List ℕ → Label → ℕ
added net side own p id label =
    if is_side side own && nat_eq (place_number net id) p
    then (value_of (context_of net) (sort_at_place net (place_number net id)) (binding_of net [] []) (inscription label)).count 0
    else 0

-- what an arc adds for a transition
abbrev pub arc_count : Net → Side → ℕ → List ℕ → Arc → ℕ
arc_count net side p t a =
    if bytes_eq t a.target then added net side Pre p a.source a.label
    else if bytes_eq t a.source then added net side Post p a.target a.label else 0

abbrev moves : Side → ℕ → ColouredArc → ℕ
moves side p a = if joins side p a then (a.value []).count 0 else 0

step : (net : Net) (side : Side) (p : ℕ) (target source : Bool) (x y : NodeArc) (rest : List NodeArc)
    → sum_by (moves side p) (map (arc_of net []) ((if target then x ∷ [] else if source then y ∷ [] else []) ++ rest))
    ≡ (if target then moves side p (arc_of net [] x) else if source then moves side p (arc_of net [] y) else 0) + sum_by (moves side p) (map (arc_of net []) rest)
step net side p true source x y rest = sum_by-cons (moves side p) (arc_of net [] x) (map (arc_of net []) rest)
step net side p false true x y rest = sum_by-cons (moves side p) (arc_of net [] y) (map (arc_of net []) rest)
step net side p false false x y rest = omega arith

abbrev itself : List ℕ → List ℕ
itself node = node

-- the arcs that a transition has move together what all arcs add for it
pub own_arcs : (net : Net) (side : Side) (p : ℕ) (t : List ℕ) (number : ℕ) (arcs : List Arc) → sum_by (moves side p) (map (arc_of net []) (arcs_from itself t number arcs)) ≡ sum_by (arc_count net side p t) arcs
own_arcs net side p t number [] = refl
own_arcs net side p t number (a ∷ arcs) =
    step net side p (bytes_eq t a.target) (bytes_eq t a.source)
    (record { number = number; side = Pre; place = a.source; label = a.label }) (record { number = number; side = Post; place = a.target; label = a.label }) (arcs_from itself t (number + 1) arcs)
    ∙ ap (λ n. arc_count net side p t a + n) (own_arcs net side p t (number + 1) arcs)
    ∙ sym (sum_by-cons (arc_count net side p t) a arcs)

-- each place id is that of one place
abbrev pub AreNumbered : Net → List (List ℕ) → Type 0
AreNumbered net ids = (p : ℕ) → p < length ids → place_number net (id_at ids p) ≡ p

-- a cell of the transition itself, on either side
abbrev on_side : Side → Side → ℕ → ℕ
on_side side own n = if is_side side own then n else 0

by_side : (side own : Side) (p : ℕ) (c : Cell) → (if is_side side own && nat_eq c.at p then c.count else 0) ≡ on_side side own (count_at p c)
by_side Pre Pre p c = refl
by_side Pre Post p c = refl
by_side Post Pre p c = refl
by_side Post Post p c = refl

added_cell : (net : Net) (ids : List (List ℕ)) (side own : Side) (p : ℕ) (c : Cell) → AreNumbered net ids → c.at < length ids
    → added net side own p (id_at ids c.at) (Count c.count) ≡ on_side side own (count_at p c)
added_cell net ids side own p c numbered inside =
    ap (λ q. if is_side side own && nat_eq q p then c.count else 0) (numbered c.at inside) ∙ by_side side own p c

zero_side : (side own : Side) → 0 ≡ on_side side own 0
zero_side Pre Pre = refl
zero_side Pre Post = refl
zero_side Post Pre = refl
zero_side Post Post = refl

plus_side : (side own : Side) (m n : ℕ) → on_side side own m + on_side side own n ≡ on_side side own (m + n)
plus_side Pre Pre m n = refl
plus_side Pre Post m n = omega arith
plus_side Post Pre m n = omega arith
plus_side Post Post m n = refl

-- a transition that is no place
abbrev pub IsApart : List (List ℕ) → List ℕ → Type 0
IsApart ids t = All (λ p. bytes_eq t p ≡ false) ids

input_own : (net : Net) (ids : List (List ℕ)) (side : Side) (p : ℕ) (t s : List ℕ) (number : ℕ) (cells : List Cell) → AreNumbered net ids → bytes_eq t s ≡ true → IsInRange (length ids) cells
    → sum_by (arc_count net side p t) (numbered_arcs (input_arc ids s) number cells) ≡ on_side side Pre (amount p cells)
input_own net ids side p t s number [] numbered same inside = zero_side side Pre
input_own net ids side p t s number (c ∷ cs) numbered same inside =
    let a = input_arc ids s number c in
    let first : arc_count net side p t a ≡ on_side side Pre (count_at p c) =
    if_true (added net side Pre p a.source a.label) (if bytes_eq t a.source then added net side Post p a.target a.label else 0) (bytes_eq t s) same
    ∙ added_cell net ids side Pre p c numbered (All-head (λ c. c.at < length ids) c cs inside) in
    let rest = input_own net ids side p t s (number + 1) cs numbered same (All-tail (λ c. c.at < length ids) c cs inside) in
    sum_by-cons (arc_count net side p t) a (numbered_arcs (input_arc ids s) (number + 1) cs)
    ∙ ap (λ n. n + sum_by (arc_count net side p t) (numbered_arcs (input_arc ids s) (number + 1) cs)) first
    ∙ ap (λ n. on_side side Pre (count_at p c) + n) rest
    ∙ plus_side side Pre (count_at p c) (amount p cs)
    ∙ ap (on_side side Pre) (sym (amount-cons p c cs))

output_own : (net : Net) (ids : List (List ℕ)) (side : Side) (p : ℕ) (t s : List ℕ) (number : ℕ) (cells : List Cell) → AreNumbered net ids → IsApart ids t → bytes_eq t s ≡ true → IsInRange (length ids) cells
    → sum_by (arc_count net side p t) (numbered_arcs (output_arc ids s) number cells) ≡ on_side side Post (amount p cells)
output_own net ids side p t s number [] numbered apart same inside = zero_side side Post
output_own net ids side p t s number (c ∷ cs) numbered apart same inside =
    let a = output_arc ids s number c in
    let low = All-head (λ c. c.at < length ids) c cs inside in
    let first : arc_count net side p t a ≡ on_side side Post (count_at p c) =
    if_false (added net side Pre p a.source a.label) (if bytes_eq t a.source then added net side Post p a.target a.label else 0) (bytes_eq t a.target) (apart c.at [] low)
    ∙ if_true (added net side Post p a.target a.label) 0 (bytes_eq t s) same
    ∙ added_cell net ids side Post p c numbered low in
    let rest = output_own net ids side p t s (number + 1) cs numbered apart same (All-tail (λ c. c.at < length ids) c cs inside) in
    sum_by-cons (arc_count net side p t) a (numbered_arcs (output_arc ids s) (number + 1) cs)
    ∙ ap (λ n. n + sum_by (arc_count net side p t) (numbered_arcs (output_arc ids s) (number + 1) cs)) first
    ∙ ap (λ n. on_side side Post (count_at p c) + n) rest
    ∙ plus_side side Post (count_at p c) (amount p cs)
    ∙ ap (on_side side Post) (sym (amount-cons p c cs))

-- arcs of another transition add nothing
input_other : (net : Net) (ids : List (List ℕ)) (side : Side) (p : ℕ) (t s : List ℕ) (number : ℕ) (cells : List Cell) → IsApart ids t → bytes_eq t s ≡ false → IsInRange (length ids) cells
    → sum_by (arc_count net side p t) (numbered_arcs (input_arc ids s) number cells) ≡ 0
input_other net ids side p t s number [] apart other inside = refl
input_other net ids side p t s number (c ∷ cs) apart other inside =
    let a = input_arc ids s number c in
    let first : arc_count net side p t a ≡ 0 =
    if_false (added net side Pre p a.source a.label) (if bytes_eq t a.source then added net side Post p a.target a.label else 0) (bytes_eq t s) other
    ∙ if_false (added net side Post p a.target a.label) 0 (bytes_eq t a.source) (apart c.at [] (All-head (λ c. c.at < length ids) c cs inside)) in
    let rest = input_other net ids side p t s (number + 1) cs apart other (All-tail (λ c. c.at < length ids) c cs inside) in
    sum_by-cons (arc_count net side p t) a (numbered_arcs (input_arc ids s) (number + 1) cs) ∙ omega (arith, first, rest)

output_other : (net : Net) (ids : List (List ℕ)) (side : Side) (p : ℕ) (t s : List ℕ) (number : ℕ) (cells : List Cell) → IsApart ids t → bytes_eq t s ≡ false → IsInRange (length ids) cells
    → sum_by (arc_count net side p t) (numbered_arcs (output_arc ids s) number cells) ≡ 0
output_other net ids side p t s number [] apart other inside = refl
output_other net ids side p t s number (c ∷ cs) apart other inside =
    let a = output_arc ids s number c in
    let first : arc_count net side p t a ≡ 0 =
    if_false (added net side Pre p a.source a.label) (if bytes_eq t a.source then added net side Post p a.target a.label else 0) (bytes_eq t a.target) (apart c.at [] (All-head (λ c. c.at < length ids) c cs inside))
    ∙ if_false (added net side Post p a.target a.label) 0 (bytes_eq t s) other in
    let rest = output_other net ids side p t s (number + 1) cs apart other (All-tail (λ c. c.at < length ids) c cs inside) in
    sum_by-cons (arc_count net side p t) a (numbered_arcs (output_arc ids s) (number + 1) cs) ∙ omega (arith, first, rest)

-- the arcs of an instance
abbrev pub AreInRange : List (List ℕ) → Instance → Type 0
AreInRange ids i = IsInRange (length ids) i.pre × IsInRange (length ids) i.post

own_block : (net : Net) (ids : List (List ℕ)) (side : Side) (p : ℕ) (t s : List ℕ) (number : ℕ) (i : Instance) → AreNumbered net ids → IsApart ids t → bytes_eq t s ≡ true → AreInRange ids i
    → sum_by (arc_count net side p t) (arcs_of ids s number i) ≡ on_side side Pre (amount p i.pre) + on_side side Post (amount p i.post)
own_block net ids side p t s number i numbered apart same inside =
    sum_by-append (arc_count net side p t) (numbered_arcs (input_arc ids s) number i.pre) (numbered_arcs (output_arc ids s) (number + length i.pre) i.post)
    ∙ omega (arith, input_own net ids side p t s number i.pre numbered same inside.0, output_own net ids side p t s (number + length i.pre) i.post numbered apart same inside.1)

other_block : (net : Net) (ids : List (List ℕ)) (side : Side) (p : ℕ) (t s : List ℕ) (number : ℕ) (i : Instance) → IsApart ids t → bytes_eq t s ≡ false → AreInRange ids i
    → sum_by (arc_count net side p t) (arcs_of ids s number i) ≡ 0
other_block net ids side p t s number i apart other inside =
    sum_by-append (arc_count net side p t) (numbered_arcs (input_arc ids s) number i.pre) (numbered_arcs (output_arc ids s) (number + length i.pre) i.post)
    ∙ omega (arith, input_other net ids side p t s number i.pre apart other inside.0, output_other net ids side p t s (number + length i.pre) i.post apart other inside.1)

-- the arcs of all instances
abbrev next_number : ℕ → Instance → ℕ
next_number number i = number + length i.pre + length i.post

none_of : (net : Net) (ids : List (List ℕ)) (side : Side) (p : ℕ) (t : List ℕ) (number : ℕ) (ts : List (List ℕ)) (is : List Instance) → IsApart ids t → AllByRecursion (λ s. bytes_eq t s ≡ false) ts → All (AreInRange ids) is
    → sum_by (arc_count net side p t) (all_arcs ids number ts is) ≡ 0
none_of net ids side p t number [] is apart others inside = refl
none_of net ids side p t number (s ∷ ts) [] apart others inside = refl
none_of net ids side p t number (s ∷ ts) (i ∷ is) apart others inside =
    sum_by-append (arc_count net side p t) (arcs_of ids s number i) (all_arcs ids (next_number number i) ts is)
    ∙ omega (
      arith,
      other_block net ids side p t s number i apart others.0 (All-head (AreInRange ids) i is inside),
      none_of net ids side p t (next_number number i) ts is apart others.1 (All-tail (AreInRange ids) i is inside),
    )

one_of : (s : List ℕ) (ts : List (List ℕ)) (at : ℕ) (t : List ℕ) → AllByRecursion (λ x. bytes_eq s x ≡ false) ts → slice_get ts at ≡ Some t → bytes_eq t s ≡ false
one_of s [] at t others e = absurd (none at e)
  where
    none : {A : Type 0} {x : A} (i : ℕ) → slice_get [] i ≡ Some x → ⊥
    none i e = cc
one_of s (x ∷ ts) zero t others e = nat_list_eq_equiv.symm t s ∙ ap (bytes_eq s) (sym (ap (λ o. or_itself o) e)) ∙ others.0
  where
    or_itself : Option (List ℕ) → List ℕ
    or_itself (Some y) = y
    or_itself None = x
one_of s (x ∷ ts) (suc at) t others e = one_of s ts at t others.1 e

pub all_of : (net : Net) (ids : List (List ℕ)) (side : Side) (p : ℕ) (number : ℕ) (ts : List (List ℕ)) (is : List Instance) (at : ℕ) (t : List ℕ) (i : Instance) → AreNumbered net ids → IsApart ids t → IsDistinct bytes_eq ts → All (AreInRange ids) is
    → slice_get ts at ≡ Some t → slice_get is at ≡ Some i → sum_by (arc_count net side p t) (all_arcs ids number ts is) ≡ on_side side Pre (amount p i.pre) + on_side side Post (amount p i.post)
all_of net ids side p number [] is at t i numbered apart distinct inside here there = absurd (none at here)
  where
    none : {A : Type 0} {x : A} (i : ℕ) → slice_get [] i ≡ Some x → ⊥
    none i e = cc
all_of net ids side p number (s ∷ ts) [] at t i numbered apart distinct inside here there = absurd (none at there)
  where
    none : {A : Type 0} {x : A} (i : ℕ) → slice_get [] i ≡ Some x → ⊥
    none i e = cc
all_of net ids side p number (s ∷ ts) (j ∷ is) zero t i numbered apart distinct inside here there =
    let same : s ≡ t = cc in
    let own : j ≡ i = cc in
    let behind = none_of net ids side p t (next_number number j) ts is apart (subst (λ x. AllByRecursion (λ y. bytes_eq x y ≡ false) ts) same (IsDistinct-head bytes_eq s ts distinct)) (All-tail (AreInRange ids) j is inside) in
    let first = own_block net ids side p t s number j numbered apart (ap (bytes_eq t) same ∙ nat_list_eq_equiv.refl t) (All-head (AreInRange ids) j is inside) in
    sum_by-append (arc_count net side p t) (arcs_of ids s number j) (all_arcs ids (next_number number j) ts is)
    ∙ omega (arith, first, behind)
    ∙ ap (λ (k : Instance). on_side side Pre (amount p k.pre) + on_side side Post (amount p k.post)) own
all_of net ids side p number (s ∷ ts) (j ∷ is) (suc at) t i numbered apart distinct inside here there =
    let first = other_block net ids side p t s number j apart (one_of s ts at t (IsDistinct-head bytes_eq s ts distinct) here) (All-head (AreInRange ids) j is inside) in
    let behind = all_of net ids side p (next_number number j) ts is at t i numbered apart (IsDistinct-tail bytes_eq s ts distinct) (All-tail (AreInRange ids) j is inside) here there in
    sum_by-append (arc_count net side p t) (arcs_of ids s number j) (all_arcs ids (next_number number j) ts is)
    ∙ ap (λ n. n + sum_by (arc_count net side p t) (all_arcs ids (next_number number j) ts is)) first
    ∙ (let e : 0 + sum_by (arc_count net side p t) (all_arcs ids (next_number number j) ts is) ≡ sum_by (arc_count net side p t) (all_arcs ids (next_number number j) ts is) = omega arith in e)
    ∙ behind

-- every arc has a number, and so a value
abbrev IsCounted : Arc → Type 0
IsCounted a = (n : ℕ) × (a.label ≡ Count n)

abbrev AreCounted : List Arc → Type 0
AreCounted arcs = AllByRecursion IsCounted arcs

counted_both : (xs ys : List Arc) → AreCounted xs → AreCounted ys → AreCounted (xs ++ ys)
counted_both [] ys one two = two
counted_both (x ∷ xs) ys one two = (one.0, counted_both xs ys one.1 two)

inputs_counted : (ids : List (List ℕ)) (t : List ℕ) (number : ℕ) (cells : List Cell) → AreCounted (numbered_arcs (input_arc ids t) number cells)
inputs_counted ids t number [] = tt
inputs_counted ids t number (c ∷ cs) = ((c.count, refl), inputs_counted ids t (number + 1) cs)

outputs_counted : (ids : List (List ℕ)) (t : List ℕ) (number : ℕ) (cells : List Cell) → AreCounted (numbered_arcs (output_arc ids t) number cells)
outputs_counted ids t number [] = tt
outputs_counted ids t number (c ∷ cs) = ((c.count, refl), outputs_counted ids t (number + 1) cs)

all_counted : (ids : List (List ℕ)) (number : ℕ) (ts : List (List ℕ)) (is : List Instance) → AreCounted (all_arcs ids number ts is)
all_counted ids number [] is = tt
all_counted ids number (t ∷ ts) [] = tt
all_counted ids number (t ∷ ts) (i ∷ is) =
    counted_both (arcs_of ids t number i) (all_arcs ids (next_number number i) ts is)
    (counted_both (numbered_arcs (input_arc ids t) number i.pre) (numbered_arcs (output_arc ids t) (number + length i.pre) i.post) (inputs_counted ids t number i.pre) (outputs_counted ids t (number + length i.pre) i.post))
    (all_counted ids (next_number number i) ts is)

defined_label : (net : Net) (id : List ℕ) (label : Label) → (n : ℕ) × (label ≡ Count n) → (value_of (context_of net) (sort_at_place net (place_number net id)) (binding_of net [] []) (inscription label)).is_defined ≡ true
defined_label net id label (n, is) = ap (λ l. (value_of (context_of net) (sort_at_place net (place_number net id)) (binding_of net [] []) (inscription l)).is_defined) is

defined_first : (net : Net) (a : NodeArc) (rest : List NodeArc) → (n : ℕ) × (a.label ≡ Count n) → first_undefined (map (arc_of net []) rest) [] ≡ None → first_undefined (map (arc_of net []) (a ∷ rest)) [] ≡ None
defined_first net a rest counted behind =
    if_true (first_undefined (map (arc_of net []) rest) []) (Some a.number) (value_of (context_of net) (sort_at_place net (place_number net a.place)) (binding_of net [] []) (inscription a.label)).is_defined (defined_label net a.place a.label counted)
    ∙ behind

defined_step : (net : Net) (target source : Bool) (x y : NodeArc) (rest : List NodeArc) → (n : ℕ) × (x.label ≡ Count n) → (n : ℕ) × (y.label ≡ Count n) → first_undefined (map (arc_of net []) rest) [] ≡ None
    → first_undefined (map (arc_of net []) ((if target then x ∷ [] else if source then y ∷ [] else []) ++ rest)) [] ≡ None
defined_step net true source x y rest one two behind = defined_first net x rest one behind
defined_step net false true x y rest one two behind = defined_first net y rest two behind
defined_step net false false x y rest one two behind = behind

all_defined : (net : Net) (t : List ℕ) (number : ℕ) (arcs : List Arc) → AreCounted arcs → first_undefined (map (arc_of net []) (arcs_from itself t number arcs)) [] ≡ None
all_defined net t number [] counted = refl
all_defined net t number (a ∷ arcs) counted =
    defined_step net (bytes_eq t a.target) (bytes_eq t a.source)
    (record { number = number; side = Pre; place = a.source; label = a.label }) (record { number = number; side = Post; place = a.target; label = a.label }) (arcs_from itself t (number + 1) arcs)
    counted.0 counted.0 (all_defined net t (number + 1) arcs counted.1)

pub none_undefined : (net : Net) (t : List ℕ) (ids : List (List ℕ)) (ts : List (List ℕ)) (is : List Instance) → first_undefined (map (arc_of net []) (arcs_from itself t 0 (all_arcs ids 0 ts is))) [] ≡ None
none_undefined net t ids ts is = all_defined net t 0 (all_arcs ids 0 ts is) (all_counted ids 0 ts is)

pub taken_all : (net : Net) (ids : List (List ℕ)) (p : ℕ) (ts : List (List ℕ)) (is : List Instance) (at : ℕ) (t : List ℕ) (i : Instance) → AreNumbered net ids → IsApart ids t → IsDistinct bytes_eq ts → All (AreInRange ids) is
    → slice_get ts at ≡ Some t → slice_get is at ≡ Some i → sum_by (moves Pre p) (map (arc_of net []) (arcs_from itself t 0 (all_arcs ids 0 ts is))) ≡ amount p i.pre
taken_all net ids p ts is at t i numbered apart distinct inside here there =
    own_arcs net Pre p t 0 (all_arcs ids 0 ts is) ∙ all_of net ids Pre p 0 ts is at t i numbered apart distinct inside here there ∙ (let e : amount p i.pre + 0 ≡ amount p i.pre = omega arith in e)

pub put_all : (net : Net) (ids : List (List ℕ)) (p : ℕ) (ts : List (List ℕ)) (is : List Instance) (at : ℕ) (t : List ℕ) (i : Instance) → AreNumbered net ids → IsApart ids t → IsDistinct bytes_eq ts → All (AreInRange ids) is
    → slice_get ts at ≡ Some t → slice_get is at ≡ Some i → sum_by (moves Post p) (map (arc_of net []) (arcs_from itself t 0 (all_arcs ids 0 ts is))) ≡ amount p i.post
put_all net ids p ts is at t i numbered apart distinct inside here there =
    own_arcs net Post p t 0 (all_arcs ids 0 ts is) ∙ all_of net ids Post p 0 ts is at t i numbered apart distinct inside here there ∙ (let e : 0 + amount p i.post ≡ amount p i.post = omega arith in e)
