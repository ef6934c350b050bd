-- Arcs that are typed one after the other, until one is refused by itself; and the first that moves too much with those in front of it.
use Rattle.std.proofs.Common.{◌≡◌, ◌∙◌, ◌+◌, ◌-◌, ◌<◌, ◌≤◌, ◌^◌, ◌++◌, ◌∷◌, ◌⊎◌, inl, inr, [], refl, ap, sym, subst, arith, ℕ, Bool, true, false, List, get_or, length, take, Option, None, Some, Ok, Err}
use Rattle.std.proofs.Math.Nat.{eq-or-lt_of_le}
use Rattle.std.proofs.lemmas.Bool.{ltb-false}
use Rattle.std.proofs.lemmas.List.{get_or_default}
use Rattle.net_model.specs.declared.nets.Arc.{Arc}
use Rattle.colour_sorts.specs.declared.rules.Rule.{Rule}
use Rattle.colour_sorts.specs.declared.sorts.Sort.{Sort}
use Rattle.net_model.specs.declared.nets.Label.{Label}
use Rattle.net_model.specs.declared.nets.Label.TheVariants.{Absent, Count, Multiset}
use Rattle.net_model.specs.declared.nets.Net.{Net}
use Rattle.multiset_terms.specs.Context.{Context}
use Rattle.net_firing.specs.FileNets.{context_of, sort_at_place}
use Rattle.net_typing.specs.declared.arcs.ArcTyping.{ArcTyping}
use Rattle.net_typing.specs.declared.faults.NetFault.{NetFault}
use Rattle.net_typing.specs.declared.faults.NetFault.TheVariants as fault
use Rattle.net_typing.specs.declared.inscribed.Inscribed.{Inscribed}
use Rattle.net_typing.specs.declared.inscribed.Inscribed.TheVariants as inscribed
use Rattle.net_typing.specs.Refusals.{arc_refusal, arc_rule, arcs_refusal}
use Rattle.net_typing.specs.Rules.{IsRefusal, Refusal, ill_typed, is_heavy, or_else, too_heavy}
use Rattle.net_typing.specs.Standing.{AreTypedBelow, IsSame, number_of}
use Rattle.net_typing.specs.TypedArcs.{IsArcAnswer, IsArcTyping, IsStop, IsTypedSoFar, own_refusal}
use Rattle.net_typing.specs.Weights.{AreWithinWeight, IsLight, IsOver, gross_moved, key_of, weight_among}
use Rattle.net_typing.proofs.ArcsListed.{first-refused, none-refused, over-refused, own-fits, refused-own, within-fits}
use Rattle.net_typing.proofs.ArcsWeighed.{weight-same}
use Rattle.net_typing.proofs.Gathered.{typed-more}

sound-at : (net : Net) (arcs : List Arc) (i : ℕ) (a : Arc) → i < length arcs → a ≡ get_or arcs i a → own_refusal net a ≡ None → ((j : ℕ) (d : Arc) → j < i → own_refusal net (get_or arcs j d) ≡ None)
    → (j : ℕ) (d : Arc) → (j ≡ i) ⊎ (j < i) → own_refusal net (get_or arcs j d) ≡ None
sound-at net arcs i a lt is here before j d (inl same) =
    subst (λ x. own_refusal net x ≡ None) (sym (ap (λ k. get_or arcs k d) same ∙ get_or_default arcs i d a lt ∙ sym is)) here
sound-at net arcs i a lt is here before j d (inr less) = before j d less

pub gathered-more : (net : Net) (arcs : List Arc) (i : ℕ) (typed : List ArcTyping) (a : Arc) (it : ArcTyping) → i < length arcs → a ≡ get_or arcs i a → IsTypedSoFar net arcs i typed → IsArcAnswer net a (Ok it)
    → IsTypedSoFar net arcs (i + 1) (typed ++ it ∷ [])
gathered-more net arcs i typed a it lt is before found = record {
  each = typed-more (IsArcTyping net) i arcs typed a it before.each lt is found.0;
  sound = λ j d less. sound-at net arcs i a lt is (own-fits net a it found.0 found.1) before.sound j d (eq-or-lt_of_le (omega (arith, less)));
}

-- no typed arc moves too much by itself
light-same : (ctx : Context) (s : Sort) (label : Label) (it : Inscribed) → is_heavy ctx label ≡ false → IsSame ctx false (number_of 1 label) it → gross_moved it < 2 ^ 63
light-same ctx s Absent (inscribed.Dots m) light is = omega (arith, is)
light-same ctx s Absent (inscribed.Term c) light is = absurd is
light-same ctx s (Count n) (inscribed.Dots m) light is = let most = ltb-false (2 ^ 63 - 1) n light in omega (arith, most, is)
light-same ctx s (Count n) (inscribed.Term c) light is = absurd is
light-same ctx s (Multiset t) (inscribed.Dots m) light is = absurd is
light-same ctx s (Multiset t) (inscribed.Term c) light is = is.light

pub are-light : (net : Net) (arcs : List Arc) (n : ℕ) (typed : List ArcTyping) (d : Arc) → AreTypedBelow (IsArcTyping net) n arcs typed → (k : ℕ) (e : ArcTyping) → k < length typed → IsLight (get_or typed k e)
are-light net arcs n typed d known k e lt =
    let here = known.each k d e (omega (arith, lt, known.many)) in
    light-same (context_of net) (sort_at_place net (get_or typed k e).ends.place) (get_or arcs k d).label (get_or typed k e).moves here.moves.light here.moves.is

-- each arc of those typed is refused, or not, by its weight together with those in front of it
rule-none : (id : List ℕ) (r : Option Rule) (heavy : Bool) → or_else (ill_typed id r) (too_heavy id heavy) ≡ None → r ≡ None
rule-none id None heavy is = refl
rule-none id (Some broken) heavy is = absurd (cc)

fits-at : (net : Net) (arcs : List Arc) (n : ℕ) (typed : List ArcTyping) (d : Arc) (e : ArcTyping) (k : ℕ) → length net.places < 2 ^ 32 → n ≤ length arcs → IsTypedSoFar net arcs n typed → k < n
    → weight_among typed (k + 1) (key_of (get_or typed k e).ends) < 2 ^ 63 → arc_refusal net (take k arcs) (get_or arcs k d) ≡ None
fits-at net arcs n typed d e k many long known lt less =
    let a = get_or arcs k d in
    within-fits net (take k arcs) a (get_or typed k e) (known.each.each k d e lt) (rule-none a.id (arc_rule net a) (is_heavy (context_of net) a.label) (known.sound k d lt))
    (subst (λ x. x < 2 ^ 63) (sym (weight-same net arcs typed n k d e many known.each long lt)) less)

over-at : (net : Net) (arcs : List Arc) (n : ℕ) (typed : List ArcTyping) (d : Arc) (e : ArcTyping) (k : ℕ) → length net.places < 2 ^ 32 → n ≤ length arcs → IsTypedSoFar net arcs n typed → k < n
    → 2 ^ 63 ≤ weight_among typed (k + 1) (key_of (get_or typed k e).ends) → arc_refusal net (take k arcs) (get_or arcs k d) ≡ Some (fault.Weight (get_or arcs k d).id)
over-at net arcs n typed d e k many long known lt more =
    let a = get_or arcs k d in
    over-refused net (take k arcs) a (get_or typed k e) (known.each.each k d e lt) (rule-none a.id (arc_rule net a) (is_heavy (context_of net) a.label) (known.sound k d lt))
    (subst (λ x. 2 ^ 63 ≤ x) (sym (weight-same net arcs typed n k d e many known.each long lt)) more)

all-fit : (net : Net) (arcs : List Arc) (n m : ℕ) (typed : List ArcTyping) (d : Arc) (e : ArcTyping) → length net.places < 2 ^ 32 → n ≤ length arcs → IsTypedSoFar net arcs n typed → m ≤ n → AreWithinWeight typed m
    → (i : ℕ) → i < m → arc_refusal net (take i arcs) (get_or arcs i d) ≡ None
all-fit net arcs n m typed d e many long known few within = λ i less.
    let lt : i < n = omega (arith, less, few) in
    let it = get_or typed i e in
    fits-at net arcs n typed d e i many long known lt (within i less it (get_or_default typed i e it (omega (arith, lt, known.each.many))))

-- what is answered where an arc moves too much, where one is refused by itself, and where none is
pub weight-refused : (net : Net) (arcs : List Arc) (n at : ℕ) (typed : List ArcTyping) (d : Arc) (e : ArcTyping) → length net.places < 2 ^ 32 → n ≤ length arcs → IsTypedSoFar net arcs n typed → at < n → IsOver typed at → AreWithinWeight typed at
    → arcs_refusal net [] arcs ≡ Some (fault.Weight (get_or arcs at d).id)
weight-refused net arcs n at typed d e many long known lt over within =
    let it = get_or typed at e in
    first-refused net arcs d at (fault.Weight (get_or arcs at d).id) (omega (arith, lt, long)) (all-fit net arcs n at typed d e many long known (omega (arith, lt)) within)
    (over-at net arcs n typed d e at many long known lt (over it (get_or_default typed at e it (omega (arith, lt, known.each.many)))))

stopped : (net : Net) (arcs : List Arc) (n : ℕ) (typed : List ArcTyping) (d : Arc) (e : ArcTyping) (own : Refusal) (why : NetFault) → length net.places < 2 ^ 32 → n < length arcs → IsTypedSoFar net arcs n typed → AreWithinWeight typed n
    → own_refusal net (get_or arcs n d) ≡ own → IsRefusal own why → IsRefusal (arcs_refusal net [] arcs) why
stopped net arcs n typed d e own fault.Memory many lt known within is refused = tt
stopped net arcs n typed d e own (fault.IllTyped id broken) many lt known within is refused =
    first-refused net arcs d n (fault.IllTyped id broken) lt (all-fit net arcs n n typed d e many (omega (arith, lt)) known (omega arith) within) (refused-own net (take n arcs) (get_or arcs n d) (fault.IllTyped id broken) (is ∙ refused))
stopped net arcs n typed d e own (fault.Weight id) many lt known within is refused =
    first-refused net arcs d n (fault.Weight id) lt (all-fit net arcs n n typed d e many (omega (arith, lt)) known (omega arith) within) (refused-own net (take n arcs) (get_or arcs n d) (fault.Weight id) (is ∙ refused))
stopped net arcs n typed d e own (fault.Limit kind) many lt known within is refused =
    first-refused net arcs d n (fault.Limit kind) lt (all-fit net arcs n n typed d e many (omega (arith, lt)) known (omega arith) within) (refused-own net (take n arcs) (get_or arcs n d) (fault.Limit kind) (is ∙ refused))
stopped net arcs n typed d e own (fault.Negative id) many lt known within is refused =
    first-refused net arcs d n (fault.Negative id) lt (all-fit net arcs n n typed d e many (omega (arith, lt)) known (omega arith) within) (refused-own net (take n arcs) (get_or arcs n d) (fault.Negative id) (is ∙ refused))

pub stop-refused : (net : Net) (arcs : List Arc) (n : ℕ) (typed : List ArcTyping) (d : Arc) (e : ArcTyping) (why : NetFault) → length net.places < 2 ^ 32 → IsTypedSoFar net arcs n typed → AreWithinWeight typed n → IsStop net arcs n (Some why)
    → IsRefusal (arcs_refusal net [] arcs) why
stop-refused net arcs n typed d e why many known within stop = stopped net arcs n typed d e (own_refusal net (get_or arcs n d)) why many stop.0 known within refl (stop.1 d)

pub no-refusal : (net : Net) (arcs : List Arc) (n : ℕ) (typed : List ArcTyping) (d : Arc) (e : ArcTyping) → length net.places < 2 ^ 32 → IsTypedSoFar net arcs n typed → AreWithinWeight typed n → n ≡ length arcs → arcs_refusal net [] arcs ≡ None
no-refusal net arcs n typed d e many known within whole =
    none-refused net arcs d (λ i less. all-fit net arcs n n typed d e many (omega (arith, whole)) known (omega arith) within i (omega (arith, less, whole)))

-- an arc and a typed one, for where none is asked for
abbrev pub no_arc : Arc
no_arc = record { id = []; source = []; target = []; label = Absent }

abbrev pub no_typing : ArcTyping
no_typing = record { ends = record { transition = 0; place = 0; is_input = false }; moves = inscribed.Dots 0 }
