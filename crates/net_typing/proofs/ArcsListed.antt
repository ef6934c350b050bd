-- The first arc that is refused, by itself or together with those in front of it.
use Rattle.std.proofs.Common.{◌≡◌, ◌∙◌, ◌+◌, ◌*◌, ◌-◌, ◌<◌, ◌≤◌, ◌^◌, ◌++◌, ◌∷◌, ◌&&◌, ◌||◌, refl, ap, sym, subst, arith, ℕ, zero, suc, Bool, true, false, nat_eq, nat_lt, List, [], drop, get_or, length, sum_by, take, Option, None, Some, Err, if◌then◌else◌}
use Rattle.std.proofs.lemmas.Bool.{le-ltb, lt-ltb}
use Rattle.std.proofs.lemmas.List.{drop_all, drop_more, get_or_default, take_more}
use Rattle.std.proofs.lemmas.List.Sums.{sum_by_more}
use Rattle.colour_sorts.specs.declared.rules.Rule.{Rule}
use Rattle.colour_sorts.specs.declared.sorts.Sort.{Sort}
use Rattle.net_model.specs.declared.nets.Arc.{Arc}
use Rattle.net_model.specs.declared.nets.Label.{Label}
use Rattle.net_model.specs.declared.nets.Label.TheVariants.{Absent, Count, Multiset}
use Rattle.net_model.specs.declared.nets.Net.{Net}
use Rattle.multiset_terms.specs.Context.{Context}
use Rattle.net_firing.specs.FileNets.{context_of}
use Rattle.net_typing.specs.declared.arcs.ArcTyping.{ArcTyping}
use Rattle.net_typing.specs.declared.arcs.Ends.{Ends}
use Rattle.net_typing.specs.declared.faults.NetFault.{NetFault}
use Rattle.net_typing.specs.declared.faults.NetFault.TheVariants as fault
use Rattle.net_typing.specs.declared.faults.Unfit.{Unfit}
use Rattle.net_typing.specs.declared.faults.Unfit.TheVariants as unfit
use Rattle.net_typing.specs.declared.inscribed.Inscribed.{Inscribed}
use Rattle.net_typing.specs.declared.inscribed.Inscribed.TheVariants as inscribed
use Rattle.net_typing.specs.Refusals.{Joined, arc_refusal, arc_rule, arcs_refusal, gross_along, gross_between, is_overweight, is_same_joined, joined_by, label_gross, same_bool}
use Rattle.net_typing.specs.Rules.{IsUnfit, Refusal, ill_typed, is_heavy, or_else, too_heavy}
use Rattle.net_typing.specs.Standing.{AreTypedBelow, IsInscribed, IsSame, number_of}
use Rattle.net_typing.specs.TypedArcs.{IsArcAnswer, IsArcTyping, joined_of, own_refusal}
use Rattle.net_typing.specs.Weights.{gross_moved, gross_with, key_of, weight_among}

-- an arc by what is known of its rule, of its own weight and of the weight together with those in front of it
by : (net : Net) (earlier : List Arc) (a : Arc) (r : Option Rule) (over : Bool) → arc_rule net a ≡ r → is_overweight net earlier a ≡ over → arc_refusal net earlier a ≡ or_else (ill_typed a.id r) (too_heavy a.id over)
by net earlier a r over rule weight =
    ap (λ x. or_else (ill_typed a.id x) (too_heavy a.id (is_overweight net earlier a))) rule ∙ ap (λ x. or_else (ill_typed a.id r) (too_heavy a.id x)) weight

own-by : (net : Net) (a : Arc) (r : Option Rule) (heavy : Bool) → arc_rule net a ≡ r → is_heavy (context_of net) a.label ≡ heavy → own_refusal net a ≡ or_else (ill_typed a.id r) (too_heavy a.id heavy)
own-by net a r heavy rule weight =
    ap (λ x. or_else (ill_typed a.id x) (too_heavy a.id (is_heavy (context_of net) a.label))) rule ∙ ap (λ x. or_else (ill_typed a.id r) (too_heavy a.id x)) weight

weighed : (net : Net) (earlier : List Arc) (a : Arc) (heavy over : Bool) → is_heavy (context_of net) a.label ≡ heavy → nat_lt (2 ^ 63 - 1) (gross_between net (joined_by net a) (earlier ++ a ∷ [])) ≡ over
    → is_overweight net earlier a ≡ (heavy || over)
weighed net earlier a heavy over h o = ap (λ x. x || nat_lt (2 ^ 63 - 1) (gross_between net (joined_by net a) (earlier ++ a ∷ []))) h ∙ ap (λ x. heavy || x) o

not-over : (n : ℕ) → n < 2 ^ 63 → nat_lt (2 ^ 63 - 1) n ≡ false
not-over n less = le-ltb (2 ^ 63 - 1) n (omega (arith, less))

pub own-unfit : (net : Net) (a : Arc) (why : Unfit) → IsArcAnswer net a (Err why) → IsUnfit a.id (own_refusal net a) why
own-unfit net a (unfit.Broken broken) is = ap (λ x. or_else (ill_typed a.id x) (too_heavy a.id (is_heavy (context_of net) a.label))) is
own-unfit net a unfit.Heavy is = own-by net a None true is.0 is.1
own-unfit net a unfit.Memory is = tt

pub own-fits : (net : Net) (a : Arc) (it : ArcTyping) → IsArcTyping net a it → arc_rule net a ≡ None → own_refusal net a ≡ None
own-fits net a it known rule = own-by net a None false rule known.moves.light

-- what refuses an arc by itself refuses it
refused-by : (net : Net) (earlier : List Arc) (a : Arc) (why : NetFault) (r : Option Rule) (heavy : Bool) → arc_rule net a ≡ r → is_heavy (context_of net) a.label ≡ heavy → or_else (ill_typed a.id r) (too_heavy a.id heavy) ≡ Some why
    → arc_refusal net earlier a ≡ Some why
refused-by net earlier a why (Some broken) heavy rule weight is = by net earlier a (Some broken) (is_overweight net earlier a) rule refl ∙ is
refused-by net earlier a why None true rule weight is = by net earlier a None true rule (weighed net earlier a true (nat_lt (2 ^ 63 - 1) (gross_between net (joined_by net a) (earlier ++ a ∷ []))) weight refl) ∙ is
refused-by net earlier a why None false rule weight is = absurd (cc)

pub refused-own : (net : Net) (earlier : List Arc) (a : Arc) (why : NetFault) → own_refusal net a ≡ Some why → arc_refusal net earlier a ≡ Some why
refused-own net earlier a why is = refused-by net earlier a why (arc_rule net a) (is_heavy (context_of net) a.label) refl refl is

-- an arc that isn't refused by itself, within its weight and over it
pub within-fits : (net : Net) (earlier : List Arc) (a : Arc) (it : ArcTyping) → IsArcTyping net a it → arc_rule net a ≡ None → gross_between net (joined_by net a) (earlier ++ a ∷ []) < 2 ^ 63 → arc_refusal net earlier a ≡ None
within-fits net earlier a it known rule less =
    by net earlier a None false rule (weighed net earlier a false false known.moves.light (not-over (gross_between net (joined_by net a) (earlier ++ a ∷ [])) less))

pub over-refused : (net : Net) (earlier : List Arc) (a : Arc) (it : ArcTyping) → IsArcTyping net a it → arc_rule net a ≡ None → 2 ^ 63 ≤ gross_between net (joined_by net a) (earlier ++ a ∷ []) → arc_refusal net earlier a ≡ Some (fault.Weight a.id)
over-refused net earlier a it known rule more =
    by net earlier a None true rule (weighed net earlier a false true known.moves.light (lt-ltb (2 ^ 63 - 1) (gross_between net (joined_by net a) (earlier ++ a ∷ [])) (omega (arith, more))))

-- the list, arc by arc
next : (net : Net) (arcs : List Arc) (i : ℕ) (a : Arc) → i < length arcs → a ≡ get_or arcs i a → arcs_refusal net (take i arcs) (drop i arcs) ≡ or_else (arc_refusal net (take i arcs) a) (arcs_refusal net (take (i + 1) arcs) (drop (i + 1) arcs))
next net arcs i a lt is =
    ap (arcs_refusal net (take i arcs)) (drop_more arcs i a lt)
    ∙ ap (λ x. or_else (arc_refusal net (take i arcs) x) (arcs_refusal net (take i arcs ++ x ∷ []) (drop (i + 1) arcs))) (sym is)
    ∙ ap (λ x. or_else (arc_refusal net (take i arcs) a) (arcs_refusal net x (drop (i + 1) arcs))) (ap (λ x. take i arcs ++ x ∷ []) is ∙ sym (take_more arcs i a lt))

pub none-before : (net : Net) (arcs : List Arc) (d : Arc) (n : ℕ) → n ≤ length arcs → ((i : ℕ) → i < n → arc_refusal net (take i arcs) (get_or arcs i d) ≡ None) → arcs_refusal net [] arcs ≡ arcs_refusal net (take n arcs) (drop n arcs)
none-before net arcs d zero within none = refl
none-before net arcs d (suc n) within none =
    let a = get_or arcs n d in
    let lt : n < length arcs = omega (arith, within) in
    let more : n + 1 ≡ suc n = omega arith in
    none-before net arcs d n (omega (arith, within)) (λ i less. none i (omega (arith, less)))
    ∙ next net arcs n (get_or arcs n d) lt (get_or_default arcs n d (get_or arcs n d) lt)
    ∙ ap (λ r. or_else r (arcs_refusal net (take (n + 1) arcs) (drop (n + 1) arcs))) (none n (omega arith))
    ∙ ap (λ m. arcs_refusal net (take m arcs) (drop m arcs)) more

pub first-refused : (net : Net) (arcs : List Arc) (d : Arc) (n : ℕ) (why : NetFault) → n < length arcs → ((i : ℕ) → i < n → arc_refusal net (take i arcs) (get_or arcs i d) ≡ None) → arc_refusal net (take n arcs) (get_or arcs n d) ≡ Some why
    → arcs_refusal net [] arcs ≡ Some why
first-refused net arcs d n why lt none is =
    none-before net arcs d n (omega (arith, lt)) none
    ∙ next net arcs n (get_or arcs n d) lt (get_or_default arcs n d (get_or arcs n d) lt)
    ∙ ap (λ r. or_else r (arcs_refusal net (take (n + 1) arcs) (drop (n + 1) arcs))) is

pub none-refused : (net : Net) (arcs : List Arc) (d : Arc) → ((i : ℕ) → i < length arcs → arc_refusal net (take i arcs) (get_or arcs i d) ≡ None) → arcs_refusal net [] arcs ≡ None
none-refused net arcs d none =
    none-before net arcs d (length arcs) (omega arith) none ∙ ap (λ xs. arcs_refusal net (take (length arcs) arcs) xs) (drop_all (length arcs) arcs (omega arith))
