-- What arcs move that join the same is what their typed parts tell.
use Rattle.std.proofs.Common.{◌≡◌, ◌∙◌, ◌+◌, ◌*◌, ◌<◌, ◌≤◌, ◌^◌, ◌++◌, ◌∷◌, ◌&&◌, refl, ap, sym, subst, arith, ℕ, zero, suc, Bool, true, false, nat_eq, List, [], get_or, length, sum_by, take, Option, Some, if◌then◌else◌}
use Rattle.std.proofs.lemmas.Bool.{and_parts, eq-eqb, eqb-true}
use Rattle.std.proofs.lemmas.List.{take_more}
use Rattle.std.proofs.lemmas.List.Sums.{sum_by_more}
use Rattle.net_model.specs.declared.nets.Arc.{Arc}
use Rattle.net_model.specs.declared.nets.Label.{Label}
use Rattle.net_model.specs.declared.nets.Label.TheVariants.{Absent, Count, Multiset}
use Rattle.net_model.specs.declared.nets.Net.{Net}
use Rattle.multiset_terms.specs.Context.{Context}
use Rattle.net_firing.specs.FileNets.{context_of}
use Rattle.net_typing.specs.declared.arcs.ArcTyping.{ArcTyping}
use Rattle.net_typing.specs.declared.arcs.Ends.{Ends}
use Rattle.net_typing.specs.declared.inscribed.Inscribed.{Inscribed}
use Rattle.net_typing.specs.declared.inscribed.Inscribed.TheVariants as inscribed
use Rattle.net_typing.specs.Refusals.{Joined, gross_along, gross_between, is_same_joined, joined_by, label_gross, same_bool}
use Rattle.net_typing.specs.Standing.{AreTypedBelow, IsInscribed, IsSame, number_of}
use Rattle.net_typing.specs.TypedArcs.{IsArcTyping, joined_of}
use Rattle.net_typing.specs.Weights.{gross_moved, gross_with, key_of, weight_among}

eqb-refl : (n : ℕ) → nat_eq n n ≡ true
eqb-refl n = eq-eqb n n refl

-- two numbers are the same exactly where what they tell is
same-side : (a b : Bool) → same_bool a b ≡ true → a ≡ b
same-side true b h = sym h
same-side false true h = absurd (cc)
same-side false false h = refl

apart-sides : (a b : Bool) (m n : ℕ) → m * 2 + (if a then 1 else 0) ≡ n * 2 + (if b then 1 else 0) → (m ≡ n) × (same_bool a b ≡ true)
apart-sides true true m n e = (omega (arith, e), refl)
apart-sides false false m n e = (omega (arith, e), refl)
apart-sides true false m n e = absurd (omega (arith, e))
apart-sides false true m n e = absurd (omega (arith, e))

both : (a b c : Bool) → a ≡ true → b ≡ true → c ≡ true → (a && b && c) ≡ true
both a b c h i j = cc

not-same : (d e : Ends) (r : Bool) → is_same_joined (joined_of d) (Some (joined_of e)) ≡ r → nat_eq (key_of d) (key_of e) ≡ false → is_same_joined (joined_of d) (Some (joined_of e)) ≡ false
not-same d e false is h = is
not-same d e true is h =
    let parts = and_parts (nat_eq d.transition e.transition && nat_eq d.place e.place) (same_bool d.is_input e.is_input) is in
    let ends = and_parts (nat_eq d.transition e.transition) (nat_eq d.place e.place) parts.0 in
    let t = eqb-true d.transition e.transition ends.0 in
    let p = eqb-true d.place e.place ends.1 in
    let s = same-side d.is_input e.is_input parts.1 in
    let key : key_of d ≡ key_of e = ap (λ x. (x * 2 ^ 32 + d.place) * 2 + (if d.is_input then 1 else 0)) t ∙ ap (λ x. (e.transition * 2 ^ 32 + x) * 2 + (if d.is_input then 1 else 0)) p ∙ ap (λ x. (e.transition * 2 ^ 32 + e.place) * 2 + (if x then 1 else 0)) s in
    absurd (let no : true ≡ false = sym (ap (nat_eq (key_of d)) (sym key) ∙ eqb-refl (key_of d)) ∙ h in cc)

same-key : (d e : Ends) → d.place < 2 ^ 32 → e.place < 2 ^ 32 → (r : Bool) → nat_eq (key_of d) (key_of e) ≡ r → is_same_joined (joined_of d) (Some (joined_of e)) ≡ r
same-key d e few same true h =
    let apart = apart-sides d.is_input e.is_input (d.transition * 2 ^ 32 + d.place) (e.transition * 2 ^ 32 + e.place) (eqb-true (key_of d) (key_of e) h) in
    let t : d.transition ≡ e.transition = omega (arith, apart.0, few, same) in
    let p : d.place ≡ e.place = omega (arith, apart.0, few, same) in
    both (nat_eq d.transition e.transition) (nat_eq d.place e.place) (same_bool d.is_input e.is_input) (ap (nat_eq d.transition) (sym t) ∙ eqb-refl d.transition) (ap (nat_eq d.place) (sym p) ∙ eqb-refl d.place) apart.1
same-key d e few same false h = not-same d e (is_same_joined (joined_of d) (Some (joined_of e))) refl h

-- what is moved
same-gross : (ctx : Context) (label : Label) (it : Inscribed) → IsSame ctx false (number_of 1 label) it → label_gross ctx label ≡ gross_moved it
same-gross ctx Absent (inscribed.Dots m) is = sym is
same-gross ctx Absent (inscribed.Term c) is = absurd is
same-gross ctx (Count n) (inscribed.Dots m) is = sym is
same-gross ctx (Count n) (inscribed.Term c) is = absurd is
same-gross ctx (Multiset t) (inscribed.Dots m) is = absurd is
same-gross ctx (Multiset t) (inscribed.Term c) is = is.gross_total

-- an arc and its typed part count the same
counts-same : (net : Net) (d : Ends) (a : Arc) (it : ArcTyping) → d.place < 2 ^ 32 → length net.places < 2 ^ 32 → IsArcTyping net a it → gross_along net (joined_of d) a ≡ gross_with (key_of d) it
counts-same net d a it few many known =
    ap (λ j. if is_same_joined (joined_of d) j then label_gross (context_of net) a.label else 0) known.ends
    ∙ ap (λ b. if b then label_gross (context_of net) a.label else 0) (same-key d it.ends few (omega (arith, many, known.place)) (nat_eq (key_of d) (key_of it.ends)) refl)
    ∙ ap (λ n. if nat_eq (key_of d) (key_of it.ends) then n else 0) (same-gross (context_of net) a.label it.moves known.moves.is)

sums-same : {A B : Type 0} (f : A → ℕ) (g : B → ℕ) (xs : List A) (ys : List B) (d : A) (e : B) (n : ℕ) → n ≤ length xs → n ≤ length ys → ((i : ℕ) → i < n → f (get_or xs i d) ≡ g (get_or ys i e)) → sum_by f (take n xs) ≡ sum_by g (take n ys)
sums-same f g xs ys d e zero long wide same = refl
sums-same f g xs ys d e (suc n) long wide same =
    let before = sums-same f g xs ys d e n (omega (arith, long)) (omega (arith, wide)) (λ i less. same i (omega (arith, less))) in
    let here = same n (omega arith) in
    let first = sum_by_more f xs n d (omega (arith, long)) in
    let second = sum_by_more g ys n e (omega (arith, wide)) in
    let one : sum_by f (take (n + 1) xs) ≡ sum_by g (take (n + 1) ys) = first ∙ ap (λ x. x + f (get_or xs n d)) before ∙ ap (λ x. sum_by g (take n ys) + x) here ∙ sym second in
    let more : suc n ≡ n + 1 = omega arith in
    ap (λ m. sum_by f (take m xs)) more ∙ one ∙ ap (λ m. sum_by g (take m ys)) (sym more)

-- the weight of an arc together with those in front of it
pub weight-same : (net : Net) (arcs : List Arc) (typed : List ArcTyping) (n k : ℕ) (d : Arc) (e : ArcTyping) → length net.places < 2 ^ 32 → AreTypedBelow (IsArcTyping net) n arcs typed → n ≤ length arcs → k < n
    → gross_between net (joined_by net (get_or arcs k d)) (take k arcs ++ get_or arcs k d ∷ []) ≡ weight_among typed (k + 1) (key_of (get_or typed k e).ends)
weight-same net arcs typed n k d e many known long lt =
    let a = get_or arcs k d in
    let it = get_or typed k e in
    let here = known.each k d e lt in
    ap (λ j. gross_between net j (take k arcs ++ a ∷ [])) here.ends
    ∙ ap (gross_between net (Some (joined_of it.ends))) (sym (take_more arcs k d (omega (arith, lt, long))))
    ∙ sums-same (gross_along net (joined_of it.ends)) (gross_with (key_of it.ends)) arcs typed d e (k + 1) (omega (arith, lt, long)) (omega (arith, lt, known.many))
    (λ i less. counts-same net it.ends (get_or arcs i d) (get_or typed i e) (omega (arith, many, here.place)) many (known.each i d e (omega (arith, less, lt))))
