-- What is outside the last stage.
use Rattle.std.proofs.Common.{◌≡◌, ℕ, zero, suc, ◌<◌, Bool, true, false, not, ◌||◌, nat_eq, nat_lt, inl, inr, List, arith, sym, ◌∙◌, slice_index}
use Rattle.std.proofs.lemmas.Bool.{cases_eq, cases_Bool, false≢true, and_cases, or_parts, ltb-true, not-true, not_from_false, eq-eqb}
use Rattle.pt_net.specs.Systems.{NetSystem, places, pre}
use Rattle.trap_siphon.specs.Sets.{has, each_below}
use Rattle.trap_siphon.specs.Stages.{has_inputs, stage, last_stage}
use Rattle.trap_siphon.specs.Siphons.{IsEmptySiphon, outside, OutsideIsLargest}
use Rattle.trap_siphon.proofs.Finishing.{next-parts}
use Rattle.trap_siphon.proofs.Members.{set_of-parts, set_of-from}
use Rattle.trap_siphon.proofs.Stages.{inputs-at, stage-marked, IsClosed, last_stage-closed}

out-parts : (net : NetSystem) (s : List Bool) (p : ℕ) → has (outside net s) p ≡ true → has s p ≡ false
unfolding outside
out-parts net s p out = not-true (has s p) (set_of-parts (places net) (λ q. not (has s q)) p out).1

out-from : (net : NetSystem) (s : List Bool) (p : ℕ) → p < places net → has s p ≡ false → has (outside net s) p ≡ true
unfolding outside
out-from net s p low off = set_of-from (places net) (λ q. not (has s q)) p low (not_from_false (has s p) off)

-- a test that not each number passes
each-fails : (n : ℕ) (test : ℕ → Bool) → each_below n test ≡ false → (k : ℕ) × (k < n) × (test k ≡ false)
each-fails zero test fails = absurd (false≢true (sym fails))
each-fails (suc n) test fails = elim (and_cases (test n) (each_below n test) fails) [
  | inl here ↦ (n, omega arith, here)
  | inr rest ↦ let found = each-fails n test rest in (found.0, (let low = found.1 in omega arith), found.2)
]

-- an input that isn't in the set
missing_input : (net : NetSystem) (s : List Bool) (i : ℕ) → has_inputs net s i ≡ false → (q : ℕ) × (q < places net) × (has s q ≡ false) × (0 < pre net i q)
unfolding has_inputs
missing_input net s i fails =
    let found = each-fails (places net) (λ q. nat_eq (pre net i q) 0 || has s q) fails in
    let parts = or_parts (nat_eq (pre net i found.0) 0) (has s found.0) found.2 in (
      found.0,
      found.1,
      parts.1,
      elim (cases_eq (pre net i found.0) 0) [
        | inl none ↦ absurd (false≢true (sym parts.0 ∙ eq-eqb (pre net i found.0) 0 none))
        | inr some ↦ omega arith
      ],
    )

outside_siphon : (net : NetSystem) (on : List Bool) (marking : List ℕ) → IsEmptySiphon net on marking (outside net (last_stage net on marking))
outside_siphon net on marking =
    let closed : IsClosed net on (last_stage net on marking) = last_stage-closed net on marking in
    record {
      empty = λ p low out. elim (cases_eq (slice_index marking p) 0) [
        | inl none ↦ none
        | inr some ↦ absurd (false≢true (sym (out-parts net (last_stage net on marking) p out) ∙ stage-marked net on marking (places net) p low (omega arith)))
      ];
      takes = λ i p inside active low out puts. elim (cases_Bool (has_inputs net (last_stage net on marking) i)) [
        | inl inputs ↦ absurd (false≢true (sym (out-parts net (last_stage net on marking) p out) ∙ closed.outputs i p inside active inputs low puts))
        | inr fails ↦
            let found = missing_input net (last_stage net on marking) i fails in
            (found.0, found.1, out-from net (last_stage net on marking) found.0 found.1 found.2, found.3)
      ];
    }

-- no stage has a place of an empty siphon
apart : (net : NetSystem) (on : List Bool) (marking : List ℕ) (s : List Bool) → IsEmptySiphon net on marking s → (j p : ℕ) → p < places net → has s p ≡ true → has (stage net on marking j) p ≡ true → ⊥
unfolding stage
apart net on marking s siphon zero p low here now =
    let some = ltb-true 0 (slice_index marking p) (set_of-parts (places net) (λ q. nat_lt 0 (slice_index marking q)) p now).1 in
    let none = siphon.empty p low here in
    omega arith
apart net on marking s siphon (suc j) p low here now = elim (next-parts net on (stage net on marking j) p now) [
  | inl had ↦ apart net on marking s siphon j p low here had
  | inr new ↦
      let found = siphon.takes new.0 p new.1 new.2 low here new.4 in
      apart net on marking s siphon j found.0 found.1 found.2 (inputs-at net (stage net on marking j) new.0 new.3 found.0 found.1 found.3)
]

pub outside_largest : (net : NetSystem) (on : List Bool) (marking : List ℕ) → OutsideIsLargest net on marking
outside_largest net on marking = record {
  siphon = outside_siphon net on marking;
  largest = λ s p siphon low here. elim (cases_Bool (has (last_stage net on marking) p)) [
    | inl now ↦ absurd (apart net on marking s siphon (places net) p low here now)
    | inr off ↦ out-from net (last_stage net on marking) p low off
  ];
}
