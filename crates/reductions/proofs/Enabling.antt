-- When dead, blocked and live instances are enabled.
use Rattle.std.proofs.Common.{◌-◌, not, inl, inr, [], arith, sym, ◌∙◌}
use Rattle.std.proofs.lemmas.Bool.{cases_lt, cases_Bool, or_cases, and_parts, not-true, false≢true}
use Rattle.pt_net.specs.Systems.{NetSystem, IsSystem, instance_at, places}
use Rattle.trap_siphon.specs.Sets.{has}
use Rattle.reductions.specs.Rounds.{undead, constant, live, active, rounds}
use Rattle.reductions.specs.Reduced.{last_active, is_dead, is_blocked}
use Rattle.reductions.specs.Laws.{DeadAndBlockedAreOff, LiveAreEnabled}
use Rattle.reductions.proofs.Rows.{amount-outside}
use Rattle.reductions.proofs.Runs.{seen_reach, seen_undead, seen_live, live-undead, live-fits, enabled_active}

pub never_off : (net : NetSystem) → DeadAndBlockedAreOff net
never_off net = λ marking i k reach inside off enabled.
    let before = enabled_active net k in
    let seen = seen_reach net (active net k) marking before reach in
    let on = before marking i reach inside enabled in
    elim (or_cases (is_dead net i k) (is_blocked net i k) off) [
      | inl dead ↦
          let gone = not-true (has (undead net (active net k)) i) (and_parts (has (active net k) i) (not (has (undead net (active net k)) i)) dead).1 in
          false≢true (sym gone ∙ seen_undead net (active net k) marking i seen inside on enabled)
      | inr blocked ↦
          let gone = not-true (has (live net (active net k)) i) (and_parts (has (undead net (active net k)) i) (not (has (live net (active net k)) i)) blocked).1 in
          false≢true (sym gone ∙ seen_live net (active net k) marking i seen inside on enabled)
    ]

pub live_enabled : (net : NetSystem) → IsSystem net → LiveAreEnabled net
live_enabled net is_system = λ marking i reach alive.
    let on = last_active net in
    let inside = (live-undead net (undead net on) (constant net on) i alive).0 in
    let seen = seen_reach net on marking (enabled_active net (rounds net - 1)) reach in (
      λ enabled p low changes. enabled p,
      λ fits p. elim (cases_lt p (places net)) [
        | inl low ↦ elim (cases_Bool (has (constant net on) p)) [
          | inl still ↦
              let enough = live-fits net (undead net on) (constant net on) i p alive low still in
              let same = seen.still p still in
              omega arith
          | inr changes ↦ fits p low changes
        ]
        | inr past ↦
            let range = is_system.inputs_in_range i (record { transition = 0; binding = 0; pre = []; post = [] }) inside in
            let nothing = amount-outside (places net) p (instance_at net i).pre past range in
            omega arith
      ],
    )
