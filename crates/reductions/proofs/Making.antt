-- The reduction as a whole, from what the last round found.
use Rattle.std.proofs.Common.{◌≡◌, ℕ, List, Bool, map, ap, ap₂, subst, sym, ◌∙◌}
use Rattle.std.specs.List.{range_with_len}
use Rattle.pt_net.specs.declared.instances.Instance.{Instance}
use Rattle.pt_net.specs.Systems.{NetSystem, IsSystem, system_of, size}
use Rattle.reductions.specs.declared.Fate.{Fate}
use Rattle.reductions.specs.declared.Slot.{Slot}
use Rattle.reductions.specs.Reduced.{counts_on, fate_among, kept, last_active, reduced_by}
use Rattle.reductions.specs.Rounds.{constant, live, rounds}
use Rattle.reductions.specs.Merging.{Keys, stays}
use Rattle.reductions.specs.Merged.{IsMerging}
use Rattle.reductions.specs.Searching.{IsLastRound}
use Rattle.reductions.specs.Slots.{IsReduction, fates, last_constant, slots_over}
use Rattle.reductions.proofs.Nets.{reduced_is_system}

made_net : (net : NetSystem) (still lives : List Bool) (initial : List ℕ) (keys : Keys) (told : List Fate) (listed : List Instance) → initial ≡ counts_on net (stays still) net.initial → IsMerging net still lives (size net) keys told listed → system_of initial listed ≡ reduced_by net still (kept net still lives)
unfolding reduced_by
made_net net still lives initial keys told listed counts m = ap₂ system_of counts m.listing

pub made_system : (net : NetSystem) (still lives : List Bool) (initial : List ℕ) (keys : Keys) (told : List Fate) (listed : List Instance) → IsSystem net → initial ≡ counts_on net (stays still) net.initial → IsMerging net still lives (size net) keys told listed → IsSystem (system_of initial listed)
made_system net still lives initial keys told listed is_system counts m = subst IsSystem (sym (made_net net still lives initial keys told listed counts m)) (reduced_is_system net still (kept net still lives) is_system)

pub made_reduction : (net red : NetSystem) (on still lives undying : List Bool) (slots : List Slot) (initial : List ℕ) (keys : Keys) (told : List Fate) (listed : List Instance) (number : ℕ) → IsLastRound net on still lives undying → slots ≡ slots_over net still
    → initial ≡ counts_on net (stays still) net.initial → IsMerging net still lives (size net) keys told listed → red ≡ system_of initial listed → number ≡ rounds net → IsReduction net slots told red number
unfolding fates
made_reduction net red on still lives undying slots initial keys told listed number last slots_are counts m red_is rounds_are =
    let constant_is : still ≡ last_constant net = last.last_constant ∙ ap (constant net) last.is_last in
    let live_is : lives ≡ live net (last_active net) = last.last_live ∙ ap (live net) last.is_last in
    record {
      slots_are = slots_are ∙ ap (slots_over net) constant_is;
      fates_are = m.told ∙ ap₂ (λ (s l : List Bool). map (fate_among net s l (kept net s l)) (range_with_len 0 (size net))) constant_is live_is;
      net_is = red_is ∙ made_net net still lives initial keys told listed counts m ∙ ap₂ (λ (s l : List Bool). reduced_by net s (kept net s l)) constant_is live_is;
      rounds_are = rounds_are;
    }
