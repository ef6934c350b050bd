-- What is true while the instances of a net are taken one after another, and equal ones merged.
use Rattle.std.specs.Prelude.{◌≡◌, ◌<◌, ℕ, zero, suc, Bool, true, not, ◌&&◌, List, [], ◌∷◌, ◌++◌, length, flat_map, Option, Some, None, slice_index}
use Rattle.std.specs.BTreeMap.{BTreeMap, get, Updates}
use Rattle.std.specs.Cmp.Lexicographic.{slice_cmp}
use Rattle.std.specs.Ordering.{nat_cmp}
use Rattle.wide_sums.specs.declared.rows.Cell.{Cell}
use Rattle.wide_sums.specs.Cells.{IsRow}
use Rattle.pt_net.specs.declared.instances.Instance.{Instance}
use Rattle.pt_net.specs.Systems.{NetSystem, instance_at, size}
use Rattle.trap_siphon.specs.Sets.{has, set_of}
use Rattle.reductions.specs.declared.Fate.{Fate}
use Rattle.reductions.specs.declared.Fate.TheVariants.{Kept, Merged}
use Rattle.reductions.specs.Numbers.{rank}
use Rattle.reductions.specs.Rounds.{undead, active}
use Rattle.reductions.specs.Reduced.{instance_on}

-- those of the instances before this round that aren't dead in it
abbrev pub alive_after : NetSystem → List Bool → List Bool → List Bool → List Bool
alive_after net before active undead = set_of (size net) (λ i. has before i && not (has active i && not (has undead i)))

-- the instances that are dead in none of the first rounds
unfoldable pub alive : NetSystem → ℕ → List Bool
alive net zero = set_of (size net) (λ i. true)
alive net (suc k) = alive_after net (alive net k) (active net k) (undead net (active net k))

-- the places that stay, by the set of those that don't
abbrev pub stays : List Bool → ℕ → Bool
stays constant p = not (has constant p)

-- each place has the number of places that stay before it
pub record IsNumbered (constant : List Bool) (ranks : List ℕ) : Type 0 where
  pub as_long : length ranks ≡ length constant
  pub each : (p : ℕ) → p < length constant → slice_index ranks p ≡ rank (stays constant) p

-- the rows of an instance are rows
pub record HasRows (net : NetSystem) (i : ℕ) : Type 0 where
  pub pre : IsRow (instance_at net i).pre
  pub post : IsRow (instance_at net i).post

-- two rows as one list of numbers: how many cells the first one has, and the cells of both
abbrev pub numbers_of : List Cell → List ℕ
numbers_of row = flat_map (λ c. c.at ∷ c.count ∷ []) row

abbrev pub key_of : List Cell → List Cell → List ℕ
key_of pre post = length pre ∷ (numbers_of pre ++ numbers_of post)

-- what the instance is on the places that stay, and its key
abbrev pub on_stays : NetSystem → List Bool → ℕ → Instance
on_stays net constant i = instance_on (stays constant) (instance_at net i)

abbrev pub key_at : NetSystem → List Bool → ℕ → List ℕ
key_at net constant i = key_of (on_stays net constant i).pre (on_stays net constant i).post

abbrev pub Keys : Type 0
Keys = BTreeMap (List ℕ) ℕ

abbrev pub number_of : Keys → List ℕ → Option ℕ
number_of keys key = get (slice_cmp nat_cmp) keys key

-- the key had a number, which the instance joins
pub record Joins (key : List ℕ) (before after : Keys) (fates fates' : List Fate) (kept kept' : List Instance) : Type 0 where
  pub number : ℕ
  pub known : number_of before key ≡ Some number
  pub same_keys : after ≡ before
  pub told : fates' ≡ fates ++ Merged number ∷ []
  pub same : kept' ≡ kept

-- the key had no number, and the instance is kept
pub record Begins (key : List ℕ) (t : Instance) (before after : Keys) (fates fates' : List Fate) (kept kept' : List Instance) : Type 0 where
  pub unknown : number_of before key ≡ None
  pub numbered : Updates (slice_cmp nat_cmp) before after key (Some (length kept))
  pub told : fates' ≡ fates ++ Kept (length kept) ∷ []
  pub more : kept' ≡ kept ++ t ∷ []
