-- What is kept of the named sorts that were judged.
use Rattle.std.specs.Prelude.{◌≡◌, ℕ, ◌+◌, ◌<◌, ◌⊎◌, List, [], ◌∷◌, length, slice_get, slice_index_or, None, Some}
use Rattle.colour_sorts.specs.declared.facts.Facts.{Facts}
use Rattle.colour_sorts.specs.declared.facts.Mark.{Mark}
use Rattle.colour_sorts.specs.declared.facts.Mark.TheVariants.{Done, Fresh}
use Rattle.net_model.specs.declared.sorts.NamedSort.{NamedSort}
use Rattle.colour_sorts.specs.Naming.{broken_rule, term_at}
use Rattle.colour_sorts.specs.Judging.{AreMarksCapped, AreSettled}
use Rattle.colour_sorts.specs.Searching.{IsEndless}

abbrev pub one_if_done : Mark → ℕ
one_if_done (Done _) = 1
one_if_done Fresh = 0

abbrev pub done_count : List Mark → ℕ
done_count [] = 0
done_count (m ∷ ms) = one_if_done m + done_count ms

abbrev pub mark_at : List Mark → ℕ → Mark
mark_at marks at = slice_index_or marks at Fresh

-- all facts are those of the sorts
pub record AreMarked (sorts : List NamedSort) (marks : List Mark) : Type 0 where
  pub as_long : length marks ≡ length sorts
  pub capped : AreMarksCapped marks
  pub settled : (steps : ℕ) → done_count marks < steps → AreSettled sorts marks steps

-- what is done stays so
abbrev pub KeepsDone : List Mark → List Mark → Type 0
KeepsDone old now = (at : ℕ) (facts : Facts) → slice_get old at ≡ Some (Done facts) → slice_get now at ≡ Some (Done facts)

abbrev pub IsDoneAt : List Mark → ℕ → Type 0
IsDoneAt marks at = (facts : Facts) × (slice_get marks at ≡ Some (Done facts))

-- the named sort at a position is done, or leads into a circle
abbrev pub IsMarkedAt : List NamedSort → List Mark → ℕ → Type 0
IsMarkedAt sorts marks at = IsDoneAt marks at ⊎ IsEndless sorts at

-- the named sorts below a position are done and break no rule
abbrev pub AreSound : List NamedSort → List Mark → ℕ → Type 0
AreSound sorts marks most = (at : ℕ) → at < most → IsDoneAt marks at × (broken_rule sorts at (term_at sorts at) ≡ None)
