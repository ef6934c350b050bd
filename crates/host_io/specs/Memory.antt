-- Files and a sink in memory, as values.
use Rattle.std.specs.Prelude.{ℕ, ◌+◌, ◌-◌, ◌^◌, ◌%◌, min, Bool, ◌||◌, if◌then◌else◌, nat_eq, nat_le, List, [], ◌∷◌, ◌++◌, length, take, drop, slice_index, slice_get, Option, Some, None}
use Rattle.std.specs.List.{list_any, position}
use Rattle.std.specs.Option.{option_map_or}
use Rattle.std.specs.Str.{bytes_eq}
use Rattle.std.specs.FinMap as map
use Rattle.host_io.specs.Causes.{counted, faults_after}
use Rattle.host_io.specs.Held.{Held}

-- the files: entries of a name and its bytes, the most that the calls of read give in turn, the numbers of the calls
-- that fail, the place of the current entry and of its first byte that is still to read, and the counts so far
pub record FilesState : Type 0 where
  pub entries : List (List ℕ × List ℕ)
  pub cuts : List ℕ
  pub failing : List ℕ
  pub current : Option ℕ
  pub at : ℕ
  pub calls : ℕ
  pub faults : ℕ

-- the sink: the bytes taken so far, how many it takes in all, the most that its calls take in turn, the numbers of
-- the calls that fail, and the counts so far
pub record SinkState : Type 0 where
  pub bytes : List ℕ
  pub room : ℕ
  pub cuts : List ℕ
  pub failing : List ℕ
  pub calls : ℕ
  pub faults : ℕ

-- a call of this number is listed as failing, or calls can be counted no further
abbrev pub fails : List ℕ → ℕ → Bool
fails failing call = list_any (λ listed. nat_eq listed call) failing || nat_eq call (2 ^ 64 - 1)

-- so many, but no more than the cut of the call with this number; the cuts come round again
abbrev pub capped : List ℕ → ℕ → ℕ → ℕ
capped [] call most = most
capped (cut ∷ cuts) call most = min most (slice_index (cut ∷ cuts) (call % length (cut ∷ cuts)))

-- what is held by entries: of two with one name the first
abbrev pub held_by : List (List ℕ × List ℕ) → Held
held_by entries = map.from_entries entries

-- the place of the first entry with this name
abbrev pub place_of : List (List ℕ × List ℕ) → List ℕ → Option ℕ
place_of entries name = position (λ entry. bytes_eq name entry.0) entries

-- the bytes of the entry at this place
abbrev pub bytes_at : List (List ℕ × List ℕ) → Option ℕ → List ℕ
bytes_at entries None = []
bytes_at entries (Some place) = option_map_or (λ entry. entry.1) (slice_get entries place) []

-- the bytes of the current entry that are still to read
abbrev pub left_in : FilesState → List ℕ
left_in files = drop files.at (bytes_at files.entries files.current)

-- the place of the entry that opening a name makes the current one: none where the call fails or the name isn't held
abbrev pub opened_place : FilesState → List ℕ → Option ℕ
opened_place files name = if fails files.failing files.calls then None else place_of files.entries name

abbrev pub after_open : FilesState → List ℕ → FilesState
after_open files name = record files {
  current = opened_place files name;
  at = 0;
  calls = counted files.calls;
  faults = faults_after (fails files.failing files.calls) files.faults;
}

-- how many bytes the next read into so much room gives, where its call doesn't fail
abbrev pub given_count : FilesState → ℕ → ℕ
given_count files room = capped files.cuts files.calls (min room (length (left_in files)))

abbrev pub after_read : FilesState → ℕ → FilesState
after_read files room = record files {
  at = if fails files.failing files.calls then files.at else files.at + given_count files room;
  calls = counted files.calls;
  faults = faults_after (fails files.failing files.calls) files.faults;
}

-- the next put fails: its call is listed, or no room is left
abbrev pub put_fails : SinkState → Bool
put_fails sink = fails sink.failing sink.calls || nat_le sink.room (length sink.bytes)

-- how many bytes of a piece of this length the next put takes, where it doesn't fail
abbrev pub taken_count : SinkState → ℕ → ℕ
taken_count sink piece = capped sink.cuts sink.calls (min piece (sink.room - length sink.bytes))

abbrev pub after_put : SinkState → List ℕ → SinkState
after_put sink piece = record sink {
  bytes = if put_fails sink then sink.bytes else sink.bytes ++ take (taken_count sink (length piece)) piece;
  calls = counted sink.calls;
  faults = faults_after (put_fails sink) sink.faults;
}
