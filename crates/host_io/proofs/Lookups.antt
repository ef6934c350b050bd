-- To look a name up in a list of entries is to look it up in the map of what they hold.
use Rattle.std.proofs.Common.{◌≡◌, ℕ, suc, zero, Bool, true, false, cond, List, [], ◌∷◌, length, nat_lt, Option, Some, None, is_some, MatchOption, refl, ap, ◌∙◌, arith}
use Rattle.std.specs.List.{find, slice_get, position_or_len}
use Rattle.std.specs.Option.{option_map}
use Rattle.std.specs.Ordering.{nat_cmp}
use Rattle.std.specs.Cmp.Lexicographic.{slice_cmp}
use Rattle.std.specs.FinMap.Entries as entries
use Rattle.std.specs.FinMap.{get-from_entries}
use Rattle.std.specs.Str.{bytes_eq}
use Rattle.std.proofs.lemmas.Bool.Decides.{nat_tests}
use Rattle.std.proofs.lemmas.Cmp.{nat_list_cmp_total}
use Rattle.std.proofs.lemmas.List.Folds.{find_at}
use Rattle.std.proofs.lemmas.Map.Text.{is_eq-slice_cmp}
use Rattle.host_io.specs.Held.{bytes_of}
use Rattle.host_io.specs.Memory.{held_by, place_of, bytes_at}

abbrev Entry : Type 0
Entry = List ℕ × List ℕ

mapped : (b : Bool) (entry : Entry) (x : Option (List ℕ)) (rest : Option Entry) → x ≡ option_map (λ e. e.1) rest → cond b (Some entry.1) x ≡ option_map (λ e. e.1) (cond b (Some entry) rest)
mapped true entry x rest h = refl
mapped false entry x rest h = h

found : (name : List ℕ) (es : List Entry) → entries.find (slice_cmp nat_cmp) name es ≡ option_map (λ e. e.1) (find (λ e. bytes_eq name e.0) es)
found name [] = refl
found name (e ∷ es) =
    ap (λ b. cond b (Some e.1) (entries.find (slice_cmp nat_cmp) name es)) (is_eq-slice_cmp name e.0)
    ∙ mapped (bytes_eq name e.0) e _ _ (found name es)

bytes_of-held_by : (es : List Entry) (name : List ℕ) → bytes_of (held_by es) name ≡ option_map (λ e. e.1) (slice_get es (position_or_len (λ e. bytes_eq name e.0) es))
bytes_of-held_by es name =
    get-from_entries nat_list_cmp_total es name ∙ found name es
    ∙ ap (option_map (λ e. e.1)) (find_at (λ e. bytes_eq name e.0) es)

within : (es : List Entry) (n : ℕ) → nat_lt n (length es) ≡ is_some (slice_get es n)
within [] n = grind (arith, nat_tests)
within (e ∷ es) zero = grind (arith, nat_tests)
within (e ∷ es) (suc n) = let below = within es n in grind (arith, nat_tests, below)

at_place : (es : List Entry) (n : ℕ) (x : Option (List ℕ)) (o : Option Entry) → slice_get es n ≡ o → (b : Bool) → b ≡ is_some o → x ≡ option_map (λ e. e.1) o
    → MatchOption (cond b (Some n) None) (x ≡ None) (λ place. x ≡ Some (bytes_at es (Some place)))
at_place es n x None at true e h = cc
at_place es n x None at false e h = h
at_place es n x (Some entry) at true e h = h ∙ cc
at_place es n x (Some entry) at false e h = cc

-- the first entry with a name holds the bytes that are held under it
pub place_of-held : (es : List Entry) (name : List ℕ) → MatchOption (place_of es name) (bytes_of (held_by es) name ≡ None) (λ place. bytes_of (held_by es) name ≡ Some (bytes_at es (Some place)))
place_of-held es name =
    let n = position_or_len (λ e. bytes_eq name e.0) es in
    at_place es n _ (slice_get es n) refl (nat_lt n (length es)) (within es n) (bytes_of-held_by es name)
