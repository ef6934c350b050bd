-- The place of a property among properties.
use Rattle.std.proofs.Common.{◌≡◌, ℕ, ◌+◌, ◌<◌, ◌≤◌, true, cond, List, length, drop, get_or, Option, Some, None, sym, ap, ◌∙◌}
use Rattle.std.proofs.lemmas.Iterator.Adapters.{position_from-zero}
use Rattle.std.proofs.lemmas.List.{drop_all}
use Rattle.std.specs.List.{position_from}
use Rattle.std.specs.Str.{bytes_eq}
use Rattle.name_tables.proofs.Places.{position-map}
use Rattle.name_tables.specs.Numbering.{number_in}
use Rattle.net_elements.proofs.Walks.{rest_of}
use Rattle.mcc_model.specs.declared.properties.Property.{Property}
use Rattle.mcc_model.specs.Files.{ids_of}

abbrev pub place_from : List ℕ → List Property → ℕ → Option ℕ
place_from name list at = position_from (λ p. bytes_eq name p.id) at (drop at list)

numbered : (name : List ℕ) (list : List Property) → place_from name list 0 ≡ number_in (ids_of list) name
numbered name list = sym (position-map (λ p. p.id) (bytes_eq name) list ∙ position_from-zero (λ p. bytes_eq name p.id) list)

pub place_found : (name : List ℕ) (list : List Property) (at : ℕ) (p : Property) → at < length list → p ≡ get_or list at p → bytes_eq name p.id ≡ true
    → place_from name list at ≡ place_from name list 0 → Some at ≡ number_in (ids_of list) name
place_found name list at p within is same known =
    sym (ap (position_from (λ p. bytes_eq name p.id) at) (rest_of list at p within is)
    ∙ ap (λ b. cond b (Some at) (position_from (λ p. bytes_eq name p.id) (at + 1) (drop (at + 1) list))) same)
    ∙ known ∙ numbered name list

pub place_missing : (name : List ℕ) (list : List Property) (at : ℕ) → length list ≤ at → place_from name list at ≡ place_from name list 0
    → None ≡ number_in (ids_of list) name
place_missing name list at past known =
    sym (ap (position_from (λ p. bytes_eq name p.id) at) (drop_all at list past)) ∙ known ∙ numbered name list
