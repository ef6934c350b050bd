-- Walks over one section after the other.
use Rattle.std.proofs.Common.{◌≡◌, ℕ, ◌+◌, ◌<◌, ◌≤◌, List, [], ◌∷◌, ◌++◌, length, drop, slice_index_or, flat_map, Option, Some, None, Ok, Err, sym, ◌∙◌, ap, subst, arith}
use Rattle.std.specs.Prelude.{Result}
use Rattle.std.proofs.lemmas.List.{drop_more}
use Rattle.tree_visits.specs.Forests.{forest_of, visits}
use Rattle.tree_walks.specs.Walks.{ran, unless, AllFit}
use Rattle.case_tree.specs.States.{Path, Section, branch_count, room_of, rounds, visits_of, with_item}

module _ {N S A X B : Type 0} (stop : A → S → N → Option X) (next : A → S → N → A) (f : B → List (N × S)) where
  ran-after_ok : (done more : A) (xs ys : List (N × S)) → ran stop next done xs ≡ Ok more → ran stop next done (xs ++ ys) ≡ ran stop next more ys
  ran-after_ok done more [] ys h = ap (λ d. ran stop next d ys) (same h)
    where
      same : ◌≡◌ {A = Result A X} (Ok done) (Ok more) → done ≡ more
      same e = cc
  ran-after_ok done more (v ∷ xs) ys h = cases (stop done v.1 v.0) h (ran-after_ok (next done v.1 v.0) more xs ys)
    where
      cases : (o : Option X) → unless o (ran stop next (next done v.1 v.0) xs) ≡ Ok more → (ran stop next (next done v.1 v.0) xs ≡ Ok more → ran stop next (next done v.1 v.0) (xs ++ ys) ≡ ran stop next more ys)
          → unless o (ran stop next (next done v.1 v.0) (xs ++ ys)) ≡ ran stop next more ys
      cases None h later = later h
      cases (Some x) h later = absurd cc

  ran-append_err : (done : A) (why : X) (xs ys : List (N × S)) → ran stop next done xs ≡ Err why → ran stop next done (xs ++ ys) ≡ Err why
  ran-append_err done why [] ys h = absurd cc
  ran-append_err done why (v ∷ xs) ys h = cases (stop done v.1 v.0) h (ran-append_err (next done v.1 v.0) why xs ys)
    where
      cases : (o : Option X) → unless o (ran stop next (next done v.1 v.0) xs) ≡ Err why → (ran stop next (next done v.1 v.0) xs ≡ Err why → ran stop next (next done v.1 v.0) (xs ++ ys) ≡ Err why)
          → unless o (ran stop next (next done v.1 v.0) (xs ++ ys)) ≡ Err why
      cases None h later = later h
      cases (Some x) h later = h

  pub stop_one : (done : A) (all : Result A X) (items : List B) (r : ℕ) (d : B) (why : X) → all ≡ ran stop next done (flat_map f (drop r items)) → r < length items
      → ran stop next done (f (slice_index_or items r d)) ≡ Err why → all ≡ Err why
  stop_one done all items r d why rest inside fails =
      rest ∙ ap (λ ls. ran stop next done (flat_map f ls)) (drop_more items r d inside) ∙ ran-append_err done why (f (slice_index_or items r d)) (flat_map f (drop (r + 1) items)) fails

  pub next_one : (done more : A) (all : Result A X) (items : List B) (r : ℕ) (d : B) → all ≡ ran stop next done (flat_map f (drop r items)) → r < length items
      → ran stop next done (f (slice_index_or items r d)) ≡ Ok more → all ≡ ran stop next more (flat_map f (drop (r + 1) items))
  next_one done more all items r d rest inside none =
      rest ∙ ap (λ ls. ran stop next done (flat_map f ls)) (drop_more items r d inside) ∙ ran-after_ok done more (f (slice_index_or items r d)) (flat_map f (drop (r + 1) items)) none

module _ {N S B : Type 0} (size : S → ℕ) (f : B → List (N × S)) where
  fit-join : (room : ℕ) (xs ys : List (N × S)) → AllFit size room xs → AllFit size room ys → AllFit size room (xs ++ ys)
  fit-join room [] ys first later = later
  fit-join room (x ∷ xs) ys first later = (first.0, fit-join room xs ys first.1 later)

  pub fit_after_one : (room : ℕ) (items : List B) (r : ℕ) (d : B) → AllFit size room (f (slice_index_or items r d)) → AllFit size room (flat_map f (drop (r + 1) items)) → r < length items
      → AllFit size room (flat_map f (drop r items))
  fit_after_one room items r d here later inside =
      subst (λ ls. AllFit size room (flat_map f ls)) (sym (drop_more items r d inside)) (fit-join room (f (slice_index_or items r d)) (flat_map f (drop (r + 1) items)) here later)

pub root_fits : (path : Path) (section : Section) (room : ℕ) → 0 < length section.nodes → AllFit room_of room (visits_of path section) → room_of (with_item section.root path) ≤ room
root_fits path section room some fits = at section.nodes some fits
  where
    at : (nodes : List _) → 0 < length nodes → AllFit room_of room (visits rounds (forest_of branch_count nodes) (with_item section.root path ∷ [])) → room_of (with_item section.root path) ≤ room
    at [] some fits = absurd (omega (arith, some))
    at (node ∷ nodes) some fits = fits.0
