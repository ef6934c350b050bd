-- The positions of the named sorts that a term names.
use Rattle.std.proofs.Common.{◌≡◌, ℕ, zero, suc, ◌<◌, ◌⊎◌, inl, inr, Bool, true, false, ◌&&◌, List, [], ◌∷◌, ◌++◌, map, length, get_or, refl, sym, ap, ◌∙◌, arith, subst, Some, None, Option}
use Rattle.std.proofs.lemmas.Bool.{false≢true}
use Rattle.std.proofs.lemmas.List.{length-map}
use Rattle.std.proofs.lemmas.List.Folds.{flat_map-map}
use Rattle.std.proofs.lemmas.List.Quantifiers.{position-Some}
use Rattle.std.specs.List.{list_all, slice_get}
use Rattle.std.specs.Prelude.{flat_map, OnOk, Result, Ok, Err}
use Rattle.std.specs.Str.{bytes_eq}
use Rattle.net_model.specs.declared.sorts.NamedSort.{NamedSort}
use Rattle.net_model.specs.declared.sorts.SortTerm.{SortTerm, map-SortTerm, roll-SortTerm, fold-roll-SortTerm}
use Rattle.net_model.specs.declared.sorts.SortTerm.TheFolds.{ind-SortTerm}
use Rattle.net_model.specs.declared.sorts.SortTerm.TheOpen as layer
use Rattle.net_model.specs.declared.sorts.SortTerm.TheVariants as term
use Rattle.net_model.proofs.Layers.{term-Named, term-Product}
use Rattle.net_model.specs.Ids.{ids_of}
use Rattle.colour_sorts.specs.Naming.{at_place, names_pass, names_pass_part, place_of, term_at}
use Rattle.colour_sorts.specs.Searching.{Has, Leads, places_named, places_named_part}
use Rattle.colour_sorts.proofs.Has.{has-back, has-cases, has-front, one-at}
use Rattle.colour_sorts.proofs.PlacesIn.{none-is-some}

pub places-Product : (ids : List (List ℕ)) (parts : List SortTerm) → places_named ids (term.Product parts) ≡ flat_map (places_named ids) parts
places-Product ids parts = term-Product (places_named_part ids) parts ∙ flat_map-map (λ part. part) (places_named ids) parts

-- what is told of a term by the positions that it names
pub record IsTold (ids : List (List ℕ)) (t : SortTerm) : Type 0 where
  pub fails : (at : ℕ) (test : List ℕ → Bool) → Has (places_named ids t) at → ((id : List ℕ) → place_of ids id ≡ Some at → test id ≡ false) → names_pass test t ≡ false
  pub inside : (at : ℕ) → Has (places_named ids t) at → at < length ids
  pub passes : (test : List ℕ → Bool) → names_pass (λ id. at_place false (λ at. true) (place_of ids id)) t ≡ true
      → ((at : ℕ) (id : List ℕ) → Has (places_named ids t) at → place_of ids id ≡ Some at → test id ≡ true) → names_pass test t ≡ true

-- the same of a layer
record IsToldOf (ids : List (List ℕ)) (places : List ℕ) (pass : (List ℕ → Bool) → Bool) : Type 0 where
  fails : (at : ℕ) (test : List ℕ → Bool) → Has places at → ((id : List ℕ) → place_of ids id ≡ Some at → test id ≡ false) → pass test ≡ false
  inside : (at : ℕ) → Has places at → at < length ids
  passes : (test : List ℕ → Bool) → pass (λ id. at_place false (λ at. true) (place_of ids id)) ≡ true
      → ((at : ℕ) (id : List ℕ) → Has places at → place_of ids id ≡ Some at → test id ≡ true) → pass test ≡ true

nowhere : {X : Type 0} (x : X) → Has [] x → ⊥
nowhere x (k, e) = none-is-some x e

told-none : (ids : List (List ℕ)) → IsToldOf ids [] (λ test. true)
told-none ids = record { fails = λ at test has h. absurd (nowhere at has); inside = λ at has. absurd (nowhere at has); passes = λ test e h. refl }

told-name : (ids : List (List ℕ)) (id : List ℕ) → IsToldOf ids (at_place [] (λ at. at ∷ []) (place_of ids id)) (λ test. test id)
told-name ids id = by (place_of ids id) refl
  where
    one : (a b : ℕ) → Has (a ∷ []) b → a ≡ b
    one a b (k, e) = (one-at a b k e).1

    by : (place : Option ℕ) → place_of ids id ≡ place → IsToldOf ids (at_place [] (λ at. at ∷ []) place) (λ test. test id)
    by None e = record {
      fails = λ at test has h. absurd (nowhere at has);
      inside = λ at has. absurd (nowhere at has);
      passes = λ test known h. absurd (false≢true (sym (ap (at_place false (λ at. true)) e) ∙ known));
    }
    by (Some place) e = record {
      fails = λ at test has h. h id (e ∙ ap Some (one place at has));
      inside = λ at has. subst (λ k. k < length ids) (one place at has) (position-Some (bytes_eq id) ids place id e).0;
      passes = λ test known h. h place id (0, refl) e;
    }

told-both : (ids : List (List ℕ)) (xs ys : List ℕ) (p q : (List ℕ → Bool) → Bool) → IsToldOf ids xs p → IsToldOf ids ys q → IsToldOf ids (xs ++ ys) (λ test. p test && q test)
told-both ids xs ys p q first second = record {
  fails = λ at test has h. fails at test h (has-cases xs ys at has);
  inside = λ at has. inside at (has-cases xs ys at has);
  passes = λ test known h. passes test known h;
}
  where
    left : (a b : Bool) → a ≡ false → (a && b) ≡ false
    left a b e = ap (λ a. a && b) e

    right : (a b : Bool) → b ≡ false → (a && b) ≡ false
    right true b e = e
    right false b e = refl

    both : (a b : Bool) → (a && b) ≡ true → (a ≡ true) × (b ≡ true)
    both true b e = (refl, e)
    both false b e = absurd (false≢true e)

    fails : (at : ℕ) (test : List ℕ → Bool) → ((id : List ℕ) → place_of ids id ≡ Some at → test id ≡ false) → Has xs at ⊎ Has ys at → (p test && q test) ≡ false
    fails at test h (inl has) = left (p test) (q test) (first.fails at test has h)
    fails at test h (inr has) = right (p test) (q test) (second.fails at test has h)

    inside : (at : ℕ) → Has xs at ⊎ Has ys at → at < length ids
    inside at (inl has) = first.inside at has
    inside at (inr has) = second.inside at has

    passes : (test : List ℕ → Bool) → (p (λ id. at_place false (λ at. true) (place_of ids id)) && q (λ id. at_place false (λ at. true) (place_of ids id))) ≡ true
        → ((at : ℕ) (id : List ℕ) → Has (xs ++ ys) at → place_of ids id ≡ Some at → test id ≡ true) → (p test && q test) ≡ true
    passes test known h =
        let each = both (p (λ id. at_place false (λ at. true) (place_of ids id))) (q (λ id. at_place false (λ at. true) (place_of ids id))) known in
        ap (λ a. a && q test) (first.passes test each.0 (λ at id has. h at id (has-front xs ys at has)))
        ∙ second.passes test each.1 (λ at id has. h at id (has-back xs ys at has))

abbrev Told : List (List ℕ) → Type 0
Told ids = (t : SortTerm) × IsTold ids t

told-parts : (ids : List (List ℕ)) (ys : List (Told ids)) → IsToldOf ids (flat_map (λ part. part) (map (places_named ids) (map (λ e. e.0) ys))) (λ test. list_all (λ b. b) (map (names_pass test) (map (λ e. e.0) ys)))
told-parts ids [] = told-none ids
told-parts ids (y ∷ ys) = told-both ids (places_named ids y.0) (flat_map (λ part. part) (map (places_named ids) (map (λ e. e.0) ys)))
    (λ test. names_pass test y.0) (λ test. list_all (λ b. b) (map (names_pass test) (map (λ e. e.0) ys)))
    (record { fails = y.1.fails; inside = y.1.inside; passes = y.1.passes }) (told-parts ids ys)

told-layer : (ids : List (List ℕ)) (y : layer.SortTerm-F (Told ids))
    → IsToldOf ids (places_named_part ids (map-SortTerm SortTerm (List ℕ) (places_named ids) (map-SortTerm (Told ids) SortTerm (λ e. e.0) y)))
    (λ test. names_pass_part test (map-SortTerm SortTerm Bool (names_pass test) (map-SortTerm (Told ids) SortTerm (λ e. e.0) y)))
told-layer ids layer.Dot = told-none ids
told-layer ids (layer.Named id) = told-name ids id
told-layer ids (layer.Product ys) = told-parts ids ys
told-layer ids (layer.Range span) = told-none ids
told-layer ids (layer.Listed names) = told-none ids
told-layer ids (layer.Cyclic names) = told-none ids

told-rolled : (ids : List (List ℕ)) (y : layer.SortTerm-F (Told ids)) → IsTold ids (roll-SortTerm (map-SortTerm (Told ids) SortTerm (λ e. e.0) y))
told-rolled ids y =
    let x = map-SortTerm (Told ids) SortTerm (λ e. e.0) y in
    let known = told-layer ids y in
    let places = fold-roll-SortTerm (List ℕ) (places_named_part ids) x in
    let pass = λ (test : List ℕ → Bool). fold-roll-SortTerm Bool (names_pass_part test) x in
    record {
      fails = λ at test has h. pass test ∙ known.fails at test (subst (λ l. Has l at) places has) h;
      inside = λ at has. known.inside at (subst (λ l. Has l at) places has);
      passes = λ test e h. pass test ∙ known.passes test (sym (pass (λ id. at_place false (λ at. true) (place_of ids id))) ∙ e)
          (λ at id has. h at id (subst (λ l. Has l at) (sym places) has));
    }

pub told : (ids : List (List ℕ)) (t : SortTerm) → IsTold ids t
told ids = ind-SortTerm (IsTold ids) (λ x y is. subst (λ z. IsTold ids (roll-SortTerm z)) is (told-rolled ids y))

-- of named sorts
pub names-fail : (sorts : List NamedSort) (from to : ℕ) (test : List ℕ → Bool) → Leads sorts from to → ((id : List ℕ) → place_of (ids_of sorts) id ≡ Some to → test id ≡ false)
    → names_pass test (term_at sorts from) ≡ false
names-fail sorts from to test leads h = (told (ids_of sorts) (term_at sorts from)).fails to test leads h

pub leads-inside : (sorts : List NamedSort) (from to : ℕ) → Leads sorts from to → to < length sorts
leads-inside sorts from to leads = omega (arith, (told (ids_of sorts) (term_at sorts from)).inside to leads, length-map sorts (λ s. s.id))

pub on-ok : {X E : Type 0} (r : Result X E) {P Q : Type 0} → (P → Q) → OnOk r P → OnOk r Q
on-ok (Ok x) f h = f h
on-ok (Err e) f h = tt
