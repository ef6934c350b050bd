-- Laws of tests over lists, and of the first obligation that isn't true.
use Rattle.std.proofs.Common.{◌≡◌, ℕ, zero, suc, ◌+◌, Bool, true, not, ◌&&◌, List, [], ◌∷◌, ◌++◌, refl, ap, subst, arith}
use Rattle.std.specs.Prelude.{Contains, find, flat_map}
use Rattle.std.specs.List.{list_all, enumerate_from}
use Rattle.plain_model.specs.declared.verdicts.Check.{Check}
use Rattle.plain_model.specs.declared.verdicts.Check.TheVariants as check
use Rattle.plain_model.specs.declared.verdicts.Spot.{Spot}
use Rattle.plain_model.specs.declared.verdicts.Judged.TheVariants.{Shown}
use Rattle.plain_model.specs.Obligations.{Obligation, is_true, judged_by}
use Rattle.plain_model.proofs.Products.{and_split}

pub list_all-append : {X : Type 0} (p : X → Bool) (xs ys : List X) → list_all p (xs ++ ys) ≡ true → (list_all p xs ≡ true) × (list_all p ys ≡ true)
list_all-append p [] ys h = (refl, h)
list_all-append p (x ∷ xs) ys h =
    let parts = and_split (p x) (list_all p (xs ++ ys)) h in
    let rest = list_all-append p xs ys parts.1 in
    (rw parts.0 rest.0, rest.1)

pub list_all-flat_map : {X Y : Type 0} (p : Y → Bool) (f : X → List Y) (xs : List X) → list_all p (flat_map f xs) ≡ true → list_all (λ x. list_all p (f x)) xs ≡ true
list_all-flat_map p f [] h = refl
list_all-flat_map p f (x ∷ xs) h =
    let parts = list_all-append p (f x) (flat_map f xs) h in
    rw parts.0 (list_all-flat_map p f xs parts.1)

pub list_all-enumerate_from : {X : Type 0} (p : X → Bool) (n : ℕ) (xs : List X) → list_all (λ q. p q.1) (enumerate_from n xs) ≡ list_all p xs
list_all-enumerate_from p n [] = refl
list_all-enumerate_from p n (x ∷ xs) = ap (λ b. p x && b) (list_all-enumerate_from p (n + 1) xs)

-- a test that all pass is passed by each element
pub list_all-contains : {X : Type 0} (p : X → Bool) (xs : List X) (x : X) → list_all p xs ≡ true → Contains xs x → p x ≡ true
list_all-contains p [] x h (k, below, is) = absurd (omega arith)
list_all-contains p (y ∷ ys) x h (zero, below, is) =
    subst (λ z. p z ≡ true) is (and_split (p y) (list_all p ys) h).0
list_all-contains p (y ∷ ys) x h (suc k, below, is) =
    list_all-contains p ys x (and_split (p y) (list_all p ys) h).1 (k, omega arith, is)

abbrev AllTrue : List Obligation → Type 0
AllTrue os = judged_by (find (λ o. not (is_true o.check)) os) ≡ Shown → list_all (λ o. is_true o.check) os ≡ true

all_true_from : (spot : Spot) (verdict : Check) (os : List Obligation) → AllTrue os → AllTrue (record { spot = spot; check = verdict } ∷ os)
all_true_from spot check.True os rest h = rest h
all_true_from spot check.False os rest h = absurd cc
all_true_from spot check.Wide os rest h = absurd cc

-- where no obligation is found that isn't true, all are
pub all_true : (os : List Obligation) → judged_by (find (λ o. not (is_true o.check)) os) ≡ Shown → list_all (λ o. is_true o.check) os ≡ true
all_true [] h = refl
all_true (o ∷ os) h = all_true_from o.spot o.check os (all_true os) h
