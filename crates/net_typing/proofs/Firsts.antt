-- The first refusal over a list, as a loop finds it.
use Rattle.std.proofs.Common.{◌≡◌, ◌∙◌, ◌<◌, ◌+◌, ap, sym, ℕ, List, length, drop, get_or, None, Some, Err}
use Rattle.std.proofs.lemmas.List.{drop_more}
use Rattle.net_typing.specs.declared.faults.NetFault.{NetFault}
use Rattle.net_typing.specs.declared.faults.NetFault.TheVariants as fault
use Rattle.net_typing.specs.declared.faults.Unfit.{Unfit}
use Rattle.net_typing.specs.declared.faults.Unfit.TheVariants as unfit
use Rattle.net_model.specs.declared.nets.Transition.{Transition}
use Rattle.multiset_terms.specs.Context.{Context}
use Rattle.net_typing.specs.Rules.{IsUnfit, Refusal, first_over, guard_rule, ill_typed, or_else, transition_refusal}
use Rattle.net_typing.specs.Standing.{IsGuardAnswer}

-- what is left to look at begins with the next of the list
next : {A : Type 0} (f : A → Refusal) (xs : List A) (i : ℕ) (x : A) → i < length xs → x ≡ get_or xs i x → first_over f (drop i xs) ≡ or_else (f x) (first_over f (drop (i + 1) xs))
next f xs i x lt is = ap (first_over f) (drop_more xs i x lt) ∙ ap (λ y. or_else (f y) (first_over f (drop (i + 1) xs))) (sym is)

-- nothing is refused here
pub first-more : {A : Type 0} (f : A → Refusal) (xs : List A) (i : ℕ) (x : A) → i < length xs → x ≡ get_or xs i x → f x ≡ None → first_over f (drop i xs) ≡ first_over f xs → first_over f (drop (i + 1) xs) ≡ first_over f xs
first-more f xs i x lt is none whole = sym (next f xs i x lt is ∙ ap (λ r. or_else r (first_over f (drop (i + 1) xs))) none) ∙ whole

-- the first refusal is here
pub first-found : {A : Type 0} (f : A → Refusal) (xs : List A) (i : ℕ) (x : A) (refused : NetFault) → i < length xs → x ≡ get_or xs i x → f x ≡ Some refused → first_over f (drop i xs) ≡ first_over f xs → first_over f xs ≡ Some refused
first-found f xs i x refused lt is found whole = sym whole ∙ next f xs i x lt is ∙ ap (λ r. or_else r (first_over f (drop (i + 1) xs))) found

-- the first that is refused here, by why it is
pub unfit-found : {A : Type 0} (f : A → Refusal) (xs : List A) (i : ℕ) (x : A) (id : List ℕ) (why : Unfit) → i < length xs → x ≡ get_or xs i x → IsUnfit id (f x) why → first_over f (drop i xs) ≡ first_over f xs → IsUnfit id (first_over f xs) why
unfit-found f xs i x id (unfit.Broken broken) lt is found whole = first-found f xs i x (fault.IllTyped id broken) lt is found whole
unfit-found f xs i x id unfit.Heavy lt is found whole = first-found f xs i x (fault.Weight id) lt is found whole
unfit-found f xs i x id unfit.Memory lt is found whole = tt

-- a guard that breaks a rule refuses its transition
pub guard-unfit : (ctx : Context) (t : Transition) (why : Unfit) → IsGuardAnswer ctx t.guard (Err why) → IsUnfit t.id (transition_refusal ctx t) why
guard-unfit ctx t (unfit.Broken broken) is = ap (ill_typed t.id) is
guard-unfit ctx t unfit.Heavy is = absurd is
guard-unfit ctx t unfit.Memory is = tt

pub guard-fits : (ctx : Context) (t : Transition) → guard_rule ctx t.guard ≡ None → transition_refusal ctx t ≡ None
guard-fits ctx t is = ap (ill_typed t.id) is
