-- How far a walk along a chain has come, and what is known of the references on it.
use Rattle.std.proofs.Common.{◌≡◌, ℕ, zero, suc, ◌+◌, ◌<◌, ◌≤◌, ◌⊎◌, inl, inr, List, [], ◌∷◌, length, refl, sym, ap, subst, ◌∙◌, arith, Some, Ok, Err}
use Rattle.std.specs.Prelude.{Option, Result, slice_get, slice_set}
use Rattle.std.specs.Option.{unwrap_or}
use Rattle.std.proofs.lemmas.Bool.{cases_lt}
use Rattle.std.proofs.lemmas.List.{length-set}
use Rattle.net_model.specs.declared.nets.RefKind.{RefKind}
use Rattle.net_nodes.specs.declared.links.Link.{Link}
use Rattle.net_nodes.specs.declared.nodes.Node.TheVariants as node
use Rattle.net_nodes.specs.declared.nodes.End.{End}
use Rattle.net_nodes.specs.declared.nodes.ReferenceFault.{ReferenceFault}
use Rattle.net_nodes.specs.declared.nodes.ReferenceFault.TheVariants as fault
use Rattle.net_nodes.specs.Nodes.{led}
use Rattle.net_nodes.specs.Links.{AreInside, AreKnown, IsInside, end_by, link_end, link_kind, link_target}
use Rattle.net_nodes.proofs.Chains.{link-led, of_kind-ok, of_kind-there}

-- a walk that has passed so many references leads where its first one does
pub record HasCome (links : List Link) (start : ℕ) (kind : RefKind) (passed : ℕ) (at : ℕ) : Type 0 where
  pub within : at < length links
  pub first : link_kind links start ≡ kind
  pub alike : link_kind links at ≡ kind
  pub same : link_end links start ≡ link_end links at
  pub behind : (steps all : ℕ) → all ≡ steps + passed → end_by links kind all (link_target links start) ≡ end_by links kind steps (link_target links at)
  pub still : (steps : ℕ) → steps < passed → end_by links kind steps (link_target links start) ≡ Err fault.Circle

pub starts : (links : List Link) (start : ℕ) (kind : RefKind) → start < length links → link_kind links start ≡ kind → HasCome links start kind 0 start
starts links start kind within is = record {
  within = within;
  first = is;
  alike = is;
  same = refl;
  behind = λ steps all e. ap (λ n. end_by links kind n (link_target links start)) (omega (arith, e));
  still = λ steps less. absurd (omega (arith, less));
}

-- a reference of the same kind is next
pub next-led : (links : List Link) (kind : RefKind) (at next : ℕ) → link_kind links at ≡ kind → link_target links at ≡ Some (node.Reference next) → link_kind links next ≡ kind
    → link_end links at ≡ link_end links next
next-led links kind at next is target other =
    link-led links at
    ∙ ap (led (link_kind links at) (link_kind links) (link_end links)) target
    ∙ of_kind-there (link_kind links at) (link_kind links next) (link_end links next) (other ∙ sym is)

pub goes-on : (links : List Link) (start : ℕ) (kind : RefKind) (passed at next : ℕ) → HasCome links start kind passed at
    → link_target links at ≡ Some (node.Reference next) → link_kind links next ≡ kind → next < length links → HasCome links start kind (passed + 1) next
goes-on links start kind passed at next come target other within = record {
  within = within;
  first = come.first;
  alike = other;
  same = come.same ∙ next-led links kind at next come.alike target other;
  behind = λ steps all e.
      come.behind (suc steps) all (omega (arith, e))
      ∙ ap (end_by links kind (suc steps)) target
      ∙ of_kind-there kind (link_kind links next) (end_by links kind steps (link_target links next)) other;
  still = λ steps less. by steps (cases_lt steps passed) less;
}
  where
    by : (steps : ℕ) → (steps < passed) ⊎ (passed ≤ steps) → steps < passed + 1 → end_by links kind steps (link_target links start) ≡ Err fault.Circle
    by steps (inl less) all = come.still steps less
    by steps (inr more) all =
        come.behind 0 steps (omega (arith, more, all))
        ∙ ap (end_by links kind 0) target
        ∙ of_kind-there kind (link_kind links next) (Err fault.Circle) other

pub ends : (links : List Link) (start : ℕ) (kind : RefKind) (passed at : ℕ) (answer : Result End ReferenceFault) → HasCome links start kind passed at
    → led kind (link_kind links) (link_end links) (link_target links at) ≡ answer → answer ≡ link_end links start
ends links start kind passed at answer come e =
    sym (come.same ∙ link-led links at ∙ ap (λ k. led k (link_kind links) (link_end links) (link_target links at)) come.alike ∙ e)

pub comes-round : (links : List Link) (start : ℕ) (kind : RefKind) (passed at : ℕ) → length links < passed → HasCome links start kind passed at → Err fault.Circle ≡ link_end links start
comes-round links start kind passed at many come =
    sym (ap (λ k. end_by links k (length links) (link_target links start)) come.first ∙ come.still (length links) many)

pub next-within : (links : List Link) (at next : ℕ) → AreInside links → at < length links → link_target links at ≡ Some (node.Reference next) → next < length links
next-within links at next inside within target = subst (IsInside (length links)) target (inside at within)

-- the end of a reference is that of the one to which it leads
pub end-behind : (links : List Link) (at next : ℕ) (there : End) → link_end links at ≡ Ok there → link_target links at ≡ Some (node.Reference next) → link_end links next ≡ Ok there
end-behind links at next there is target =
    of_kind-ok (link_kind links at) (link_kind links next) (link_end links next) there
    (sym (ap (led (link_kind links at) (link_kind links) (link_end links)) target) ∙ sym (link-led links at) ∙ is)

after-set : {A : Type 0} (xs : List A) (i j : ℕ) (y z : A) → slice_get (slice_set xs i y) j ≡ Some z → ((j ≡ i) × (y ≡ z)) ⊎ (slice_get xs j ≡ Some z)
after-set [] zero j y z e = inr e
after-set [] (suc i) j y z e = inr e
after-set (x ∷ xs) zero zero y z e = inl (refl, ap (λ o. unwrap_or o z) e)
after-set (x ∷ xs) zero (suc j) y z e = inr e
after-set (x ∷ xs) (suc i) zero y z e = inr e
after-set (x ∷ xs) (suc i) (suc j) y z e = by (after-set xs i j y z e)
  where
    by : ((j ≡ i) × (y ≡ z)) ⊎ (slice_get xs j ≡ Some z) → ((suc j ≡ suc i) × (y ≡ z)) ⊎ (slice_get xs j ≡ Some z)
    by (inl (at, is)) = inl (ap suc at, is)
    by (inr there) = inr there

-- one more end that is known
pub known-more : (links : List Link) (known : List (Option End)) (at : ℕ) (there : End) → AreKnown links known → link_end links at ≡ Ok there → AreKnown links (slice_set known at (Some there))
known-more links known at there are is = record {
  many = length-set known at (Some there) ∙ are.many;
  sound = λ k other e. by k other (after-set known at k (Some there) (Some other) e);
}
  where
    by : (k : ℕ) (other : End) → ((k ≡ at) × (Some there ≡ Some other)) ⊎ (slice_get known k ≡ Some (Some other)) → link_end links k ≡ Ok other
    by k other (inl (same, e)) = ap (link_end links) same ∙ is ∙ ap Ok (ap (λ o. unwrap_or o other) e)
    by k other (inr e) = are.sound k other e
