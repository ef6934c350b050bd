-- A net as plain data means what the net means.
use Rattle.std.proofs.Common.{◌≡◌, ℕ, ◌<◌, Bool, true, ◌&&◌, nat_eq, List, get_or, arith, subst, sym, ◌∙◌, slice_index}
use Rattle.std.specs.Prelude.{Contains}
use Rattle.std.specs.List.{list_any, range_with_len}
use Rattle.std.proofs.lemmas.Bool.{and_parts, and_from, eqb-true}
use Rattle.std.proofs.lemmas.Cmp.{nat_eq_equiv}
use Rattle.std.proofs.lemmas.Map.Views.{list_any-from_Contains}
use Rattle.std.proofs.lemmas.List.Folds.{Any-from_list_any, list_any_at}
use Rattle.std.proofs.lemmas.List.FromFn.{length-range_with_len, get_or-range_with_len}
use Rattle.pt_net.specs.Systems.{NetSystem, IsSystem, instance_at, size}
use Rattle.cert_model.specs.Formulas.{Fireable, fits, truth}
use Rattle.cert_laws.specs.PlainNets.{plain, plain_live}
use Rattle.cert_laws.specs.Laws.{SomeIsEnabled, PlainNetsMeanTheSame}
use Rattle.cert_laws.proofs.Inputs.{enabled-fits, fits-enabled}
use Rattle.cert_laws.proofs.Truths.{is_listed, listed}
use Rattle.cert_laws.proofs.Reaching.{reach_plain}

contains : (xs : List ℕ) (x : ℕ) → list_any (nat_eq x) xs ≡ true → Contains xs x
contains xs x found =
    let some = Any-from_list_any (nat_eq x) xs found in
    let same : x ≡ some.1 = eqb-true x some.1 some.4 in
    subst (λ (y : ℕ). Contains xs y) (sym same) (some.0, some.2, some.3)

some_enabled : (net : NetSystem) (marking transitions : List ℕ) → IsSystem net → truth (plain net) (slice_index marking) (Fireable transitions) ≡ true → SomeIsEnabled net marking transitions
some_enabled net marking transitions is_system holds =
    let test : ℕ → Bool = λ i. is_listed transitions (plain_live net i) && fits (plain_live net i).needs (slice_index marking) in
    let some = Any-from_list_any test (range_with_len 0 (size net)) (sym (listed transitions (slice_index marking) (plain_live net) (range_with_len 0 (size net))) ∙ holds) in
    let i = some.1 in
    let long = length-range_with_len 0 (size net) in
    let at = get_or-range_with_len 0 (size net) some.0 i (let low = some.2 in omega arith) in
    let same = some.3 in
    let inside : i < size net = (let low = some.2 in omega arith) in
    let both = and_parts (is_listed transitions (plain_live net i)) (fits (plain_live net i).needs (slice_index marking)) some.4 in
    record {
      instance = i;
      there = inside;
      listed = contains transitions (instance_at net i).transition both.0;
      enabled = fits-enabled net marking i is_system inside both.1;
    }

fireable_from : (net : NetSystem) (marking transitions : List ℕ) → SomeIsEnabled net marking transitions → truth (plain net) (slice_index marking) (Fireable transitions) ≡ true
fireable_from net marking transitions some =
    let i = some.instance in
    let inside = some.there in
    let test : ℕ → Bool = λ j. is_listed transitions (plain_live net j) && fits (plain_live net j).needs (slice_index marking) in
    let long = length-range_with_len 0 (size net) in
    let at : get_or (range_with_len 0 (size net)) i 0 ≡ i = get_or-range_with_len 0 (size net) i 0 inside ∙ omega arith in
    listed transitions (slice_index marking) (plain_live net) (range_with_len 0 (size net))
    ∙ list_any_at test (range_with_len 0 (size net)) i 0 (omega arith)
    (subst (λ j. test j ≡ true) (sym at)
    (and_from (is_listed transitions (plain_live net i)) (fits (plain_live net i).needs (slice_index marking))
    (list_any-from_Contains nat_eq_equiv (instance_at net i).transition transitions some.listed) (enabled-fits net marking i some.enabled)))

pub plain_nets_mean_the_same : (net : NetSystem) → IsSystem net → PlainNetsMeanTheSame net
plain_nets_mean_the_same net is_system = record {
  inputs = λ marking i inside. (enabled-fits net marking i, fits-enabled net marking i is_system inside);
  fireable = λ marking transitions. (some_enabled net marking transitions is_system, fireable_from net marking transitions);
  reached = reach_plain net;
}
