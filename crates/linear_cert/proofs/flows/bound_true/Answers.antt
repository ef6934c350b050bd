use Rattle.std.proofs.Common.{◌≡◌, ℕ, List, map, slice_index, ap, sym, subst, ◌∙◌, Some, rules, FitsSigned}
use mir.Facts.{to_z-of_z}
use mir.Syntax.{w128}
use Rattle.wide_sums.specs.Total.{zero_total}
use Rattle.pt_net.specs.Systems.{places}
use Rattle.linear_cert.specs.declared.forms.Constant.TheVariants.{Value}
use Rattle.linear_cert.specs.declared.forms.Term.{Term}
use Rattle.linear_cert.specs.Sparse.{sparse, IsSparse, IsWithin, form_of}
use Rattle.linear_cert.specs.Fitting.{plus, plus_all, not_negative}
use Rattle.linear_cert.specs.Checks.{base_check, net_of, weighted}
use Rattle.linear_cert.proofs.Bases.{base_is}
use Rattle.linear_cert.proofs.flows.bound_true.Goals as goal

pub returns : goal.returns
returns c =
    let net = c.args.net.now in
    let bound = c.args.bound.now in
    let v = c.in-Value.constant in
    let large : FitsSigned w128 v = search rules in
    let added = simp to_z-of_z at c.plus_term.ensures in
    let whole : bound ≡ sparse bound.terms (Value v) = ap (sparse bound.terms) (sym c.constant.ensures.constant ∙ c.in-Value.is) in
    let weights = c.plus_weighted-sum.ensures
    ∙ ap (λ s. plus_all (Some s) (map (weighted (λ p. slice_index c.initial_counts.result.now p)) c.terms.result.now)) c.zero.ensures
    ∙ ap (λ (terms : List Term). plus_all (Some zero_total) (map (weighted (λ p. slice_index c.initial_counts.result.now p)) terms)) c.terms.ensures.terms
    ∙ ap (λ (counts : List ℕ). plus_all (Some zero_total) (map (weighted (λ p. slice_index counts p)) bound.terms)) c.initial_counts.ensures.counts in
    c.is_not_negative.ensures
    ∙ ap not_negative (added ∙ ap (λ s. plus s v) weights)
    ∙ sym (base_is net bound.terms v (subst IsSparse whole c.constant.ensures.sparse) (subst (IsWithin (places net)) whole c.requires))
    ∙ ap (λ f. base_check (net_of net) (form_of f)) (sym whole)
