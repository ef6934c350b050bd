-- What is owed at the initial marking, from the terms of a form.
use Rattle.std.proofs.Common.{◌≡◌, ◌^◌, ℕ, List, [], ◌∷◌, ◌++◌, map, slice_index, ℤ, pos, ◌+ℤ◌, sym, ◌∙◌, ap, nat_le, Some}
use Rattle.std.specs.Prelude.{int_le}
use Rattle.std.specs.List.{range_with_len}
use Rattle.wide_sums.specs.Total.{Total, zero_total, with_term, total_of}
use Rattle.wide_sums.proofs.Totals.{total_of_push}
use Rattle.pt_net.specs.Systems.{NetSystem, places}
use Rattle.cert_model.specs.Sums.{is_wide, products, sum_of}
use Rattle.linear_cert.specs.declared.forms.Constant.TheVariants.{Value}
use Rattle.linear_cert.specs.declared.forms.Term.{Term}
use Rattle.linear_cert.specs.Sparse.{sparse, IsSparse, IsWithin, coefficient_in, form_of}
use Rattle.linear_cert.specs.Fitting.{plus, plus_all, not_negative}
use Rattle.linear_cert.specs.Checks.{base_check, net_of, weighted}
use Rattle.linear_cert.proofs.Places.{total_of-terms}
use Rattle.linear_cert.proofs.Adding.{not_negative_is, plus_all-one, narrow_size, single, second_of}

pub base_is : (net : NetSystem) (terms : List Term) (v : ℤ) → IsSparse (sparse terms (Value v)) → IsWithin (places net) (sparse terms (Value v))
    → base_check (net_of net) (form_of (sparse terms (Value v))) ≡ not_negative (plus (plus_all (Some zero_total) (map (weighted (λ p. slice_index net.initial p)) terms)) v)
base_is net terms v is_sparse within =
    let counts : ℕ → ℕ = λ p. slice_index net.initial p in
    let dense = products (range_with_len 0 (places net)) (coefficient_in terms) counts in
    let of_terms : total_of dense ≡ total_of (map (weighted counts) terms) = total_of-terms counts (places net) terms is_sparse.rising within in
    let whole : Total = with_term (total_of (map (weighted counts) terms)) v in
    let listed : total_of (dense ++ sum_of (v ∷ []) ∷ []) ≡ whole =
    total_of_push dense (sum_of (v ∷ [])) ∙ ap (λ t. with_term t (sum_of (v ∷ []))) of_terms ∙ ap (with_term (total_of (map (weighted counts) terms))) (single v) in
    let value : sum_of dense +ℤ sum_of (v ∷ []) ≡ whole.value = ap (λ z. sum_of dense +ℤ z) (single v) ∙ ap (λ (t : Total). t.value +ℤ v) of_terms in
    not_negative_is ((v ∷ []) ∷ (dense ++ sum_of (v ∷ []) ∷ []) ∷ []) (int_le (pos 0) (sum_of dense +ℤ sum_of (v ∷ []))) whole
    (second_of (is_wide (v ∷ [])) (is_wide (dense ++ sum_of (v ∷ []) ∷ [])) (narrow_size v is_sparse.narrow) ∙ ap (λ (t : Total). nat_le (2 ^ 127) t.size) listed)
    (ap (int_le (pos 0)) value)
    ∙ ap not_negative (sym (plus_all-one (map (weighted counts) terms) v))
