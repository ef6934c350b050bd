use Rattle.std.proofs.Common.{◌≡◌, ◌∙◌, ap, ap₂, ℕ, List, map, length, sym, subst}
use Rattle.std.specs.List.{IsDistinct}
use Rattle.std.specs.Str.{bytes_eq}
use Rattle.std.proofs.lemmas.List.{length-map}
use Rattle.colour_sorts.specs.Domain.{StandsFor}
use Rattle.colour_sorts.specs.Naming.{sort_of}
use Rattle.colour_sorts.specs.declared.sorts.Sort.{Sort}
use Rattle.net_model.specs.Ids.{variable_ids}
use Rattle.multiset_terms.specs.Context.{Declarations}
use Rattle.multiset_terms.specs.Parts.{AreSized, IsScope}
use Rattle.net_typing.specs.Standing.{AreVariableSorts}
use Rattle.multiset_terms.proofs.Scopes.{built-scope}
use Rattle.multiset_terms.proofs.Using.{built-usable}
use Rattle.net_firing.specs.FileNets.{context_of}
use Rattle.net_typing.specs.Rules.{IsRefusal, first_over, or_else, told, variable_refusal}
use Rattle.net_typing.proofs.scope.Scope.of.Goals as goal

abbrev declared : List (List ℕ) → List Sort → Declarations
declared ids sorts = record { ids = ids; sorts = sorts }

pub returns-in-Err-clause-refused : goal.returns-in-Err-clause-refused
returns-in-Err-clause-refused c =
    let net = c.args.net.now in
    let stands = subst (λ s. StandsFor c.in-Ok.domains s net.partitions) c.as_slice.ensures (subst (λ p. StandsFor c.in-Ok.domains c.as_slice.result.now p) c.as_slice-2.ensures c.in-Ok.ensures.built) in
    subst (λ f. IsRefusal (or_else (told f) (first_over (variable_refusal net.sorts) net.variables)) c.in-Err.fault) (sym stands.sound)
    (subst (λ vs. IsRefusal (first_over (variable_refusal net.sorts) vs) c.in-Err.fault) c.as_slice-variables.ensures (c.in-Err.ensures.refused net.sorts net.partitions stands))

pub returns-clause-scope : goal.returns-clause-scope
returns-clause-scope c =
    let net = c.args.net.now in
    let d = c.in-Ok.domains in
    let v = c.new.result in
    let stands = subst (λ s. StandsFor d s net.partitions) c.as_slice.ensures (subst (λ p. StandsFor d c.as_slice.result.now p) c.as_slice-2.ensures c.in-Ok.ensures.built) in
    let sorts = subst (λ vs. AreVariableSorts net.sorts d.constants vs c.in-Ok-sorts_of.sorts.items) c.as_slice-variables.ensures (c.in-Ok-sorts_of.ensures.sorts net.sorts net.partitions stands) in
    let ids : v.ids ≡ variable_ids net.variables = c.new.ensures.ids ∙ c.in_ok-ids.ensures ∙ ap variable_ids c.as_slice-variables.ensures in
    let are : v.sorts ≡ map (λ x. sort_of net.sorts 0 x.sort) net.variables = c.new.ensures.sorts ∙ sorts.are in
    let even = ap length ids ∙ length-map net.variables (λ x. x.id) ∙ sym (ap length are ∙ length-map net.variables (λ x. sort_of net.sorts 0 x.sort)) in
    record {
      is = subst (IsScope (context_of net) d) (sym (ap₂ declared ids are)) (built-scope (context_of net) d stands c.requires.distinct c.requires.variables);
      usable = built-usable d net.sorts net.partitions v stands c.requires.distinct (subst (IsDistinct bytes_eq) (sym ids) c.requires.variables) even (subst (AreSized d.constants) (sym c.new.ensures.sorts) sorts.sized);
      sound = ap (λ f. or_else (told f) (first_over (variable_refusal net.sorts) net.variables)) stands.sound ∙ sorts.sound;
    }
