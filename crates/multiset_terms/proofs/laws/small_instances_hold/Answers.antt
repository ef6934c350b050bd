use Rattle.std.proofs.Common.{◌≡◌, ◌-◌, ◌^◌, [], ◌∷◌, codes, ap, ◌∙◌, false, true}
use Rattle.net_model.specs.declared.sorts.SortTerm.TheVariants as written
use Rattle.net_model.specs.declared.terms.Term.TheOpen as layer
use Rattle.net_model.specs.declared.terms.Term.TheVariants as term
use Rattle.multiset_terms.specs.Instances.{example, x}
use Rattle.multiset_terms.specs.Typing.{judged, judged_part}
use Rattle.multiset_terms.specs.Values.{meaning, meaning_part}
use Rattle.multiset_terms.specs.Weights.{weighed, weighed_part}
use Rattle.net_model.proofs.Layers.{fold-Variable, fold-Scalar, fold-Add, fold-All, fold-Subtract, fold-Successor, fold-NumberOf}
use Rattle.multiset_terms.proofs.laws.small_instances_hold.Goals as goal

two : weighed example (term.Add (x ∷ x ∷ [])) ≡ weighed_part example (layer.Add (weighed_part example (layer.Variable (codes "x")) ∷ weighed_part example (layer.Variable (codes "x")) ∷ []))
two = fold-Add (weighed_part example) (x ∷ x ∷ []) ∙ ap (λ w. weighed_part example (layer.Add (w ∷ w ∷ []))) (fold-Variable (weighed_part example) (codes "x"))

many : weighed example (term.Scalar (2 ^ 63 - 1) (term.Add (x ∷ x ∷ []))) ≡ weighed_part example (layer.Scalar (2 ^ 63 - 1) (weighed example (term.Add (x ∷ x ∷ []))))
many = fold-Scalar (weighed_part example) (2 ^ 63 - 1) (term.Add (x ∷ x ∷ []))

pub returns : goal.returns
returns c = record {
  heavy_root = ap (λ w. w.heavy) many ∙ ap (λ w. (weighed_part example (layer.Scalar (2 ^ 63 - 1) w)).heavy) two;
  light_child = ap (λ w. w.heavy) two;
  heavy_child = ap (λ w. w.heavy) (fold-Add (weighed_part example) (x ∷ term.Scalar (2 ^ 63 - 1) (term.Add (x ∷ x ∷ [])) ∷ [])
      ∙ ap (λ w. weighed_part example (layer.Add (w ∷ weighed example (term.Scalar (2 ^ 63 - 1) (term.Add (x ∷ x ∷ []))) ∷ []))) (fold-Variable (weighed_part example) (codes "x"))
      ∙ ap (λ w. weighed_part example (layer.Add (weighed_part example (layer.Variable (codes "x")) ∷ w ∷ []))) (many ∙ ap (λ w. weighed_part example (layer.Scalar (2 ^ 63 - 1) w)) two));
  undeclared = ap (λ j. j.verdict) (fold-Variable (judged_part example false) (codes "z"));
  undeclared_child = ap (λ j. j.verdict) (fold-Add (judged_part example false) (term.NumberOf 2 x ∷ term.Variable (codes "z") ∷ [])
      ∙ ap (λ j. judged_part example false (layer.Add (j ∷ judged example false (term.Variable (codes "z")) ∷ []))) (fold-NumberOf (judged_part example false) 2 x ∙ ap (λ j. judged_part example false (layer.NumberOf 2 j)) (fold-Variable (judged_part example false) (codes "x")))
      ∙ ap (λ j. judged_part example false (layer.Add (judged_part example false (layer.NumberOf 2 (judged_part example false (layer.Variable (codes "x")))) ∷ j ∷ []))) (fold-Variable (judged_part example false) (codes "z")));
  marking = ap (λ j. j.verdict) (fold-Successor (judged_part example true) x ∙ ap (λ j. judged_part example true (layer.Successor j)) (fold-Variable (judged_part example true) (codes "x")));
  difference = λ b c. ap (λ m. m.count c) (fold-Subtract (meaning_part example b) (term.All (written.Named (codes "S"))) x
      ∙ ap (λ m. meaning_part example b (layer.Subtract m (meaning example b x))) (fold-All (meaning_part example b) (written.Named (codes "S")))
      ∙ ap (λ m. meaning_part example b (layer.Subtract (meaning_part example b (layer.All (written.Named (codes "S")))) m)) (fold-Variable (meaning_part example b) (codes "x")));
}
