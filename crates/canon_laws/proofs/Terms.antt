-- The term of the tree of a term is the term.
use Rattle.std.proofs.Common.{◌≡◌, ℕ, ◌<◌, ◌^◌, Bool, true, false, nat_lt, List, [], ◌∷◌, map, refl, ap, sym, ◌∙◌}
use Rattle.std.proofs.lemmas.Bool.{and_parts, ltb-true}
use Rattle.doc_model.specs.declared.tree.Element.{Element}
use Rattle.net_model.specs.declared.sorts.Span.{Span}
use Rattle.net_model.specs.declared.terms.Term.{Term, map-Term, out-Term, roll-Term, fold-roll-Term, fold_out-Term}
use Rattle.net_model.specs.declared.terms.Term.TheOpen as layer
use Rattle.net_model.specs.declared.terms.Term.TheVariants as term
use Rattle.net_elements.specs.declared.roles.Role.{Role}
use Rattle.net_elements.specs.declared.roles.Role.TheVariants as role
use Rattle.net_elements.specs.Rules.{is_aside, is_passed_over}
use Rattle.net_elements.specs.Table.{word_of}
use Rattle.pnml_read.specs.Nets.{Given, child, given}
use Rattle.pnml_write.specs.Canon.{number_tree, part, range_tree, sort_tree, term_by_parts, term_tree}
use Rattle.canon_laws.specs.Fitting.{fits, span_fits, term_fits, term_fits_by_parts}
use Rattle.net_model.proofs.Inductions.{KnownTerm, plain_term, term_by_layers, term_in}
use Rattle.pnml_read.proofs.Elements.{first_child, or_false, second_child}
use Rattle.canon_laws.proofs.Elements.{branch_gives, parts_back}
use Rattle.canon_laws.proofs.Numbers.{signed_back, span_back, unsigned_back}
use Rattle.canon_laws.proofs.Sorts.{sort_aside, sort_back}

-- the tree of a term is no name, graphic or tool's own
term_layer_aside : (y : layer.Term-F Element) → is_aside (given (term_by_parts y)).name ≡ false
term_layer_aside (layer.Variable id) = ap (λ g. is_aside g.name) (branch_gives role.Variable _ _)
term_layer_aside (layer.Operator id) = ap (λ g. is_aside g.name) (branch_gives role.UserOperator _ _)
term_layer_aside layer.Dot = ap (λ g. is_aside g.name) (branch_gives role.DotConstant _ _)
term_layer_aside (layer.Number value span) = ap (λ g. is_aside g.name) (branch_gives role.FiniteIntRangeConstant _ _)
term_layer_aside (layer.Successor t) = ap (λ g. is_aside g.name) (branch_gives role.Successor _ _)
term_layer_aside (layer.Predecessor t) = ap (λ g. is_aside g.name) (branch_gives role.Predecessor _ _)
term_layer_aside (layer.Tuple ts) = ap (λ g. is_aside g.name) (branch_gives role.Tuple _ _)
term_layer_aside (layer.All s) = ap (λ g. is_aside g.name) (branch_gives role.All _ _)
term_layer_aside (layer.Empty s) = ap (λ g. is_aside g.name) (branch_gives role.Empty _ _)
term_layer_aside (layer.NumberOf n t) = ap (λ g. is_aside g.name) (branch_gives role.NumberOf _ _)
term_layer_aside (layer.Scalar n t) = ap (λ g. is_aside g.name) (branch_gives role.ScalarProduct _ _)
term_layer_aside (layer.Add ts) = ap (λ g. is_aside g.name) (branch_gives role.Add _ _)
term_layer_aside (layer.Subtract s t) = ap (λ g. is_aside g.name) (branch_gives role.Subtract _ _)
term_layer_aside (layer.BlockOf id t) = ap (λ g. is_aside g.name) (branch_gives role.PartitionElementOf _ _)

pub term_aside : (t : Term) → is_aside (given (term_tree t)).name ≡ false
term_aside t =
    ap (λ e. is_aside (given e).name) (fold_out-Term Element term_by_parts t) ∙ term_layer_aside (map-Term Term Element term_tree (out-Term t))

-- a part, among the children of a term or a guard
pub part_is_kept : (r : Role) (t : Element) → is_passed_over r (word_of role.TermSubterm) ≡ false → is_passed_over r (given (part t)).name ≡ false
part_is_kept r t h = ap (λ g. is_passed_over r g.name) (branch_gives role.TermSubterm [] (t ∷ [])) ∙ h

part_gives : (t : Element) → is_aside (given t).name ≡ false → (given (part t)).term ≡ (given t).term
part_gives t h =
    ap (λ g. g.term) (branch_gives role.TermSubterm [] (t ∷ []))
    ∙ ap (λ g. g.term) (first_child role.TermSubterm (given t) [] (or_false (is_aside (given t).name) h))

pub part_term : (t : Term) → (given (part (term_tree t))).term ≡ (given (term_tree t)).term
part_term t = part_gives (term_tree t) (term_aside t)

pub first_part : (r : Role) (t : Term) (gs : List Given) → is_passed_over r (word_of role.TermSubterm) ≡ false
    → (child r 0 (given (part (term_tree t)) ∷ gs)).term ≡ (given (term_tree t)).term
first_part r t gs h = ap (λ g. g.term) (first_child r (given (part (term_tree t))) gs (part_is_kept r (term_tree t) h)) ∙ part_term t

pub second_part : (r : Role) (g : Given) (t : Term) → is_passed_over r g.name ≡ false → is_passed_over r (word_of role.TermSubterm) ≡ false
    → (child r 1 (g ∷ given (part (term_tree t)) ∷ [])).term ≡ (given (term_tree t)).term
second_part r g t first h =
    ap (λ g. g.term) (second_child r g (given (part (term_tree t))) [] first (part_is_kept r (term_tree t) h)) ∙ part_term t

-- numbers
pub range_gives : (span : Span) → span_fits span ≡ true → (given (range_tree span)).span ≡ span
range_gives span h = ap (λ g. g.span) (branch_gives role.FiniteIntRange _ []) ∙ span_back span h

pub range_in : (span : Span) → span_fits span ≡ true → (child role.FiniteIntRangeConstant 0 (given (range_tree span) ∷ [])).span ≡ span
range_in span h =
    ap (λ g. g.span) (first_child role.FiniteIntRangeConstant (given (range_tree span)) [] (ap (λ g. is_passed_over role.FiniteIntRangeConstant g.name) (branch_gives role.FiniteIntRange _ [])))
    ∙ range_gives span h

number_is_kept : (r : Role) (n : ℕ) → is_passed_over r (word_of role.NumberSubterm) ≡ false → is_passed_over r (given (number_tree n)).name ≡ false
number_is_kept r n h = ap (λ g. is_passed_over r g.name) (branch_gives role.NumberSubterm [] _) ∙ h

number_back : (n : ℕ) → n < 2 ^ 63 → (given (number_tree n)).number ≡ n
number_back n small =
    ap (λ g. g.number) (branch_gives role.NumberSubterm [] _)
    ∙ ap (λ g. (child role.NumberSubterm 0 (g ∷ [])).number) (branch_gives role.NumberConstant _ _)
    ∙ unsigned_back n small

first_number : (r : Role) (n : ℕ) (gs : List Given) → n < 2 ^ 63 → is_passed_over r (word_of role.NumberSubterm) ≡ false → (child r 0 (given (number_tree n) ∷ gs)).number ≡ n
first_number r n gs small h = ap (λ g. g.number) (first_child r (given (number_tree n)) gs (number_is_kept r n h)) ∙ number_back n small

abbrev Back : Term → Type 0
Back t = term_fits t ≡ true → (given (term_tree t)).term ≡ t

multiple_back : (r : Role) (make : ℕ → Term → Term) (n : ℕ) (t : Term) → is_passed_over r (word_of role.TermSubterm) ≡ false → n < 2 ^ 63 → (given (term_tree t)).term ≡ t
    → make (child r 0 (given (number_tree n) ∷ given (part (term_tree t)) ∷ [])).number (child r 1 (given (number_tree n) ∷ given (part (term_tree t)) ∷ [])).term ≡ make n t
multiple_back r make n t h small back =
    ap (λ m. make m (child r 1 (given (number_tree n) ∷ given (part (term_tree t)) ∷ [])).term) (first_number r n (given (part (term_tree t)) ∷ []) small h)
    ∙ ap (make n) (second_part r (given (number_tree n)) t (number_is_kept r n h) h ∙ back)

layer_back : (y : layer.Term-F (KnownTerm Back)) → term_fits_by_parts (map-Term Term Bool term_fits (plain_term Back y)) ≡ true
    → (given (term_by_parts (map-Term Term Element term_tree (plain_term Back y)))).term ≡ roll-Term (plain_term Back y)
layer_back (layer.Variable id) h = ap (λ g. g.term) (branch_gives role.Variable _ _) ∙ sym (term.rolls-Variable id)
layer_back (layer.Operator id) h = ap (λ g. g.term) (branch_gives role.UserOperator _ _) ∙ sym (term.rolls-Operator id)
layer_back layer.Dot h = ap (λ g. g.term) (branch_gives role.DotConstant _ _) ∙ sym term.rolls-Dot
layer_back (layer.Number value span) h =
    ap (λ g. g.term) (branch_gives role.FiniteIntRangeConstant _ _)
    ∙ ap (λ v. term.Number v (child role.FiniteIntRangeConstant 0 (given (range_tree span) ∷ [])).span) (signed_back value (and_parts (fits value) (span_fits span) h).0)
    ∙ ap (term.Number value) (range_in span (and_parts (fits value) (span_fits span) h).1)
    ∙ sym (term.rolls-Number value span)
layer_back (layer.Successor c) h =
    ap (λ g. g.term) (branch_gives role.Successor _ _) ∙ ap term.Successor (first_part role.Successor c.0 [] refl ∙ c.1 h) ∙ sym (term.rolls-Successor c.0)
layer_back (layer.Predecessor c) h =
    ap (λ g. g.term) (branch_gives role.Predecessor _ _) ∙ ap term.Predecessor (first_part role.Predecessor c.0 [] refl ∙ c.1 h) ∙ sym (term.rolls-Predecessor c.0)
layer_back (layer.Tuple ys) h =
    ap (λ g. g.term) (branch_gives role.Tuple _ _) ∙ ap term.Tuple (parts_back role.Tuple term_fits term_tree part (λ g. g.term) (λ t. part_is_kept role.Tuple (term_tree t) refl) part_term ys h) ∙ sym (term.rolls-Tuple (map (term_in Back) ys))
layer_back (layer.All s) h =
    ap (λ g. g.term) (branch_gives role.All _ _)
    ∙ ap (λ g. term.All g.sort) (first_child role.All (given (sort_tree s)) [] (or_false (is_aside (given (sort_tree s)).name) (sort_aside s)))
    ∙ ap term.All (sort_back s h) ∙ sym (term.rolls-All s)
layer_back (layer.Empty s) h =
    ap (λ g. g.term) (branch_gives role.Empty _ _)
    ∙ ap (λ g. term.Empty g.sort) (first_child role.Empty (given (sort_tree s)) [] (or_false (is_aside (given (sort_tree s)).name) (sort_aside s)))
    ∙ ap term.Empty (sort_back s h) ∙ sym (term.rolls-Empty s)
layer_back (layer.NumberOf n c) h =
    ap (λ g. g.term) (branch_gives role.NumberOf _ _)
    ∙ multiple_back role.NumberOf term.NumberOf n c.0 refl (ltb-true n (2 ^ 63) (and_parts (nat_lt n (2 ^ 63)) (term_fits c.0) h).0) (c.1 (and_parts (nat_lt n (2 ^ 63)) (term_fits c.0) h).1)
    ∙ sym (term.rolls-NumberOf n c.0)
layer_back (layer.Scalar n c) h =
    ap (λ g. g.term) (branch_gives role.ScalarProduct _ _)
    ∙ multiple_back role.ScalarProduct term.Scalar n c.0 refl (ltb-true n (2 ^ 63) (and_parts (nat_lt n (2 ^ 63)) (term_fits c.0) h).0) (c.1 (and_parts (nat_lt n (2 ^ 63)) (term_fits c.0) h).1)
    ∙ sym (term.rolls-Scalar n c.0)
layer_back (layer.Add ys) h =
    ap (λ g. g.term) (branch_gives role.Add _ _) ∙ ap term.Add (parts_back role.Add term_fits term_tree part (λ g. g.term) (λ t. part_is_kept role.Add (term_tree t) refl) part_term ys h) ∙ sym (term.rolls-Add (map (term_in Back) ys))
layer_back (layer.Subtract c d) h =
    let gs = given (part (term_tree c.0)) ∷ given (part (term_tree d.0)) ∷ [] in
    ap (λ g. g.term) (branch_gives role.Subtract _ _)
    ∙ ap (λ t. term.Subtract t (child role.Subtract 1 gs).term) (first_part role.Subtract c.0 (given (part (term_tree d.0)) ∷ []) refl ∙ c.1 (and_parts (term_fits c.0) (term_fits d.0) h).0)
    ∙ ap (term.Subtract c.0) (second_part role.Subtract (given (part (term_tree c.0))) d.0 (part_is_kept role.Subtract (term_tree c.0) refl) refl ∙ d.1 (and_parts (term_fits c.0) (term_fits d.0) h).1)
    ∙ sym (term.rolls-Subtract c.0 d.0)
layer_back (layer.BlockOf id c) h =
    ap (λ g. g.term) (branch_gives role.PartitionElementOf _ _)
    ∙ ap (term.BlockOf id) (first_part role.PartitionElementOf c.0 [] refl ∙ c.1 h) ∙ sym (term.rolls-BlockOf id c.0)

pub term_back : (t : Term) → term_fits t ≡ true → (given (term_tree t)).term ≡ t
term_back = term_by_layers Back (λ y h.
    ap (λ e. (given e).term) (fold-roll-Term Element term_by_parts (plain_term Back y))
    ∙ layer_back y (sym (fold-roll-Term Bool term_fits_by_parts (plain_term Back y)) ∙ h))
