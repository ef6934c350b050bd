-- Nothing is noted in the trees of terms and guards.
use Rattle.std.proofs.Common.{◌≡◌, ℕ, ◌<◌, ◌^◌, ℤ, Bool, true, false, ◌||◌, ◌&&◌, nat_lt, List, [], ◌∷◌, ◌++◌, map, codes, refl, ap, sym, subst, ◌∙◌}
use Rattle.std.proofs.lemmas.Bool.{and_parts, false≢true, ltb-true}
use Rattle.std.specs.Fmt.{decimal, signed_decimal}
use Rattle.name_tables.proofs.Numbers.{decimal-read_back}
use Rattle.name_tables.specs.Grammar.{is_id_text}
use Rattle.doc_model.specs.declared.tree.Element.{Element}
use Rattle.doc_model.specs.declared.tree.Attribute.{Attribute}
use Rattle.doc_model.specs.Trees.{attribute}
use Rattle.net_model.specs.declared.sorts.Span.{Span}
use Rattle.net_model.specs.declared.terms.Order.{Order}
use Rattle.net_model.specs.declared.terms.Order.TheVariants as order
use Rattle.net_model.specs.declared.terms.Term.{Term, map-Term, fold-roll-Term}
use Rattle.net_model.specs.declared.terms.Term.TheOpen as layer
use Rattle.net_model.specs.declared.terms.Guard.{Guard, map-Guard, fold-roll-Guard}
use Rattle.net_model.specs.declared.terms.Guard.TheOpen as open_guard
use Rattle.net_model.specs.declared.kinds.Kind.{Kind}
use Rattle.net_elements.specs.declared.roles.Key.TheVariants as key
use Rattle.net_elements.specs.declared.roles.Role.{Role}
use Rattle.net_elements.specs.declared.roles.Role.TheVariants as role
use Rattle.net_elements.specs.declared.seats.Seat.TheVariants.{Read}
use Rattle.net_elements.specs.Rules.{Note, attribute_notes, child_notes, children_notes, end_notes, has, is_aside, is_bad_text, is_in, is_missing, kind_within, passes, seat_of, walk_of}
use Rattle.net_elements.specs.Table.{guards, keys_of, one_or_more, slots_of, sorts, terms, word_of}
use Rattle.pnml_write.specs.Canon.{branch, guard_by_parts, guard_part_tree, guard_tree, holder, number_tree, operator_tree, order_role, part, range_constant_tree, range_tree, sort_tree, term_by_parts, term_tree, truth_text}
use Rattle.pnml_read.specs.Each.{Each, are_all}
use Rattle.canon_laws.specs.Fitting.{fits, span_fits}
use Rattle.net_model.proofs.Inductions.{KnownGuard, KnownTerm, guard_by_layers, plain_guard, plain_term, term_by_layers}
use Rattle.pnml_read.proofs.Elements.{or_false}
use Rattle.canon_laws.proofs.Sound.{guard_sound, guard_sound_by_parts, some, term_sound, term_sound_by_parts}
use Rattle.canon_laws.proofs.Walked.{Free, Reads, ReadsAmong, branch_reads, child_reads, ends_well, free_more, key_is_declared, one_met, one_reads, only_reads}
use Rattle.canon_laws.proofs.WalkedSorts.{range_reads, signed_passes, sort_reads}

-- an element with two children
pub two_read : (kind : Kind) (parent first second : Role) (attributes : List Attribute) (one two : Element) (notes : List Note)
    → kind_within kind parent attributes ≡ kind → attribute_notes 0 (keys_of parent) attributes ≡ notes
    → seat_of kind parent [] (word_of first) ≡ Read first → seat_of kind parent (word_of first ∷ []) (word_of second) ≡ Read second
    → end_notes (slots_of kind parent) parent 0 (word_of first ∷ word_of second ∷ []) [] ≡ []
    → Reads kind first (walk_of one) [] → Reads kind second (walk_of two) []
    → Reads kind parent (walk_of (branch parent attributes (one ∷ two ∷ []))) (notes ++ [])
two_read kind parent first second attributes one two notes same own seat later ends here there =
    branch_reads kind parent attributes (one ∷ two ∷ []) notes [] own
    (ap (λ k. children_notes k parent [] (walk_of one ∷ walk_of two ∷ [])) same
    ∙ ap (λ ns. ns ++ (child_notes kind parent ((walk_of one).name ∷ []) (walk_of two) ++ [])) (child_reads kind parent first [] (walk_of one) [] seat here)
    ∙ ap (λ n. child_notes kind parent (n ∷ []) (walk_of two) ++ []) here.name
    ∙ ap (λ ns. ns ++ []) (child_reads kind parent second (word_of first ∷ []) (walk_of two) [] later there))
    (ap (λ k. end_notes (slots_of k parent) parent 0 ((walk_of one).name ∷ (walk_of two).name ∷ []) []) same
    ∙ ap (λ n. end_notes (slots_of kind parent) parent 0 (n ∷ (walk_of two).name ∷ []) []) here.name
    ∙ ap (λ n. end_notes (slots_of kind parent) parent 0 (word_of first ∷ n ∷ []) []) there.name
    ∙ ends)

-- an element with one or more children of one role
free_each : (kind : Kind) (parent r : Role) → ((earlier : List (List ℕ)) → seat_of kind parent earlier (word_of r) ≡ Read r)
    → (trees : List Element) → Each (λ t. Reads kind r (walk_of t) []) trees → Free kind parent (map walk_of trees) []
free_each kind parent r seat [] each = λ earlier. refl
free_each kind parent r seat (t ∷ trees) (here, later) =
    free_more kind parent (walk_of t) (map walk_of trees) [] [] (λ earlier. child_reads kind parent r earlier (walk_of t) [] (seat earlier) here) (free_each kind parent r seat trees later)

some_read : (kind : Kind) (parent r : Role) (t : Element) (trees : List Element) → slots_of kind parent ≡ one_or_more (r ∷ []) ∷ [] → is_bad_text parent [] ≡ false
    → kind_within kind parent [] ≡ kind → attribute_notes 0 (keys_of parent) [] ≡ []
    → ((earlier : List (List ℕ)) → seat_of kind parent earlier (word_of r) ≡ Read r)
    → is_in (one_or_more (r ∷ [])) (word_of r) ≡ true → Each (λ t. Reads kind r (walk_of t) []) (t ∷ trees)
    → Reads kind parent (walk_of (holder parent (t ∷ trees))) []
some_read kind parent r t trees slots good same own seat there (here, later) =
    let rest = map (λ w. w.name) (map walk_of trees) in
    branch_reads kind parent [] (t ∷ trees) [] [] own
    (ap (λ k. children_notes k parent [] (walk_of t ∷ map walk_of trees)) same ∙ free_each kind parent r seat (t ∷ trees) (here, later) [])
    (ap (λ k. end_notes (slots_of k parent) parent 0 ((walk_of t).name ∷ rest) []) same
    ∙ ends_well (slots_of kind parent) parent ((walk_of t).name ∷ rest)
    (ap (λ s. is_missing s ((walk_of t).name ∷ rest)) slots
    ∙ ap (λ n. is_missing (one_or_more (r ∷ []) ∷ []) (n ∷ rest)) here.name
    ∙ ap (λ b. b || false) (one_met (one_or_more (r ∷ [])) (word_of r) rest there)) good)

-- parts that are read among some roles, each inside a subterm
each_reads : {A : Type 0} (kind : Kind) (r : Role) (roles : List Role) (sound : A → Bool) (tree : A → Element) (inside : Element → Element)
    → ((t : Element) → ReadsAmong kind roles (walk_of t) [] → Reads kind r (walk_of (inside t)) [])
    → (ys : List ((x : A) × (sound x ≡ true → ReadsAmong kind roles (walk_of (tree x)) []))) → are_all (map sound (map (λ y. y.0) ys)) ≡ true
    → Each (λ t. Reads kind r (walk_of t) []) (map inside (map tree (map (λ y. y.0) ys)))
each_reads kind r roles sound tree inside reads [] h = tt
each_reads kind r roles sound tree inside reads (y ∷ ys) h =
    let parts = and_parts (sound y.0) (are_all (map sound (map (λ y. y.0) ys))) h in
    (reads (tree y.0) (y.1 parts.0), each_reads kind r roles sound tree inside reads ys parts.1)

all_read : {A : Type 0} (kind : Kind) (parent r : Role) (roles : List Role) (sound : A → Bool) (tree : A → Element) (inside : Element → Element)
    → ((t : Element) → ReadsAmong kind roles (walk_of t) [] → Reads kind r (walk_of (inside t)) [])
    → slots_of kind parent ≡ one_or_more (r ∷ []) ∷ [] → is_bad_text parent [] ≡ false → kind_within kind parent [] ≡ kind → attribute_notes 0 (keys_of parent) [] ≡ []
    → ((earlier : List (List ℕ)) → seat_of kind parent earlier (word_of r) ≡ Read r) → is_in (one_or_more (r ∷ [])) (word_of r) ≡ true
    → (ys : List ((x : A) × (sound x ≡ true → ReadsAmong kind roles (walk_of (tree x)) [])))
    → (some (map sound (map (λ y. y.0) ys)) && are_all (map sound (map (λ y. y.0) ys))) ≡ true
    → Reads kind parent (walk_of (holder parent (map inside (map tree (map (λ y. y.0) ys))))) []
all_read kind parent r roles sound tree inside reads slots good same own seat there [] h = absurd (false≢true h)
all_read kind parent r roles sound tree inside reads slots good same own seat there (y ∷ ys) h =
    let tests = map sound (map (λ y. y.0) (y ∷ ys)) in
    some_read kind parent r (inside (tree y.0)) (map inside (map tree (map (λ y. y.0) ys))) slots good same own seat there
    (each_reads kind r roles sound tree inside reads (y ∷ ys) (and_parts (some tests) (are_all tests) h).1)

-- parts of terms
pub part_reads : (kind : Kind) (t : Element) → ReadsAmong kind terms (walk_of t) [] → Reads kind role.TermSubterm (walk_of (part t)) []
part_reads kind t is = only_reads kind role.TermSubterm terms [] t [] [] refl refl (λ name. or_false (is_aside name)) refl refl is

-- numbers and ranges
number_reads : (kind : Kind) (n : ℕ) → n < 2 ^ 63 → Reads kind role.NumberSubterm (walk_of (number_tree n)) []
number_reads kind n small =
    one_reads kind role.NumberSubterm role.NumberConstant [] _ [] [] refl refl refl refl
    (one_reads kind role.NumberConstant role.Natural (attribute (codes "value") (decimal n) ∷ []) _ [] [] refl
    (ap (λ ns. ns ++ []) (key_is_declared 0 key.CountValue (decimal n) (ap has (decimal-read_back n false small)))) refl refl
    (branch_reads kind role.Natural [] [] [] [] refl refl refl))

pub range_constant_reads : (kind : Kind) (value : ℤ) (span : Span) → (fits value && span_fits span) ≡ true → Reads kind role.FiniteIntRangeConstant (walk_of (range_constant_tree value span)) []
range_constant_reads kind value span h =
    one_reads kind role.FiniteIntRangeConstant role.FiniteIntRange (attribute (codes "value") (signed_decimal value) ∷ []) (range_tree span) [] [] refl
    (ap (λ ns. ns ++ []) (key_is_declared 0 key.SignedValue (signed_decimal value) (signed_passes key.SignedValue value refl (and_parts (fits value) (span_fits span) h).0))) refl refl
    (range_reads kind span (and_parts (fits value) (span_fits span) h).1)

pub operator_reads : (kind : Kind) (id : List ℕ) → is_id_text id ≡ true → Reads kind role.UserOperator (walk_of (operator_tree id)) []
operator_reads kind id h =
    branch_reads kind role.UserOperator (attribute (codes "declaration") id ∷ []) [] [] [] (ap (λ ns. ns ++ []) (key_is_declared 0 key.Operand id h)) refl refl

abbrev ReadsAsTerm : Kind → Term → Type 0
ReadsAsTerm kind t = term_sound t ≡ true → ReadsAmong kind terms (walk_of (term_tree t)) []

layer_reads : (kind : Kind) (y : layer.Term-F (KnownTerm (ReadsAsTerm kind))) → term_sound_by_parts (map-Term Term Bool term_sound (plain_term (ReadsAsTerm kind) y)) ≡ true
    → ReadsAmong kind terms (walk_of (term_by_parts (map-Term Term Element term_tree (plain_term (ReadsAsTerm kind) y)))) []
layer_reads kind (layer.Variable id) h = record {
  role = role.Variable;
  named = refl;
  aside = refl;
  reads = branch_reads kind role.Variable (attribute (codes "refvariable") id ∷ []) [] [] [] (ap (λ ns. ns ++ []) (key_is_declared 0 key.RefVariable id h)) refl refl;
}
layer_reads kind (layer.Operator id) h = record { role = role.UserOperator; named = refl; aside = refl; reads = operator_reads kind id h }
layer_reads kind layer.Dot h = record { role = role.DotConstant; named = refl; aside = refl; reads = branch_reads kind role.DotConstant [] [] [] [] refl refl refl }
layer_reads kind (layer.Number value span) h = record { role = role.FiniteIntRangeConstant; named = refl; aside = refl; reads = range_constant_reads kind value span h }
layer_reads kind (layer.Successor c) h = record {
  role = role.Successor;
  named = refl;
  aside = refl;
  reads = one_reads kind role.Successor role.TermSubterm [] (part (term_tree c.0)) [] [] refl refl refl refl (part_reads kind (term_tree c.0) (c.1 h));
}
layer_reads kind (layer.Predecessor c) h = record {
  role = role.Predecessor;
  named = refl;
  aside = refl;
  reads = one_reads kind role.Predecessor role.TermSubterm [] (part (term_tree c.0)) [] [] refl refl refl refl (part_reads kind (term_tree c.0) (c.1 h));
}
layer_reads kind (layer.Tuple ys) h = record { role = role.Tuple; named = refl; aside = refl; reads = all_read kind role.Tuple role.TermSubterm terms term_sound term_tree part (part_reads kind) refl refl refl refl (λ earlier. refl) refl ys h }
layer_reads kind (layer.All s) h = record {
  role = role.All;
  named = refl;
  aside = refl;
  reads = only_reads kind role.All sorts [] (sort_tree s) [] [] refl refl (λ name. or_false (is_aside name)) refl refl (sort_reads kind s h);
}
layer_reads kind (layer.Empty s) h = record {
  role = role.Empty;
  named = refl;
  aside = refl;
  reads = only_reads kind role.Empty sorts [] (sort_tree s) [] [] refl refl (λ name. or_false (is_aside name)) refl refl (sort_reads kind s h);
}
layer_reads kind (layer.NumberOf n c) h = record {
  role = role.NumberOf;
  named = refl;
  aside = refl;
  reads = two_read kind role.NumberOf role.NumberSubterm role.TermSubterm [] (number_tree n) (part (term_tree c.0)) [] refl refl refl refl refl
      (number_reads kind n (ltb-true n (2 ^ 63) (and_parts (nat_lt n (2 ^ 63)) (term_sound c.0) h).0))
      (part_reads kind (term_tree c.0) (c.1 (and_parts (nat_lt n (2 ^ 63)) (term_sound c.0) h).1));
}
layer_reads kind (layer.Scalar n c) h = record {
  role = role.ScalarProduct;
  named = refl;
  aside = refl;
  reads = two_read kind role.ScalarProduct role.NumberSubterm role.TermSubterm [] (number_tree n) (part (term_tree c.0)) [] refl refl refl refl refl
      (number_reads kind n (ltb-true n (2 ^ 63) (and_parts (nat_lt n (2 ^ 63)) (term_sound c.0) h).0))
      (part_reads kind (term_tree c.0) (c.1 (and_parts (nat_lt n (2 ^ 63)) (term_sound c.0) h).1));
}
layer_reads kind (layer.Add ys) h = record { role = role.Add; named = refl; aside = refl; reads = all_read kind role.Add role.TermSubterm terms term_sound term_tree part (part_reads kind) refl refl refl refl (λ earlier. refl) refl ys h }
layer_reads kind (layer.Subtract c d) h = record {
  role = role.Subtract;
  named = refl;
  aside = refl;
  reads = two_read kind role.Subtract role.TermSubterm role.TermSubterm [] (part (term_tree c.0)) (part (term_tree d.0)) [] refl refl refl refl refl
      (part_reads kind (term_tree c.0) (c.1 (and_parts (term_sound c.0) (term_sound d.0) h).0))
      (part_reads kind (term_tree d.0) (d.1 (and_parts (term_sound c.0) (term_sound d.0) h).1));
}
layer_reads kind (layer.BlockOf id c) h = record {
  role = role.PartitionElementOf;
  named = refl;
  aside = refl;
  reads = one_reads kind role.PartitionElementOf role.TermSubterm (attribute (codes "refpartition") id ∷ []) (part (term_tree c.0)) [] [] refl
      (ap (λ ns. ns ++ []) (key_is_declared 0 key.RefPartition id (and_parts (is_id_text id) (term_sound c.0) h).0)) refl refl
      (part_reads kind (term_tree c.0) (c.1 (and_parts (is_id_text id) (term_sound c.0) h).1));
}

pub term_reads : (kind : Kind) (t : Term) → term_sound t ≡ true → ReadsAmong kind terms (walk_of (term_tree t)) []
term_reads kind = term_by_layers (ReadsAsTerm kind) (λ y h.
    subst (λ e. ReadsAmong kind terms (walk_of e) []) (sym (fold-roll-Term Element term_by_parts (plain_term (ReadsAsTerm kind) y)))
    (layer_reads kind y (sym (fold-roll-Term Bool term_sound_by_parts (plain_term (ReadsAsTerm kind) y)) ∙ h)))

-- guards
guard_part_reads : (kind : Kind) (g : Element) → ReadsAmong kind guards (walk_of g) [] → Reads kind role.GuardSubterm (walk_of (guard_part_tree g)) []
guard_part_reads kind g is = only_reads kind role.GuardSubterm guards [] g [] [] refl refl (λ name. or_false (is_aside name)) refl refl is

truth_passes : (b : Bool) → passes key.TruthValue (truth_text b) ≡ true
truth_passes true = refl
truth_passes false = refl

compare_reads : (kind : Kind) (o : Order) (s t : Term) → (term_sound s && term_sound t) ≡ true
    → ReadsAmong kind guards (walk_of (holder (order_role o) (part (term_tree s) ∷ part (term_tree t) ∷ []))) []
compare_reads kind o s t h =
    by o (part_reads kind (term_tree s) (term_reads kind s (and_parts (term_sound s) (term_sound t) h).0))
    (part_reads kind (term_tree t) (term_reads kind t (and_parts (term_sound s) (term_sound t) h).1))
  where
    two : (r : Role) → kind_within kind r [] ≡ kind → attribute_notes 0 (keys_of r) [] ≡ []
        → seat_of kind r [] (word_of role.TermSubterm) ≡ Read role.TermSubterm → seat_of kind r (word_of role.TermSubterm ∷ []) (word_of role.TermSubterm) ≡ Read role.TermSubterm
        → end_notes (slots_of kind r) r 0 (word_of role.TermSubterm ∷ word_of role.TermSubterm ∷ []) [] ≡ []
        → Reads kind role.TermSubterm (walk_of (part (term_tree s))) [] → Reads kind role.TermSubterm (walk_of (part (term_tree t))) []
        → Reads kind r (walk_of (branch r [] (part (term_tree s) ∷ part (term_tree t) ∷ []))) []
    two r = two_read kind r role.TermSubterm role.TermSubterm [] (part (term_tree s)) (part (term_tree t)) []

    by : (o : Order) → Reads kind role.TermSubterm (walk_of (part (term_tree s))) [] → Reads kind role.TermSubterm (walk_of (part (term_tree t))) []
        → ReadsAmong kind guards (walk_of (holder (order_role o) (part (term_tree s) ∷ part (term_tree t) ∷ []))) []
    by order.Equal first second = record { role = role.Equality; named = refl; aside = refl; reads = two role.Equality refl refl refl refl refl first second }
    by order.Unequal first second = record { role = role.Inequality; named = refl; aside = refl; reads = two role.Inequality refl refl refl refl refl first second }
    by order.Less first second = record { role = role.LessThan; named = refl; aside = refl; reads = two role.LessThan refl refl refl refl refl first second }
    by order.LessEqual first second = record { role = role.LessThanOrEqual; named = refl; aside = refl; reads = two role.LessThanOrEqual refl refl refl refl refl first second }
    by order.Greater first second = record { role = role.GreaterThan; named = refl; aside = refl; reads = two role.GreaterThan refl refl refl refl refl first second }
    by order.GreaterEqual first second = record { role = role.GreaterThanOrEqual; named = refl; aside = refl; reads = two role.GreaterThanOrEqual refl refl refl refl refl first second }

abbrev ReadsAsGuard : Kind → Guard → Type 0
ReadsAsGuard kind g = guard_sound g ≡ true → ReadsAmong kind guards (walk_of (guard_tree g)) []

guard_layer_reads : (kind : Kind) (y : open_guard.Guard-F (KnownGuard (ReadsAsGuard kind))) → guard_sound_by_parts (map-Guard Guard Bool guard_sound (plain_guard (ReadsAsGuard kind) y)) ≡ true
    → ReadsAmong kind guards (walk_of (guard_by_parts (map-Guard Guard Element guard_tree (plain_guard (ReadsAsGuard kind) y)))) []
guard_layer_reads kind (open_guard.Constant b) h = record {
  role = role.BooleanConstant;
  named = refl;
  aside = refl;
  reads = branch_reads kind role.BooleanConstant (attribute (codes "value") (truth_text b) ∷ []) [] [] []
      (ap (λ ns. ns ++ []) (key_is_declared 0 key.TruthValue (truth_text b) (truth_passes b))) refl refl;
}
guard_layer_reads kind (open_guard.And ys) h = record { role = role.And; named = refl; aside = refl; reads = all_read kind role.And role.GuardSubterm guards guard_sound guard_tree guard_part_tree (guard_part_reads kind) refl refl refl refl (λ earlier. refl) refl ys h }
guard_layer_reads kind (open_guard.Or ys) h = record { role = role.Or; named = refl; aside = refl; reads = all_read kind role.Or role.GuardSubterm guards guard_sound guard_tree guard_part_tree (guard_part_reads kind) refl refl refl refl (λ earlier. refl) refl ys h }
guard_layer_reads kind (open_guard.Not c) h = record {
  role = role.Not;
  named = refl;
  aside = refl;
  reads = one_reads kind role.Not role.GuardSubterm [] (guard_part_tree (guard_tree c.0)) [] [] refl refl refl refl (guard_part_reads kind (guard_tree c.0) (c.1 h));
}
guard_layer_reads kind (open_guard.Imply c d) h = record {
  role = role.Imply;
  named = refl;
  aside = refl;
  reads = two_read kind role.Imply role.GuardSubterm role.GuardSubterm [] (guard_part_tree (guard_tree c.0)) (guard_part_tree (guard_tree d.0)) [] refl refl refl refl refl
      (guard_part_reads kind (guard_tree c.0) (c.1 (and_parts (guard_sound c.0) (guard_sound d.0) h).0))
      (guard_part_reads kind (guard_tree d.0) (d.1 (and_parts (guard_sound c.0) (guard_sound d.0) h).1));
}
guard_layer_reads kind (open_guard.Compare o s t) h = compare_reads kind o s t h

pub guard_reads : (kind : Kind) (g : Guard) → guard_sound g ≡ true → ReadsAmong kind guards (walk_of (guard_tree g)) []
guard_reads kind = guard_by_layers (ReadsAsGuard kind) (λ y h.
    subst (λ e. ReadsAmong kind guards (walk_of e) []) (sym (fold-roll-Guard Element guard_by_parts (plain_guard (ReadsAsGuard kind) y)))
    (guard_layer_reads kind y (sym (fold-roll-Guard Bool guard_sound_by_parts (plain_guard (ReadsAsGuard kind) y)) ∙ h)))
