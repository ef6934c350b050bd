-- Nothing is noted in the tree of a sort, and in that of an enumeration its constants.
use Rattle.std.proofs.Common.{◌≡◌, ℕ, ◌^◌, ℤ, unsigned_abs, Bool, true, false, List, [], ◌∷◌, ◌++◌, map, codes, refl, ap, sym, subst, ◌∙◌}
use Rattle.std.proofs.lemmas.Bool.{and_parts, false≢true, ltb-true}
use Rattle.std.specs.Fmt.{signed_decimal}
use Rattle.std.specs.List.{list_all}
use Rattle.name_tables.proofs.Numbers.{signed_decimal-read_back}
use Rattle.name_tables.specs.Grammar.{is_id_text, number_of}
use Rattle.doc_model.specs.declared.tree.Attribute.{Attribute}
use Rattle.doc_model.specs.declared.tree.Element.{Element}
use Rattle.doc_model.specs.Trees.{attribute}
use Rattle.net_model.specs.declared.sorts.Span.{Span}
use Rattle.net_model.specs.declared.sorts.SortTerm.{SortTerm, map-SortTerm, out-SortTerm, fold-roll-SortTerm, fold_out-SortTerm}
use Rattle.net_model.specs.declared.sorts.SortTerm.TheOpen as layer
use Rattle.net_model.specs.declared.kinds.Kind.{Kind}
use Rattle.net_elements.specs.declared.roles.Key.{Key}
use Rattle.net_elements.specs.declared.roles.Key.TheVariants as key
use Rattle.net_elements.specs.declared.roles.Role.{Role}
use Rattle.net_elements.specs.declared.roles.Role.TheVariants as role
use Rattle.net_elements.specs.declared.seats.Seat.TheVariants.{Read}
use Rattle.net_elements.specs.Rules.{attribute_notes, children_notes, end_notes, has, is_aside, is_bad_text, kind_within, passes, seat_of, symbol, walk_of}
use Rattle.net_elements.specs.Table.{keys_of, any, slots_of, sorts, word_of}
use Rattle.pnml_write.specs.Canon.{branch, constant_tree, declared_id, range_tree, sort_by_parts, sort_tree}
use Rattle.pnml_read.specs.Each.{are_all}
use Rattle.canon_laws.specs.Fitting.{fits, span_fits}
use Rattle.net_model.proofs.Inductions.{KnownSort, plain_sort, sort_by_layers, sort_in}
use Rattle.pnml_read.proofs.Elements.{or_false}
use Rattle.net_model.specs.Ids.{constants_in_layer}
use Rattle.canon_laws.proofs.Sound.{declared_sound, declared_sound_by_parts, sort_sound, sort_sound_by_parts}
use Rattle.canon_laws.proofs.Walked.{Free, Reads, ReadsAmong, among_more, any_ends, any_reads, branch_reads, child_reads, free_more, key_is_declared}

-- attributes: an id of a symbol, and numbers
pub declared_notes : (id : List ℕ) → is_id_text id ≡ true → attribute_notes 0 (key.SymbolId ∷ []) (declared_id id) ≡ symbol 0 id ∷ []
declared_notes id h = ap (λ ns. ns ++ []) (key_is_declared 0 key.SymbolId id h)

pub signed_passes : (k : Key) (n : ℤ) → passes k (signed_decimal n) ≡ has (number_of true (signed_decimal n)) → fits n ≡ true → passes k (signed_decimal n) ≡ true
signed_passes k n is h = is ∙ ap has (signed_decimal-read_back n (ltb-true (unsigned_abs n) (2 ^ 63) h))

abbrev span_attributes : Span → List Attribute
span_attributes span = attribute (codes "start") (signed_decimal span.first) ∷ attribute (codes "end") (signed_decimal span.last) ∷ []

span_notes : (span : Span) → span_fits span ≡ true → attribute_notes 0 (key.Start ∷ key.End ∷ []) (span_attributes span) ≡ []
span_notes span h =
    ap (λ ns. ns ++ (attribute_notes 0 (key.End ∷ []) (span_attributes span))) (key_is_declared 0 key.Start (signed_decimal span.first)
    (signed_passes key.Start span.first refl (and_parts (fits span.first) (fits span.last) h).0))
    ∙ ap (λ ns. ns ++ []) (key_is_declared 0 key.End (signed_decimal span.last) (signed_passes key.End span.last refl (and_parts (fits span.first) (fits span.last) h).1))

pub range_reads : (kind : Kind) (span : Span) → span_fits span ≡ true → Reads kind role.FiniteIntRange (walk_of (range_tree span)) []
range_reads kind span h = branch_reads kind role.FiniteIntRange (span_attributes span) [] [] [] (span_notes span h) refl refl

-- the constants of an enumeration
constant_reads : (kind : Kind) (id : List ℕ) → is_id_text id ≡ true → Reads kind role.FeConstant (walk_of (constant_tree id)) (symbol 0 id ∷ [])
constant_reads kind id h = branch_reads kind role.FeConstant (declared_id id) [] (symbol 0 id ∷ []) [] (declared_notes id h) refl refl

constants_read : (kind : Kind) (r : Role) → ((earlier : List (List ℕ)) → seat_of kind r earlier (word_of role.FeConstant) ≡ Read role.FeConstant)
    → (ids : List (List ℕ)) → list_all is_id_text ids ≡ true → Free kind r (map walk_of (map constant_tree ids)) (map (symbol 0) ids)
constants_read kind r seat [] h = λ earlier. refl
constants_read kind r seat (id ∷ ids) h =
    free_more kind r (walk_of (constant_tree id)) (map walk_of (map constant_tree ids)) (symbol 0 id ∷ []) (map (symbol 0) ids)
    (λ earlier. child_reads kind r role.FeConstant earlier (walk_of (constant_tree id)) (symbol 0 id ∷ []) (seat earlier)
    (constant_reads kind id (and_parts (is_id_text id) (list_all is_id_text ids) h).0))
    (constants_read kind r seat ids (and_parts (is_id_text id) (list_all is_id_text ids) h).1)

abbrev ReadsAsSort : Kind → SortTerm → Type 0
ReadsAsSort kind s = sort_sound s ≡ true → ReadsAmong kind sorts (walk_of (sort_tree s)) []

parts_read : (kind : Kind) (ys : List (KnownSort (ReadsAsSort kind))) → are_all (map sort_sound (map (sort_in (ReadsAsSort kind)) ys)) ≡ true
    → Free kind role.ProductSort (map walk_of (map sort_tree (map (sort_in (ReadsAsSort kind)) ys))) []
parts_read kind [] h = λ earlier. refl
parts_read kind (y ∷ ys) h =
    let first = (and_parts (sort_sound y.0) (are_all (map sort_sound (map (sort_in (ReadsAsSort kind)) ys))) h).0 in
    let later = (and_parts (sort_sound y.0) (are_all (map sort_sound (map (sort_in (ReadsAsSort kind)) ys))) h).1 in
    free_more kind role.ProductSort (walk_of (sort_tree y.0)) (map walk_of (map sort_tree (map (sort_in (ReadsAsSort kind)) ys))) [] []
    (λ earlier. any_reads kind role.ProductSort sorts earlier (walk_of (sort_tree y.0)) [] refl (λ name. or_false (is_aside name)) (y.1 first))
    (parts_read kind ys later)

layer_reads : (kind : Kind) (y : layer.SortTerm-F (KnownSort (ReadsAsSort kind))) → sort_sound_by_parts (map-SortTerm SortTerm Bool sort_sound (plain_sort (ReadsAsSort kind) y)) ≡ true
    → ReadsAmong kind sorts (walk_of (sort_by_parts (map-SortTerm SortTerm Element sort_tree (plain_sort (ReadsAsSort kind) y)))) []
layer_reads kind layer.Dot h = record { role = role.Dot; named = refl; aside = refl; reads = branch_reads kind role.Dot [] [] [] [] refl refl refl }
layer_reads kind (layer.Named id) h = record {
  role = role.UserSort;
  named = refl;
  aside = refl;
  reads = branch_reads kind role.UserSort (attribute (codes "declaration") id ∷ []) [] [] [] (ap (λ ns. ns ++ []) (key_is_declared 0 key.Operand id h)) refl refl;
}
layer_reads kind (layer.Product ys) h = record {
  role = role.ProductSort;
  named = refl;
  aside = refl;
  reads = branch_reads kind role.ProductSort [] (map sort_tree (map (sort_in (ReadsAsSort kind)) ys)) [] [] refl (parts_read kind ys h [])
      (any_ends kind role.ProductSort (sorts ∷ []) (map sort_tree (map (sort_in (ReadsAsSort kind)) ys)) refl refl);
}
layer_reads kind (layer.Range span) h = record { role = role.FiniteIntRange; named = refl; aside = refl; reads = range_reads kind span h }
layer_reads kind (layer.Listed ids) h = absurd (false≢true h)
layer_reads kind (layer.Cyclic ids) h = absurd (false≢true h)

pub sort_reads : (kind : Kind) (s : SortTerm) → sort_sound s ≡ true → ReadsAmong kind sorts (walk_of (sort_tree s)) []
sort_reads kind = sort_by_layers (ReadsAsSort kind) (λ y h.
    subst (λ e. ReadsAmong kind sorts (walk_of e) []) (sym (fold-roll-SortTerm Element sort_by_parts (plain_sort (ReadsAsSort kind) y)))
    (layer_reads kind y (sym (fold-roll-SortTerm Bool sort_sound_by_parts (plain_sort (ReadsAsSort kind) y)) ∙ h)))

-- a whole declared sort
abbrev pub declared_roles : List Role
declared_roles = sorts ++ role.FiniteEnumeration ∷ role.CyclicEnumeration ∷ []

enumeration_reads : (kind : Kind) (r : Role) (ids : List (List ℕ)) → slots_of kind r ≡ any (role.FeConstant ∷ []) ∷ [] → is_bad_text r [] ≡ false
    → kind_within kind r [] ≡ kind → attribute_notes 0 (keys_of r) [] ≡ []
    → ((earlier : List (List ℕ)) → seat_of kind r earlier (word_of role.FeConstant) ≡ Read role.FeConstant) → list_all is_id_text ids ≡ true
    → Reads kind r (walk_of (branch r [] (map constant_tree ids))) (map (symbol 0) ids)
enumeration_reads kind r ids slots good same own seat h =
    branch_reads kind r [] (map constant_tree ids) [] (map (symbol 0) ids) own
    (ap (λ k. children_notes k r [] (map walk_of (map constant_tree ids))) same ∙ constants_read kind r seat ids h [])
    (ap (λ k. end_notes (slots_of k r) r 0 (map (λ w. w.name) (map walk_of (map constant_tree ids))) []) same ∙ any_ends kind r ((role.FeConstant ∷ []) ∷ []) (map constant_tree ids) slots good)

pub declared_reads : (kind : Kind) (s : SortTerm) → declared_sound s ≡ true
    → ReadsAmong kind declared_roles (walk_of (sort_tree s)) (map (symbol 0) (constants_in_layer (out-SortTerm s)))
declared_reads kind s h = by (out-SortTerm s) h (fold_out-SortTerm Element sort_by_parts s)
  where
    by : (y : layer.SortTerm-F SortTerm) → declared_sound_by_parts y (sort_sound s) ≡ true → sort_tree s ≡ sort_by_parts (map-SortTerm SortTerm Element sort_tree y)
        → ReadsAmong kind declared_roles (walk_of (sort_tree s)) (map (symbol 0) (constants_in_layer y))
    by layer.Dot h is = among_more kind sorts _ (walk_of (sort_tree s)) [] (sort_reads kind s h)
    by (layer.Named id) h is = among_more kind sorts _ (walk_of (sort_tree s)) [] (sort_reads kind s h)
    by (layer.Product parts) h is = among_more kind sorts _ (walk_of (sort_tree s)) [] (sort_reads kind s h)
    by (layer.Range span) h is = among_more kind sorts _ (walk_of (sort_tree s)) [] (sort_reads kind s h)
    by (layer.Listed ids) h is = subst (λ e. ReadsAmong kind declared_roles (walk_of e) (map (symbol 0) ids)) (sym is) (record {
      role = role.FiniteEnumeration;
      named = refl;
      aside = refl;
      reads = enumeration_reads kind role.FiniteEnumeration ids refl refl refl refl (λ earlier. refl) h;
    })
    by (layer.Cyclic ids) h is = subst (λ e. ReadsAmong kind declared_roles (walk_of e) (map (symbol 0) ids)) (sym is) (record {
      role = role.CyclicEnumeration;
      named = refl;
      aside = refl;
      reads = enumeration_reads kind role.CyclicEnumeration ids refl refl refl refl (λ earlier. refl) h;
    })
