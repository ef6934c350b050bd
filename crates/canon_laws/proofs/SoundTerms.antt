-- Sound sorts, terms and guards fit, and their trees can be written.
use Rattle.std.proofs.Common.{◌≡◌, ℕ, ◌<◌, ◌^◌, ℤ, Bool, true, false, ◌&&◌, nat_lt, List, [], ◌∷◌, map, codes, refl, sym, subst, ◌∙◌, arith}
use Rattle.std.proofs.lemmas.Bool.{and_parts, false≢true, ltb-true}
use Rattle.std.specs.Fmt.{decimal, signed_decimal}
use Rattle.std.specs.List.{list_all}
use Rattle.doc_model.specs.declared.tree.Element.{Element}
use Rattle.doc_tree.specs.Characters.{is_ascii, is_white}
use Rattle.doc_tree.specs.Writable
use Rattle.doc_tree.specs.Writable.{AreCharacters, AreWritable, IsWritable}
use Rattle.name_tables.specs.Grammar.{is_id_text}
use Rattle.net_model.specs.declared.sorts.Span.{Span}
use Rattle.net_model.specs.declared.sorts.SortTerm.{SortTerm, map-SortTerm, out-SortTerm, fold-roll-SortTerm, fold_out-SortTerm}
use Rattle.net_model.specs.declared.sorts.SortTerm.TheOpen as sort
use Rattle.net_model.specs.declared.terms.Term.{Term, map-Term, fold-roll-Term}
use Rattle.net_model.specs.declared.terms.Term.TheOpen as term
use Rattle.net_model.specs.declared.terms.Guard.{Guard, map-Guard, fold-roll-Guard}
use Rattle.net_model.specs.declared.terms.Guard.TheOpen as guard
use Rattle.net_elements.specs.declared.roles.Key.TheVariants as key
use Rattle.net_elements.specs.declared.roles.Role.TheVariants as role
use Rattle.pnml_write.specs.Canon.{constant_tree, guard_by_parts, guard_part_tree, guard_tree, number_tree, operator_tree, order_role, part, range_constant_tree, range_tree, sort_by_parts, sort_tree, term_by_parts, term_tree, truth_text}
use Rattle.pnml_read.specs.Each.{are_all}
use Rattle.canon_laws.specs.Fitting.{fits, guard_fits, guard_fits_by_parts, sort_fits, sort_fits_by_parts, span_fits, term_fits, term_fits_by_parts}
use Rattle.net_model.proofs.Inductions.{KnownGuard, KnownSort, KnownTerm, guard_by_layers, guard_in, plain_guard, plain_sort, plain_term, sort_by_layers, sort_in, term_by_layers, term_in}
use Rattle.canon_laws.proofs.Branches.{all_write, branch_writes, declared_attributes, holder_writes, key_is_name, no_children, one_attribute, one_child, two_attributes, two_children}
use Rattle.canon_laws.proofs.Characters.{ascii_characters, decimal_characters, id_characters, signed_characters}
use Rattle.canon_laws.proofs.Sound.{declared_sound, declared_sound_by_parts, guard_sound, guard_sound_by_parts, some, sort_sound, sort_sound_by_parts, term_sound, term_sound_by_parts}

-- sorts
constants_write : (ids : List (List ℕ)) → list_all is_id_text ids ≡ true → AreWritable (map constant_tree ids)
constants_write = all_write constant_tree is_id_text (λ id is. branch_writes role.FeConstant (declared_attributes id is) no_children)

range_writes : (span : Span) → span_fits span ≡ true → IsWritable (range_tree span)
range_writes span fit =
    let parts = and_parts (fits span.first) (fits span.last) fit in
    branch_writes role.FiniteIntRange
    (two_attributes (codes "start") (signed_decimal span.first) (codes "end") (signed_decimal span.last)
    (key_is_name key.Start) (signed_characters span.first parts.0) (key_is_name key.End) refl (signed_characters span.last parts.1))
    no_children

abbrev GoodSort : SortTerm → Type 0
GoodSort s = sort_sound s ≡ true → (sort_fits s ≡ true) × IsWritable (sort_tree s)

sort_parts : (ys : List (KnownSort GoodSort)) → are_all (map sort_sound (map (sort_in GoodSort) ys)) ≡ true
    → (are_all (map sort_fits (map (sort_in GoodSort) ys)) ≡ true) × AreWritable (map sort_tree (map (sort_in GoodSort) ys))
sort_parts [] h = (refl, no_children)
sort_parts (y ∷ ys) h =
    let parts = and_parts (sort_sound y.0) (are_all (map sort_sound (map (sort_in GoodSort) ys))) h in
    let first = y.1 parts.0 in
    let later = sort_parts ys parts.1 in
    (λ i. first.0 i && later.0 i, Writable.AreWritable.more first.1 later.1)

sort_layer : (y : sort.SortTerm-F (KnownSort GoodSort)) → sort_sound_by_parts (map-SortTerm SortTerm Bool sort_sound (plain_sort GoodSort y)) ≡ true
    → (sort_fits_by_parts (map-SortTerm SortTerm Bool sort_fits (plain_sort GoodSort y)) ≡ true)
    × IsWritable (sort_by_parts (map-SortTerm SortTerm Element sort_tree (plain_sort GoodSort y)))
sort_layer sort.Dot h = (refl, holder_writes role.Dot no_children)
sort_layer (sort.Named id) h =
    (refl, branch_writes role.UserSort (one_attribute (codes "declaration") id (key_is_name key.Operand) (id_characters id h)) no_children)
sort_layer (sort.Product ys) h = let parts = sort_parts ys h in (parts.0, holder_writes role.ProductSort parts.1)
sort_layer (sort.Range span) h = (h, range_writes span h)
sort_layer (sort.Listed ids) never = absurd (false≢true never)
sort_layer (sort.Cyclic ids) never = absurd (false≢true never)

pub good_sort : (s : SortTerm) → sort_sound s ≡ true → (sort_fits s ≡ true) × IsWritable (sort_tree s)
good_sort = sort_by_layers GoodSort (λ y h.
    let good = sort_layer y (sym (fold-roll-SortTerm Bool sort_sound_by_parts (plain_sort GoodSort y)) ∙ h) in
    (fold-roll-SortTerm Bool sort_fits_by_parts (plain_sort GoodSort y) ∙ good.0, subst IsWritable (sym (fold-roll-SortTerm Element sort_by_parts (plain_sort GoodSort y))) good.1))

-- whole declared sorts
declared_layer : (y : sort.SortTerm-F SortTerm) (b : Bool) → declared_sound_by_parts y b ≡ true
    → (b ≡ true → (sort_fits_by_parts (map-SortTerm SortTerm Bool sort_fits y) ≡ true) × IsWritable (sort_by_parts (map-SortTerm SortTerm Element sort_tree y)))
    → (sort_fits_by_parts (map-SortTerm SortTerm Bool sort_fits y) ≡ true) × IsWritable (sort_by_parts (map-SortTerm SortTerm Element sort_tree y))
declared_layer (sort.Listed ids) b h otherwise = (refl, holder_writes role.FiniteEnumeration (constants_write ids h))
declared_layer (sort.Cyclic ids) b h otherwise = (refl, holder_writes role.CyclicEnumeration (constants_write ids h))
declared_layer y b h otherwise = otherwise h

pub good_declared : (s : SortTerm) → declared_sound s ≡ true → (sort_fits s ≡ true) × IsWritable (sort_tree s)
good_declared s h =
    let fit_is = fold_out-SortTerm Bool sort_fits_by_parts s in
    let tree_is = fold_out-SortTerm Element sort_by_parts s in
    let good = declared_layer (out-SortTerm s) (sort_sound s) h
    (λ sound. let other = good_sort s sound in (sym fit_is ∙ other.0, subst IsWritable tree_is other.1)) in
    (fit_is ∙ good.0, subst IsWritable (sym tree_is) good.1)

-- parts that fit and can be written, each inside a subterm
parts_good : {A : Type 0} (sound fit : A → Bool) (tree : A → Element) (inside : Element → Element) → ((t : Element) → IsWritable t → IsWritable (inside t))
    → (ys : List ((x : A) × (sound x ≡ true → (fit x ≡ true) × IsWritable (tree x)))) → are_all (map sound (map (λ y. y.0) ys)) ≡ true
    → (are_all (map fit (map (λ y. y.0) ys)) ≡ true) × AreWritable (map inside (map tree (map (λ y. y.0) ys)))
parts_good sound fit tree inside writes [] h = (refl, no_children)
parts_good sound fit tree inside writes (y ∷ ys) h =
    let parts = and_parts (sound y.0) (are_all (map sound (map (λ y. y.0) ys))) h in
    let first = y.1 parts.0 in
    let later = parts_good sound fit tree inside writes ys parts.1 in
    (λ i. first.0 i && later.0 i, Writable.AreWritable.more (writes (tree y.0) first.1) later.1)

-- terms
below : (n : ℕ) → nat_lt n (2 ^ 63) ≡ true → n < 2 ^ 64
below n h = let small : n < 2 ^ 63 = ltb-true n (2 ^ 63) h in omega (arith, small)

pub range_constant_writes : (value : ℤ) (span : Span) → (fits value && span_fits span) ≡ true → IsWritable (range_constant_tree value span)
range_constant_writes value span fit =
    let parts = and_parts (fits value) (span_fits span) fit in
    branch_writes role.FiniteIntRangeConstant (one_attribute (codes "value") (signed_decimal value) (key_is_name key.SignedValue) (signed_characters value parts.0))
    (one_child (range_writes span parts.1))

pub operator_writes : (id : List ℕ) → is_id_text id ≡ true → IsWritable (operator_tree id)
operator_writes id is = branch_writes role.UserOperator (one_attribute (codes "declaration") id (key_is_name key.Operand) (id_characters id is)) no_children

number_writes : (n : ℕ) → nat_lt n (2 ^ 63) ≡ true → IsWritable (number_tree n)
number_writes n small =
    holder_writes role.NumberSubterm (one_child
    (branch_writes role.NumberConstant (one_attribute (codes "value") (decimal n) (key_is_name key.CountValue) (decimal_characters n (below n small)))
    (one_child (holder_writes role.Natural no_children))))

part_writes : {t : Element} → IsWritable t → IsWritable (part t)
part_writes t = holder_writes role.TermSubterm (one_child t)

abbrev GoodTerm : Term → Type 0
GoodTerm t = term_sound t ≡ true → (term_fits t ≡ true) × IsWritable (term_tree t)

some_terms : (ys : List (KnownTerm GoodTerm)) → (some (map term_sound (map (term_in GoodTerm) ys)) && are_all (map term_sound (map (term_in GoodTerm) ys))) ≡ true
    → (are_all (map term_fits (map (term_in GoodTerm) ys)) ≡ true) × AreWritable (map part (map term_tree (map (term_in GoodTerm) ys)))
some_terms ys h =
    let sounds = map term_sound (map (term_in GoodTerm) ys) in parts_good term_sound term_fits term_tree part (λ t is. part_writes is) ys (and_parts (some sounds) (are_all sounds) h).1

term_layer : (y : term.Term-F (KnownTerm GoodTerm)) → term_sound_by_parts (map-Term Term Bool term_sound (plain_term GoodTerm y)) ≡ true
    → (term_fits_by_parts (map-Term Term Bool term_fits (plain_term GoodTerm y)) ≡ true) × IsWritable (term_by_parts (map-Term Term Element term_tree (plain_term GoodTerm y)))
term_layer (term.Variable id) h =
    (refl, branch_writes role.Variable (one_attribute (codes "refvariable") id (key_is_name key.RefVariable) (id_characters id h)) no_children)
term_layer (term.Operator id) h = (refl, operator_writes id h)
term_layer term.Dot h = (refl, holder_writes role.DotConstant no_children)
term_layer (term.Number value span) h = (h, range_constant_writes value span h)
term_layer (term.Successor c) h = let good = c.1 h in (good.0, holder_writes role.Successor (one_child (part_writes good.1)))
term_layer (term.Predecessor c) h = let good = c.1 h in (good.0, holder_writes role.Predecessor (one_child (part_writes good.1)))
term_layer (term.Tuple ys) h = let parts = some_terms ys h in (parts.0, holder_writes role.Tuple parts.1)
term_layer (term.All s) h = let good = good_sort s h in (good.0, holder_writes role.All (one_child good.1))
term_layer (term.Empty s) h = let good = good_sort s h in (good.0, holder_writes role.Empty (one_child good.1))
term_layer (term.NumberOf n c) h =
    let parts = and_parts (nat_lt n (2 ^ 63)) (term_sound c.0) h in
    let good = c.1 parts.1 in
    (λ i. parts.0 i && good.0 i, holder_writes role.NumberOf (two_children (number_writes n parts.0) (part_writes good.1)))
term_layer (term.Scalar n c) h =
    let parts = and_parts (nat_lt n (2 ^ 63)) (term_sound c.0) h in
    let good = c.1 parts.1 in
    (λ i. parts.0 i && good.0 i, holder_writes role.ScalarProduct (two_children (number_writes n parts.0) (part_writes good.1)))
term_layer (term.Add ys) h = let parts = some_terms ys h in (parts.0, holder_writes role.Add parts.1)
term_layer (term.Subtract c d) h =
    let parts = and_parts (term_sound c.0) (term_sound d.0) h in
    let first = c.1 parts.0 in
    let second = d.1 parts.1 in
    (λ i. first.0 i && second.0 i, holder_writes role.Subtract (two_children (part_writes first.1) (part_writes second.1)))
term_layer (term.BlockOf id c) h =
    let parts = and_parts (is_id_text id) (term_sound c.0) h in
    let good = c.1 parts.1 in (
      good.0,
      branch_writes role.PartitionElementOf (one_attribute (codes "refpartition") id (key_is_name key.RefPartition) (id_characters id parts.0)) (one_child (part_writes good.1)),
    )

pub good_term : (t : Term) → term_sound t ≡ true → (term_fits t ≡ true) × IsWritable (term_tree t)
good_term = term_by_layers GoodTerm (λ y h.
    let good = term_layer y (sym (fold-roll-Term Bool term_sound_by_parts (plain_term GoodTerm y)) ∙ h) in
    (fold-roll-Term Bool term_fits_by_parts (plain_term GoodTerm y) ∙ good.0, subst IsWritable (sym (fold-roll-Term Element term_by_parts (plain_term GoodTerm y))) good.1))

-- guards
truth_characters : (b : Bool) → AreCharacters (truth_text b)
unfolding is_ascii is_white
truth_characters true = ascii_characters (codes "true") refl
truth_characters false = ascii_characters (codes "false") refl

guard_part_writes : {g : Element} → IsWritable g → IsWritable (guard_part_tree g)
guard_part_writes g = holder_writes role.GuardSubterm (one_child g)

abbrev GoodGuard : Guard → Type 0
GoodGuard g = guard_sound g ≡ true → (guard_fits g ≡ true) × IsWritable (guard_tree g)

some_guards : (ys : List (KnownGuard GoodGuard)) → (some (map guard_sound (map (guard_in GoodGuard) ys)) && are_all (map guard_sound (map (guard_in GoodGuard) ys))) ≡ true
    → (are_all (map guard_fits (map (guard_in GoodGuard) ys)) ≡ true) × AreWritable (map guard_part_tree (map guard_tree (map (guard_in GoodGuard) ys)))
some_guards ys h =
    let sounds = map guard_sound (map (guard_in GoodGuard) ys) in parts_good guard_sound guard_fits guard_tree guard_part_tree (λ t is. guard_part_writes is) ys (and_parts (some sounds) (are_all sounds) h).1

guard_layer : (y : guard.Guard-F (KnownGuard GoodGuard)) → guard_sound_by_parts (map-Guard Guard Bool guard_sound (plain_guard GoodGuard y)) ≡ true
    → (guard_fits_by_parts (map-Guard Guard Bool guard_fits (plain_guard GoodGuard y)) ≡ true)
    × IsWritable (guard_by_parts (map-Guard Guard Element guard_tree (plain_guard GoodGuard y)))
guard_layer (guard.Constant b) h =
    (refl, branch_writes role.BooleanConstant (one_attribute (codes "value") (truth_text b) (key_is_name key.TruthValue) (truth_characters b)) no_children)
guard_layer (guard.And ys) h = let parts = some_guards ys h in (parts.0, holder_writes role.And parts.1)
guard_layer (guard.Or ys) h = let parts = some_guards ys h in (parts.0, holder_writes role.Or parts.1)
guard_layer (guard.Not c) h = let good = c.1 h in (good.0, holder_writes role.Not (one_child (guard_part_writes good.1)))
guard_layer (guard.Imply c d) h =
    let parts = and_parts (guard_sound c.0) (guard_sound d.0) h in
    let first = c.1 parts.0 in
    let second = d.1 parts.1 in
    (λ i. first.0 i && second.0 i, holder_writes role.Imply (two_children (guard_part_writes first.1) (guard_part_writes second.1)))
guard_layer (guard.Compare o s t) h =
    let parts = and_parts (term_sound s) (term_sound t) h in
    let first = good_term s parts.0 in
    let second = good_term t parts.1 in
    (λ i. first.0 i && second.0 i, holder_writes (order_role o) (two_children (part_writes first.1) (part_writes second.1)))

pub good_guard : (g : Guard) → guard_sound g ≡ true → (guard_fits g ≡ true) × IsWritable (guard_tree g)
good_guard = guard_by_layers GoodGuard (λ y h.
    let good = guard_layer y (sym (fold-roll-Guard Bool guard_sound_by_parts (plain_guard GoodGuard y)) ∙ h) in
    (fold-roll-Guard Bool guard_fits_by_parts (plain_guard GoodGuard y) ∙ good.0, subst IsWritable (sym (fold-roll-Guard Element guard_by_parts (plain_guard GoodGuard y))) good.1))
