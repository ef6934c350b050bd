-- Labels, and what they say.
use Rattle.std.proofs.Common.{◌≡◌, ℕ, ◌==◌, Bool, true, false, List, [], ◌∷◌, ◌++◌, map, Option, None, Some, refl, ap, sym, ◌∙◌, if◌then◌else◌, arith}
use Rattle.std.proofs.lemmas.Bool.Decides.{nat_tests}
use Rattle.std.specs.Fmt.{decimal}
use Rattle.doc_model.specs.declared.tree.Element.{Element}
use Rattle.doc_model.specs.Trees.{element}
use Rattle.net_model.specs.declared.sorts.SortTerm.{SortTerm}
use Rattle.net_model.specs.declared.terms.Term.{Term}
use Rattle.net_model.specs.declared.terms.Guard.{Guard}
use Rattle.net_model.specs.declared.kinds.Kind.{Kind}
use Rattle.net_model.specs.declared.kinds.Kind.TheVariants.{Pt, Symmetric}
use Rattle.net_elements.specs.declared.roles.Role.{Role}
use Rattle.net_elements.specs.declared.roles.Role.TheVariants as role
use Rattle.net_elements.specs.Rules.{is_aside}
use Rattle.net_elements.specs.Table.{word_of}
use Rattle.net_model.specs.declared.nets.Label.{Label}
use Rattle.net_model.specs.declared.nets.Label.TheVariants as label
use Rattle.pnml_read.specs.Nets.{Given, given, guard_or_none, inscription_of, marking_of, named, number_or, sort_or_dot}
use Rattle.pnml_write.specs.Canon.{condition_trees, guard_tree, holder, label_trees, sort_tree, term_label, term_tree, text_label, type_trees, unless_usual}
use Rattle.canon_laws.specs.Fitting.{GuardFits, LabelFits, SortFits, sort_fits, term_fits}
use Rattle.pnml_read.proofs.Elements.{element_gives, first_child, gives, or_false}
use Rattle.canon_laws.proofs.Elements.{branch_given, branch_gives}
use Rattle.canon_laws.proofs.Guards.{guard_aside, guard_back}
use Rattle.canon_laws.proofs.Sorts.{sort_aside, sort_back}
use Rattle.canon_laws.proofs.Terms.{term_aside, term_back}
use Rattle.canon_laws.proofs.Texts.{trimmed_back}

-- a label that holds a structure
structure_gives : (outer inner : Role) (tree : Element) → given (holder outer (holder inner (tree ∷ []) ∷ [])) ≡ branch_given outer [] (branch_given inner [] (given tree ∷ []) ∷ [])
structure_gives outer inner tree = branch_gives outer [] (holder inner (tree ∷ []) ∷ []) ∙ ap (λ g. branch_given outer [] (g ∷ [])) (branch_gives inner [] (tree ∷ []))

abbrev type_given : SortTerm → Given
type_given s = branch_given role.PlaceType [] (branch_given role.SortStructure [] (given (sort_tree s) ∷ []) ∷ [])

type_back : (s : SortTerm) → sort_fits s ≡ true → (type_given s).sort ≡ s
type_back s h =
    ap (λ g. g.sort) (first_child role.SortStructure (given (sort_tree s)) [] (or_false (is_aside (given (sort_tree s)).name) (sort_aside s))) ∙ sort_back s h

abbrev term_given : Role → Term → Given
term_given r t = branch_given r [] (branch_given role.TermStructure [] (given (term_tree t) ∷ []) ∷ [])

structure_term : (t : Term) → term_fits t ≡ true → (branch_given role.TermStructure [] (given (term_tree t) ∷ [])).term ≡ t
structure_term t h =
    ap (λ g. g.term) (first_child role.TermStructure (given (term_tree t)) [] (or_false (is_aside (given (term_tree t)).name) (term_aside t))) ∙ term_back t h

-- a label with a number
abbrev number_given : Role → ℕ → Given
number_given r n = branch_given r [] (gives (word_of role.Text) [] [] (decimal n) ∷ [])

number_gives : (r : Role) (n : ℕ) → given (text_label r n) ≡ number_given r n
number_gives r n =
    branch_gives r [] (element (word_of role.Text) [] [] (decimal n) ∷ [])
    ∙ ap (λ g. branch_given r [] (g ∷ [])) (element_gives (word_of role.Text) [] [] (decimal n))

-- what is left out is the usual number
either : {A : Type 0} (f : List Given → A) (usual : ℕ) (r : Role) (n : ℕ) (a : A) → (n ≡ usual → f [] ≡ a) → f (number_given r n ∷ []) ≡ a → f (map given (unless_usual usual r n)) ≡ a
either f usual r n a absent written = by (n == usual) (λ h. absent (grind (arith, nat_tests, h)))
  where
    by : (b : Bool) → (b ≡ true → f [] ≡ a) → f (map given (if b then [] else text_label r n ∷ [])) ≡ a
    by true absent = absent refl
    by false absent = ap (λ g. f (g ∷ [])) (number_gives r n) ∙ written

pub marking_back : (kind : Kind) (s : SortTerm) (m : Label) → LabelFits kind m → marking_of kind (map given (type_trees kind s ++ label_trees 0 role.InitialMarking role.HlInitialMarking m)) ≡ m
marking_back Pt s (label.Count n) small =
    ap label.Count (either (λ gs. number_or 0 (named role.InitialMarking gs)) 0 role.InitialMarking n n (λ is. sym is) (trimmed_back n small))
marking_back Pt s label.Absent never = absurd never
marking_back Pt s (label.Multiset t) never = absurd never
marking_back Symmetric s label.Absent fit = ap (λ g. marking_of Symmetric (g ∷ [])) (structure_gives role.PlaceType role.SortStructure (sort_tree s))
marking_back Symmetric s (label.Multiset t) fit =
    ap (λ g. marking_of Symmetric (g ∷ given (term_label role.HlInitialMarking t) ∷ [])) (structure_gives role.PlaceType role.SortStructure (sort_tree s))
    ∙ ap (λ g. marking_of Symmetric (type_given s ∷ g ∷ [])) (structure_gives role.HlInitialMarking role.TermStructure (term_tree t))
    ∙ ap label.Multiset (structure_term t fit)
marking_back Symmetric s (label.Count n) never = absurd never

pub place_sort_back : (kind : Kind) (s : SortTerm) (m : Label) → SortFits kind s → LabelFits kind m
    → sort_or_dot (named role.PlaceType (map given (type_trees kind s ++ label_trees 0 role.InitialMarking role.HlInitialMarking m))) ≡ s
place_sort_back Pt s (label.Count n) is small = either (λ gs. sort_or_dot (named role.PlaceType gs)) 0 role.InitialMarking n s (λ _. sym is) (sym is)
place_sort_back Pt s label.Absent is never = absurd never
place_sort_back Pt s (label.Multiset t) is never = absurd never
place_sort_back Symmetric s m is fit =
    ap (λ g. sort_or_dot (named role.PlaceType (g ∷ map given (label_trees 0 role.InitialMarking role.HlInitialMarking m)))) (structure_gives role.PlaceType role.SortStructure (sort_tree s))
    ∙ type_back s is

pub inscription_back : (kind : Kind) (m : Label) → LabelFits kind m → inscription_of kind (map given (label_trees 1 role.Inscription role.HlInscription m)) ≡ m
inscription_back Pt (label.Count n) small =
    ap label.Count (either (λ gs. number_or 1 (named role.Inscription gs)) 1 role.Inscription n n (λ is. sym is) (trimmed_back n small))
inscription_back Pt label.Absent never = absurd never
inscription_back Pt (label.Multiset t) never = absurd never
inscription_back Symmetric label.Absent fit = refl
inscription_back Symmetric (label.Multiset t) fit =
    ap (λ g. inscription_of Symmetric (g ∷ [])) (structure_gives role.HlInscription role.TermStructure (term_tree t)) ∙ ap label.Multiset (structure_term t fit)
inscription_back Symmetric (label.Count n) never = absurd never

pub condition_back : (o : Option Guard) → GuardFits o → guard_or_none (named role.Condition (map given (condition_trees o))) ≡ o
condition_back None fit = refl
condition_back (Some g) fit =
    ap (λ c. guard_or_none (named role.Condition (c ∷ []))) (structure_gives role.Condition role.GuardStructure (guard_tree g))
    ∙ ap (λ c. Some c.guard) (first_child role.GuardStructure (given (guard_tree g)) [] (or_false (is_aside (given (guard_tree g)).name) (guard_aside g)))
    ∙ ap Some (guard_back g fit)
