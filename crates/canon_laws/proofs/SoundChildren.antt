-- What the children of an element say of it: which roles they are read in, and what is sound of them there.
use Rattle.std.proofs.Common.{◌≡◌, ◌⊎◌, ℕ, suc, ◌+◌, ◌==◌, ◌^◌, nat_lt, Bool, true, false, not, cond, ◌&&◌, List, [], ◌∷◌, ◌++◌, map, length, codes, None, Some, inl, inr, refl, ap, sym, subst, ◌∙◌, arith, if◌then◌else◌}
use Rattle.std.proofs.lemmas.Bool.{false≢true, true≢false, and_from, or_parts}
use Rattle.std.proofs.lemmas.Bool.Decides.{nat_tests}
use Rattle.std.proofs.lemmas.List.Sums.{sum_by-cons}
use Rattle.std.proofs.lemmas.Slice.Eq.{bytes_eq-Decides}
use Rattle.std.specs.Bool.{⊤}
use Rattle.std.specs.List.{count_by, list_all}
use Rattle.std.specs.Str.{bytes_eq}
use Rattle.name_tables.specs.Grammar.{is_id_text}
use Rattle.doc_model.specs.declared.tree.Attribute.{Attribute}
use Rattle.net_model.specs.declared.sorts.SortTerm.TheOpen as sort_layer
use Rattle.net_model.specs.declared.sorts.SortTerm.TheVariants as sort
use Rattle.net_model.specs.declared.terms.Order.{Order}
use Rattle.net_model.specs.declared.terms.Term.TheOpen as term_layer
use Rattle.net_model.specs.declared.terms.Term.TheVariants as term
use Rattle.net_model.specs.declared.terms.Guard.TheOpen as guard_layer
use Rattle.net_model.specs.declared.terms.Guard.TheVariants as guard
use Rattle.net_model.specs.declared.kinds.Kind.{Kind}
use Rattle.net_model.specs.declared.kinds.Kind.TheVariants.{Pt, Symmetric}
use Rattle.net_elements.specs.declared.roles.Role.{Role}
use Rattle.net_elements.specs.declared.roles.Role.TheVariants as role
use Rattle.net_elements.specs.Table.{guards, one_or_more, slots_of, sorts, terms, word_of}
use Rattle.net_elements.specs.Rules.{has, is_missing, is_passed_over, role_named}
use Rattle.pnml_read.specs.Nets.{Given, child, kept, nothing, signed, span_part, text_in}
use Rattle.pnml_read.specs.Each.{Each, are_all}
use Rattle.canon_laws.specs.Fitting.{fits, span_fits}
use Rattle.pnml_read.proofs.ReadRoles.{OneOf, any_of, roles_in}
use Rattle.canon_laws.proofs.Sound.{guard_sound, some, sort_sound, term_sound}
use Rattle.pnml_read.proofs.Each.{all_map, all_maps, each_at, each_map, filter_has}
use Rattle.canon_laws.proofs.SoundParts.{declared_from, guard_from, signed_fits, sort_from, term_from}
use Rattle.canon_laws.proofs.SoundSeats.{GuardGiven, MemberGiven, NodesAreSound, NumbersFit, Seated, SortGiven, TakenIn, Takes, TermGiven, WholeSortGiven}

-- Children.

pub each_kept : (kind : Kind) (r : Role) (R : Given → Type 0) (cs : List Given) → ((g : Given) → TakenIn kind r g → R g) → Each (Seated kind r) cs → Each R (kept r cs)
each_kept kind r R [] f h = tt
each_kept kind r R (c ∷ cs) f h = by (is_passed_over r c.name) refl h.0.1 (kept r cs) (each_kept kind r R cs f h.1)
  where
    by : (b : Bool) → is_passed_over r c.name ≡ b → ((is_passed_over r c.name ≡ true) ⊎ TakenIn kind r c) → (ks : List Given) → Each R ks → Each R (cond (not b) (c ∷ ks) ks)
    by true is seat ks later = later
    by false is (inl passed) ks later = absurd (false≢true (sym is ∙ passed))
    by false is (inr one) ks later = (f c one, later)

pub child_has : (kind : Kind) (r : Role) (at : ℕ) (R : Given → Type 0) (cs : List Given) → ((g : Given) → TakenIn kind r g → R g) → R nothing → Each (Seated kind r) cs → R (child r at cs)
child_has kind r at R cs f otherwise h = each_at R (kept r cs) at nothing (each_kept kind r R cs f h) otherwise

nothing_fits : NumbersFit nothing
nothing_fits = (refl, refl)

pub numbers_at : (r : Role) (at : ℕ) (cs : List Given) → Each NumbersFit cs → NumbersFit (child r at cs)
numbers_at r at cs h =
    each_at NumbersFit (kept r cs) at nothing
    (each_map (λ g. NumbersFit g × (not (is_passed_over r g.name) ≡ true)) NumbersFit (λ g k. k.0) (kept r cs) (filter_has (λ g. not (is_passed_over r g.name)) NumbersFit cs h))
    nothing_fits

seated_fit : (kind : Kind) (r : Role) (cs : List Given) → Each (Seated kind r) cs → Each NumbersFit cs
seated_fit kind r cs h = each_map (Seated kind r) NumbersFit (λ g k. k.0) cs h

-- the roles of slots

pub only : (r : Role) (P : Role → Type 0) → OneOf (r ∷ []) P → P r
only r P (inl h) = h
only r P (inr h) = absurd h

twice : (r : Role) (P : Role → Type 0) → OneOf (r ∷ r ∷ []) P → P r
twice r P (inl h) = h
twice r P (inr h) = only r P h

pub as_sort : (kind : Kind) (g : Given) → OneOf sorts (Takes kind g) → SortGiven g
as_sort kind g = any_of sorts (Takes kind g) (SortGiven g) ((λ t. t.1), ((λ t. t.1), ((λ t. t.1), ((λ t. t.1), tt))))

pub as_whole_sort : (kind : Kind) (g : Given) → OneOf (sorts ++ role.FiniteEnumeration ∷ role.CyclicEnumeration ∷ []) (Takes kind g) → WholeSortGiven g
as_whole_sort kind g =
    any_of (sorts ++ role.FiniteEnumeration ∷ role.CyclicEnumeration ∷ []) (Takes kind g) (WholeSortGiven g)
    ((λ t. declared_from g.sort t.1), ((λ t. declared_from g.sort t.1), ((λ t. declared_from g.sort t.1), ((λ t. declared_from g.sort t.1), ((λ t. t.1), ((λ t. t.1), tt))))))

pub as_term : (kind : Kind) (g : Given) → OneOf terms (Takes kind g) → TermGiven g
as_term kind g =
    any_of terms (Takes kind g) (TermGiven g)
    ((λ t. t.1), ((λ t. t.1.0), ((λ t. t.1.0), ((λ t. t.1.0), ((λ t. t.1), ((λ t. t.1), ((λ t. t.1), ((λ t. t.1), ((λ t. t.1), ((λ t. t.1), ((λ t. t.1), ((λ t. t.1), ((λ t. t.1), ((λ t. t.1), tt))))))))))))))

pub as_guard : (kind : Kind) (g : Given) → OneOf guards (Takes kind g) → GuardGiven g
as_guard kind g =
    any_of guards (Takes kind g) (GuardGiven g)
    ((λ t. t.1), ((λ t. t.1), ((λ t. t.1), ((λ t. t.1), ((λ t. t.1), ((λ t. t.1), ((λ t. t.1), ((λ t. t.1), ((λ t. t.1), ((λ t. t.1), ((λ t. t.1), tt)))))))))))

pub as_member : (kind : Kind) (g : Given) → OneOf (role.UserOperator ∷ role.FiniteIntRangeConstant ∷ role.DotConstant ∷ []) (Takes kind g) → MemberGiven g
as_member kind g =
    any_of (role.UserOperator ∷ role.FiniteIntRangeConstant ∷ role.DotConstant ∷ []) (Takes kind g) (MemberGiven g) ((λ t. t.1.1), ((λ t. t.1.1), ((λ t. t.1.1), tt)))

pub one_subterm : (kind : Kind) (g : Given) → OneOf (role.TermSubterm ∷ []) (Takes kind g) → TermGiven g
one_subterm kind g t = (only role.TermSubterm (Takes kind g) t).1

pub two_subterms : (kind : Kind) (g : Given) → OneOf (role.TermSubterm ∷ role.TermSubterm ∷ []) (Takes kind g) → TermGiven g
two_subterms kind g t = (twice role.TermSubterm (Takes kind g) t).1

pub number_or_subterm : (kind : Kind) (g : Given) → OneOf (role.NumberSubterm ∷ role.TermSubterm ∷ []) (Takes kind g) → TermGiven g
number_or_subterm kind g = any_of (role.NumberSubterm ∷ role.TermSubterm ∷ []) (Takes kind g) (TermGiven g) ((λ t. t.1), ((λ t. t.1), tt))

pub one_part : (kind : Kind) (g : Given) → OneOf (role.GuardSubterm ∷ []) (Takes kind g) → GuardGiven g
one_part kind g t = (only role.GuardSubterm (Takes kind g) t).1

pub two_parts : (kind : Kind) (g : Given) → OneOf (role.GuardSubterm ∷ role.GuardSubterm ∷ []) (Takes kind g) → GuardGiven g
two_parts kind g t = (twice role.GuardSubterm (Takes kind g) t).1

pub as_node : (kind : Kind) (g : Given) → TakenIn kind role.Page g → NodesAreSound kind g
as_node Pt g =
    any_of (roles_in (slots_of Pt role.Page)) (Takes Pt g) (NodesAreSound Pt g) ((λ t. t.1), ((λ t. t.1), ((λ t. t.1), ((λ t. t.1), ((λ t. t.1), ((λ t. t.1), tt))))))
as_node Symmetric g =
    any_of (roles_in (slots_of Symmetric role.Page)) (Takes Symmetric g) (NodesAreSound Symmetric g)
    ((λ t. t.1), ((λ t. t.1), ((λ t. t.1), ((λ t. t.1), ((λ t. t.1), ((λ t. t.1), ((λ t. t.1), tt)))))))

-- a sum and a tuple have parts

abbrev IsFull : {A : Type 0} → List A → Type 0
IsFull [] = ⊥
IsFull (x ∷ xs) = ⊤

not_passed : (r one : Role) → is_passed_over r (word_of one) ≡ false → (n : List ℕ) → is_passed_over r n ≡ true → has (role_named (one ∷ []) n) ≡ false
not_passed r one h n passed = by (bytes_eq n (word_of one)) refl
  where
    by : (b : Bool) → bytes_eq n (word_of one) ≡ b → has (if b then Some one else None) ≡ false
    by true is = absurd (true≢false (sym passed ∙ ap (is_passed_over r) ((bytes_eq-Decides n (word_of one)).0 is) ∙ h))
    by false is = refl

count_rest : (p : List ℕ → Bool) (n : List ℕ) (ns : List (List ℕ)) → p n ≡ false → count_by p (n ∷ ns) ≡ count_by p ns
count_rest p n ns h =
    let none : 0 + count_by p ns ≡ count_by p ns = omega arith in
    sum_by-cons (λ n. cond (p n) 1 0) n ns ∙ ap (λ b. cond b 1 0 + count_by p ns) h ∙ none

kept_full : (r one : Role) → is_passed_over r (word_of one) ≡ false → (cs : List Given)
    → nat_lt (count_by (λ n. has (role_named (one ∷ []) n)) (map (λ c. c.name) cs)) 1 ≡ false → IsFull (kept r cs)
kept_full r one h [] few = absurd (true≢false few)
kept_full r one h (c ∷ cs) few = by (is_passed_over r c.name) refl (kept r cs) (kept_full r one h cs)
  where
    by : (b : Bool) → is_passed_over r c.name ≡ b → (ks : List Given)
        → (nat_lt (count_by (λ n. has (role_named (one ∷ []) n)) (map (λ c. c.name) cs)) 1 ≡ false → IsFull ks) → IsFull (cond (not b) (c ∷ ks) ks)
    by false is ks later = tt
    by true is ks later =
        later (subst (λ n. nat_lt n 1 ≡ false) (count_rest (λ n. has (role_named (one ∷ []) n)) c.name (map (λ c. c.name) cs) (not_passed r one h c.name is)) few)

pub parts_full : (r one : Role) → is_passed_over r (word_of one) ≡ false → (cs : List Given)
    → is_missing (one_or_more (one ∷ []) ∷ []) (map (λ c. c.name) cs) ≡ false → IsFull (kept r cs)
parts_full r one h cs few = kept_full r one h cs (or_parts (nat_lt (count_by (λ n. has (role_named (one ∷ []) n)) (map (λ c. c.name) cs)) 1) false few).0

not_none : (n : ℕ) → not (suc n == 0) ≡ true
not_none n = grind (arith, nat_tests)

some_map : {A B : Type 0} (p : A → B) (f : Given → A) (ks : List Given) → IsFull ks → some (map p (map f ks)) ≡ true
some_map p f [] h = absurd h
some_map p f (k ∷ ks) h = not_none (length (map p (map f ks)))

-- Roles.

pub sort_dot : sort_sound sort.Dot ≡ true
sort_dot = sort_from sort_layer.Dot sort.Dot sort.rolls-Dot refl

pub term_dot : term_sound term.Dot ≡ true
term_dot = term_from term_layer.Dot term.Dot term.rolls-Dot refl

pub guard_constant : (b : Bool) → guard_sound (guard.Constant b) ≡ true
guard_constant b = guard_from (guard_layer.Constant b) (guard.Constant b) (guard.rolls-Constant b) refl

pub span_is_small : (attributes : List Attribute) → span_fits (span_part attributes) ≡ true
span_is_small attributes = and_from (fits (span_part attributes).first) (fits (span_part attributes).last) (signed_fits _) (signed_fits _)

pub ids_in : (kind : Kind) (r : Role) (cs : List Given) → ((g : Given) → TakenIn kind r g → is_id_text g.id ≡ true) → Each (Seated kind r) cs
    → list_all is_id_text (map (λ c. c.id) (kept r cs)) ≡ true
ids_in kind r cs f h = all_map is_id_text (λ c. c.id) (kept r cs) (each_kept kind r (λ g. is_id_text g.id ≡ true) cs f h)

pub constant_id : (kind : Kind) (g : Given) → OneOf (role.FeConstant ∷ []) (Takes kind g) → is_id_text g.id ≡ true
constant_id kind g t = (only role.FeConstant (Takes kind g) t).1

pub sort_child : (kind : Kind) (r : Role) (cs : List Given) → ((g : Given) → TakenIn kind r g → SortGiven g) → Each (Seated kind r) cs → SortGiven (child r 0 cs)
sort_child kind r cs f h = child_has kind r 0 SortGiven cs f sort_dot h

pub term_child : (kind : Kind) (r : Role) (at : ℕ) (cs : List Given) → ((g : Given) → TakenIn kind r g → TermGiven g) → Each (Seated kind r) cs → TermGiven (child r at cs)
term_child kind r at cs f h = child_has kind r at TermGiven cs f term_dot h

pub guard_child : (kind : Kind) (r : Role) (at : ℕ) (cs : List Given) → ((g : Given) → TakenIn kind r g → GuardGiven g) → Each (Seated kind r) cs → GuardGiven (child r at cs)
guard_child kind r at cs f h = child_has kind r at GuardGiven cs f (guard_constant false) h

pub all_terms : (kind : Kind) (r : Role) (cs : List Given) → IsFull (kept r cs) → ((g : Given) → TakenIn kind r g → TermGiven g) → Each (Seated kind r) cs
    → (some (map term_sound (map (λ c. c.term) (kept r cs))) && are_all (map term_sound (map (λ c. c.term) (kept r cs)))) ≡ true
all_terms kind r cs full f h =
    and_from (some (map term_sound (map (λ c. c.term) (kept r cs)))) (are_all (map term_sound (map (λ c. c.term) (kept r cs))))
    (some_map term_sound (λ c. c.term) (kept r cs) full) (all_maps term_sound (λ c. c.term) (kept r cs) (each_kept kind r TermGiven cs f h))

pub all_guards : (kind : Kind) (r : Role) (cs : List Given) → IsFull (kept r cs) → ((g : Given) → TakenIn kind r g → GuardGiven g) → Each (Seated kind r) cs
    → (some (map guard_sound (map (λ c. c.guard) (kept r cs))) && are_all (map guard_sound (map (λ c. c.guard) (kept r cs)))) ≡ true
all_guards kind r cs full f h =
    and_from (some (map guard_sound (map (λ c. c.guard) (kept r cs)))) (are_all (map guard_sound (map (λ c. c.guard) (kept r cs))))
    (some_map guard_sound (λ c. c.guard) (kept r cs) full) (all_maps guard_sound (λ c. c.guard) (kept r cs) (each_kept kind r GuardGiven cs f h))

pub multiple : (kind : Kind) (r : Role) (cs : List Given) → ((g : Given) → TakenIn kind r g → TermGiven g) → Each (Seated kind r) cs
    → (nat_lt (child r 0 cs).number (2 ^ 63) && term_sound (child r 1 cs).term) ≡ true
multiple kind r cs f h =
    and_from (nat_lt (child r 0 cs).number (2 ^ 63)) (term_sound (child r 1 cs).term) (numbers_at r 0 cs (seated_fit kind r cs h)).0 (term_child kind r 1 cs f h)

pub ranged : (kind : Kind) (attributes : List Attribute) (cs : List Given) → Each (Seated kind role.FiniteIntRangeConstant) cs
    → (fits (signed (text_in (codes "value") attributes)) && span_fits (child role.FiniteIntRangeConstant 0 cs).span) ≡ true
ranged kind attributes cs h =
    and_from (fits (signed (text_in (codes "value") attributes))) (span_fits (child role.FiniteIntRangeConstant 0 cs).span) (signed_fits _)
    (numbers_at role.FiniteIntRangeConstant 0 cs (seated_fit kind role.FiniteIntRangeConstant cs h)).1

pub compared_sound : (kind : Kind) (r : Role) (o : Order) (cs : List Given) → ((g : Given) → TakenIn kind r g → TermGiven g) → Each (Seated kind r) cs
    → guard_sound (guard.Compare o (child r 0 cs).term (child r 1 cs).term) ≡ true
compared_sound kind r o cs f h =
    let s = (child r 0 cs).term in
    let t = (child r 1 cs).term in
    guard_from (guard_layer.Compare o s t) (guard.Compare o s t) (guard.rolls-Compare o s t)
    (and_from (term_sound s) (term_sound t) (term_child kind r 0 cs f h) (term_child kind r 1 cs f h))
