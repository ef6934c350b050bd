-- A name is there exactly where it stands for something.
use Rattle.std.proofs.Common.{◌≡◌, ◌<◌, ◌≤◌, ℕ, ◌+◌, Bool, true, false, ◌&&◌, cond, nat_eq, nat_lt, List, [], length, take, Option, None, Some, position, get_or, refl, sym, ap, ◌∙◌, subst, arith}
use Rattle.std.specs.Prelude.{All}
use Rattle.std.specs.List.{IsDistinct, list_any, position_or_len, range_with_len}
use Rattle.std.specs.Option.{is_some}
use Rattle.std.specs.Str.{bytes_eq}
use Rattle.std.proofs.lemmas.Bool.{and_parts, and_from, false≢true, false_from_ne_true}
use Rattle.std.proofs.lemmas.Bool.Decides.{nat_tests}
use Rattle.std.proofs.lemmas.List.{get_or-take, get_or_default, length-take, length-map}
use Rattle.std.proofs.lemmas.List.Folds.{Any-from_list_any, list_any_at, list_any_none}
use Rattle.std.proofs.lemmas.List.FromFn.{get_or-range_with_len, length-range_with_len}
use Rattle.std.proofs.lemmas.List.Sums.{fails_before_first, passes_at_first, position_or_len_is}
use Rattle.std.proofs.lemmas.Slice.Eq.{bytes_eq-Decides}
use Rattle.name_tables.specs.Numbering.{number_in}
use Rattle.name_tables.proofs.Places.{name_has_its_number, position_none, position_some, position_or_len_some}
use Rattle.pt_net.specs.Numbering.{NetNumbering}
use Rattle.pt_net.specs.Instances.{IsBefore, origin_of}
use Rattle.pt_net.specs.Systems.{NetSystem, instance_at}
use Rattle.pt_net.specs.declared.instances.Instance.{Instance}
use Rattle.cert_lines.specs.declared.certificates.Fact.{Fact}
use Rattle.cert_model.specs.Names as names
use Rattle.cert_model.specs.Names.{is_known}
use Rattle.cert_laws.proofs.Lists.{any-range, list_any-map}
use Rattle.cert_names.specs.Numbers.{Interval, instances_at, size, interval_at, interval_of, is_number, is_at, instance_of, names_of, fact_number}
use Rattle.cert_names.specs.Lines.{named, use_at}
use Rattle.cert_names.specs.Laws.{AreNumbersOf, NamesAreNumbered, place_name, transition_name}

both_ways : (a b : Bool) → (a ≡ true → b ≡ true) → (b ≡ true → a ≡ true) → a ≡ b
both_ways true b to back = sym (to refl)
both_ways false true to back = back refl
both_ways false false to back = refl

-- tests over lists
any-same : {X : Type 0} (f g : X → Bool) (xs : List X) → All (λ x. f x ≡ g x) xs → list_any f xs ≡ list_any g xs
any-same f g xs same = both_ways (list_any f xs) (list_any g xs)
    (λ some. let at = Any-from_list_any f xs some in list_any_at g xs at.0 at.1 at.2 (sym (same at.0 at.1 at.2) ∙ ap f at.3 ∙ at.4))
    (λ some. let at = Any-from_list_any g xs some in list_any_at f xs at.0 at.1 at.2 (same at.0 at.1 at.2 ∙ ap g at.3 ∙ at.4))

there : {X : Type 0} (p : X → Bool) (xs : List X) → list_any p xs ≡ is_some (position p xs)
there p xs = by (list_any p xs) refl
  where
    by : (b : Bool) → list_any p xs ≡ b → list_any p xs ≡ is_some (position p xs)
    by true e = e ∙ sym (ap is_some (position_some p xs e))
    by false e = e ∙ sym (ap is_some (position_none p xs e))

-- what holds at the number that there is
abbrev at_number : Option ℕ → (ℕ → Bool) → Bool
at_number None test = false
at_number (Some p) test = test p

any_one : (p n : ℕ) (test : ℕ → Bool) → p < n → list_any (λ q. nat_eq p q && test q) (range_with_len 0 n) ≡ test p
any_one p n test low = both_ways (list_any (λ q. nat_eq p q && test q) (range_with_len 0 n)) (test p)
    (λ some.
    let at = Any-from_list_any (λ q. nat_eq p q && test q) (range_with_len 0 n) some in
    let both = and_parts (nat_eq p at.1) (test at.1) at.4 in
    let same : p ≡ at.1 = grind (arith, nat_tests) in
    ap test same ∙ both.1)
    (λ holds.
    let long = length-range_with_len 0 n in
    let own : nat_eq p p ≡ true = grind (arith, nat_tests) in
    list_any_at (λ q. nat_eq p q && test q) (range_with_len 0 n) p 0 (omega arith)
    (ap (λ q. nat_eq p q && test q) (get_or-range_with_len 0 n p 0 low ∙ omega arith) ∙ and_from (nat_eq p p) (test p) own holds))

any_number : (names : List (List ℕ)) (name : List ℕ) (test : ℕ → Bool)
    → list_any (λ q. is_number (number_in names name) q && test q) (range_with_len 0 (length names)) ≡ at_number (number_in names name) test
any_number names name test = by (list_any (bytes_eq name) names) refl
  where
    by : (b : Bool) → list_any (bytes_eq name) names ≡ b → list_any (λ q. is_number (number_in names name) q && test q) (range_with_len 0 (length names)) ≡ at_number (number_in names name) test
    by true e =
        subst (λ (o : Option ℕ). list_any (λ q. is_number o q && test q) (range_with_len 0 (length names)) ≡ at_number o test) (sym (position_some (bytes_eq name) names e))
        (any_one (position_or_len (bytes_eq name) names) (length names) test (position_or_len_some (bytes_eq name) names e))
    by false e =
        subst (λ (o : Option ℕ). list_any (λ q. is_number o q && test q) (range_with_len 0 (length names)) ≡ at_number o test) (sym (position_none (bytes_eq name) names e))
        (list_any_none (λ q. false) (range_with_len 0 (length names)) (λ i d low. refl))

-- a name is that of a number exactly where it has this number
own_number : (names : List (List ℕ)) (name : List ℕ) (q : ℕ) → IsDistinct bytes_eq names → q < length names → bytes_eq name (get_or names q []) ≡ is_number (number_in names name) q
own_number names name q distinct within = both_ways (bytes_eq name (get_or names q [])) (is_number (number_in names name) q) to (back (nat_lt (position_or_len (bytes_eq name) names) (length names)) refl)
  where
    to : bytes_eq name (get_or names q []) ≡ true → is_number (number_in names name) q ≡ true
    to same =
        let is = (bytes_eq-Decides name (get_or names q [])).0 same in
        let own : nat_eq q q ≡ true = grind (arith, nat_tests) in
        ap (λ o. is_number o q) (ap (number_in names) is ∙ name_has_its_number names q [] distinct within) ∙ own

    back : (b : Bool) → nat_lt (position_or_len (bytes_eq name) names) (length names) ≡ b
        → is_number (cond b (Some (position_or_len (bytes_eq name) names)) None) q ≡ true → bytes_eq name (get_or names q []) ≡ true
    back true e is =
        let low : position_or_len (bytes_eq name) names < length names = grind (arith, nat_tests) in
        let same : position_or_len (bytes_eq name) names ≡ q = grind (arith, nat_tests) in
        subst (λ (n : ℕ). bytes_eq name (get_or names n []) ≡ true) same (passes_at_first (bytes_eq name) names [] low)
    back false e is = absurd (false≢true is)

-- places
known_whole : (l : NetNumbering) (o : Option ℕ) → at_number o (λ p. true) ≡ is_some (interval_at l o None)
known_whole l None = refl
known_whole l (Some p) = refl

is_made : (b : Bool) (interval : Interval) → b ≡ is_some (cond b (Some interval) None)
is_made true interval = refl
is_made false interval = refl

known_coloured : (l : NetNumbering) (o : Option ℕ) (k : ℕ) → at_number o (λ p. nat_lt k (size (instances_at l p))) ≡ is_some (interval_at l o (Some k))
known_coloured l None k = refl
known_coloured l (Some p) k = is_made (nat_lt k (size (instances_at l p))) (record { first = (instances_at l p).first + k; end = (instances_at l p).first + k + 1 })

and_true : (b : Bool) → b ≡ (b && true)
and_true true = refl
and_true false = refl

places_known : (l : NetNumbering) (net : NetSystem) → AreNumbersOf l net → (all : List Fact) (name : List ℕ) (colour : Option ℕ)
    → is_known (named l net all) (use_at name colour) ≡ is_some (interval_of l (record { place = name; colour = colour }))
places_known l net numbers all name None =
    let n = length l.places in
    list_any-map (λ place. bytes_eq name place.0) (λ p. (place_name l p, size (instances_at l p))) (range_with_len 0 n)
    ∙ any-range (λ p. bytes_eq name (place_name l p)) (λ p. is_number (number_in l.places name) p && true) n
    (λ p low. own_number l.places name p numbers.places_differ low ∙ and_true (is_number (number_in l.places name) p))
    ∙ any_number l.places name (λ p. true)
    ∙ known_whole l (number_in l.places name)
places_known l net numbers all name (Some k) =
    let n = length l.places in
    list_any-map (λ place. bytes_eq name place.0 && nat_lt k place.1) (λ p. (place_name l p, size (instances_at l p))) (range_with_len 0 n)
    ∙ any-range (λ p. bytes_eq name (place_name l p) && nat_lt k (size (instances_at l p))) (λ p. is_number (number_in l.places name) p && nat_lt k (size (instances_at l p))) n
    (λ p low. ap (λ b. b && nat_lt k (size (instances_at l p))) (own_number l.places name p numbers.places_differ low))
    ∙ any_number l.places name (λ p. nat_lt k (size (instances_at l p)))
    ∙ known_coloured l (number_in l.places name) k

-- transition instances
instances_known : (l : NetNumbering) (net : NetSystem) → AreNumbersOf l net → (all : List Fact) (name : List ℕ) (binding : ℕ)
    → is_known (named l net all) (names.Instance name binding) ≡ is_some (instance_of l net name binding)
instances_known l net numbers all name binding =
    list_any-map (λ instance. bytes_eq name instance.0 && nat_eq binding instance.1) (λ (i : Instance). (transition_name l i.transition, i.binding)) net.instances
    ∙ any-same (λ (i : Instance). bytes_eq name (transition_name l i.transition) && nat_eq binding i.binding) (is_at l name binding) net.instances
    (λ i d low. ap (λ b. b && nat_eq binding (get_or net.instances i d).binding) (own_number l.transitions name (get_or net.instances i d).transition numbers.transitions_differ (numbers.transitions i d low)))
    ∙ there (is_at l name binding) net.instances

-- facts
first_at_most : (names : List (List ℕ)) (name : List ℕ) (k : ℕ) → bytes_eq name (get_or names k []) ≡ true → position_or_len (bytes_eq name) names ≤ k
first_at_most names name k same = by (nat_lt k (position_or_len (bytes_eq name) names)) refl
  where
    by : (b : Bool) → nat_lt k (position_or_len (bytes_eq name) names) ≡ b → position_or_len (bytes_eq name) names ≤ k
    by true e = absurd (false≢true (sym (fails_before_first (bytes_eq name) names k [] (grind (arith, nat_tests))) ∙ same))
    by false e = grind (arith, nat_tests)

any_before : (names : List (List ℕ)) (name : List ℕ) (before : ℕ)
    → list_any (bytes_eq name) (take before names) ≡ (nat_lt (position_or_len (bytes_eq name) names) before && nat_lt (position_or_len (bytes_eq name) names) (length names))
any_before names name before =
    let first = position_or_len (bytes_eq name) names in
    let long = length-take before names in
    both_ways (list_any (bytes_eq name) (take before names)) (nat_lt first before && nat_lt first (length names))
    (λ some.
    let at = Any-from_list_any (bytes_eq name) (take before names) some in
    let inside = at.2 in
    let in_front : at.0 < before = grind (arith) in
    let within : at.0 < length names = grind (arith) in
    let read = get_or-take before names at.0 [] in_front in
    let low = first_at_most names name at.0 (here names name before at.0 at.1 at.2 in_front at.3 at.4) in
    and_from (nat_lt first before) (nat_lt first (length names)) (grind (arith, nat_tests)) (grind (arith, nat_tests)))
    (λ holds.
    let both = and_parts (nat_lt first before) (nat_lt first (length names)) holds in
    let in_front : first < before = grind (arith, nat_tests) in
    let within : first < length names = grind (arith, nat_tests) in
    list_any_at (bytes_eq name) (take before names) first [] (grind (arith))
    (ap (bytes_eq name) (get_or-take before names first [] in_front) ∙ passes_at_first (bytes_eq name) names [] within))
  where
    here : (names : List (List ℕ)) (name : List ℕ) (before k : ℕ) (x : List ℕ) → k < length (take before names) → k < before → get_or (take before names) k x ≡ x → bytes_eq name x ≡ true → bytes_eq name (get_or names k []) ≡ true
    here names name before k x low in_front is same =
        let long = length-take before names in
        let read = get_or_default names k [] x (grind (arith)) ∙ sym (get_or-take before names k x in_front) ∙ is in
        ap (bytes_eq name) read ∙ same

facts_known : (l : NetNumbering) (net : NetSystem) (all : List Fact) (before : ℕ) (name : List ℕ)
    → is_known (named l net all) (names.Fact before name) ≡ (nat_lt (fact_number (names_of all) name) before && nat_lt (fact_number (names_of all) name) (length all))
facts_known l net all before name =
    any_before (names_of all) name before
    ∙ ap (λ n. nat_lt (fact_number (names_of all) name) before && nat_lt (fact_number (names_of all) name) n) (length-map all (λ fact. fact.name))

-- the numbers of names that are there
whole_at : (l : NetNumbering) (net : NetSystem) → AreNumbersOf l net → (p : ℕ) → p < length l.places → interval_of l (record { place = place_name l p; colour = None }) ≡ Some (instances_at l p)
whole_at l net numbers p low = ap (λ o. interval_at l o None) (name_has_its_number l.places p [] numbers.places_differ low)

made_at : (b : Bool) (interval : Interval) → b ≡ true → cond b (Some interval) None ≡ Some interval
made_at true interval e = refl
made_at false interval e = absurd (false≢true e)

coloured_at : (l : NetNumbering) (net : NetSystem) → AreNumbersOf l net → (p k : ℕ) → p < length l.places → k < size (instances_at l p)
    → interval_of l (record { place = place_name l p; colour = Some k }) ≡ Some (record { first = (instances_at l p).first + k; end = (instances_at l p).first + k + 1 })
coloured_at l net numbers p k low has =
    ap (λ o. interval_at l o (Some k)) (name_has_its_number l.places p [] numbers.places_differ low)
    ∙ made_at (nat_lt k (size (instances_at l p))) (record { first = (instances_at l p).first + k; end = (instances_at l p).first + k + 1 }) (grind (arith, nat_tests))

instance_here : (l : NetNumbering) (net : NetSystem) → AreNumbersOf l net → (i : ℕ) → i < length net.instances
    → instance_of l net (transition_name l (instance_at net i).transition) (instance_at net i).binding ≡ Some i
instance_here l net numbers i low =
    let own = instance_at net i in
    let number = name_has_its_number l.transitions own.transition [] numbers.transitions_differ (numbers.transitions i _ low) in
    let first = position_or_len_is (is_at l (transition_name l own.transition) own.binding) net.instances i _ (omega arith)
    (λ k before. ap (λ o. is_number o (instance_at net k).transition && nat_eq own.binding (instance_at net k).binding) number ∙ other (instance_at net k) own (numbers.system.rising k i _ before low))
    (λ within. ap (λ o. is_number o own.transition && nat_eq own.binding own.binding) number ∙ same own) in
    found _ (length net.instances) first low
  where
    other : (a b : Instance) → IsBefore (origin_of a) (origin_of b) → (nat_eq b.transition a.transition && nat_eq b.binding a.binding) ≡ false
    other a b before = false_from_ne_true (nat_eq b.transition a.transition && nat_eq b.binding a.binding) (λ e.
        let both = and_parts (nat_eq b.transition a.transition) (nat_eq b.binding a.binding) e in
        let same : a.transition ≡ b.transition = grind (arith, nat_tests) in
        let less = before.binding same in
        absurd (grind (arith, nat_tests)))

    same : (a : Instance) → (nat_eq a.transition a.transition && nat_eq a.binding a.binding) ≡ true
    same a = grind (arith, nat_tests)

    found : (n m : ℕ) → n ≡ i → i < m → cond (nat_lt n m) (Some n) None ≡ Some i
    found n m e w = grind (arith, nat_tests)

pub names_are_numbered : (l : NetNumbering) (net : NetSystem) → AreNumbersOf l net → NamesAreNumbered l net
names_are_numbered l net numbers = record {
  places = places_known l net numbers;
  instances = instances_known l net numbers;
  facts = facts_known l net;
  whole = whole_at l net numbers;
  coloured = coloured_at l net numbers;
  instance = instance_here l net numbers;
}
