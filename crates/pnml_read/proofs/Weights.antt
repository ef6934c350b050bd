-- What children give weighs no more than what is noted of them.
use Rattle.std.proofs.Common.{◌≡◌, ℕ, ◌+◌, ◌≤◌, Bool, true, false, cond, not, List, [], ◌∷◌, ◌++◌, map, inl, inr, refl, ap, sym, subst, ◌∙◌, arith}
use Rattle.std.proofs.lemmas.Bool.{true≢false}
use Rattle.std.proofs.lemmas.List.Sums.{sum_by-append, sum_by-cons}
use Rattle.std.specs.List.{list_all, sum_by}
use Rattle.doc_model.specs.declared.tree.Element.{Element, out-Element, out-roll-Element, roll-Element}
use Rattle.doc_model.specs.declared.tree.Element.TheFolds.{ind-Element}
use Rattle.net_elements.proofs.Walks.{walk_notes}
use Rattle.net_elements.specs.Walking.{name_of}
use Rattle.net_model.specs.declared.kinds.Kind.{Kind}
use Rattle.net_elements.specs.declared.roles.Role.{Role}
use Rattle.net_elements.specs.Rules.{Note, attribute_notes, child_notes, children_notes, end_notes, is_passed_over, kind_within, walk_of}
use Rattle.net_elements.specs.Table.{keys_of, slots_of, word_of}
use Rattle.pnml_read.specs.Nets.{Given, given, kept}
use Rattle.pnml_read.specs.Each.{Each}
use Rattle.pnml_read.proofs.Each.{each_known, each_passes}
use Rattle.pnml_read.proofs.Elements.{given_walked}
use Rattle.pnml_read.proofs.Noted.{are_fine, fine_parts}
use Rattle.pnml_read.proofs.ReadRoles.{Here, IsReadBy, Notes, any_of, child_read, roles_in}

-- by induction over elements: what holds of an element where it holds of its children
pub by_children : (P : Element → Type 0) → ((e : Element) → Each P (out-Element e).children → P e) → (e : Element) → P e
by_children P step = ind-Element P (λ x y is.
    step (roll-Element x) (subst (λ z. Each P z.children) (is ∙ sym (out-roll-Element x)) (each_known P y.children)))

-- what an element gives weighs no more than what is noted of it in a role that has its name
abbrev pub Weighs : (Note → ℕ) → (Given → ℕ) → Kind → (Role → Bool) → Element → Type 0
Weighs w m kind ok e = (r : Role) → ok r ≡ true → (given e).name ≡ word_of r → are_fine ((walk_of e).notes kind r) ≡ true
    → m (given e) ≤ sum_by w ((walk_of e).notes kind r)

abbrev pub all_pass : (Role → Bool) → Kind → Role → Bool
all_pass ok kind p = list_all ok (roles_in (slots_of kind p))

child_weighs : (w : Note → ℕ) (m : Given → ℕ) (kind : Kind) (ok : Role → Bool) (p : Role) (earlier : List (List ℕ)) (e : Element)
    → all_pass ok kind p ≡ true → Weighs w m kind ok e → are_fine (child_notes kind p earlier (walk_of e)) ≡ true
    → is_passed_over p (given e).name ≡ false → m (given e) ≤ sum_by w (child_notes kind p earlier (walk_of e))
child_weighs w m kind ok p earlier e pass weighs fine seen = by (child_read kind p earlier (walk_of e) fine)
  where
    by : IsReadBy kind p (walk_of e) (Notes kind (walk_of e) (child_notes kind p earlier (walk_of e))) → m (given e) ≤ sum_by w (child_notes kind p earlier (walk_of e))
    by (inl passed) = absurd (true≢false (sym passed ∙ ap (is_passed_over p) (sym (given_walked e)) ∙ seen))
    by (inr one) =
        let notes = child_notes kind p earlier (walk_of e) in
        any_of (roles_in (slots_of kind p)) (Here (walk_of e).name (Notes kind (walk_of e) notes)) (m (given e) ≤ sum_by w notes)
        (each_passes ok (λ r. Here (walk_of e).name (Notes kind (walk_of e) notes) r → m (given e) ≤ sum_by w notes)
        (λ r passes here. subst (λ ns. m (given e) ≤ sum_by w ns) (sym here.1.0) (weighs r passes (given_walked e ∙ here.0) here.1.1))
        (roles_in (slots_of kind p)) pass) one

more_weigh : (w : Note → ℕ) (m : Given → ℕ) (b : Bool) (g : Given) (gs : List Given) (first later : List Note)
    → (b ≡ false → m g ≤ sum_by w first) → sum_by m gs ≤ sum_by w later → sum_by m (cond (not b) (g ∷ gs) gs) ≤ sum_by w (first ++ later)
more_weigh w m true g gs first later one rest = omega (arith, rest, sum_by-append w first later)
more_weigh w m false g gs first later one rest = omega (arith, one refl, rest, sum_by-append w first later, sum_by-cons m g gs)

pub children_weigh : (w : Note → ℕ) (m : Given → ℕ) (kind : Kind) (ok : Role → Bool) (p : Role) → all_pass ok kind p ≡ true
    → (earlier : List (List ℕ)) (es : List Element) → Each (Weighs w m kind ok) es → are_fine (children_notes kind p earlier (map walk_of es)) ≡ true
    → sum_by m (kept p (map given es)) ≤ sum_by w (children_notes kind p earlier (map walk_of es))
children_weigh w m kind ok p pass earlier [] each fine = omega arith
children_weigh w m kind ok p pass earlier (e ∷ es) each fine =
    let first = child_notes kind p earlier (walk_of e) in
    let later = children_notes kind p (earlier ++ (walk_of e).name ∷ []) (map walk_of es) in
    let parts = fine_parts first later fine in
    more_weigh w m (is_passed_over p (given e).name) (given e) (kept p (map given es)) first later
    (child_weighs w m kind ok p earlier e pass each.0 parts.0)
    (children_weigh w m kind ok p pass (earlier ++ (walk_of e).name ∷ []) es each.1 parts.1)

-- the notes of an element: those of its attributes, those of its children, and those of its end
abbrev pub own : Element → Role → List Note
own e r = attribute_notes (out-Element e).at (keys_of r) (out-Element e).attributes

abbrev pub inner : Element → Kind → Role → List Note
inner e kind r = children_notes (kind_within kind r (out-Element e).attributes) r [] (map walk_of (out-Element e).children)

abbrev pub last : Element → Kind → Role → List Note
last e kind r =
    end_notes (slots_of (kind_within kind r (out-Element e).attributes) r) r (out-Element e).at (map name_of (out-Element e).children) (out-Element e).text

pub record AreParts (e : Element) (kind : Kind) (r : Role) : Type 0 where
  pub fine_own : are_fine (own e r) ≡ true
  pub fine_inner : are_fine (inner e kind r) ≡ true
  pub fine_end : are_fine (last e kind r) ≡ true
  pub weight : (w : Note → ℕ) → sum_by w (own e r) + sum_by w (inner e kind r) ≤ sum_by w ((walk_of e).notes kind r)

pub notes_parts : (e : Element) (kind : Kind) (r : Role) → are_fine ((walk_of e).notes kind r) ≡ true → AreParts e kind r
notes_parts e kind r fine =
    let ends = last e kind r in
    let notes : (walk_of e).notes kind r ≡ own e r ++ inner e kind r ++ ends = walk_notes e kind r in
    let front = fine_parts (own e r ++ inner e kind r) ends (ap are_fine (sym notes) ∙ fine) in
    let both = fine_parts (own e r) (inner e kind r) front.0 in
    record {
      fine_own = both.0;
      fine_inner = both.1;
      fine_end = front.1;
      weight = λ w.
          let weight : sum_by w ((walk_of e).notes kind r) ≡ sum_by w (own e r ++ inner e kind r ++ ends) = ap (sum_by w) notes in
          omega (arith, weight, sum_by-append w (own e r ++ inner e kind r) ends, sum_by-append w (own e r) (inner e kind r));
    }
