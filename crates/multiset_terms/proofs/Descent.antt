-- Faults of children are those of their nodes.
use Rattle.std.proofs.Common.{◌≡◌, ℕ, suc, ◌+◌, ◌<◌, Bool, List, [], ◌∷◌, ◌++◌, map, length, take, drop, get_or, refl, sym, ap, ◌∙◌, arith, drop-cons, add-one}
use Rattle.std.specs.Prelude.{Result, Ok, Err, sum_by}
use Rattle.std.proofs.Math.Seq.{take-suc}
use Rattle.std.proofs.lemmas.List.{take-append-drop}
use Rattle.std.proofs.lemmas.List.Sums.{sum_by-cons}
use Rattle.colour_sorts.specs.declared.rules.Rule.{Rule}
use Rattle.multiset_terms.specs.declared.faults.PartFault.{PartFault}
use Rattle.multiset_terms.specs.declared.faults.PartFault.TheVariants as fault
use Rattle.multiset_terms.specs.declared.kinds.Kind.{Kind}
use Rattle.multiset_terms.specs.declared.parts.Children.{Children}
use Rattle.multiset_terms.specs.declared.parts.Part.{Part}
use Rattle.net_model.specs.declared.terms.Term.{Term}
use Rattle.multiset_terms.specs.Context.{Context}
use Rattle.multiset_terms.specs.Parts.{AreChildren, AreParts, IsFault, IsMoved, IsPart, Piece, children_of, terms_of, with_child}
use Rattle.multiset_terms.specs.Typing.{children, in_front, judged, looked_at, node}
use Rattle.multiset_terms.proofs.Pieces.{children-snoc, parts-snoc}

-- the fault of the first child
pub first-fault : (ctx : Context) (marking : Bool) (u t : Term) (ts : List Term) (judge : List Kind → Result Kind Rule) (before now : PartFault)
    → judged ctx marking u ≡ node judge (map (judged ctx marking) (t ∷ ts)) → IsFault before (judged ctx marking t).verdict → IsMoved 1 before now → IsFault now (judged ctx marking u).verdict
first-fault ctx marking u t ts judge before fault.Memory is known moved = tt
first-fault ctx marking u t ts judge fault.Memory (fault.Broken at rule) is known moved = absurd moved
first-fault ctx marking u t ts judge (fault.Broken number same) (fault.Broken at rule) is known moved =
    ap (λ j. j.verdict) is
    ∙ ap (λ v. looked_at judge (in_front 1 v (children (1 + (judged ctx marking t).nodes) (map (judged ctx marking) ts)))) known
    ∙ ap (λ n. Err (n, same)) (sym moved.0) ∙ ap (λ r. Err (at, r)) (sym moved.1)

-- the fault of a child behind others
children-behind : (ctx : Context) (marking : Bool) (from : ℕ) (xs : List Piece) (t : Term) (ts : List Term) (number : ℕ) (rule : Rule) → AreParts ctx marking xs
    → (judged ctx marking t).verdict ≡ Err (number, rule)
    → children from (map (judged ctx marking) (terms_of xs ++ t ∷ ts)) ≡ Err (from + sum_by (λ x. x.part.nodes) xs + number, rule)
children-behind ctx marking from [] t ts number rule known is =
    ap (λ v. in_front from v (children (from + (judged ctx marking t).nodes) (map (judged ctx marking) ts))) is ∙ ap (λ n. Err (n + number, rule)) (none from)
  where
    none : (n : ℕ) → n ≡ n + 0
    none n = omega arith
children-behind ctx marking from (x ∷ xs) t ts number rule known is =
    ap (λ v. in_front from v (children (from + (judged ctx marking x.term).nodes) (map (judged ctx marking) (terms_of xs ++ t ∷ ts)))) known.0.counted.typed
    ∙ ap (λ n. in_front from (Ok x.part.kind) (children (from + n) (map (judged ctx marking) (terms_of xs ++ t ∷ ts)))) known.0.counted.nodes
    ∙ ap (in_front from (Ok x.part.kind)) (children-behind ctx marking (from + x.part.nodes) xs t ts number rule known.1 is)
    ∙ ap (λ n. Err (n, rule)) (omega (arith, sum_by-cons (λ y. y.part.nodes) x xs))

pub fault-behind : (ctx : Context) (marking : Bool) (ts : List Term) (cs : Children) (t : Term) (more : List Term) (before now : PartFault) → AreChildren ctx marking ts cs
    → IsFault before (judged ctx marking t).verdict → IsMoved cs.totals.nodes before now → IsFault now (children 1 (map (judged ctx marking) (ts ++ t ∷ more)))
fault-behind ctx marking ts cs t more before fault.Memory known is moved = tt
fault-behind ctx marking ts cs t more fault.Memory (fault.Broken at rule) known is moved = absurd moved
fault-behind ctx marking ts cs t more (fault.Broken number same) (fault.Broken at rule) known is moved =
    let xs = known.pieces in
    let nodes : cs.totals.nodes ≡ suc (sum_by (λ x. x.part.nodes) xs) = ap (λ c. c.totals.nodes) known.gathered in
    let place : 1 + sum_by (λ x. x.part.nodes) xs + number ≡ at = omega (arith, nodes, moved.0) in
    ap (λ z. children 1 (map (judged ctx marking) (z ++ t ∷ more))) (sym known.terms)
    ∙ children-behind ctx marking 1 xs t more number same known.parts is
    ∙ ap (λ n. Err (n, same)) place ∙ ap (λ r. Err (at, r)) (sym moved.1)

-- one more child
pub more-children : (ctx : Context) (marking : Bool) (ts : List Term) (cs new : Children) (t : Term) (p : Part) → AreChildren ctx marking ts cs → IsPart ctx marking t p → new ≡ with_child cs p
    → AreChildren ctx marking (ts ++ t ∷ []) new
more-children ctx marking ts cs new t p known part is =
    let x : Piece = record { term = t; part = p } in
    record {
      pieces = known.pieces ++ x ∷ [];
      parts = parts-snoc ctx marking known.pieces x known.parts part;
      terms = Rattle.std.proofs.lemmas.List.map-append (λ y. y.term) known.pieces (x ∷ []) ∙ ap (λ z. z ++ t ∷ []) known.terms;
      gathered = is ∙ ap (λ c. with_child c p) known.gathered ∙ children-snoc known.pieces x;
    }

pub no-children : (ctx : Context) (marking : Bool) (cs : Children) → cs ≡ children_of [] → AreChildren ctx marking [] cs
no-children ctx marking cs is = record { pieces = []; parts = tt; terms = refl; gathered = is }

-- a node over children with a fault
pub node-fault : (ctx : Context) (marking : Bool) (u : Term) (ts : List Term) (judge : List Kind → Result Kind Rule) (found : PartFault)
    → judged ctx marking u ≡ node judge (map (judged ctx marking) ts) → IsFault found (children 1 (map (judged ctx marking) ts)) → IsFault found (judged ctx marking u).verdict
node-fault ctx marking u ts judge fault.Memory is known = tt
node-fault ctx marking u ts judge (fault.Broken at rule) is known = ap (λ j. j.verdict) is ∙ ap (looked_at judge) known

-- the second child of two
pub second-fault : (ctx : Context) (marking : Bool) (u t v : Term) (p : Part) (judge : List Kind → Result Kind Rule) (nodes : ℕ) (before now : PartFault)
    → judged ctx marking u ≡ node judge (map (judged ctx marking) (t ∷ v ∷ [])) → IsPart ctx marking t p → nodes ≡ p.nodes + 1
    → IsFault before (judged ctx marking v).verdict → IsMoved nodes before now → IsFault now (judged ctx marking u).verdict
second-fault ctx marking u t v p judge nodes before fault.Memory is known counted found moved = tt
second-fault ctx marking u t v p judge nodes fault.Memory (fault.Broken at rule) is known counted found moved = absurd moved
second-fault ctx marking u t v p judge nodes (fault.Broken number same) (fault.Broken at rule) is known counted found moved =
    let x : Piece = record { term = t; part = p } in
    let place : 1 + sum_by (λ y. y.part.nodes) (x ∷ []) + number ≡ at = omega (arith, counted, moved.0, sum_by-cons (λ y. y.part.nodes) x []) in
    ap (λ j. j.verdict) is
    ∙ ap (looked_at judge) (children-behind ctx marking 1 (x ∷ []) v [] number same (known, tt) found)
    ∙ ap (λ n. Err (n, same)) place ∙ ap (λ r. Err (at, r)) (sym moved.1)

-- the children in front of one, that one, and the others
pub around : {T : Type 0} (ts : List T) (i : ℕ) (d : T) → i < length ts → d ≡ get_or ts i d → take i ts ++ d ∷ drop (i + 1) ts ≡ ts
around ts i d within is =
    ap (λ x. take i ts ++ x ∷ drop (i + 1) ts) is ∙ ap (λ xs. take i ts ++ xs) (sym (rest ts i d within)) ∙ take-append-drop i ts
  where
    rest : {T : Type 0} (ts : List T) (i : ℕ) (d : T) → i < length ts → drop i ts ≡ get_or ts i d ∷ drop (i + 1) ts
    rest ts i d within = rw (add-one, drop-cons ts i d) refl

pub up-to : {T : Type 0} (ts : List T) (i : ℕ) (d : T) → i < length ts → d ≡ get_or ts i d → take i ts ++ d ∷ [] ≡ take (i + 1) ts
up-to ts i d within is = ap (λ x. take i ts ++ x ∷ []) is ∙ sym (take-suc ts i d within) ∙ ap (λ n. take n ts) (sym (add-one-is i))
  where
    add-one-is : (n : ℕ) → n + 1 ≡ suc n
    add-one-is n = omega arith
