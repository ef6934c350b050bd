use Rattle.std.proofs.Common.{◌≡◌, ◌++◌, [], Err, Ok, map, take, sym, ap, ◌∙◌}
use Rattle.std.proofs.lemmas.Result.{err_from_is_err_and}
use Rattle.doc_model.specs.declared.tree.Element.{out-Element}
use Rattle.net_elements.specs.declared.faults.ReadFault.TheVariants.{Structure}
use Rattle.net_elements.specs.declared.seats.Seat.TheVariants.{PassedOver, Read, Refused}
use Rattle.net_elements.specs.Table.{keys_of, slots_of}
use Rattle.net_elements.specs.Rules.{attribute_notes, child_notes, children_notes, end_notes, kind_within, seat_of, walk_of}
use Rattle.net_elements.specs.Walking.{Finds, found, name_of}
use Rattle.net_elements.proofs.Walks.{child_done, child_stops, goes_on, notes_of_child, same_end, stops, then_finds, walk_at, walk_notes}
use Rattle.net_elements.proofs.walker.Walker.+walking.Goals as goal
use Rattle.net_elements.proofs.walker.Walker.+walking.Goals.{children-in-PassedOver, children-in-Read+in_ok-element-in-Read}

pub children-returns-in_err-element-in-Read : goal.children-returns-in_err-element-in-Read
children-returns-in_err-element-in-Read t c =
    let p = err_from_is_err_and c.from_residual.result c.from_residual.ensures.1 in
    let e = c.index-children-at.result in
    let earlier = map name_of (take c.loop-at.at c.args.children.now) in
    let taken : seat_of c.args.kind c.args.role earlier (name_of e) ≡ Read c.in-Read.role =
    sym (c.seat_of.ensures ∙ ap (seat_of c.args.kind c.args.role earlier) c.bytes.ensures) ∙ c.in-Read.is in
    let stop = c.in_err-element-in-Read.field-0.0 in
    let step = same_end c.element.new.self (Err stop) _ _ (ap (found c.loop-at.self) (sym (notes_of_child c.args.kind c.args.role earlier e (Read c.in-Read.role) taken))) c.in_err-element-in-Read.ensures in
    rw (p.1, p.2)
    (child_stops c.loop-at.self c.element.new.self c.element.new.self c.args.self.now c.args.kind c.args.role c.args.children.now c.loop-at.at e c.loop-at-test.true c.index-children-at.is c.loop-at.invariant stop step)

pub children-returns-in-Refused : goal.children-returns-in-Refused
children-returns-in-Refused t c =
    let e = c.index-children-at.result in
    let rule = c.in-Refused.fault in
    let earlier = map name_of (take c.loop-at.at c.args.children.now) in
    let taken : seat_of c.args.kind c.args.role earlier (name_of e) ≡ Refused rule =
    sym (c.seat_of.ensures ∙ ap (seat_of c.args.kind c.args.role earlier) c.bytes.ensures) ∙ c.in-Refused.is in
    let step : Finds c.loop-at.self (Err (Structure (out-Element e).at rule)) (found c.loop-at.self (child_notes c.args.kind c.args.role earlier (walk_of e))) =
    ap (found c.loop-at.self) (notes_of_child c.args.kind c.args.role earlier e (Refused rule) taken) ∙ ap (λ a. Err (a, rule)) (walk_at e) in
    rw c.broken.ensures
    (child_stops c.loop-at.self c.loop-at.self c.loop-at.self c.args.self.now c.args.kind c.args.role c.args.children.now c.loop-at.at e c.loop-at-test.true c.index-children-at.is c.loop-at.invariant (Structure (out-Element e).at rule) step)

pub children-loop-at-preserved : goal.children-loop-at-preserved
children-loop-at-preserved t c =
    let e = c.index-children-at.result in
    let es = c.args.children.now in
    let at = c.loop-at.at in
    let before = c.loop-at.self in
    let earlier = map name_of (take at es) in
    let seat = sym (c.seat_of.ensures ∙ ap (seat_of c.args.kind c.args.role earlier) c.bytes.ensures) in
    elim c.match-seat_of.branch [
      | children-in-PassedOver w ↦
          rw w.self-is
          (child_done before before c.args.self.now c.args.kind c.args.role es at e c.loop-at-test.true c.index-children-at.is c.loop-at.invariant
          (ap (found before) (notes_of_child c.args.kind c.args.role earlier e PassedOver (seat ∙ w.in-PassedOver.is))))
      | children-in-Read+in_ok-element-in-Read w ↦
          rw w.self-is
          (child_done before w.element.new.self c.args.self.now c.args.kind c.args.role es at e c.loop-at-test.true c.index-children-at.is c.loop-at.invariant
          (ap (found before) (notes_of_child c.args.kind c.args.role earlier e (Read w.in-Read.role) (seat ∙ w.in-Read.is)) ∙ w.in_ok-element-in-Read.ensures))
    ]

pub element-returns-in_err-attributes : goal.element-returns-in_err-attributes
element-returns-in_err-attributes t c =
    let p = err_from_is_err_and c.from_residual.result c.from_residual.ensures.1 in
    let e = c.args.element.now in
    let parts = out-Element e in
    let old = c.args.self.now in
    let last = c.attributes.new.self in
    let kind = c.args.kind in
    let r = c.args.role in
    let within = kind_within kind r parts.attributes in
    let firsts = attribute_notes parts.at (keys_of r) parts.attributes in
    let inner = children_notes within r [] (map walk_of parts.children) in
    let ends = end_notes (slots_of within r) r parts.at (map name_of parts.children) parts.text in
    let stop = c.in_err-attributes.field-0.0 in
    rw (p.1, p.2)
    (same_end last (Err stop) _ _ (ap (found old) (sym (walk_notes e kind r)))
    (stops old last last (firsts ++ inner) ends stop (stops old last last firsts inner stop c.in_err-attributes.ensures)))

pub element-returns-in_err-children : goal.element-returns-in_err-children
element-returns-in_err-children t c =
    let p = err_from_is_err_and c.from_residual-in_err-children.result c.from_residual-in_err-children.ensures.1 in
    let e = c.args.element.now in
    let parts = out-Element e in
    let old = c.args.self.now in
    let middle = c.attributes.new.self in
    let last = c.children.new.self in
    let kind = c.args.kind in
    let r = c.args.role in
    let within = kind_within kind r parts.attributes in
    let named : c.kind_within-within.result ≡ within = c.kind_within-within.ensures ∙ ap (kind_within kind r) c.as_slice.ensures in
    let firsts = attribute_notes parts.at (keys_of r) parts.attributes in
    let inner = children_notes within r [] (map walk_of parts.children) in
    let ends = end_notes (slots_of within r) r parts.at (map name_of parts.children) parts.text in
    let stop = c.in_err-children.field-0.0 in
    let step = same_end last (Err stop) _ _
    (ap (λ k. found middle (children_notes k r [] (map walk_of c.as_slice-2.result.now))) named
    ∙ ap (λ es. found middle (children_notes within r [] (map walk_of es))) c.as_slice-2.ensures) c.in_err-children.ensures in
    rw (p.1, p.2)
    (same_end last (Err stop) _ _ (ap (found old) (sym (walk_notes e kind r)))
    (stops old last last (firsts ++ inner) ends stop (then_finds old middle last firsts inner (Err stop) c.in_ok-attributes.ensures step)))

pub element-returns : goal.element-returns
element-returns t c =
    let e = c.args.element.now in
    let parts = out-Element e in
    let old = c.args.self.now in
    let middle = c.attributes.new.self in
    let late = c.children.new.self in
    let last = c.end.new.self in
    let kind = c.args.kind in
    let r = c.args.role in
    let within = kind_within kind r parts.attributes in
    let named : c.kind_within-within.result ≡ within = c.kind_within-within.ensures ∙ ap (kind_within kind r) c.as_slice.ensures in
    let firsts = attribute_notes parts.at (keys_of r) parts.attributes in
    let inner = children_notes within r [] (map walk_of parts.children) in
    let ends = end_notes (slots_of within r) r parts.at (map name_of parts.children) parts.text in
    let walked : found middle inner ≡ Ok late =
    sym (ap (λ k. found middle (children_notes k r [] (map walk_of c.as_slice-2.result.now))) named
    ∙ ap (λ es. found middle (children_notes within r [] (map walk_of es))) c.as_slice-2.ensures) ∙ c.in_ok-children.ensures in
    let ended = same_end last c.end.result _ _
    (ap (λ k. found late (end_notes (slots_of k r) r parts.at (map name_of parts.children) parts.text)) named) c.end.ensures in
    same_end last c.end.result _ _ (ap (found old) (sym (walk_notes e kind r)))
    (then_finds old late last (firsts ++ inner) ends c.end.result (goes_on old middle firsts inner c.in_ok-attributes.ensures ∙ walked) ended)
