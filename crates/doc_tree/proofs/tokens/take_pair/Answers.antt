use Rattle.std.proofs.Common.{◌≡◌, ◌++◌, ◌+◌, ◌-◌, ℕ, List, true, arith, take, drop, refl, sym, ap, ◌∙◌}
use Rattle.doc_tree.specs.declared.places.Place.TheVariants as place
use Rattle.doc_tree.specs.declared.places.Tag.{Tag}
use Rattle.doc_tree.specs.Documents.{is_fresh}
use Rattle.doc_tree.specs.Machine.{with_attribute}
use Rattle.doc_tree.proofs.TakenRuns.{moved, no_more}
use Rattle.doc_tree.proofs.TakenTokens.{attribute_taken}
use Rattle.doc_tree.proofs.tokens.take_pair.Goals as goal

pub returns-then-is_fresh-clause-read : goal.returns-then-is_fresh-clause-read
returns-then-is_fresh-clause-read c os r at b h =
    let n = c.args.more in
    let m = c.args.long in
    let bytes = c.args.bytes.now in
    let t = c.in-Blank.tag in
    let key = take (n + 1) bytes in
    let value = take m (drop (n + 3) bytes) in
    let fresh : is_fresh key t.attributes ≡ true = sym c.is_fresh.ensures ∙ c.if-is_fresh.true in
    let long : n + 3 + m - (n + 3) ≡ m = omega arith in
    let placed : c.put_place.new.into ≡ place.Attributed (with_attribute t key value) =
    c.put_place.ensures ∙ ap (λ (x : Tag). place.Attributed x) (c.in_ok-longer-in-Blank.ensures
    ∙ ap (λ (x : Tag). with_attribute x c.in_ok-name-in-Blank.name c.in_ok-value-in-Blank.value) c.take_tag-tag.ensures
    ∙ ap (λ (x : List ℕ). with_attribute t x c.in_ok-value-in-Blank.value) c.in_ok-name-in-Blank.ensures
    ∙ ap (λ (x : List ℕ). with_attribute t key x) (c.in_ok-value-in-Blank.ensures ∙ ap (λ (k : ℕ). take k (drop (n + 3) bytes)) long)) in
    moved (place.Attributed (with_attribute t key value)) c.put_place.new.into os os r (at + (n + 4 + m)) (b ++ take (n + 4 + m) bytes) (sym placed) refl
    (attribute_taken n m at t os r b bytes c.requires fresh (moved c.args.place.now (place.Blank t) os os r at b c.in-Blank.is refl h))

pub returns-else-is_fresh-clause-read : goal.returns-else-is_fresh-clause-read
returns-else-is_fresh-clause-read c os r at b h =
    no_more (place.Blank c.in-Blank.tag) os r at b (moved c.args.place.now (place.Blank c.in-Blank.tag) os os r at b c.in-Blank.is refl h)

pub returns-in_default : goal.returns-in_default
returns-in_default c = record { within = omega arith; read = λ os r at b h. no_more c.args.place.now os r at b h }
