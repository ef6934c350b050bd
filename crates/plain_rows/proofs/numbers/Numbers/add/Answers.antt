use Rattle.std.proofs.Common.{not, sym, ap, ◌∙◌}
use Rattle.std.specs.Str.{bytes_eq}
use Rattle.name_tables.proofs.Places.{name_added-new, name_added-old}
use Rattle.plain_rows.proofs.Borrowed.{grown_texts, list_any-texts, place_in_texts, texts}
use Rattle.plain_rows.proofs.numbers.Numbers.add.Goals as goal

pub returns-then-is_new-clause-added : goal.returns-then-is_new-clause-added
returns-then-is_new-clause-added c =
    let known = c.in_ok-at.ensures in
    let keys = c.self.inside.set.keys in
    let name = c.args.name in
    rw (← c.self.view_is)
    (name_added-new (texts keys) name.now c.in_ok-at.at c.in_ok-at.is_new (texts c.insert_full.new.self.keys)
    (known.added ∙ ap not (sym (list_any-texts (bytes_eq name.now) keys))) (known.index ∙ sym (place_in_texts (bytes_eq name.now) keys))
    (grown_texts keys name c.insert_full.new.self.keys known.keys) c.if-is_new.true)

pub returns-clause-added : goal.returns-clause-added
returns-clause-added c =
    let known = c.in_ok-at.ensures in
    let keys = c.self.inside.set.keys in
    let name = c.args.name in
    rw (← c.self.view_is)
    (name_added-old (texts keys) name.now c.in_ok-at.at c.in_ok-at.is_new (texts c.insert_full.new.self.keys)
    (known.added ∙ ap not (sym (list_any-texts (bytes_eq name.now) keys))) (known.index ∙ sym (place_in_texts (bytes_eq name.now) keys))
    (grown_texts keys name c.insert_full.new.self.keys known.keys) c.if-is_new.false)
