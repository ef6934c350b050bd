use Rattle.std.proofs.Common.{◌≡◌, sym, ◌∙◌, false, true}
use Rattle.doc_tree.specs.Characters.{is_name_byte}
use Rattle.doc_tree.specs.Documents.{is_fresh}
use Rattle.doc_tree.proofs.stepping.key.Goals as goal

pub returns-then-is_fresh : goal.returns-then-is_fresh
returns-then-is_fresh c =
    let other : is_name_byte c.args.byte ≡ false = sym c.is_name_byte.ensures ∙ c.if-is_name_byte.false in
    let fresh : is_fresh c.args.key c.args.tag.attributes ≡ true = rw (← c.bytes.ensures) (sym c.is_fresh.ensures ∙ c.if-is_fresh.true) in
    λ os r. rw (other, fresh) (c.after_key.ensures os r)
