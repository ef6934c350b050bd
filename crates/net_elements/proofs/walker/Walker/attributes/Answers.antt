use Rattle.std.proofs.Common.{◌≡◌, Err, get_or, ap, ◌∙◌}
use Rattle.std.proofs.lemmas.Result.{err_from_is_err_and}
use Rattle.std.specs.Option.{option_map}
use Rattle.doc_model.specs.declared.tree.Element.{out-Element}
use Rattle.net_elements.specs.declared.roles.Key.TheVariants as key
use Rattle.net_elements.specs.Table.{key_word_of}
use Rattle.net_elements.specs.Rules.{attribute_notes, key_notes, value_of}
use Rattle.net_elements.specs.Walking.{found}
use Rattle.net_elements.proofs.Walks.{found_value, key_stops, same_end}
use Rattle.net_elements.proofs.walker.Walker.attributes.Goals as goal

pub returns-in_err-key : goal.returns-in_err-key
returns-in_err-key c =
    let p = err_from_is_err_and c.from_residual.result c.from_residual.ensures.1 in
    let parts = out-Element c.args.element.now in
    let keys = c.keys_of-keys.result.now in
    let k = get_or keys c.loop-key.key-index key.AnyId in
    let stop = c.in_err-key.field-0.0 in
    let value : option_map (λ v. v.now) c.value_of-value.result ≡ value_of (key_word_of k) parts.attributes =
    found_value c.value_of-value.result _ c.value_of-value.ensures
    ∙ ap (λ w. value_of w c.as_slice.result.now) c.key_word_of.ensures
    ∙ ap (value_of (key_word_of k)) c.as_slice.ensures in
    let step = same_end c.key.new.self (Err stop) _ _ (ap (λ v. found c.loop-key.self (key_notes parts.at k v)) value) c.in_err-key.ensures in
    rw (p.1, p.2)
    (same_end c.key.new.self (Err stop) _ _ (ap (λ ks. found c.args.self.now (attribute_notes parts.at ks parts.attributes)) c.keys_of-keys.ensures)
    (key_stops c.loop-key.self c.key.new.self c.key.new.self c.args.self.now parts.at parts.attributes keys c.loop-key.key-index key.AnyId c.loop-key-test.true c.loop-key.invariant stop step))
