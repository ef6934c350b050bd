use Rattle.std.proofs.Common.{◌≡◌, ◌<◌, ◌++◌, ◌∷◌, [], sym, arith, ap, ◌∙◌, length, take, subst}
use Rattle.std.proofs.Common.{length-take}
use Rattle.std.proofs.lemmas.List.{take_more}
use Rattle.colour_sorts.specs.Colours.{colours}
use Rattle.colour_sorts.specs.Dividing.{is_member, members_of}
use Rattle.colour_sorts.specs.Filling.{AreFilling, IsTwice}
use Rattle.colour_sorts.proofs.Filled.{all-inside, filling-next, twice-more}
use Rattle.colour_sorts.proofs.domains.Domains.put_blocks.Goals as goal

pub put_members-requires-clause-members : goal.put_members-requires-clause-members
put_members-requires-clause-members c =
    let within : c.loop-at.at < length c.args.elements.now = omega (arith, c.loop-at-test.true, c.requires.most, c.loop-at.auto.at-end) in
    rw (c.as_slice-members.ensures ∙ ap (λ b. b.members) (sym c.index-elements-at.is))
    (all-inside (is_member c.args.self.now.constants c.args.sort.now) c.args.elements.now c.loop-at.at c.index-elements-at.result within c.index-elements-at.is c.requires.members)

pub returns-then-not-put_members : goal.returns-then-not-put_members
returns-then-not-put_members c =
    let elements = c.args.elements.now in
    let at = c.loop-at.at in
    let cs = colours c.args.self.now.constants c.args.sort.now in
    let within : at < length elements = omega (arith, c.loop-at-test.true, c.requires.most, c.loop-at.auto.at-end) in
    let count : at ≡ length (take at elements) = omega (arith, length-take at elements, within) in
    let known = c.if-not-put_members.ensures.filled (take at elements) count c.loop-at.invariant in
    twice-more cs elements at c.index-elements-at.result within c.index-elements-at.is (subst (λ ms. IsTwice cs (members_of (take at elements) ++ ms)) (c.as_slice-members.ensures ∙ ap (λ b. b.members) (sym c.index-elements-at.is)) known)

pub loop-at-preserved : goal.loop-at-preserved
loop-at-preserved c =
    let elements = c.args.elements.now in
    let at = c.loop-at.at in
    let item = c.index-elements-at.result in
    let cs = colours c.args.self.now.constants c.args.sort.now in
    let within : at < length elements = omega (arith, c.loop-at-test.true, c.requires.most, c.loop-at.auto.at-end) in
    let count : at ≡ length (take at elements) = omega (arith, length-take at elements, within) in
    let known = c.if-not-put_members.ensures.filled (take at elements) count c.loop-at.invariant in
    let inner = subst (λ ms. AreFilling cs (take at elements) ms c.args.most c.put_members.new.blocks) (c.as_slice-members.ensures ∙ ap (λ b. b.members) (sym c.index-elements-at.is)) known in
    let next = filling-next cs (take at elements) item c.args.most c.put_members.new.blocks inner in
    subst (λ bs. AreFilling cs bs [] c.args.most c.put_members.new.blocks) (ap (λ x. take at elements ++ x ∷ []) c.index-elements-at.is ∙ sym (take_more elements at item within)) next
