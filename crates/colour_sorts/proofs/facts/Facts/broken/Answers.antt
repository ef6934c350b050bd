use Rattle.std.proofs.Common.{◌∙◌, sym, true, false}
use Rattle.colour_sorts.specs.Limits.{is_upside_down, lacks_components, lacks_constants, passes_limit}
use Rattle.colour_sorts.proofs.Sizes.{last-rule}
use Rattle.colour_sorts.proofs.facts.Facts.broken.Goals as goal

pub returns-then-passes_limit : goal.returns-then-passes_limit
returns-then-passes_limit c = λ constants s is.
    last-rule (is_upside_down s) (lacks_constants constants s) (lacks_components s) (passes_limit constants s) true
    (sym is.upside_down ∙ c.if-self.false) (sym is.no_constants ∙ c.if-self-2.false) (sym is.no_components ∙ c.if-self-3.false)
    (sym (c.passes_limit.ensures constants s is) ∙ c.if-passes_limit.true)

pub returns-else-passes_limit : goal.returns-else-passes_limit
returns-else-passes_limit c = λ constants s is.
    last-rule (is_upside_down s) (lacks_constants constants s) (lacks_components s) (passes_limit constants s) false
    (sym is.upside_down ∙ c.if-self.false) (sym is.no_constants ∙ c.if-self-2.false) (sym is.no_components ∙ c.if-self-3.false)
    (sym (c.passes_limit.ensures constants s is) ∙ c.if-passes_limit.false)
