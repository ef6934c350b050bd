use Rattle.std.proofs.Common.{arith, refl, sym, ap, ◌∙◌}
use Rattle.std.specs.Str.{bytes_eq}
use Rattle.std.proofs.lemmas.List.Quantifiers.{position-Some}
use Rattle.std.proofs.lemmas.Option.{get_or_from_slice_get}
use Rattle.colour_sorts.specs.declared.facts.Mark.TheVariants.{Done, Fresh}
use Rattle.colour_sorts.proofs.FactsOf.{facts-Dot}
use Rattle.colour_sorts.proofs.PlacesIn.{get-at}
use Rattle.colour_sorts.proofs.Judged.{judged-done, judged-unknown, waiting-name}
use Rattle.colour_sorts.proofs.judging.named_facts.Goals as goal

pub returns-in-None-clause-judged : goal.returns-in-None-clause-judged
returns-in-None-clause-judged c = λ own.
    (let leaf = c.leaf-dot.ensures in
    judged-unknown c.args.ids.now c.args.marks.now own c.args.name.now _ (sym c.find.ensures ∙ c.in-None.is) refl (λ constants.
    facts-Dot constants _ (ap (λ f. f.is_upside_down) leaf) (ap (λ f. f.lacks_constants) leaf) (ap (λ f. f.lacks_components) leaf) (ap (λ f. f.size) leaf) (ap (λ f. f.sorts) leaf) (ap (λ f. f.depth) leaf)))

pub returns-in-Done-clause-judged : goal.returns-in-Done-clause-judged
returns-in-Done-clause-judged c = λ own.
    (let found = sym c.find.ensures ∙ c.in-Some.is in
    let within = (position-Some (bytes_eq c.args.name.now) c.args.ids.now c.in-Some.at c.args.name.now found).0 in
    judged-done c.args.ids.now c.args.marks.now own c.args.name.now c.in-Some.at c.in-Done.facts found
    (get-at c.args.marks.now c.in-Some.at (Done c.in-Done.facts) Fresh (omega (arith, within, c.requires.marks)) c.in-Done.is))

pub returns-in-Done-clause-capped : goal.returns-in-Done-clause-capped
returns-in-Done-clause-capped c =
    let found = sym c.find.ensures ∙ c.in-Some.is in
    let within = (position-Some (bytes_eq c.args.name.now) c.args.ids.now c.in-Some.at c.args.name.now found).0 in
    c.requires.capped c.in-Some.at c.in-Done.facts (get-at c.args.marks.now c.in-Some.at (Done c.in-Done.facts) Fresh (omega (arith, within, c.requires.marks)) c.in-Done.is)

pub returns-in_default : goal.returns-in_default
returns-in_default c = record {
  judged = λ own. tt;
  capped = tt;
  waits = (let found = sym c.find.ensures ∙ c.in-Some.is in
      let within = (position-Some (bytes_eq c.args.name.now) c.args.ids.now c.in-Some.at c.args.name.now found).0 in
      waiting-name c.args.ids.now c.args.marks.now c.args.name.now c.in-Some.at within
      (λ f e. c.in_default.not-Done f (get_or_from_slice_get c.args.marks.now c.in-Some.at (Done f) Fresh e)) found);
}
