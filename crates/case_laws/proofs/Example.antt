-- The small case tree.
use Rattle.std.proofs.Common.{zero, suc, refl}
use Rattle.std.proofs.lemmas.List.{append-nil}
use Rattle.case_laws.specs.Standing.{IsAgenda}
use Rattle.case_laws.specs.Examples.{ExampleIsRight, items, one_instance, reading}

agenda_holds : IsAgenda one_instance reading items
agenda_holds zero s = rw (append-nil s.hypotheses, append-nil s.lowers, append-nil s.uppers) refl
agenda_holds (suc zero) s = rw (append-nil s.hypotheses, append-nil s.choices, append-nil s.uppers) refl
agenda_holds (suc (suc n)) s = rw (append-nil s.hypotheses, append-nil s.choices, append-nil s.lowers, append-nil s.uppers) refl

pub example : ExampleIsRight
example = record {
  agenda = agenda_holds;
  stand = (record { root = refl; tree = refl; splits = (tt, (tt, tt)) }, tt);
  cost = refl;
  limit = refl;
}
