-- The canonical text of a small net, as an instance of the definition.
use Rattle.std.specs.Prelude.{◌≡◌, ℕ, List, [], ◌∷◌, ◌++◌, codes}
use Rattle.net_model.specs.declared.kinds.Kind.TheVariants.{Pt}
use Rattle.net_model.specs.declared.nets.Label.TheVariants.{Count}
use Rattle.net_model.specs.declared.nets.Net.{Net}
use Rattle.net_model.specs.declared.sorts.SortTerm.TheVariants.{Dot}
use Rattle.pnml_write.specs.Canon.{canonical_text}

-- a place with two tokens
abbrev pub small_net : Net
small_net = record {
  id = codes "n";
  kind = Pt;
  sorts = [];
  partitions = [];
  variables = [];
  places = record { id = codes "a"; sort = Dot; marking = Count 2 } ∷ [];
  transitions = [];
  references = [];
  arcs = [];
}

abbrev pub small_text : List ℕ
small_text =
    codes "<?xml version=\"1.0\" encoding=\"UTF-8\"?>\n"
    ++ codes "<pnml xmlns=\"http://www.pnml.org/version-2009/grammar/pnml\">\n"
    ++ codes "<net id=\"n\" type=\"http://www.pnml.org/version-2009/grammar/ptnet\">\n"
    ++ codes "<page id=\"page\">\n"
    ++ codes "<place id=\"a\">\n<initialMarking>\n<text>2</text>\n</initialMarking>\n</place>\n"
    ++ codes "</page>\n</net>\n</pnml>\n"

abbrev pub SmallNetHasItsText : Type 0
SmallNetHasItsText = canonical_text small_net ≡ small_text
