-- A net of two places and two transitions that go round, a property of it and a certificate, with their canonical texts.
use Rattle.std.specs.Prelude.{ℕ, List, [], ◌∷◌, ◌++◌, codes, pos, negsuc}
use Rattle.plain_model.specs.declared.nets.PlainNet.{PlainNet}
use Rattle.plain_model.specs.declared.properties.Property.{Property}
use Rattle.plain_model.specs.declared.properties.Count.TheVariants.{Number, Tokens}
use Rattle.plain_model.specs.declared.certificates.Certificate.{Certificate}
use Rattle.plain_model.specs.declared.certificates.Multiplier.TheVariants.{Fact, Hypothesis}

abbrev pub ring_net : PlainNet
ring_net = record {
  id = codes "n";
  places = record { id = codes "p0"; marking = 1 } ∷ record { id = codes "p1"; marking = 0 } ∷ [];
  transitions = codes "t" ∷ codes "u" ∷ [];
  arcs = record { id = codes "a1"; source = codes "p0"; target = codes "t"; weight = 1 }
      ∷ record { id = codes "a2"; source = codes "t"; target = codes "p1"; weight = 1 }
      ∷ record { id = codes "a3"; source = codes "p1"; target = codes "u"; weight = 1 }
      ∷ record { id = codes "a4"; source = codes "u"; target = codes "p0"; weight = 1 } ∷ [];
}

abbrev pub ring_net_text : List ℕ
ring_net_text =
    codes "<?xml version=\"1.0\" encoding=\"UTF-8\"?>\n"
    ++ codes "<pnml xmlns=\"http://www.pnml.org/version-2009/grammar/pnml\">\n"
    ++ codes "<net id=\"n\" type=\"http://www.pnml.org/version-2009/grammar/ptnet\">\n"
    ++ codes "<page id=\"page\">\n"
    ++ codes "<place id=\"p0\">\n<initialMarking>\n<text>1</text>\n</initialMarking>\n</place>\n"
    ++ codes "<place id=\"p1\"/>\n"
    ++ codes "<transition id=\"t\"/>\n"
    ++ codes "<transition id=\"u\"/>\n"
    ++ codes "<arc id=\"a1\" source=\"p0\" target=\"t\"/>\n"
    ++ codes "<arc id=\"a2\" source=\"t\" target=\"p1\"/>\n"
    ++ codes "<arc id=\"a3\" source=\"p1\" target=\"u\"/>\n"
    ++ codes "<arc id=\"a4\" source=\"u\" target=\"p0\"/>\n"
    ++ codes "</page>\n</net>\n</pnml>\n"

-- on both places together there is at most one token
abbrev pub ring_property : Property
ring_property = record { id = codes "P"; left = Tokens (codes "p0" ∷ codes "p1" ∷ []); right = Number 1 }

abbrev pub ring_property_text : List ℕ
ring_property_text =
    codes "<?xml version=\"1.0\" encoding=\"UTF-8\"?>\n"
    ++ codes "<property-set>\n<property>\n<id>P</id>\n"
    ++ codes "<formula>\n<all-paths>\n<globally>\n<integer-le>\n"
    ++ codes "<tokens-count>\n<place>p0</place>\n<place>p1</place>\n</tokens-count>\n"
    ++ codes "<integer-constant>1</integer-constant>\n"
    ++ codes "</integer-le>\n</globally>\n</all-paths>\n</formula>\n</property>\n</property-set>\n"

abbrev pub ring_certificate : Certificate
ring_certificate = record {
  property = codes "P";
  flows = record { name = codes "f"; weights = record { value = pos 1; place = codes "p0" } ∷ record { value = pos 1; place = codes "p1" } ∷ [] } ∷ [];
  close = Hypothesis (pos 1) 1 ∷ Fact (record { value = negsuc 0; fact = codes "f" }) ∷ [];
}

abbrev pub ring_certificate_text : List ℕ
ring_certificate_text = codes "certificate 1\nproperty P\nflow f 1*p0 1*p1\nproof\nclose 1*@1 -1*f\nend\n"
