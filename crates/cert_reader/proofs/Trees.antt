-- The nodes of certificates as trees in prefix order.
use Rattle.std.proofs.Common.{ℕ, List}
use Rattle.prefix_trees.proofs.Climbs as climbs
use Rattle.cert_lines.specs.declared.certificates.Node.{Node}
use Rattle.cert_reader.specs.Reading.{branches_on}

abbrev pub Climbs : ℕ → List ℕ → List Node → List ℕ → Type 0
Climbs most opens nodes last = climbs.Climbs branches_on most opens nodes last

abbrev pub Grown : ℕ → List Node → List ℕ → Type 0
Grown most nodes opens = climbs.Grown branches_on most nodes opens
