-- What a certificate whose obligations are all true shows.
use Rattle.std.specs.Prelude.{◌≡◌, ℕ, List}
use Rattle.plain_model.specs.declared.nets.PlainNet.{PlainNet}
use Rattle.plain_model.specs.declared.properties.Property.{Property}
use Rattle.plain_model.specs.declared.certificates.Certificate.{Certificate}
use Rattle.plain_model.specs.declared.verdicts.Judged.TheVariants.{Shown}
use Rattle.plain_model.specs.Firing.{Reach}
use Rattle.plain_model.specs.Obligations.{judgement}
use Rattle.plain_model.specs.Satisfaction.{Satisfies}

-- the property's invariant is true in every marking that firing reaches from the initial one
abbrev pub IsInvariant : PlainNet → Property → Type 0
IsInvariant net property = (marking : List ℕ) → Reach net marking → Satisfies net property marking

-- where every obligation is true, the invariant is true in every reached marking
abbrev pub ShownIsInvariant : Type 0
ShownIsInvariant = (net : PlainNet) (property : Property) (certificate : Certificate) → judgement net property certificate ≡ Shown → IsInvariant net property
