use Rattle.std.proofs.Common.{◌≡◌, ℕ, Option, MatchOption, Some, None, sym, subst}
use Rattle.host_io.specs.Held.{bytes_of}
use Rattle.host_io.specs.Memory.{held_by, bytes_at}
use Rattle.host_io.proofs.Lookups.{place_of-held}
use Rattle.host_io.proofs.memory.place_of.Goals as goal

pub returns-clause-held : goal.returns-clause-held
returns-clause-held c =
    let entries = c.args.entries.now in
    let name = c.args.name.now in
    let P : Option ℕ → Type 0 = λ r. MatchOption r (bytes_of (held_by entries) name ≡ None) (λ place. bytes_of (held_by entries) name ≡ Some (bytes_at entries (Some place))) in
    subst P (sym c.position_of.ensures) (place_of-held entries name)
