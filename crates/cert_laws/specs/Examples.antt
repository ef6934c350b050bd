-- A small net, and what the definitions give of it.
use Rattle.std.specs.Prelude.{◌≡◌, ℕ, ◌+◌, List, [], ◌∷◌, map, pos, negsuc}
use Rattle.wide_sums.specs.declared.rows.Cell.{Cell}
use Rattle.pt_net.specs.declared.instances.Instance.{Instance}
use Rattle.pt_net.specs.Systems.{NetSystem, system_of}
use Rattle.cert_model.specs.Forms.{Form}
use Rattle.cert_model.specs.Nets.{Net}
use Rattle.cert_laws.specs.PlainNets.{plain, plain_reduced, kept_places}
use Rattle.cert_laws.specs.Reducing.{reduced_form}

abbrev cell : ℕ → ℕ → Cell
cell at count = record { at = at; count = count }

abbrev instance : ℕ → List Cell → List Cell → Instance
instance t pre post = record { transition = t; binding = 0; pre = pre; post = post }

-- `c=2, p=1, q=0; t: p -> q; u: q -> p; v: c, p -> c, q; w: 3 c -> 3 c, q`
abbrev circle : NetSystem
circle = system_of (2 ∷ 1 ∷ 0 ∷ [])
    (instance 0 (cell 1 1 ∷ []) (cell 2 1 ∷ [])
    ∷ instance 1 (cell 2 1 ∷ []) (cell 1 1 ∷ [])
    ∷ instance 2 (cell 0 1 ∷ cell 1 1 ∷ []) (cell 0 1 ∷ cell 2 1 ∷ [])
    ∷ instance 3 (cell 0 3 ∷ []) (cell 0 3 ∷ cell 2 1 ∷ []) ∷ [])

abbrev needs : Net → List (ℕ × List (ℕ × ℕ))
needs net = map {B = ℕ × List (ℕ × ℕ)} (λ live. (live.transition, live.needs)) net.live

-- the number of each kept instance, what it takes from the first place, and what it puts into the second
abbrev moves : Net → List (ℕ × (ℕ × ℕ))
moves net = map {B = ℕ × (ℕ × ℕ)} (λ i. (i.number, (i.pre 0, i.post 1))) net.kept

-- `5 c + 6 p + 7 q - 1`
abbrev weighted : Form
weighted = record { coefficient = λ p. pos (p + 5); constant = negsuc 0 ∷ [] }

pub record ExamplesAreRight : Type 0 where
  pub places : kept_places circle ≡ 1 ∷ 2 ∷ []
  pub whole : needs (plain circle) ≡ (0, (1, 1) ∷ []) ∷ (1, (2, 1) ∷ []) ∷ (2, (0, 1) ∷ (1, 1) ∷ []) ∷ (3, (0, 3) ∷ []) ∷ []
  pub reduced : needs (plain_reduced circle) ≡ (0, (0, 1) ∷ []) ∷ (1, (1, 1) ∷ []) ∷ (2, (0, 1) ∷ []) ∷ []
  pub kept : moves (plain_reduced circle) ≡ (0, (1, 1)) ∷ (1, (0, 0)) ∷ []
  pub constant : (reduced_form circle weighted).constant ≡ negsuc 0 ∷ pos 10 ∷ []
  pub coefficients : map (reduced_form circle weighted).coefficient (0 ∷ 1 ∷ []) ≡ pos 6 ∷ pos 7 ∷ []
