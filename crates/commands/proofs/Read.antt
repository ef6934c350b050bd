-- What reading the files of a command comes to, as the list of their bytes.
use Rattle.std.proofs.Common.{◌≡◌, ℕ, zero, suc, List, [], ◌∷◌, length, Option, Some, None, Result, Ok, Err, inl, inr, refl, ap, sym, ◌∙◌, arith}
use Rattle.std.specs.Prelude.{get_or, IfSome}
use Rattle.host_io.specs.Held.{Held}
use Rattle.pnml_inputs.specs.Answers.{ReadsBy}
use Rattle.pnml_inputs.specs.Reading.{Reading, unheld, too_long, whole, and_then, file_reading, inputs_reading}
use Rattle.pnml_inputs.specs.Texts.{Texts}
use Rattle.pnml_inputs.specs.declared.inputs.Role.{Role}
use Rattle.pnml_inputs.specs.declared.inputs.Role.TheVariants.{Net, Formula, Cert}
use Rattle.pnml_inputs.specs.declared.inputs.Stop.{Stop}
use Rattle.pnml_inputs.specs.declared.inputs.Stop.TheVariants as stop
use Rattle.answers.specs.Answers.{readings}

abbrev seen_as : {A B : Type 0} → (A → B) → Reading A → Reading B
seen_as view unheld = unheld
seen_as view (too_long role) = too_long role
seen_as view (whole a) = whole (view a)

-- an answer to what is read is one to what it is seen as
reads_as : {V A B : Type 0} (view : A → B) (answers : A → V → Type 0) (others : B → V → Type 0) → ((a : A) (v : V) → answers a v → others (view a) v)
    → (told : Option Held) (reading : Held → Reading A) (other : Held → Reading B) → ((held : Held) → other held ≡ seen_as view (reading held))
    → (before now : ℕ) (r : Result V Stop) → ReadsBy answers told reading before now r → ReadsBy others told other before now r
reads_as view answers others leads None reading other same before now (Ok v) (a, is) = (view a, leads a v is)
reads_as view answers others leads None reading other same before now (Err stop.Fault) rose = rose
reads_as view answers others leads None reading other same before now (Err (stop.TooLong role)) is = tt
reads_as view answers others leads None reading other same before now (Err stop.Memory) is = tt
reads_as view answers others leads (Some held) reading other same before now (Ok v) (a, read, is) = (view a, same held ∙ ap (seen_as view) read, leads a v is)
reads_as view answers others leads (Some held) reading other same before now (Err stop.Fault) (inl rose) = inl rose
reads_as view answers others leads (Some held) reading other same before now (Err stop.Fault) (inr read) = inr (same held ∙ ap (seen_as view) read)
reads_as view answers others leads (Some held) reading other same before now (Err (stop.TooLong role)) read = same held ∙ ap (seen_as view) read
reads_as view answers others leads (Some held) reading other same before now (Err stop.Memory) is = tt

one_listed : (r : Reading (List ℕ)) → and_then r (λ b. and_then (whole []) (λ bs. whole (b ∷ bs))) ≡ seen_as (λ b. b ∷ []) r
one_listed unheld = refl
one_listed (too_long role) = refl
one_listed (whole b) = refl

abbrev listed : Texts → List (List ℕ)
listed texts = texts.net ∷ texts.formula ∷ texts.certificate ∷ []

three_listed : (r s t : Reading (List ℕ))
    → and_then r (λ b. and_then (and_then s (λ c. and_then (and_then t (λ d. and_then (whole []) (λ bs. whole (d ∷ bs)))) (λ bs. whole (c ∷ bs)))) (λ bs. whole (b ∷ bs)))
    ≡ seen_as listed (and_then r (λ net. and_then s (λ formula. and_then t (λ certificate. whole (record { net = net; formula = formula; certificate = certificate })))))
three_listed unheld s t = refl
three_listed (too_long role) s t = refl
three_listed (whole b) unheld t = refl
three_listed (whole b) (too_long role) t = refl
three_listed (whole b) (whole c) unheld = refl
three_listed (whole b) (whole c) (too_long role) = refl
three_listed (whole b) (whole c) (whole d) = refl

pub one_name : (names : List (List ℕ)) (d : List ℕ) → length names ≡ 1 → names ≡ get_or names 0 d ∷ []
one_name [] d long = absurd (omega (arith, long))
one_name (a ∷ []) d long = refl
one_name (a ∷ b ∷ names) d long = absurd (omega (arith, long))

pub three_names : (names : List (List ℕ)) (d e f : List ℕ) → length names ≡ 3 → names ≡ get_or names 0 d ∷ get_or names 1 e ∷ get_or names 2 f ∷ []
three_names [] d e f long = absurd (omega (arith, long))
three_names (a ∷ []) d e f long = absurd (omega (arith, long))
three_names (a ∷ b ∷ []) d e f long = absurd (omega (arith, long))
three_names (a ∷ b ∷ c ∷ []) d e f long = refl
three_names (a ∷ b ∷ c ∷ x ∷ names) d e f long = absurd (omega (arith, long))

pub reads_one : {V : Type 0} (answers : List ℕ → V → Type 0) (others : List (List ℕ) → V → Type 0) → ((b : List ℕ) (v : V) → answers b v → others (b ∷ []) v)
    → (told : Option Held) (net : List ℕ) (before now : ℕ) (r : Result V Stop) → ReadsBy answers told (file_reading Net net) before now r
    → ReadsBy others told (readings (Net ∷ []) (net ∷ [])) before now r
reads_one answers others leads told net before now r =
    reads_as (λ b. b ∷ []) answers others leads told (file_reading Net net) (readings (Net ∷ []) (net ∷ [])) (λ held. one_listed (file_reading Net net held)) before now r

pub reads_three : {V : Type 0} (answers : Texts → V → Type 0) (others : List (List ℕ) → V → Type 0) → ((t : Texts) (v : V) → answers t v → others (t.net ∷ t.formula ∷ t.certificate ∷ []) v)
    → (told : Option Held) (net formula certificate : List ℕ) (before now : ℕ) (r : Result V Stop) → ReadsBy answers told (inputs_reading net formula certificate) before now r
    → ReadsBy others told (readings (Net ∷ Formula ∷ Cert ∷ []) (net ∷ formula ∷ certificate ∷ [])) before now r
reads_three answers others leads told net formula certificate before now r =
    reads_as listed answers others leads told (inputs_reading net formula certificate) (readings (Net ∷ Formula ∷ Cert ∷ []) (net ∷ formula ∷ certificate ∷ []))
    (λ held. three_listed (file_reading Net net held) (file_reading Formula formula held) (file_reading Cert certificate held)) before now r

-- where nothing can be asked
pub nothing_asked : {X : Type 0} (P : X → Type 0) (o : Option X) → IfSome o (λ x. ⊥ → P x)
nothing_asked P None = tt
nothing_asked P (Some x) = λ asked. absurd asked
