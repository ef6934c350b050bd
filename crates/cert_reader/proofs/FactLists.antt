-- Lists of facts that grow at their end.
use Rattle.std.proofs.Common.{◌≡◌, ℕ, suc, Bool, true, false, not, cond, List, [], ◌∷◌, ◌++◌, length, map, Some, refl, sym, ap, ◌∙◌, arith}
use Rattle.std.specs.Prelude.{◌-◌, slice_get}
use Rattle.std.specs.List.{list_any}
use Rattle.std.specs.Str.{bytes_eq}
use Rattle.std.proofs.lemmas.Bool.{true≢false, cond-false}
use Rattle.std.proofs.lemmas.List.{map-append}
use Rattle.cert_lines.specs.declared.certificates.Fact.{Fact}
use Rattle.cert_lines.specs.declared.certificates.FactKind.{FactKind}
use Rattle.cert_lines.specs.declared.certificates.FactKind.TheVariants.{Flow, Trap, Bound}
use Rattle.cert_lines.specs.declared.certificates.Step.{Step}
use Rattle.line_words.specs.declared.items.InstanceRef.{InstanceRef}
use Rattle.cert_reader.specs.Reading.{grown, is_bound, last_fact, names_of, origins_of, same_origin, stepped, takes_steps, with_step}
use Rattle.cert_lines.specs.Order.{origin_of, steps_of}

pub last_of_grown : (facts : List Fact) (fact : Fact) → last_fact (facts ++ fact ∷ []) ≡ Some fact
last_of_grown [] fact = refl
last_of_grown (first ∷ []) fact = refl
last_of_grown (first ∷ next ∷ later) fact = last_of_grown (next ∷ later) fact

pub last_by_index : (facts : List Fact) → slice_get facts (length facts - 1) ≡ last_fact facts
last_by_index [] = refl
last_by_index (fact ∷ []) = refl
last_by_index (fact ∷ next ∷ later) =
    let there : length (fact ∷ next ∷ later) - 1 ≡ suc (length (next ∷ later) - 1) = omega arith in
    rw there (last_by_index (next ∷ later))

pub with_step_of_grown : (facts : List Fact) (fact : Fact) (step : Step) → with_step (facts ++ fact ∷ []) step ≡ facts ++ stepped fact step ∷ []
with_step_of_grown [] fact step = refl
with_step_of_grown (first ∷ []) fact step = refl
with_step_of_grown (first ∷ next ∷ later) fact step = ap (λ fs. first ∷ fs) (with_step_of_grown (next ∷ later) fact step)

pub names_with_step : (facts : List Fact) (step : Step) → names_of (with_step facts step) ≡ names_of facts
names_with_step [] step = refl
names_with_step (fact ∷ []) step = refl
names_with_step (fact ∷ next ∷ later) step = ap (λ ns. fact.name ∷ ns) (names_with_step (next ∷ later) step)

pub last_with_step : (facts : List Fact) (step : Step) → takes_steps (last_fact facts) ≡ true
    → origins_of (last_fact (with_step facts step)) ≡ origins_of (last_fact facts) ++ origin_of step ∷ []
last_with_step [] step bound = absurd (true≢false (sym bound))
last_with_step (fact ∷ []) step bound = by fact.kind bound
  where
    by : (kind : FactKind) → is_bound kind ≡ true → map origin_of (steps_of (grown kind step)) ≡ map origin_of (steps_of kind) ++ origin_of step ∷ []
    by (Flow weights) bound = absurd (true≢false (sym bound))
    by (Trap places) bound = absurd (true≢false (sym bound))
    by (Bound limit weights steps) bound = map-append origin_of steps (step ∷ [])
last_with_step (fact ∷ next ∷ []) step bound = last_with_step (next ∷ []) step bound
last_with_step (fact ∷ next ∷ third ∷ later) step bound = last_with_step (next ∷ third ∷ later) step bound

pub names_of_grown : (facts : List Fact) (fact : Fact) → names_of (facts ++ fact ∷ []) ≡ names_of facts ++ fact.name ∷ []
names_of_grown facts fact = map-append (λ f. f.name) facts (fact ∷ [])

pub origins_of_grown : (facts : List Fact) (fact : Fact) → steps_of fact.kind ≡ [] → origins_of (last_fact (facts ++ fact ∷ [])) ≡ []
origins_of_grown facts fact none = ap origins_of (last_of_grown facts fact) ∙ ap (map origin_of) none

-- what the insertion of a fact's name leaves, where the fact is put behind the others if its name was new
pub names_put : (keys after : List (List ℕ)) (facts now : List Fact) (fact : Fact) (added : Bool)
    → keys ≡ names_of facts → added ≡ not (list_any (bytes_eq fact.name) keys) → now ≡ cond added (facts ++ fact ∷ []) facts
    → after ≡ cond (list_any (bytes_eq fact.name) keys) keys (keys ++ fact.name ∷ []) → after ≡ names_of now
names_put keys after facts now fact added known new is put = by (list_any (bytes_eq fact.name) keys) refl
  where
    by : (t : Bool) → list_any (bytes_eq fact.name) keys ≡ t → after ≡ names_of now
    by true e =
        put
        ∙ ap (λ t. cond t keys (keys ++ fact.name ∷ [])) e
        ∙ known
        ∙ ap names_of (sym (is ∙ ap (λ a. cond a (facts ++ fact ∷ []) facts) (new ∙ ap not e)))
    by false e =
        put
        ∙ ap (λ t. cond t keys (keys ++ fact.name ∷ [])) e
        ∙ ap (λ ks. ks ++ fact.name ∷ []) known
        ∙ sym (names_of_grown facts fact)
        ∙ ap names_of (sym (is ∙ ap (λ a. cond a (facts ++ fact ∷ []) facts) (new ∙ ap not e)))

pub origins_put : (before after : List InstanceRef) (facts now : List Fact) (fact : Fact) (added : Bool)
    → before ≡ origins_of (last_fact facts) → steps_of fact.kind ≡ [] → now ≡ cond added (facts ++ fact ∷ []) facts
    → after ≡ cond added [] before → after ≡ origins_of (last_fact now)
origins_put before after facts now fact true known none is put =
    put ∙ sym (origins_of_grown facts fact none) ∙ ap (λ fs. origins_of (last_fact fs)) (sym is)
origins_put before after facts now fact false known none is put = put ∙ known ∙ ap (λ fs. origins_of (last_fact fs)) (sym is)

-- what the insertion of a new transition instance leaves
pub new_origin : (keys : List InstanceRef) (facts : List Fact) (step : Step) (after : List InstanceRef)
    → keys ≡ origins_of (last_fact facts) → takes_steps (last_fact facts) ≡ true
    → list_any (same_origin (origin_of step)) (origins_of (last_fact facts)) ≡ false
    → after ≡ cond (list_any (same_origin (origin_of step)) keys) keys (keys ++ origin_of step ∷ []) → after ≡ origins_of (last_fact (with_step facts step))
new_origin keys facts step after known bound fresh put =
    put
    ∙ cond-false _ _ _ (ap (list_any (same_origin (origin_of step))) known ∙ fresh)
    ∙ ap (λ ks. ks ++ origin_of step ∷ []) known
    ∙ sym (last_with_step facts step bound)
