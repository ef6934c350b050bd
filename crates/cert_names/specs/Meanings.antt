-- What facts and splits say of a marking of the unfolded net, by the names on their lines (this project's own; flows and traps are
-- those of Murata 1989).
use Rattle.std.specs.Prelude.{◌≡◌, ◌↔◌, ◌<◌, ℕ, true, List, map, filter, sum_by, ℤ, pos, ◌*ℤ◌, int_le, int_lt, slice_index}
use Rattle.std.specs.List.{AllByRecursion}
use Rattle.pt_net.specs.Numbering.{NetNumbering}
use Rattle.pt_net.specs.Systems.{NetSystem, PtReach, places}
use Rattle.reductions.specs.Numbers.{numbers}
use Rattle.line_words.specs.declared.items.PlaceRef.{PlaceRef}
use Rattle.line_words.specs.declared.items.Weight.{Weight}
use Rattle.cert_lines.specs.declared.certificates.Fact.{Fact}
use Rattle.cert_lines.specs.declared.certificates.FactKind.{FactKind}
use Rattle.cert_lines.specs.declared.certificates.FactKind.TheVariants.{Flow, Trap, Bound}
use Rattle.cert_model.specs.Sums.{sum_of}
use Rattle.cert_model.specs.Forms.{NotNegative, value_at}
use Rattle.cert_model.specs.Facts.{IsMet}
use Rattle.cert_model.specs.Trees.{at_most, above}
use Rattle.cert_model.specs.Judging.{Shown}
use Rattle.cert_laws.specs.PlainNets.{plain_reduced, kept_counts, kept_places}
use Rattle.cert_laws.specs.Reducing.{reduced_form}
use Rattle.cert_names.specs.Numbers.{is_named}
use Rattle.cert_names.specs.Sections.{is_listed, weighted, fact_of, facts_judgement}

-- the tokens on all place instances that a place on a line stands for
abbrev pub tokens_on : NetNumbering → NetSystem → List ℕ → PlaceRef → ℕ
tokens_on l net marking place = sum_by (slice_index marking) (numbers (places net) (is_named l place))

abbrev pub weighted_sum : NetNumbering → NetSystem → List Weight → List ℕ → ℤ
weighted_sum l net weights marking = sum_of (map (λ weight. weight.value *ℤ pos (tokens_on l net marking weight.place)) weights)

-- a flow has the sum that it has at first, some place instance of a trap that isn't constant has a token, and a bound's sum is at
-- most its limit
abbrev pub Claims : NetNumbering → NetSystem → List ℕ → FactKind → Type 0
Claims l net marking (Flow weights) = weighted_sum l net weights marking ≡ weighted_sum l net weights net.initial
Claims l net marking (Trap listed) = 0 < sum_by (slice_index marking) (filter (is_listed l listed) (kept_places net))
Claims l net marking (Bound limit weights steps) = int_le (weighted_sum l net weights marking) limit ≡ true

-- at reached markings a fact over the reduced net is met exactly where what it claims is so
abbrev pub FactsAreClaims : NetNumbering → NetSystem → Type 0
FactsAreClaims l net = (names : List (List ℕ)) (kind : FactKind) (marking : List ℕ) → PtReach net marking
    → IsMet (plain_reduced net) (fact_of l net names kind) (kept_counts net marking) ↔ Claims l net marking kind

-- and the two branches of a split suppose that the sum is at most the limit, and that it is above it
pub record SplitsAreClaims (l : NetNumbering) (net : NetSystem) : Type 0 where
  pub first : (limit : ℤ) (weights : List Weight) (marking : List ℕ) → PtReach net marking
      → NotNegative (value_at (plain_reduced net) (at_most (reduced_form net (weighted l weights)) limit) (kept_counts net marking))
      ↔ (int_le (weighted_sum l net weights marking) limit ≡ true)
  pub second : (limit : ℤ) (weights : List Weight) (marking : List ℕ) → PtReach net marking
      → NotNegative (value_at (plain_reduced net) (above (reduced_form net (weighted l weights)) limit) (kept_counts net marking))
      ↔ (int_lt limit (weighted_sum l net weights marking) ≡ true)

-- where the facts are judged `Shown`, what they claim is so at each reached marking
abbrev pub ClaimsHold : NetNumbering → NetSystem → Type 0
ClaimsHold l net = (all : List Fact) → facts_judgement l net all ≡ Shown → (marking : List ℕ) → PtReach net marking → AllByRecursion (λ fact. Claims l net marking fact.kind) all
