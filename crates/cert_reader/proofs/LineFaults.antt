-- The fault that is answered is the first one.
use Rattle.std.proofs.Common.{◌≡◌, ℕ, suc, ◌≤◌, ◌⊎◌, inl, inr, Bool, true, false, ◌||◌, List, [], ◌∷◌, ◌++◌, length, map, flat_map, Option, None, Some, Ok, Err, refl, sym, ap, subst, ◌∙◌, arith}
use Rattle.std.specs.Prelude.{◌^◌, nat_le, if◌then◌else◌}
use Rattle.std.specs.List.{list_any}
use Rattle.std.specs.Str.{bytes_eq}
use Rattle.std.proofs.lemmas.Bool.{false≢true, le-leb, leb-true, true≢false}
use Rattle.std.proofs.lemmas.Grind.{flat_map-append}
use Rattle.std.proofs.lemmas.List.{append_assoc, append-nil, map-append}
use Rattle.std.proofs.lemmas.List.Folds.{list_any-append}
use Rattle.line_words.specs.declared.items.InstanceRef.{InstanceRef}
use Rattle.line_words.specs.declared.lines.Line.TheVariants.{Passed, Faulty, Says}
use Rattle.cert_lines.specs.Order.{claim_of, fact_lines, node_line, origin_of, property_lines, step_line, steps_of, version_line}
use Rattle.cert_lines.specs.Statements.{CertLine}
use Rattle.cert_lines.specs.Sums.{are_past}
use Rattle.cert_lines.specs.declared.certificates.Fact.{Fact}
use Rattle.cert_lines.specs.declared.certificates.Node.{Node}
use Rattle.cert_lines.specs.declared.certificates.NodeForm.{NodeForm}
use Rattle.cert_lines.specs.declared.certificates.Section.{Section}
use Rattle.cert_lines.specs.declared.certificates.Step.{Step}
use Rattle.cert_lines.specs.declared.certificates.Version.{Version}
use Rattle.cert_lines.specs.declared.certificates.Version.TheVariants.{One, Two}
use Rattle.cert_lines.specs.declared.statements.Claim.{Claim}
use Rattle.cert_lines.specs.declared.statements.Statement.{Statement}
use Rattle.cert_lines.specs.declared.statements.Statement.TheVariants as say
use Rattle.prefix_trees.specs.Trees.{HasAbove}
use Rattle.cert_reader.specs.Grammar.{HasLineFault, IsBelow, IsPastLimits, Repeats, Stands, ids_on, kept, names_on, nodes_on}
use Rattle.cert_reader.specs.Reading.{DraftState, after, amounts_of, branches_on, is_past_limits, is_repeated, last_fact, may_stand, may_stand_at, names_of, node_at, nothing_read, origins_of, same_origin, take_statement, takes_steps}
use Rattle.cert_reader.specs.declared.faults.CertFault.{CertFault}
use Rattle.cert_reader.specs.declared.faults.CertFault.TheVariants as fault
use Rattle.cert_reader.specs.declared.stages.Stage.{Stage}
use Rattle.cert_reader.specs.declared.stages.Stage.TheVariants as stage
use Rattle.cert_reader.proofs.Limits.{node_open, tree_stage}
use Rattle.cert_reader.proofs.Lists.{heads, none_some, some_none, tails}
use Rattle.cert_reader.proofs.Orders.{Follows, follow_front, follow_on, follow_once, follow_stands, stands_follow}
use Rattle.cert_reader.proofs.Read.{IsOpen, Past, facts_read, read, read_at, tree_front}
use Rattle.prefix_trees.proofs.Climbs.{above_grown, above_open}
use Rattle.cert_reader.proofs.Trees.{Grown}

-- a line stands exactly where it may
pub stands_next : (front : List (ℕ × CertLine)) (draft : DraftState) (number : ℕ) (statement : Statement) → Follows nothing_read front draft → may_stand draft statement ≡ true
    → Stands (front ++ (number, Says statement) ∷ [])
stands_next front draft number statement follows stands =
    stands_follow (front ++ (number, Says statement) ∷ []) (after number draft statement)
    (follow_on nothing_read draft (after number draft statement) front ((number, Says statement) ∷ []) follows (statement, refl, stands, refl))

next_stands : (front : List (ℕ × CertLine)) (draft : DraftState) (line : ℕ × CertLine) → Follows nothing_read front draft → Stands (front ++ line ∷ [])
    → (statement : Statement) × ((line.1 ≡ Says statement) × (may_stand draft statement ≡ true))
next_stands front draft line follows stands =
    let there = follow_stands (front ++ line ∷ []) stands in
    let parts = follow_front nothing_read there.0 front (line ∷ []) there.1 in
    let same : parts.0 ≡ draft = follow_once nothing_read parts.0 draft front parts.1.0 follows in
    let next = parts.1.1 in
    (next.0, (next.1, subst (λ d. may_stand d next.0 ≡ true) same next.2))

-- lines that are kept as they are
split_map : {A B : Type 0} (f : A → B) (xs : List A) (ys zs : List B) → map f xs ≡ ys ++ zs
    → (front : List A) × ((rest : List A) × ((xs ≡ front ++ rest) × ((map f front ≡ ys) × (map f rest ≡ zs))))
split_map f xs [] zs e = ([], (xs, (refl, (refl, e))))
split_map f [] (y ∷ ys) zs e = absurd (none_some y (ys ++ zs) e)
split_map {A} {B} f (x ∷ xs) (y ∷ ys) zs e =
    let same = heads (f x) y (map f xs) (ys ++ zs) e in
    let later = split_map f xs ys zs (tails (f x) y (map f xs) (ys ++ zs) e) in
    (x ∷ later.0, (later.1.0, (ap (λ w. x ∷ w) later.1.1.0, (ap (λ w. f x ∷ w) later.1.1.1.0 ∙ ap (λ w. w ∷ ys) same, later.1.1.1.1))))

same_lines : {Y : Type 0} (line : Y → ℕ × CertLine) → ((other : ℕ × CertLine) (y : Y) → kept other ≡ line y → other ≡ line y)
    → (lines : List (ℕ × CertLine)) (ys : List Y) → map kept lines ≡ map line ys → lines ≡ map line ys
same_lines line same [] [] e = refl
same_lines line same [] (y ∷ ys) e = absurd (none_some (line y) (map line ys) e)
same_lines line same (other ∷ lines) [] e = absurd (some_none (kept other) (map kept lines) e)
same_lines line same (other ∷ lines) (y ∷ ys) e =
    ap (λ w. w ∷ lines) (same other y (heads (kept other) (line y) (map kept lines) (map line ys) e))
    ∙ ap (λ w. line y ∷ w) (same_lines line same lines ys (tails (kept other) (line y) (map kept lines) (map line ys) e))

abbrev is_step : CertLine → Bool
is_step (Says (say.Step step)) = true
is_step line = false

abbrev is_node : CertLine → Bool
is_node (Says (say.Node form)) = true
is_node line = false

abbrev is_proof : CertLine → Bool
is_proof (Says say.Proof) = true
is_proof line = false

same_step : (line : ℕ × CertLine) (step : Step) → kept line ≡ step_line step → line ≡ step_line step
same_step (number, Says (say.Certificate version)) step e = absurd (false≢true (ap (λ l. is_step l.1) e))
same_step (number, Says say.Proof) step e = absurd (false≢true (ap (λ l. is_step l.1) e))
same_step (number, Says say.End) step e = absurd (false≢true (ap (λ l. is_step l.1) e))
same_step line step e = e

same_node : (line : ℕ × CertLine) (node : Node) → kept line ≡ node_line node → line ≡ node_line node
same_node (number, Says (say.Certificate version)) node e = absurd (false≢true (ap (λ l. is_node l.1) e))
same_node (number, Says say.Proof) node e = absurd (false≢true (ap (λ l. is_node l.1) e))
same_node (number, Says say.End) node e = absurd (false≢true (ap (λ l. is_node l.1) e))
same_node line node e = e

same_proof : (line : ℕ × CertLine) → kept line ≡ (0, Says say.Proof) → line ≡ (line.0, Says say.Proof)
same_proof (number, Says say.Proof) e = refl
same_proof (number, Says (say.Certificate version)) e = absurd (false≢true (ap (λ l. is_proof l.1) e))
same_proof (number, Says say.End) e = absurd (false≢true (ap (λ l. is_proof l.1) e))
same_proof line e = absurd (false≢true (ap (λ l. is_proof l.1) e))

kept_steps : (steps : List Step) → map kept (map step_line steps) ≡ map step_line steps
kept_steps [] = refl
kept_steps (step ∷ steps) = ap (λ w. step_line step ∷ w) (kept_steps steps)

-- what the lines at the end say, as far as all of them say it
abbrev more : {X : Type 0} → List X → Option X → List X
more found None = []
more found (Some x) = found ++ x ∷ []

abbrev trail : {X : Type 0} → (ℕ × CertLine → Option X) → List X → List (ℕ × CertLine) → List X
trail pick found [] = found
trail pick found (line ∷ lines) = trail pick (more found (pick line)) lines

trail_on : {X : Type 0} (pick : ℕ × CertLine → Option X) (front rest : List (ℕ × CertLine)) (found : List X) → trail pick found (front ++ rest) ≡ trail pick (trail pick found front) rest
trail_on pick [] rest found = refl
trail_on pick (line ∷ front) rest found = trail_on pick front rest (more found (pick line))

trail_all : {X Y : Type 0} (pick : ℕ × CertLine → Option X) (line : Y → ℕ × CertLine) (value : Y → X) → ((y : Y) → pick (line y) ≡ Some (value y))
    → (ys : List Y) (found : List X) → trail pick found (map line ys) ≡ found ++ map value ys
trail_all pick line value picks [] found = sym (append-nil found)
trail_all pick line value picks (y ∷ ys) found =
    ap (λ o. trail pick (more found o) (map line ys)) (picks y)
    ∙ trail_all pick line value picks ys (found ++ value y ∷ [])
    ∙ append_assoc found (value y ∷ []) (map value ys)

abbrev pick_step : ℕ × CertLine → Option InstanceRef
pick_step (number, Says (say.Step step)) = Some step.origin
pick_step line = None

abbrev pick_node : ℕ × CertLine → Option Node
pick_node (number, Says (say.Node form)) = Some (node_at number form)
pick_node line = None

picks_step : (step : Step) → pick_step (step_line step) ≡ Some (origin_of step)
picks_step step = refl

picks_node : (node : Node) → pick_node (node_line node) ≡ Some node
picks_node node = refl

step_trail : (earlier : List (ℕ × CertLine)) (steps : List Step) → trail pick_step [] (earlier ++ map step_line steps) ≡ trail pick_step [] earlier ++ map origin_of steps
step_trail earlier steps = trail_on pick_step earlier (map step_line steps) [] ∙ trail_all pick_step step_line origin_of picks_step steps (trail pick_step [] earlier)

fact_trail : (earlier : List (ℕ × CertLine)) (line : ℕ) (name : List ℕ) (said : Claim) → trail pick_step [] (earlier ++ (line, Says (say.Fact name said)) ∷ []) ≡ []
fact_trail earlier line name said = trail_on pick_step earlier ((line, Says (say.Fact name said)) ∷ []) []

each_same : {X : Type 0} (xs : List X) → map (λ x. x) xs ≡ xs
each_same [] = refl
each_same (x ∷ xs) = ap (λ w. x ∷ w) (each_same xs)

tree_trail : (earlier : List (ℕ × CertLine)) (proof : ℕ) (tree : List Node) → trail pick_node [] (earlier ++ (proof, Says say.Proof) ∷ map node_line tree) ≡ tree
tree_trail earlier proof tree =
    trail_on pick_node earlier ((proof, Says say.Proof) ∷ map node_line tree) []
    ∙ trail_all pick_node node_line (λ node. node) picks_node tree []
    ∙ each_same tree

-- the last bound and its steps
record LastSteps (facts : List Fact) : Type 0 where
  earlier : List (ℕ × CertLine)
  line : ℕ
  name : List ℕ
  said : Claim
  steps : List Step
  is : flat_map fact_lines facts ≡ (earlier ++ (line, Says (say.Fact name said)) ∷ []) ++ map step_line steps
  origins : origins_of (last_fact facts) ≡ map origin_of steps

last_steps_of : (facts : List Fact) → takes_steps (last_fact facts) ≡ true → LastSteps facts
last_steps_of [] e = absurd (false≢true e)
last_steps_of (fact ∷ []) e = record {
  earlier = [];
  line = fact.line;
  name = fact.name;
  said = claim_of fact.kind;
  steps = steps_of fact.kind;
  is = append-nil (fact_lines fact);
  origins = refl;
}
last_steps_of (fact ∷ next ∷ facts) e =
    let later = last_steps_of (next ∷ facts) e in
    record {
      earlier = fact_lines fact ++ later.earlier;
      line = later.line;
      name = later.name;
      said = later.said;
      steps = later.steps;
      is = ap (λ w. fact_lines fact ++ w) later.is
          ∙ sym (append_assoc (fact_lines fact) (later.earlier ++ (later.line, Says (say.Fact later.name later.said)) ∷ []) (map step_line later.steps))
          ∙ ap (λ w. w ++ map step_line later.steps) (sym (append_assoc (fact_lines fact) later.earlier ((later.line, Says (say.Fact later.name later.said)) ∷ [])));
      origins = later.origins;
    }

-- the lines up to the steps of the last bound
record StepLines (front : List (ℕ × CertLine)) (facts : List Fact) : Type 0 where
  before : List (ℕ × CertLine)
  steps : List Step
  is : map kept front ≡ before ++ map step_line steps
  none : trail pick_step [] before ≡ []
  origins : origins_of (last_fact facts) ≡ map origin_of steps

abbrev head_of : Version → Section → List (ℕ × CertLine)
head_of One current = version_line One ∷ property_lines current
head_of Two current = version_line Two ∷ []

head_is : (version : Version) (facts : List Fact) (current : Section) → version_line version ∷ facts_read version facts current ≡ head_of version current ++ flat_map fact_lines facts
head_is One facts current = refl
head_is Two facts current = refl

step_lines : (front : List (ℕ × CertLine)) (version : Version) (facts : List Fact) (current : Section) → takes_steps (last_fact facts) ≡ true
    → map kept front ≡ version_line version ∷ facts_read version facts current → StepLines front facts
step_lines front version facts current takes is =
    let last = last_steps_of facts takes in
    let fact = (last.line, Says (say.Fact last.name last.said)) ∷ [] in
    let head = head_of version current in
    record {
      before = (head ++ last.earlier) ++ fact;
      steps = last.steps;
      is = is ∙ head_is version facts current ∙ ap (λ w. head ++ w) last.is
          ∙ sym (append_assoc head (last.earlier ++ fact) (map step_line last.steps))
          ∙ ap (λ w. w ++ map step_line last.steps) (sym (append_assoc head last.earlier fact));
      none = fact_trail (head ++ last.earlier) last.line last.name last.said;
      origins = last.origins;
    }

step_repeats : (front : List (ℕ × CertLine)) (facts : List Fact) (origin : InstanceRef) → StepLines front facts
    → list_any (same_origin origin) (origins_of (last_fact facts)) ≡ true
    → (earlier : List (ℕ × CertLine)) × (steps : List Step) × (front ≡ earlier ++ map step_line steps) × (list_any (same_origin origin) (map origin_of steps) ≡ true)
step_repeats front facts origin last found =
    let parts = split_map kept front last.before (map step_line last.steps) last.is in (
      parts.0,
      last.steps,
      parts.1.1.0 ∙ ap (λ w. parts.0 ++ w) (same_lines step_line same_step parts.1.0 last.steps parts.1.1.1.1),
      subst (λ w. list_any (same_origin origin) w ≡ true) last.origins found,
    )

or_true : (a : Bool) → (a || true) ≡ true
or_true true = refl
or_true false = refl

step_found : (front : List (ℕ × CertLine)) (facts : List Fact) (origin : InstanceRef) → StepLines front facts
    → (earlier : List (ℕ × CertLine)) (steps : List Step) → front ≡ earlier ++ map step_line steps → list_any (same_origin origin) (map origin_of steps) ≡ true
    → list_any (same_origin origin) (origins_of (last_fact facts)) ≡ true
step_found front facts origin last earlier steps is found =
    let other : map kept front ≡ map kept earlier ++ map step_line steps =
    ap (map kept) is ∙ map-append kept earlier (map step_line steps) ∙ ap (λ w. map kept earlier ++ w) (kept_steps steps) in
    let same : origins_of (last_fact facts) ≡ trail pick_step [] (map kept earlier) ++ map origin_of steps =
    last.origins ∙ ap (λ w. w ++ map origin_of last.steps) (sym last.none) ∙ sym (step_trail last.before last.steps)
    ∙ ap (trail pick_step []) (sym last.is ∙ other) ∙ step_trail (map kept earlier) steps in
    ap (list_any (same_origin origin)) same
    ∙ list_any-append (same_origin origin) (trail pick_step [] (map kept earlier)) (map origin_of steps)
    ∙ ap (λ t. list_any (same_origin origin) (trail pick_step [] (map kept earlier)) || t) found
    ∙ or_true (list_any (same_origin origin) (trail pick_step [] (map kept earlier)))

-- steps stand behind facts
record AtFacts (at : Stage) (facts : List Fact) : Type 0 where
  stage : at ≡ stage.Facts
  takes : takes_steps (last_fact facts) ≡ true

at_facts : (at : Stage) (version : Version) (facts : List Fact) (step : _) → may_stand_at at version facts (say.Step step) ≡ true → AtFacts at facts
at_facts stage.Facts version facts step e = record { stage = refl; takes = e }
at_facts at version facts step e = absurd (false≢true e)

past_steps : (front : List (ℕ × CertLine)) (draft : DraftState) (step : _) → Past draft front → may_stand draft (say.Step step) ≡ true → StepLines front draft.facts
past_steps front draft step past stands =
    let here = at_facts draft.stage draft.version draft.facts step stands in
    step_lines front draft.version draft.facts draft.current here.takes
    (past.lines ∙ ap (λ at. read_at at draft.version draft.facts draft.sections draft.current) here.stage)

-- a line repeats exactly where it is found to
repeats_at : (front : List (ℕ × CertLine)) (draft : DraftState) (statement : Statement) → Past draft front → may_stand draft statement ≡ true
    → is_repeated draft statement ≡ true → Repeats front (Says statement)
repeats_at front draft (say.Property id) past stands e = ap (list_any (bytes_eq id)) (sym past.ids) ∙ e
repeats_at front draft (say.Fact name said) past stands e = ap (list_any (bytes_eq name)) (sym past.names) ∙ e
repeats_at front draft (say.Step step) past stands e = step_repeats front draft.facts step.origin (past_steps front draft step past stands) e
repeats_at front draft statement past stands e = absurd (false≢true e)

found_at : (front : List (ℕ × CertLine)) (draft : DraftState) (statement : Statement) → Past draft front → may_stand draft statement ≡ true
    → Repeats front (Says statement) → is_repeated draft statement ≡ true
found_at front draft (say.Property id) past stands e = ap (list_any (bytes_eq id)) past.ids ∙ e
found_at front draft (say.Fact name said) past stands e = ap (list_any (bytes_eq name)) past.names ∙ e
found_at front draft (say.Step step) past stands (earlier, steps, splits, found) =
    step_found front draft.facts step.origin (past_steps front draft step past stands) earlier steps splits found
found_at front draft statement past stands e = absurd e

-- a node is past the limits exactly where it is found to be
record TreeLines (front : List (ℕ × CertLine)) (tree : List Node) : Type 0 where
  before : List (ℕ × CertLine)
  proof : ℕ
  is : front ≡ before ++ (proof, Says say.Proof) ∷ map node_line tree

behind_proof : (tree : List Node) (lines : List (ℕ × CertLine)) → map kept lines ≡ (0, Says say.Proof) ∷ map node_line tree
    → (proof : ℕ) × (lines ≡ (proof, Says say.Proof) ∷ map node_line tree)
behind_proof tree [] e = absurd (none_some _ _ e)
behind_proof tree (line ∷ lines) e = (
  line.0,
  ap (λ w. w ∷ lines) (same_proof line (heads (kept line) (0, Says say.Proof) (map kept lines) (map node_line tree) e))
      ∙ ap (λ w. (line.0, Says say.Proof) ∷ w) (same_lines node_line same_node lines tree (tails (kept line) (0, Says say.Proof) (map kept lines) (map node_line tree) e)),
)

past_tree : (front : List (ℕ × CertLine)) (draft : DraftState) (form : NodeForm) → Past draft front → may_stand draft (say.Node form) ≡ true → TreeLines front draft.current.tree
past_tree front draft form past stands =
    let here = tree_stage draft.stage draft.version draft.facts form stands in
    let there : map kept front ≡ (version_line draft.version ∷ tree_front draft.version draft.facts draft.sections draft.current) ++ (0, Says say.Proof) ∷ map node_line draft.current.tree =
    past.lines ∙ ap (λ at. read_at at draft.version draft.facts draft.sections draft.current) here in
    let parts = split_map kept front (version_line draft.version ∷ tree_front draft.version draft.facts draft.sections draft.current) ((0, Says say.Proof) ∷ map node_line draft.current.tree) there in
    let proof = behind_proof draft.current.tree parts.1.0 parts.1.1.1.1 in
    record { before = parts.0; proof = proof.0; is = parts.1.1.0 ∙ ap (λ w. parts.0 ++ w) proof.1 }

or_either : (a b : Bool) → (a || b) ≡ true → (a ≡ true) ⊎ (b ≡ true)
or_either true b e = inl refl
or_either false b e = inr e

above_of : (most : ℕ) (tree : List Node) (opens : List ℕ) → IsOpen tree opens → Grown most tree opens → HasAbove branches_on (length opens) tree
above_of most [] opens is grown = subst (λ w. HasAbove branches_on (length w) []) (sym is) refl
above_of most (root ∷ nodes) opens (count, counts, is) grown =
    subst (λ w. HasAbove branches_on (length w) (root ∷ nodes)) (sym is) (above_open branches_on most (suc count) counts root nodes (subst (λ w. Grown most (root ∷ nodes) w) is grown))

limits_at : (front : List (ℕ × CertLine)) (draft : DraftState) (statement : Statement) → Past draft front → may_stand draft statement ≡ true
    → is_past_limits draft statement ≡ true → IsPastLimits front (Says statement)
limits_at front draft (say.Node form) past stands e = by (or_either (nat_le (2 ^ 20) draft.nodes) (nat_le 256 (length draft.opens)) e)
  where
    by : (nat_le (2 ^ 20) draft.nodes ≡ true) ⊎ (nat_le 256 (length draft.opens) ≡ true) → IsPastLimits front (Says (say.Node form))
    by (inl many) = inl (subst (λ n. 2 ^ 20 ≤ n) past.nodes (leb-true (2 ^ 20) draft.nodes many))
    by (inr deep) =
        let now = node_open draft.stage draft.version draft.facts draft.sections draft.current.tree draft.opens form past.fits stands in
        let last = past_tree front draft form past stands in
        inr (
          length draft.opens,
          leb-true 256 (length draft.opens) deep,
          (last.before, last.proof, draft.current.tree, last.is, above_of now.1.0 draft.current.tree draft.opens now.0 now.1.1),
        )
limits_at front draft statement past stands e = absurd (false≢true e)

at_limits : (front : List (ℕ × CertLine)) (draft : DraftState) (statement : Statement) → Past draft front → may_stand draft statement ≡ true
    → IsPastLimits front (Says statement) → is_past_limits draft statement ≡ true
at_limits front draft (say.Node form) past stands (inl many) =
    ap (λ t. t || nat_le 256 (length draft.opens)) (le-leb (2 ^ 20) draft.nodes (subst (λ n. 2 ^ 20 ≤ n) (sym past.nodes) many))
at_limits front draft (say.Node form) past stands (inr (above, deep, (earlier, proof, tree, is, has))) =
    let now = node_open draft.stage draft.version draft.facts draft.sections draft.current.tree draft.opens form past.fits stands in
    let last = past_tree front draft form past stands in
    let same_tree : tree ≡ draft.current.tree =
    sym (tree_trail earlier proof tree) ∙ ap (trail pick_node []) (sym is ∙ last.is) ∙ tree_trail last.before last.proof draft.current.tree in
    let same : length draft.opens ≡ above =
    above_grown branches_on now.1.0 above draft.current.tree draft.opens (subst (HasAbove branches_on above) same_tree has) now.1.1 in
    let below : 256 ≤ length draft.opens = omega (arith, same, deep) in
    ap (λ t. nat_le (2 ^ 20) draft.nodes || t) (le-leb 256 (length draft.opens) below) ∙ or_true (nat_le (2 ^ 20) draft.nodes)
at_limits front draft statement past stands e = absurd e

-- the fault of a line
pub faulty_fault : (front : List (ℕ × CertLine)) (draft : DraftState) (number : ℕ) → Follows nothing_read front draft → HasLineFault front (number, Faulty) (fault.Line number)
faulty_fault front draft number follows = (refl, λ stands. by (next_stands front draft (number, Faulty) follows stands))
  where
    by : (statement : Statement) × ((Faulty ≡ Says statement) × (may_stand draft statement ≡ true)) → ⊥
    by (statement, (is, may)) = absurd (cc)

says_same : (one other : Statement) → Says one ≡ Says other → one ≡ other
says_same one other e = cc

may_next : (front : List (ℕ × CertLine)) (draft : DraftState) (number : ℕ) (statement : Statement) → Follows nothing_read front draft
    → Stands (front ++ (number, Says statement) ∷ []) → may_stand draft statement ≡ true
may_next front draft number statement follows stands =
    let next = next_stands front draft (number, Says statement) follows stands in
    subst (λ s. may_stand draft s ≡ true) (sym (says_same statement next.0 next.1.0)) next.1.1

pub line_fault : (front : List (ℕ × CertLine)) (draft : DraftState) (number : ℕ) (statement : Statement) (refusal : CertFault) → Follows nothing_read front draft → Past draft front
    → take_statement number draft statement ≡ Err refusal → HasLineFault front (number, Says statement) refusal
line_fault front draft number statement refusal follows past e =
    by (may_stand draft statement) (is_repeated draft statement) (are_past (amounts_of statement)) (is_past_limits draft statement) refl refl refl refl e
  where
    unrepeated : may_stand draft statement ≡ true → is_repeated draft statement ≡ false → Repeats front (Says statement) → ⊥
    unrepeated stands fresh repeats =
        true≢false (sym (found_at front draft statement past stands repeats) ∙ fresh)

    by : (a b c d : Bool) → may_stand draft statement ≡ a → is_repeated draft statement ≡ b → are_past (amounts_of statement) ≡ c → is_past_limits draft statement ≡ d
        → (if a then (if b then Err (fault.Repeated number) else if c then Err (fault.Coefficient number) else if d then Err (fault.CertLimit number) else Ok (after number draft statement)) else Err (fault.Line number)) ≡ Err refusal
        → HasLineFault front (number, Says statement) refusal
    by false b c d is repeated sums limit e =
        let same : fault.Line number ≡ refusal = cc in
        subst (HasLineFault front (number, Says statement)) same (refl, λ stands. false≢true (sym is ∙ may_next front draft number statement follows stands))
    by true true c d is repeated sums limit e =
        let same : fault.Repeated number ≡ refusal = cc in
        subst (HasLineFault front (number, Says statement)) same
        (refl, stands_next front draft number statement follows is, repeats_at front draft statement past is repeated)
    by true false true d is repeated sums limit e =
        let same : fault.Coefficient number ≡ refusal = cc in
        subst (HasLineFault front (number, Says statement)) same (refl, stands_next front draft number statement follows is, unrepeated is repeated, sums)
    by true false false true is repeated sums limit e =
        let same : fault.CertLimit number ≡ refusal = cc in
        subst (HasLineFault front (number, Says statement)) same
        (refl, stands_next front draft number statement follows is, unrepeated is repeated, sums, limits_at front draft statement past is limit)
    by true false false false is repeated sums limit e = absurd (cc)

pub no_line_fault : (front : List (ℕ × CertLine)) (draft : DraftState) (number : ℕ) (statement : Statement) (refusal : CertFault) → Follows nothing_read front draft → Past draft front
    → may_stand draft statement ≡ true → is_repeated draft statement ≡ false → are_past (amounts_of statement) ≡ false → is_past_limits draft statement ≡ false
    → HasLineFault front (number, Says statement) refusal → ⊥
no_line_fault front draft number statement (fault.Line n) follows past stands fresh small within (is, not) = not (stands_next front draft number statement follows stands)
no_line_fault front draft number statement (fault.Repeated n) follows past stands fresh small within (is, stood, repeats) =
    true≢false (sym (found_at front draft statement past stands repeats) ∙ fresh)
no_line_fault front draft number statement (fault.Coefficient n) follows past stands fresh small within (is, stood, new, sums) = true≢false (sym sums ∙ small)
no_line_fault front draft number statement (fault.CertLimit n) follows past stands fresh small within (is, stood, new, sums, limit) =
    true≢false (sym (at_limits front draft statement past stands limit) ∙ within)
no_line_fault front draft number statement fault.Memory follows past stands fresh small within has = has
