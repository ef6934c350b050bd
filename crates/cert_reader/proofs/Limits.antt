-- What is asked of a certificate beside the order of its lines, as the draft grows.
use Rattle.std.proofs.Common.{◌≡◌, ℕ, suc, ◌+◌, ◌<◌, ◌≤◌, Bool, true, false, ◌&&◌, List, [], ◌∷◌, ◌++◌, length, map, inl, inr, refl, sym, ap, subst, ◌∙◌, arith}
use Rattle.std.specs.Prelude.{◌^◌, nat_eq, nat_le}
use Rattle.std.specs.Bool.{⊤}
use Rattle.std.specs.List.{AllByRecursion, IsDistinct, list_any}
use Rattle.std.specs.Str.{bytes_eq}
use Rattle.std.proofs.lemmas.Bool.{false≢true, leb-false, lt-leb, or_from, or_parts}
use Rattle.std.proofs.lemmas.Cmp.{nat_eq_equiv, nat_list_eq_equiv}
use Rattle.std.proofs.lemmas.List.{map-append}
use Rattle.line_words.specs.declared.items.InstanceRef.{InstanceRef}
use Rattle.cert_lines.specs.Order.{origin_of, steps_of}
use Rattle.cert_lines.specs.Statements.{CertLine}
use Rattle.cert_lines.specs.declared.certificates.Fact.{Fact}
use Rattle.cert_lines.specs.declared.certificates.FactKind.{FactKind}
use Rattle.cert_lines.specs.declared.certificates.FactKind.TheVariants.{Flow, Trap, Bound}
use Rattle.cert_lines.specs.declared.certificates.Node.{Node}
use Rattle.cert_lines.specs.declared.certificates.NodeForm.{NodeForm}
use Rattle.cert_lines.specs.declared.certificates.Section.{Section}
use Rattle.cert_lines.specs.declared.certificates.Step.{Step}
use Rattle.cert_lines.specs.declared.certificates.Version.{Version}
use Rattle.cert_lines.specs.declared.certificates.Version.TheVariants.{One, Two}
use Rattle.cert_lines.specs.declared.statements.Statement.{Statement}
use Rattle.cert_lines.specs.declared.statements.Statement.TheVariants as say
use Rattle.prefix_trees.specs.Trees.{opens_after}
use Rattle.cert_reader.specs.Grammar.{IsTree}
use Rattle.cert_reader.specs.Reading.{DraftState, after, branches_of, branches_on, draft_of, fact_at, grown_section, is_past_limits, is_repeated, last_fact, may_stand, may_stand_at, names_of, node_at, origins_of, same_origin, settled_by, stage_after, stage_behind, stepped, with_node, with_step}
use Rattle.cert_reader.specs.declared.stages.Stage.{Stage}
use Rattle.cert_reader.specs.declared.stages.Stage.TheVariants as stage
use Rattle.cert_reader.proofs.FactLists.{names_of_grown, names_with_step}
use Rattle.cert_reader.proofs.Lists.{all_less, all_more, distinct_less, distinct_more}
use Rattle.cert_reader.proofs.Orders.{Follows}
use Rattle.cert_reader.proofs.Read.{FitsAt, IsOpen, Past, Settles, no_steps_begun, past_after, settled_facts, settled_ids, settled_nodes, settles, some_more}
use Rattle.prefix_trees.proofs.Climbs.{grown_less, grown_more, grown_once, grown_tree, tree_grown}
use Rattle.cert_reader.proofs.Trees.{Grown}

names_flip : (x y : List ℕ) → bytes_eq x y ≡ bytes_eq y x
names_flip x y = nat_list_eq_equiv.symm x y

origins_flip : (x y : InstanceRef) → same_origin x y ≡ same_origin y x
origins_flip x y =
    ap (λ t. t && nat_eq x.binding y.binding) (names_flip x.transition y.transition)
    ∙ ap (λ t. bytes_eq y.transition x.transition && t) (nat_eq_equiv.symm x.binding y.binding)

-- what is asked of the facts, ids and trees so far
abbrev pub AreApart : Fact → Type 0
AreApart fact = IsDistinct same_origin (map origin_of (steps_of fact.kind))

abbrev pub IsLow : Section → Type 0
IsLow section = IsTree 256 section.tree

-- the tree that isn't whole
abbrev pub IsLowAt : Stage → List Node → List ℕ → Type 0
IsLowAt stage.Tree tree opens = Grown 256 tree opens
IsLowAt at tree opens = ⊤

pub record Limited (draft : DraftState) : Type 0 where
  pub names : IsDistinct bytes_eq (names_of draft.facts)
  pub steps : AllByRecursion AreApart draft.facts
  pub ids : IsDistinct bytes_eq draft.ids
  pub nodes : draft.nodes ≤ 2 ^ 20
  pub trees : AllByRecursion IsLow draft.sections
  pub grown : IsLowAt draft.stage draft.current.tree draft.opens

-- one more step of the last fact
step_more : (line : ℕ) (name : List ℕ) (kind : FactKind) (step : Step) → IsDistinct same_origin (map origin_of (steps_of kind))
    → list_any (same_origin (origin_of step)) (map origin_of (steps_of kind)) ≡ false → AreApart (stepped (record { line = line; name = name; kind = kind }) step)
unfolding IsDistinct
step_more line name (Flow weights) step apart fresh = tt
step_more line name (Trap places) step apart fresh = tt
step_more line name (Bound limit weights steps) step apart fresh =
    subst (IsDistinct same_origin) (sym (map-append origin_of steps (step ∷ []))) (distinct_more same_origin origins_flip (map origin_of steps) (origin_of step) apart fresh)

steps_more : (facts : List Fact) (step : Step) → AllByRecursion AreApart facts → list_any (same_origin (origin_of step)) (origins_of (last_fact facts)) ≡ false
    → AllByRecursion AreApart (with_step facts step)
steps_more [] step are fresh = tt
steps_more (fact ∷ []) step (is, none) fresh = (step_more fact.line fact.name fact.kind step is fresh, tt)
steps_more (fact ∷ next ∷ facts) step (is, are) fresh = (is, steps_more (next ∷ facts) step are fresh)

step_less : (line : ℕ) (name : List ℕ) (kind : FactKind) (step : Step) → AreApart (stepped (record { line = line; name = name; kind = kind }) step)
    → IsDistinct same_origin (map origin_of (steps_of kind)) × (list_any (same_origin (origin_of step)) (map origin_of (steps_of kind)) ≡ false)
unfolding IsDistinct
step_less line name (Flow weights) step apart = (tt, refl)
step_less line name (Trap places) step apart = (tt, refl)
step_less line name (Bound limit weights steps) step apart =
    distinct_less same_origin origins_flip (map origin_of steps) (origin_of step) (subst (IsDistinct same_origin) (map-append origin_of steps (step ∷ [])) apart)

steps_less : (facts : List Fact) (step : Step) → AllByRecursion AreApart (with_step facts step)
    → AllByRecursion AreApart facts × (list_any (same_origin (origin_of step)) (origins_of (last_fact facts)) ≡ false)
steps_less [] step are = (tt, refl)
steps_less (fact ∷ []) step (is, none) = let parts = step_less fact.line fact.name fact.kind step is in ((parts.0, tt), parts.1)
steps_less (fact ∷ next ∷ facts) step (is, are) = let parts = steps_less (next ∷ facts) step are in ((is, parts.0), parts.1)

-- one more node
pub node_open : (at : Stage) (version : Version) (facts : List Fact) (sections : List Section) (tree : List Node) (opens : List ℕ) (form : NodeForm)
    → FitsAt at version facts sections tree opens → may_stand_at at version facts (say.Node form) ≡ true → IsOpen tree opens × ((most : ℕ) × Grown most tree opens)
node_open stage.Tree version facts sections tree opens form fits e = (fits.1, fits.2)
node_open at version facts sections tree opens form fits e = absurd (false≢true e)

pub tree_stage : (at : Stage) (version : Version) (facts : List Fact) (form : NodeForm) → may_stand_at at version facts (say.Node form) ≡ true → at ≡ stage.Tree
tree_stage stage.Tree version facts form e = refl
tree_stage at version facts form e = absurd (false≢true e)

node_more : (tree : List Node) (opens : List ℕ) (node : Node) → IsOpen tree opens → Grown 256 tree opens → length opens < 256
    → Grown 256 (tree ++ node ∷ []) (opens_after (branches_of node.form) opens)
node_more [] opens node is grown within = (omega arith, ap (opens_after (branches_of node.form)) is)
node_more (root ∷ nodes) opens node (count, counts, is) grown within =
    subst (λ w. Grown 256 ((root ∷ nodes) ++ node ∷ []) (opens_after (branches_of node.form) w)) (sym is)
    (grown_more branches_on 256 node (suc count) counts (root ∷ nodes) (subst (λ w. length w < 256) is within) (subst (λ w. Grown 256 (root ∷ nodes) w) is grown))

-- the tree is low exactly where it was so when it went to the others
record IsLowDraft (d : DraftState) : Type 0 where
  trees : AllByRecursion IsLow d.sections
  grown : IsLowAt d.stage d.current.tree d.opens

low_settled : (w : List ℕ) (version : Version) (facts : List Fact) (ids : List (List ℕ)) (sections : List Section) (current : Section) (nodes : ℕ)
    (root : Node) (rest : List Node) → current.tree ≡ root ∷ rest → AllByRecursion IsLow sections → Grown 256 current.tree w
    → IsLowDraft (settled_by w (draft_of stage.Tree version facts ids sections current w nodes))
low_settled [] version facts ids sections current nodes root rest some trees grown = record {
  trees = all_more IsLow sections current trees
      (subst (IsTree 256) (sym some) (tree_grown branches_on 256 root rest (subst (λ t. Grown 256 t []) some grown)));
  grown = tt;
}
low_settled (count ∷ counts) version facts ids sections current nodes root rest some trees grown = record { trees = trees; grown = grown }

low_before : (w : List ℕ) → Settles w → (version : Version) (facts : List Fact) (ids : List (List ℕ)) (sections : List Section) (current : Section) (nodes : ℕ)
    → IsLowDraft (settled_by w (draft_of stage.Tree version facts ids sections current w nodes)) → AllByRecursion IsLow sections × Grown 256 current.tree w
low_before w (inl e) version facts ids sections current nodes low =
    let there = subst (λ w. IsLowDraft (settled_by w (draft_of stage.Tree version facts ids sections current w nodes))) e low in
    let parts = all_less IsLow sections current there.trees in
    (parts.0, subst (λ w. Grown 256 current.tree w) (sym e) (grown_tree branches_on 256 current.tree parts.1))
low_before w (inr (count, counts, e)) version facts ids sections current nodes low =
    let there = subst (λ w. IsLowDraft (settled_by w (draft_of stage.Tree version facts ids sections current w nodes))) e low in
    (there.trees, subst (λ w. Grown 256 current.tree w) (sym e) there.grown)

-- a stage other than that of the nodes asks nothing of the tree
abbrev IsNoNode : Statement → Type 0
IsNoNode (say.Node form) = ⊥
IsNoNode statement = ⊤

low_unless : (at : Stage) (version : Version) (facts : List Fact) (statement : Statement) (tree : List Node) (opens : List ℕ)
    → may_stand_at at version facts statement ≡ true → IsNoNode statement → IsLowAt at tree opens
low_unless stage.Version version facts statement tree opens e other = tt
low_unless stage.Property version facts statement tree opens e other = tt
low_unless stage.Facts version facts statement tree opens e other = tt
low_unless stage.Proof version facts statement tree opens e other = tt
low_unless stage.Sections version facts statement tree opens e other = tt
low_unless stage.Nothing version facts statement tree opens e other = tt
low_unless stage.Tree version facts (say.Node form) tree opens e other = absurd other
low_unless stage.Tree version facts statement tree opens e other = absurd (false≢true e)

low_version : (version : Version) (tree : List Node) (opens : List ℕ) → IsLowAt (stage_after version) tree opens
low_version One tree opens = tt
low_version Two tree opens = tt

low_property : (version : Version) (tree : List Node) (opens : List ℕ) → IsLowAt (stage_behind version) tree opens
low_property One tree opens = tt
low_property Two tree opens = tt

low_proof : (at : Stage) (version : Version) (facts : List Fact) (sections : List Section) (tree : List Node) (opens : List ℕ)
    → FitsAt at version facts sections tree opens → may_stand_at at version facts say.Proof ≡ true → Grown 256 tree opens
low_proof stage.Facts version facts sections tree opens fits e = subst (λ t. Grown 256 t opens) (sym fits.1) fits.2
low_proof stage.Proof version facts sections tree opens fits e = subst (λ t. Grown 256 t opens) (sym fits.1) fits.2
low_proof at version facts sections tree opens fits e = absurd (false≢true e)

-- what is asked stays true exactly where the line has no fault
pub record WasLimited (draft : DraftState) (statement : Statement) : Type 0 where
  pub limited : Limited draft
  pub fresh : is_repeated draft statement ≡ false
  pub within : is_past_limits draft statement ≡ false

module _ (number : ℕ) (draft : DraftState) (front : List (ℕ × CertLine)) (past : Past draft front) where
  pub limited_after : (statement : Statement) → may_stand draft statement ≡ true
      → is_repeated draft statement ≡ false → is_past_limits draft statement ≡ false → Limited draft → Limited (after number draft statement)
  unfolding IsDistinct
  limited_after (say.Certificate version) stands fresh within is =
      record { names = is.names; steps = is.steps; ids = is.ids; nodes = is.nodes; trees = is.trees; grown = low_version version draft.current.tree draft.opens }
  limited_after (say.Property id) stands fresh within is = record {
    names = is.names;
    steps = is.steps;
    ids = distinct_more bytes_eq names_flip draft.ids id is.ids fresh;
    nodes = is.nodes;
    trees = is.trees;
    grown = low_property draft.version [] draft.opens;
  }
  limited_after (say.Fact name said) stands fresh within is = record {
    names = subst (IsDistinct bytes_eq) (sym (names_of_grown draft.facts (fact_at number name said))) (distinct_more bytes_eq names_flip (names_of draft.facts) name is.names fresh);
    steps = all_more AreApart draft.facts (fact_at number name said) is.steps (subst (λ steps. IsDistinct same_origin (map origin_of steps)) (sym (no_steps_begun said)) tt);
    ids = is.ids;
    nodes = is.nodes;
    trees = is.trees;
    grown = is.grown;
  }
  limited_after (say.Step step) stands fresh within is = record {
    names = subst (IsDistinct bytes_eq) (sym (names_with_step draft.facts _)) is.names;
    steps = steps_more draft.facts _ is.steps fresh;
    ids = is.ids;
    nodes = is.nodes;
    trees = is.trees;
    grown = is.grown;
  }
  limited_after say.Proof stands fresh within is = record {
    names = is.names;
    steps = is.steps;
    ids = is.ids;
    nodes = is.nodes;
    trees = is.trees;
    grown = low_proof draft.stage draft.version draft.facts draft.sections draft.current.tree draft.opens past.fits stands;
  }
  limited_after (say.Node form) stands fresh within is =
      let node = node_at number form in
      let opens = opens_after (branches_of form) draft.opens in
      let next = with_node draft node opens in
      let parts = or_parts (nat_le (2 ^ 20) draft.nodes) (nat_le 256 (length draft.opens)) within in
      let room : draft.nodes < 2 ^ 20 = leb-false (2 ^ 20) draft.nodes parts.0 in
      let depth : length draft.opens < 256 = leb-false 256 (length draft.opens) parts.1 in
      let now = node_open draft.stage draft.version draft.facts draft.sections draft.current.tree draft.opens form past.fits stands in
      let at_tree = tree_stage draft.stage draft.version draft.facts form stands in
      let some = some_more draft.current.tree node in
      let grown : Grown 256 draft.current.tree draft.opens = subst (λ at. IsLowAt at draft.current.tree draft.opens) at_tree is.grown in
      let low = low_settled opens draft.version draft.facts draft.ids draft.sections (grown_section draft.current node) (draft.nodes + 1) some.0 some.1.0 some.1.1
      is.trees (node_more draft.current.tree draft.opens node now.0 grown depth) in
      let count : (settled_by opens next).nodes ≡ draft.nodes + 1 = settled_nodes opens next in
      record {
        names = subst (λ facts. IsDistinct bytes_eq (names_of facts)) (sym (settled_facts opens next)) is.names;
        steps = subst (AllByRecursion AreApart) (sym (settled_facts opens next)) is.steps;
        ids = subst (IsDistinct bytes_eq) (sym (settled_ids opens next)) is.ids;
        nodes = omega (arith, count, room);
        trees = low.trees;
        grown = low.grown;
      }
  limited_after say.End stands fresh within is =
      record { names = is.names; steps = is.steps; ids = is.ids; nodes = is.nodes; trees = is.trees; grown = tt }

  pub limited_before : (statement : Statement) → may_stand draft statement ≡ true
      → Limited (after number draft statement) → WasLimited draft statement
  limited_before (say.Certificate version) stands is =
      let low = low_unless draft.stage draft.version draft.facts (say.Certificate version) draft.current.tree draft.opens stands tt in
      record { limited = record { names = is.names; steps = is.steps; ids = is.ids; nodes = is.nodes; trees = is.trees; grown = low }; fresh = refl; within = refl }
  limited_before (say.Property id) stands is =
      let low = low_unless draft.stage draft.version draft.facts (say.Property id) draft.current.tree draft.opens stands tt in
      let ids = distinct_less bytes_eq names_flip draft.ids id is.ids in
      record { limited = record { names = is.names; steps = is.steps; ids = ids.0; nodes = is.nodes; trees = is.trees; grown = low }; fresh = ids.1; within = refl }
  limited_before (say.Fact name said) stands is =
      let names = distinct_less bytes_eq names_flip (names_of draft.facts) name (subst (IsDistinct bytes_eq) (names_of_grown draft.facts (fact_at number name said)) is.names) in
      let steps = all_less AreApart draft.facts (fact_at number name said) is.steps in
      record { limited = record { names = names.0; steps = steps.0; ids = is.ids; nodes = is.nodes; trees = is.trees; grown = is.grown }; fresh = names.1; within = refl }
  limited_before (say.Step step) stands is =
      let names : IsDistinct bytes_eq (names_of draft.facts) = subst (IsDistinct bytes_eq) (names_with_step draft.facts _) is.names in
      let steps = steps_less draft.facts _ is.steps in
      record { limited = record { names = names; steps = steps.0; ids = is.ids; nodes = is.nodes; trees = is.trees; grown = is.grown }; fresh = steps.1; within = refl }
  limited_before say.Proof stands is =
      let low = low_unless draft.stage draft.version draft.facts say.Proof draft.current.tree draft.opens stands tt in
      record { limited = record { names = is.names; steps = is.steps; ids = is.ids; nodes = is.nodes; trees = is.trees; grown = low }; fresh = refl; within = refl }
  limited_before (say.Node form) stands is =
      let node = node_at number form in
      let opens = opens_after (branches_of form) draft.opens in
      let next = with_node draft node opens in
      let now = node_open draft.stage draft.version draft.facts draft.sections draft.current.tree draft.opens form past.fits stands in
      let at_tree = tree_stage draft.stage draft.version draft.facts form stands in
      let low = low_before opens (settles (branches_of form ∷ _)) draft.version draft.facts draft.ids draft.sections (grown_section draft.current node) (draft.nodes + 1)
      (record { trees = is.trees; grown = is.grown }) in
      let less = grown_less branches_on 256 node draft.current.tree _ low.1 in
      let same : less.0 ≡ draft.opens = grown_once branches_on 256 now.1.0 draft.current.tree less.0 draft.opens less.1.0 now.1.1 in
      let grown : Grown 256 draft.current.tree draft.opens = subst (λ w. Grown 256 draft.current.tree w) same less.1.0 in
      let depth : length draft.opens < 256 = subst (λ w. length w < 256) same less.1.1 in
      let count : (settled_by opens next).nodes ≡ draft.nodes + 1 = settled_nodes opens next in
      let room : draft.nodes < 2 ^ 20 = omega (arith, count, is.nodes) in
      record {
        limited = record {
          names = subst (λ facts. IsDistinct bytes_eq (names_of facts)) (settled_facts opens next) is.names;
          steps = subst (AllByRecursion AreApart) (settled_facts opens next) is.steps;
          ids = subst (IsDistinct bytes_eq) (settled_ids opens next) is.ids;
          nodes = omega (arith, room);
          trees = low.0;
          grown = subst (λ at. IsLowAt at draft.current.tree draft.opens) (sym at_tree) grown;
        };
        fresh = refl;
        within = or_from (nat_le (2 ^ 20) draft.nodes) (nat_le 256 (length draft.opens)) (lt-leb (2 ^ 20) draft.nodes room) (lt-leb 256 (length draft.opens) depth);
      }
  limited_before say.End stands is =
      let low = low_unless draft.stage draft.version draft.facts say.End draft.current.tree draft.opens stands tt in
      record { limited = record { names = is.names; steps = is.steps; ids = is.ids; nodes = is.nodes; trees = is.trees; grown = low }; fresh = refl; within = refl }

pub limited_back : (lines : List (ℕ × CertLine)) (draft last : DraftState) (front : List (ℕ × CertLine)) → Past draft front → Follows draft lines last → Limited last → Limited draft
limited_back [] draft last front past follows is = subst Limited follows is
limited_back (line ∷ lines) draft last front past (statement, says, stands, follows) is =
    (limited_before line.0 draft front past statement stands
    (limited_back lines (after line.0 draft statement) last _ (past_after line.0 draft front statement past stands) follows is)).limited
