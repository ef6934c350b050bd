-- Which lines have been read, by what the draft has.
use Rattle.std.proofs.Common.{◌≡◌, ℕ, zero, suc, ◌+◌, true, false, List, [], ◌∷◌, ◌++◌, length, map, flat_map, ◌⊎◌, inl, inr, refl, sym, ap, subst, ◌∙◌, arith}
use Rattle.std.specs.Bool.{⊤}
use Rattle.std.specs.List.{AllByRecursion}
use Rattle.std.proofs.lemmas.Bool.{false≢true}
use Rattle.std.proofs.lemmas.Grind.{flat_map-append}
use Rattle.std.proofs.lemmas.List.{append_assoc, append-nil, length-append, map-append}
use Rattle.line_words.specs.declared.lines.Line.TheVariants.{Says}
use Rattle.cert_lines.specs.Order.{body_lines, claim_of, end_line, fact_lines, node_line, property_lines, section_lines, step_line, steps_of, tree_lines, version_line}
use Rattle.cert_lines.specs.Statements.{CertLine}
use Rattle.cert_lines.specs.declared.certificates.Fact.{Fact}
use Rattle.cert_lines.specs.declared.certificates.FactKind.{FactKind}
use Rattle.cert_lines.specs.declared.certificates.FactKind.TheVariants.{Flow, Trap, Bound}
use Rattle.cert_lines.specs.declared.certificates.Node.{Node}
use Rattle.cert_lines.specs.declared.certificates.NodeForm.{NodeForm}
use Rattle.cert_lines.specs.declared.certificates.Section.{Section}
use Rattle.cert_lines.specs.declared.certificates.Version.{Version}
use Rattle.cert_lines.specs.declared.certificates.Version.TheVariants.{One, Two}
use Rattle.cert_lines.specs.declared.statements.Claim.{Claim}
use Rattle.cert_lines.specs.declared.statements.Claim.TheVariants as claim
use Rattle.cert_lines.specs.declared.statements.Statement.{Statement}
use Rattle.cert_lines.specs.declared.statements.Statement.TheVariants as say
use Rattle.cert_lines.specs.declared.statements.StepClaim.{StepClaim}
use Rattle.prefix_trees.specs.Trees.{opens_after, still_open}
use Rattle.cert_reader.specs.Grammar.{HasItsSections, HasTrees, IsSomeTree, IsTree, id_on, ids_on, kept, name_on, names_on, node_on, nodes_on}
use Rattle.cert_reader.specs.Reading.{DraftState, after, branches_of, branches_on, draft_of, fact_at, grown_section, is_bound, kind_of, last_fact, may_stand, may_stand_at, names_of, node_at, nothing_read, settled_by, step_at, stepped, takes_steps, with_step}
use Rattle.cert_reader.specs.declared.stages.Stage.{Stage}
use Rattle.cert_reader.specs.declared.stages.Stage.TheVariants as stage
use Rattle.cert_reader.proofs.FactLists.{names_of_grown, names_with_step}
use Rattle.cert_reader.proofs.Lists.{all_more}
use Rattle.prefix_trees.proofs.Climbs.{grown_more, grown_wider, tree_grown}
use Rattle.cert_reader.proofs.Trees.{Grown}

-- the lines before the `proof` of the last property
abbrev pub tree_front : Version → List Fact → List Section → Section → List (ℕ × CertLine)
tree_front One facts sections last = flat_map property_lines (sections ++ last ∷ []) ++ (flat_map fact_lines facts ++ flat_map tree_lines sections)
tree_front Two facts sections last = body_lines Two facts sections ++ property_lines last

pub body_tree : (version : Version) (facts : List Fact) (sections : List Section) (last : Section)
    → body_lines version facts (sections ++ last ∷ []) ≡ tree_front version facts sections last ++ tree_lines last
body_tree One facts sections last =
    let properties = flat_map property_lines (sections ++ last ∷ []) in
    let before = flat_map fact_lines facts in
    ap (λ w. properties ++ (before ++ w)) (flat_map-append tree_lines sections (last ∷ []) ∙ ap (λ w. flat_map tree_lines sections ++ w) (append-nil (tree_lines last)))
    ∙ ap (λ w. properties ++ w) (sym (append_assoc before (flat_map tree_lines sections) (tree_lines last)))
    ∙ sym (append_assoc properties (before ++ flat_map tree_lines sections) (tree_lines last))
body_tree Two facts sections last =
    let before = flat_map fact_lines facts in
    ap (λ w. before ++ w) (flat_map-append section_lines sections (last ∷ []) ∙ ap (λ w. flat_map section_lines sections ++ w) (append-nil (section_lines last)))
    ∙ sym (append_assoc before (flat_map section_lines sections) (section_lines last))
    ∙ sym (append_assoc (body_lines Two facts sections) (property_lines last) (tree_lines last))

front_same : (version : Version) (facts : List Fact) (sections : List Section) (last : Section) (node : Node)
    → tree_front version facts sections (grown_section last node) ≡ tree_front version facts sections last
front_same One facts sections last node =
    ap (λ w. w ++ (flat_map fact_lines facts ++ flat_map tree_lines sections))
    (flat_map-append property_lines sections (grown_section last node ∷ []) ∙ sym (flat_map-append property_lines sections (last ∷ [])))
front_same Two facts sections last node = refl

-- the lines that have been read
abbrev pub facts_read : Version → List Fact → Section → List (ℕ × CertLine)
facts_read One facts current = property_lines current ++ flat_map fact_lines facts
facts_read Two facts current = flat_map fact_lines facts

abbrev pub read_at : Stage → Version → List Fact → List Section → Section → List (ℕ × CertLine)
read_at stage.Version version facts sections current = []
read_at stage.Property version facts sections current = version_line version ∷ []
read_at stage.Facts version facts sections current = version_line version ∷ facts_read version facts current
read_at stage.Proof version facts sections current = version_line version ∷ tree_front version facts sections current
read_at stage.Tree version facts sections current = version_line version ∷ (tree_front version facts sections current ++ tree_lines current)
read_at stage.Sections version facts sections current = version_line version ∷ body_lines version facts sections
read_at stage.Nothing version facts sections current = version_line version ∷ (body_lines version facts sections ++ end_line ∷ [])

abbrev pub read : DraftState → List (ℕ × CertLine)
read d = read_at d.stage d.version d.facts d.sections d.current

-- before the root nothing is open, and behind it something
abbrev pub IsOpen : List Node → List ℕ → Type 0
IsOpen [] opens = opens ≡ []
IsOpen (root ∷ nodes) opens = (count : ℕ) × (counts : List ℕ) × (opens ≡ suc count ∷ counts)

-- what there can't be yet
abbrev pub IsAlone : Version → List Section → Type 0
IsAlone One sections = sections ≡ []
IsAlone Two sections = ⊤

abbrev pub IsNew : List Section → List Node → List ℕ → Type 0
IsNew sections tree opens = (sections ≡ []) × (tree ≡ []) × (opens ≡ [])

abbrev pub FitsAt : Stage → Version → List Fact → List Section → List Node → List ℕ → Type 0
FitsAt stage.Version version facts sections tree opens = (facts ≡ []) × IsNew sections tree opens
FitsAt stage.Property version facts sections tree opens = (version ≡ One) × (facts ≡ []) × IsNew sections tree opens
FitsAt stage.Facts version facts sections tree opens = IsNew sections tree opens
FitsAt stage.Proof version facts sections tree opens = (version ≡ Two) × (tree ≡ []) × (opens ≡ [])
FitsAt stage.Tree version facts sections tree opens = IsAlone version sections × IsOpen tree opens × ((most : ℕ) × Grown most tree opens)
FitsAt stage.Sections version facts sections tree opens = HasItsSections version sections × (opens ≡ [])
FitsAt stage.Nothing version facts sections tree opens = HasItsSections version sections

abbrev pub Fits : DraftState → Type 0
Fits d = FitsAt d.stage d.version d.facts d.sections d.current.tree d.opens

-- one more fact, and one more step of the last fact
claim_begun : (said : Claim) → claim_of (kind_of said) ≡ said
claim_begun (claim.Flow weights) = refl
claim_begun (claim.Trap places) = refl
claim_begun (claim.Bound limit weights) = refl

pub no_steps_begun : (said : Claim) → steps_of (kind_of said) ≡ []
no_steps_begun (claim.Flow weights) = refl
no_steps_begun (claim.Trap places) = refl
no_steps_begun (claim.Bound limit weights) = refl

fact_begun : (number : ℕ) (name : List ℕ) (said : Claim) → fact_lines (fact_at number name said) ≡ (number, Says (say.Fact name said)) ∷ []
fact_begun number name said =
    ap (λ c. (number, Says (say.Fact name c)) ∷ map step_line (steps_of (kind_of said))) (claim_begun said)
    ∙ ap (λ steps. (number, Says (say.Fact name said)) ∷ map step_line steps) (no_steps_begun said)

more_facts : (number : ℕ) (name : List ℕ) (said : Claim) (facts : List Fact)
    → flat_map fact_lines (facts ++ fact_at number name said ∷ []) ≡ flat_map fact_lines facts ++ (number, Says (say.Fact name said)) ∷ []
more_facts number name said facts =
    flat_map-append fact_lines facts (fact_at number name said ∷ [])
    ∙ ap (λ w. flat_map fact_lines facts ++ w) (append-nil (fact_lines (fact_at number name said)) ∙ fact_begun number name said)

more_steps : (number line : ℕ) (name : List ℕ) (kind : FactKind) (step : StepClaim) → is_bound kind ≡ true
    → fact_lines (stepped (record { line = line; name = name; kind = kind }) (step_at number step))
    ≡ fact_lines (record { line = line; name = name; kind = kind }) ++ (number, Says (say.Step step)) ∷ []
more_steps number line name (Flow weights) step e = absurd (false≢true e)
more_steps number line name (Trap places) step e = absurd (false≢true e)
more_steps number line name (Bound limit weights steps) step e =
    ap (λ w. (line, Says (say.Fact name (claim.Bound limit weights))) ∷ w) (map-append step_line steps (step_at number step ∷ []))

last_steps : (number : ℕ) (step : StepClaim) (facts : List Fact) → takes_steps (last_fact facts) ≡ true
    → flat_map fact_lines (with_step facts (step_at number step)) ≡ flat_map fact_lines facts ++ (number, Says (say.Step step)) ∷ []
last_steps number step [] e = absurd (false≢true e)
last_steps number step (fact ∷ []) e =
    append-nil (fact_lines (stepped fact (step_at number step))) ∙ more_steps number fact.line fact.name fact.kind step e
    ∙ ap (λ w. w ++ (number, Says (say.Step step)) ∷ []) (sym (append-nil (fact_lines fact)))
last_steps number step (fact ∷ next ∷ facts) e =
    ap (λ w. fact_lines fact ++ w) (last_steps number step (next ∷ facts) e)
    ∙ sym (append_assoc (fact_lines fact) (flat_map fact_lines (next ∷ facts)) ((number, Says (say.Step step)) ∷ []))

-- a tree that is whole goes to the others
settled_read : (w : List ℕ) (version : Version) (facts : List Fact) (ids : List (List ℕ)) (sections : List Section) (current : Section) (opens : List ℕ) (nodes : ℕ)
    → read (settled_by w (draft_of stage.Tree version facts ids sections current opens nodes))
    ≡ version_line version ∷ (tree_front version facts sections current ++ tree_lines current)
settled_read [] version facts ids sections current opens nodes = ap (λ w. version_line version ∷ w) (body_tree version facts sections current)
settled_read (count ∷ counts) version facts ids sections current opens nodes = refl

node_read : (number : ℕ) (form : NodeForm) (version : Version) (facts : List Fact) (sections : List Section) (current : Section)
    → version_line version ∷ (tree_front version facts sections (grown_section current (node_at number form)) ++ tree_lines (grown_section current (node_at number form)))
    ≡ (version_line version ∷ (tree_front version facts sections current ++ tree_lines current)) ++ (number, Says (say.Node form)) ∷ []
node_read number form version facts sections current =
    let node = node_at number form in
    let front = tree_front version facts sections current in
    ap (λ w. version_line version ∷ (w ++ tree_lines (grown_section current node))) (front_same version facts sections current node)
    ∙ ap (λ w. version_line version ∷ (front ++ (0, Says say.Proof) ∷ w)) (map-append node_line current.tree (node ∷ []))
    ∙ ap (λ w. version_line version ∷ w) (sym (append_assoc front (tree_lines current) (node_line node ∷ [])))

pub one_or_two : One ≡ Two → ⊥
one_or_two e = cc

module _ (number : ℕ) (facts : List Fact) (ids : List (List ℕ)) (sections : List Section) (current : Section) (opens : List ℕ) (nodes : ℕ) where
  read_after : (at : Stage) (version : Version) (statement : Statement) → FitsAt at version facts sections current.tree opens
      → may_stand_at at version facts statement ≡ true
      → read (after number (draft_of at version facts ids sections current opens nodes) statement)
      ≡ read_at at version facts sections current ++ kept (number, Says statement) ∷ []
  read_after stage.Version version (say.Certificate One) fits e = refl
  read_after stage.Version version (say.Certificate Two) fits e = ap (λ fs. version_line Two ∷ flat_map fact_lines fs) fits.0
  read_after stage.Property One (say.Property id) fits e =
      ap (λ fs. version_line One ∷ (number, Says (say.Property id)) ∷ flat_map fact_lines fs) fits.1
  read_after stage.Property Two (say.Property id) fits e = absurd (one_or_two (sym fits.0))
  read_after stage.Facts One (say.Fact name said) fits e =
      ap (λ w. version_line One ∷ (property_lines current ++ w)) (more_facts number name said facts)
  read_after stage.Facts Two (say.Fact name said) fits e = ap (λ w. version_line Two ∷ w) (more_facts number name said facts)
  read_after stage.Facts One (say.Step step) fits e = ap (λ w. version_line One ∷ (property_lines current ++ w)) (last_steps number step facts e)
  read_after stage.Facts Two (say.Step step) fits e = ap (λ w. version_line Two ∷ w) (last_steps number step facts e)
  read_after stage.Facts One say.Proof fits e =
      ap (λ ss. version_line One ∷ (tree_front One facts ss current ++ tree_lines current)) fits.0
      ∙ ap (λ w. version_line One ∷ (property_lines current ++ (w ++ tree_lines current))) (append-nil (flat_map fact_lines facts))
      ∙ ap (λ t. version_line One ∷ (property_lines current ++ (flat_map fact_lines facts ++ (0, Says say.Proof) ∷ map node_line t))) fits.1
  read_after stage.Facts Two (say.Property id) fits e =
      ap (λ ss. version_line Two ∷ (body_lines Two facts ss ++ (number, Says (say.Property id)) ∷ [])) fits.0
      ∙ ap (λ w. version_line Two ∷ (w ++ (number, Says (say.Property id)) ∷ [])) (append-nil (flat_map fact_lines facts))
  read_after stage.Facts Two say.End fits e =
      ap (λ ss. version_line Two ∷ (body_lines Two facts ss ++ end_line ∷ [])) fits.0
      ∙ ap (λ w. version_line Two ∷ (w ++ end_line ∷ [])) (append-nil (flat_map fact_lines facts))
  read_after stage.Proof version say.Proof fits e =
      ap (λ t. version_line version ∷ (tree_front version facts sections current ++ (0, Says say.Proof) ∷ map node_line t)) fits.1
  read_after stage.Tree version (say.Node form) fits e =
      settled_read (opens_after (branches_of form) opens) version facts ids sections (grown_section current (node_at number form)) (opens_after (branches_of form) opens) (nodes + 1)
      ∙ node_read number form version facts sections current
  read_after stage.Sections Two (say.Property id) fits e = refl
  read_after stage.Sections version say.End fits e = refl
  read_after at version statement fits e = absurd (false≢true e)

-- the open nodes after one more node
grown_node : (tree : List Node) (opens : List ℕ) (node : Node) → IsOpen tree opens → (most : ℕ) → Grown most tree opens
    → (wider : ℕ) × Grown wider (tree ++ node ∷ []) (opens_after (branches_of node.form) opens)
grown_node [] opens node is most grown = (1, (omega arith, ap (opens_after (branches_of node.form)) is))
grown_node (root ∷ nodes) opens node (count, counts, is) most grown =
    let wide = most + suc (suc (length counts)) in
    let there = subst (λ w. Grown most (root ∷ nodes) w) is grown in (
      wide,
      subst (λ w. Grown wide ((root ∷ nodes) ++ node ∷ []) (opens_after (branches_of node.form) w)) (sym is)
          (grown_more branches_on wide node (suc count) counts (root ∷ nodes) (omega arith) (grown_wider branches_on most wide (omega arith) (root ∷ nodes) (suc count ∷ counts) there)),
    )

pub some_more : (tree : List Node) (node : Node) → (root : Node) × ((nodes : List Node) × (tree ++ node ∷ [] ≡ root ∷ nodes))
some_more [] node = (node, ([], refl))
some_more (root ∷ nodes) node = (root, (nodes ++ node ∷ [], refl))

abbrev pub Settles : List ℕ → Type 0
Settles w = (w ≡ []) ⊎ ((count : ℕ) × (counts : List ℕ) × (w ≡ suc count ∷ counts))

pub settles : (opens : List ℕ) → Settles (still_open opens)
settles [] = inl refl
settles (zero ∷ counts) = settles counts
settles (suc count ∷ counts) = inr (count, counts, refl)

pub its_sections : (version : Version) (sections : List Section) (last : Section) → IsAlone version sections → HasItsSections version (sections ++ last ∷ [])
its_sections One sections last alone = ap (λ ss. length (ss ++ last ∷ [])) alone
its_sections Two sections last alone = tt

settled_fits : (w : List ℕ) → Settles w → (version : Version) (facts : List Fact) (ids : List (List ℕ)) (sections : List Section) (current : Section) (nodes : ℕ)
    (root : Node) (rest : List Node) → current.tree ≡ root ∷ rest → (most : ℕ) → Grown most current.tree w → IsAlone version sections
    → Fits (settled_by w (draft_of stage.Tree version facts ids sections current w nodes))
settled_fits w (inl e) version facts ids sections current nodes root rest some most grown alone =
    subst (λ w. Fits (settled_by w (draft_of stage.Tree version facts ids sections current w nodes))) (sym e) (its_sections version sections current alone, refl)
settled_fits w (inr (count, counts, e)) version facts ids sections current nodes root rest some most grown alone =
    subst (λ w. Fits (settled_by w (draft_of stage.Tree version facts ids sections current w nodes))) (sym e)
    (alone, subst (λ t. IsOpen t (suc count ∷ counts)) (sym some) (count, counts, refl), (most, subst (λ w. Grown most current.tree w) e grown))

settled_trees : (w : List ℕ) (version : Version) (facts : List Fact) (ids : List (List ℕ)) (sections : List Section) (current : Section) (opens : List ℕ) (nodes : ℕ)
    (root : Node) (rest : List Node) → current.tree ≡ root ∷ rest → (most : ℕ) → Grown most current.tree w → HasTrees sections
    → HasTrees (settled_by w (draft_of stage.Tree version facts ids sections current opens nodes)).sections
settled_trees [] version facts ids sections current opens nodes root rest some most grown trees =
    all_more (λ section. IsSomeTree section.tree) sections current trees
    (most, subst (IsTree most) (sym some) (tree_grown branches_on most root rest (subst (λ t. Grown most t []) some grown)))
settled_trees (count ∷ counts) version facts ids sections current opens nodes root rest some most grown trees = trees

module _ (number : ℕ) (facts : List Fact) (ids : List (List ℕ)) (sections : List Section) (current : Section) (opens : List ℕ) (nodes : ℕ) where
  fits_after : (at : Stage) (version : Version) (statement : Statement) → FitsAt at version facts sections current.tree opens
      → may_stand_at at version facts statement ≡ true
      → Fits (after number (draft_of at version facts ids sections current opens nodes) statement)
  fits_after stage.Version version (say.Certificate One) fits e = (refl, fits.0, fits.1)
  fits_after stage.Version version (say.Certificate Two) fits e = fits.1
  fits_after stage.Property One (say.Property id) fits e = (fits.2.0, refl, fits.2.2)
  fits_after stage.Property Two (say.Property id) fits e = absurd (one_or_two (sym fits.0))
  fits_after stage.Facts version (say.Fact name said) fits e = fits
  fits_after stage.Facts version (say.Step step) fits e = fits
  fits_after stage.Facts One say.Proof fits e =
      (fits.0, subst (λ t. IsOpen t opens) (sym fits.1) fits.2, (0, subst (λ t. Grown 0 t opens) (sym fits.1) fits.2))
  fits_after stage.Facts Two (say.Property id) fits e = (refl, refl, fits.2)
  fits_after stage.Facts Two say.End fits e = tt
  fits_after stage.Proof One say.Proof fits e = absurd (one_or_two fits.0)
  fits_after stage.Proof Two say.Proof fits e =
      (tt, subst (λ t. IsOpen t opens) (sym fits.1) fits.2, (0, subst (λ t. Grown 0 t opens) (sym fits.1) fits.2))
  fits_after stage.Tree version (say.Node form) fits e =
      let node = node_at number form in
      let wider = grown_node current.tree opens node fits.1 fits.2.0 fits.2.1 in
      let some = some_more current.tree node in
      settled_fits (opens_after (branches_of form) opens) (settles (branches_of form ∷ _)) version facts ids sections (grown_section current node) (nodes + 1)
      some.0 some.1.0 some.1.1 wider.0 wider.1 fits.0
  fits_after stage.Sections Two (say.Property id) fits e = (refl, refl, fits.1)
  fits_after stage.Sections version say.End fits e = fits.0
  fits_after at version statement fits e = absurd (false≢true e)

  trees_after : (at : Stage) (version : Version) (statement : Statement) → FitsAt at version facts sections current.tree opens
      → may_stand_at at version facts statement ≡ true → HasTrees sections
      → HasTrees (after number (draft_of at version facts ids sections current opens nodes) statement).sections
  trees_after at version (say.Certificate other) fits e trees = trees
  trees_after at version (say.Property id) fits e trees = trees
  trees_after at version (say.Fact name said) fits e trees = trees
  trees_after at version (say.Step step) fits e trees = trees
  trees_after at version say.Proof fits e trees = trees
  trees_after at version say.End fits e trees = trees
  trees_after stage.Tree version (say.Node form) fits e trees =
      let node = node_at number form in
      let wider = grown_node current.tree opens node fits.1 fits.2.0 fits.2.1 in
      let some = some_more current.tree node in
      settled_trees (opens_after (branches_of form) opens) version facts ids sections (grown_section current node) _ (nodes + 1)
      some.0 some.1.0 some.1.1 wider.0 wider.1 trees
  trees_after at version (say.Node form) fits e trees = absurd (false≢true e)

-- the names, ids and nodes that have been read
pub settled_ids : (w : List ℕ) (d : DraftState) → (settled_by w d).ids ≡ d.ids
settled_ids [] d = refl
settled_ids (count ∷ counts) d = refl

pub settled_nodes : (w : List ℕ) (d : DraftState) → (settled_by w d).nodes ≡ d.nodes
settled_nodes [] d = refl
settled_nodes (count ∷ counts) d = refl

pub settled_facts : (w : List ℕ) (d : DraftState) → (settled_by w d).facts ≡ d.facts
settled_facts [] d = refl
settled_facts (count ∷ counts) d = refl

ids_after : (number : ℕ) (d : DraftState) (statement : Statement) → (after number d statement).ids ≡ d.ids ++ id_on (number, Says statement)
ids_after number d (say.Certificate version) = sym (append-nil d.ids)
ids_after number d (say.Property id) = refl
ids_after number d (say.Fact name said) = sym (append-nil d.ids)
ids_after number d (say.Step step) = sym (append-nil d.ids)
ids_after number d say.Proof = sym (append-nil d.ids)
ids_after number d (say.Node form) = settled_ids _ _ ∙ sym (append-nil d.ids)
ids_after number d say.End = sym (append-nil d.ids)

names_after : (number : ℕ) (d : DraftState) (statement : Statement) → names_of (after number d statement).facts ≡ names_of d.facts ++ name_on (number, Says statement)
names_after number d (say.Certificate version) = sym (append-nil (names_of d.facts))
names_after number d (say.Property id) = sym (append-nil (names_of d.facts))
names_after number d (say.Fact name said) = names_of_grown d.facts (fact_at number name said)
names_after number d (say.Step step) = names_with_step d.facts (step_at number step) ∙ sym (append-nil (names_of d.facts))
names_after number d say.Proof = sym (append-nil (names_of d.facts))
names_after number d (say.Node form) = ap names_of (settled_facts _ _) ∙ sym (append-nil (names_of d.facts))
names_after number d say.End = sym (append-nil (names_of d.facts))

no_more : (n : ℕ) → n ≡ n + 0
no_more n = omega arith

nodes_after : (number : ℕ) (d : DraftState) (statement : Statement) → (after number d statement).nodes ≡ d.nodes + length (node_on (number, Says statement))
nodes_after number d (say.Certificate version) = no_more d.nodes
nodes_after number d (say.Property id) = no_more d.nodes
nodes_after number d (say.Fact name said) = no_more d.nodes
nodes_after number d (say.Step step) = no_more d.nodes
nodes_after number d say.Proof = no_more d.nodes
nodes_after number d (say.Node form) = settled_nodes _ _
nodes_after number d say.End = no_more d.nodes

one_line : {X : Type 0} (f : ℕ × CertLine → List X) (front : List (ℕ × CertLine)) (line : ℕ × CertLine) → flat_map f (front ++ line ∷ []) ≡ flat_map f front ++ f line
one_line f front line = flat_map-append f front (line ∷ []) ∙ ap (λ w. flat_map f front ++ w) (append-nil (f line))

-- what is known of the lines that have been read
pub record Past (d : DraftState) (front : List (ℕ × CertLine)) : Type 0 where
  pub lines : map kept front ≡ read d
  pub fits : Fits d
  pub trees : HasTrees d.sections
  pub names : names_of d.facts ≡ names_on front
  pub ids : d.ids ≡ ids_on front
  pub nodes : d.nodes ≡ length (nodes_on front)

pub past_nothing : Past nothing_read []
past_nothing = record { lines = refl; fits = (refl, (refl, refl, refl)); trees = tt; names = refl; ids = refl; nodes = refl }

pub past_after : (number : ℕ) (d : DraftState) (front : List (ℕ × CertLine)) (statement : Statement) → Past d front → may_stand d statement ≡ true
    → Past (after number d statement) (front ++ (number, Says statement) ∷ [])
past_after number d front statement past e =
    let line : ℕ × CertLine = (number, Says statement) in
    record {
      lines = map-append kept front (line ∷ [])
          ∙ ap (λ w. w ++ kept line ∷ []) past.lines
          ∙ sym (read_after number d.facts d.ids d.sections d.current d.opens d.nodes d.stage d.version statement past.fits e);
      fits = fits_after number d.facts d.ids d.sections d.current d.opens d.nodes d.stage d.version statement past.fits e;
      trees = trees_after number d.facts d.ids d.sections d.current d.opens d.nodes d.stage d.version statement past.fits e past.trees;
      names = names_after number d statement ∙ ap (λ w. w ++ name_on line) past.names ∙ sym (one_line name_on front line);
      ids = ids_after number d statement ∙ ap (λ w. w ++ id_on line) past.ids ∙ sym (one_line id_on front line);
      nodes = nodes_after number d statement
          ∙ ap (λ n. n + length (node_on line)) past.nodes
          ∙ sym (ap length (one_line node_on front line) ∙ length-append (nodes_on front) (node_on line));
    }
