-- Which lines may come: lines in order can be followed, and each draft has lines that lead to an end.
use Rattle.std.proofs.Common.{◌≡◌, ℕ, zero, suc, ◌+◌, true, List, [], ◌∷◌, ◌++◌, length, map, flat_map, refl, sym, ap, subst, ◌∙◌, arith}
use Rattle.std.specs.Prelude.{◌-◌}
use Rattle.std.specs.List.{AllByRecursion}
use Rattle.std.proofs.lemmas.List.{append_assoc, append-nil, length-append}
use Rattle.line_words.specs.declared.lines.Line.TheVariants.{Passed, Faulty, Says}
use Rattle.cert_lines.specs.Order.{body_lines, end_line, fact_lines, lines_of_cert, node_line, property_lines, section_lines, step_line, tree_lines, version_line}
use Rattle.cert_lines.specs.Statements.{CertLine}
use Rattle.cert_lines.specs.declared.certificates.Cert.{Cert}
use Rattle.cert_lines.specs.declared.certificates.Fact.{Fact}
use Rattle.cert_lines.specs.declared.certificates.FactKind.{FactKind}
use Rattle.cert_lines.specs.declared.certificates.FactKind.TheVariants.{Flow, Trap, Bound}
use Rattle.cert_lines.specs.declared.certificates.Node.{Node}
use Rattle.cert_lines.specs.declared.certificates.NodeForm.{NodeForm}
use Rattle.cert_lines.specs.declared.certificates.NodeForm.TheVariants.{Close}
use Rattle.cert_lines.specs.declared.certificates.Section.{Section}
use Rattle.cert_lines.specs.declared.certificates.Step.{Step}
use Rattle.cert_lines.specs.declared.certificates.Version.{Version}
use Rattle.cert_lines.specs.declared.certificates.Version.TheVariants.{One, Two}
use Rattle.cert_lines.specs.declared.statements.Statement.{Statement}
use Rattle.cert_lines.specs.declared.statements.Statement.TheVariants as say
use Rattle.prefix_trees.specs.Trees.{opens_after, still_open}
use Rattle.cert_reader.specs.Grammar.{HasItsSections, HasTrees, IsInOrder, IsSomeTree, IsTree, Stands, kept}
use Rattle.cert_reader.specs.Reading.{DraftState, after, branches_of, branches_on, cert_of, draft_of, grown_section, ids_of, last_fact, may_stand, may_stand_at, no_section, node_at, nothing_read, section_of, settled_by, step_at, takes_steps, with_step}
use Rattle.cert_reader.specs.declared.stages.Stage.{Stage}
use Rattle.cert_reader.specs.declared.stages.Stage.TheVariants as stage
use Rattle.cert_reader.proofs.FactLists.{last_of_grown, with_step_of_grown}
use Rattle.prefix_trees.proofs.Climbs.{grown_tree, one_less_than}
use Rattle.cert_reader.proofs.Read.{FitsAt, IsOpen, Past, one_or_two, past_after, past_nothing, read_at}
use Rattle.cert_reader.proofs.Trees.{Climbs, Grown}

-- a draft that goes on over lines, by their order alone
abbrev pub Follows : DraftState → List (ℕ × CertLine) → DraftState → Type 0
Follows draft [] last = last ≡ draft
Follows draft (line ∷ lines) last =
    (statement : Statement)
    × (line.1 ≡ Says statement)
    × (may_stand draft statement ≡ true)
    × Follows (after line.0 draft statement) lines last

pub follow_on : (draft middle last : DraftState) (front rest : List (ℕ × CertLine)) → Follows draft front middle → Follows middle rest last → Follows draft (front ++ rest) last
follow_on draft middle last [] rest a b = subst (λ d. Follows d rest last) a b
follow_on draft middle last (line ∷ front) rest (statement, is, stands, a) b = (statement, is, stands, follow_on (after line.0 draft statement) middle last front rest a b)

pub follow_front : (draft last : DraftState) (front rest : List (ℕ × CertLine)) → Follows draft (front ++ rest) last → (middle : DraftState) × (Follows draft front middle × Follows middle rest last)
follow_front draft last [] rest a = (draft, (refl, a))
follow_front draft last (line ∷ front) rest (statement, is, stands, a) =
    let later = follow_front (after line.0 draft statement) last front rest a in
    (later.0, ((statement, is, stands, later.1.0), later.1.1))

says_one : (one other : Statement) → Says one ≡ Says other → one ≡ other
says_one one other e = cc

pub follow_once : (draft one other : DraftState) (lines : List (ℕ × CertLine)) → Follows draft lines one → Follows draft lines other → one ≡ other
follow_once draft one other [] a b = a ∙ sym b
follow_once draft one other (line ∷ lines) (statement, is, stands, a) (again, is_again, stands_again, b) =
    follow_once (after line.0 draft statement) one other lines a
    (subst (λ s. Follows (after line.0 draft s) lines other) (says_one again statement (sym is_again ∙ is)) b)

pub past_lines : (draft last : DraftState) (front lines : List (ℕ × CertLine)) → Past draft front → Follows draft lines last → Past last (front ++ lines)
past_lines draft last front [] past follows = subst (λ w. Past last w) (sym (append-nil front)) (subst (λ d. Past d front) (sym follows) past)
past_lines draft last front (line ∷ lines) past (statement, is, stands, follows) =
    subst (λ w. Past last w) (append_assoc front (line ∷ []) lines)
    (past_lines (after line.0 draft statement) last (front ++ line ∷ []) lines
    (subst (λ w. Past (after line.0 draft statement) (front ++ (line.0, w) ∷ [])) (sym is) (past_after line.0 draft front statement past stands))
    follows)

-- the numbers that aren't kept don't matter
kept_says : (number : ℕ) (statement : Statement) → (kept (number, Says statement)).1 ≡ Says statement
kept_says number (say.Certificate version) = refl
kept_says number (say.Property id) = refl
kept_says number (say.Fact name said) = refl
kept_says number (say.Step step) = refl
kept_says number say.Proof = refl
kept_says number (say.Node form) = refl
kept_says number say.End = refl

kept_after : (number : ℕ) (draft : DraftState) (statement : Statement) → after (kept (number, Says statement)).0 draft statement ≡ after number draft statement
kept_after number draft (say.Certificate version) = refl
kept_after number draft (say.Property id) = refl
kept_after number draft (say.Fact name said) = refl
kept_after number draft (say.Step step) = refl
kept_after number draft say.Proof = refl
kept_after number draft (say.Node form) = refl
kept_after number draft say.End = refl

follow_kept : (lines : List (ℕ × CertLine)) (draft last : DraftState) → Follows draft (map kept lines) last → Follows draft lines last
follow_kept [] draft last follows = follows
follow_kept ((number, Passed) ∷ lines) draft last (statement, is, stands, later) = absurd (cc)
follow_kept ((number, Faulty) ∷ lines) draft last (statement, is, stands, later) = absurd (cc)
follow_kept ((number, Says said) ∷ lines) draft last (statement, is, stands, later) =
    let same : said ≡ statement = says_one said statement (sym (kept_says number said) ∙ is) in (
      said,
      refl,
      subst (λ s. may_stand draft s ≡ true) (sym same) stands,
      follow_kept lines (after number draft said) last
          (subst (λ d. Follows d (map kept lines) last) (kept_after number draft said)
          (subst (λ s. Follows (after (kept (number, Says said)).0 draft s) (map kept lines) last) (sym same) later)),
    )

-- lines in order can be followed
module _ (version : Version) (ids : List (List ℕ)) (sections : List Section) (current : Section) (opens : List ℕ) (nodes : ℕ) (last : DraftState) (rest : List (ℕ × CertLine)) where
  abbrev Leads : List Fact → List (ℕ × CertLine) → Type 0
  Leads facts lines = Follows (draft_of stage.Facts version facts ids sections current opens nodes) lines last

  follow_steps : (line : ℕ) (name : List ℕ) (limit : _) (weights : _) (facts : List Fact) (done steps : List Step)
      → Leads (facts ++ record { line = line; name = name; kind = Bound limit weights (done ++ steps) } ∷ []) rest
      → Leads (facts ++ record { line = line; name = name; kind = Bound limit weights done } ∷ []) (map step_line steps ++ rest)
  follow_steps line name limit weights facts done [] follows =
      subst (λ w. Leads (facts ++ record { line = line; name = name; kind = Bound limit weights w } ∷ []) rest) (append-nil done) follows
  follow_steps line name limit weights facts done (step ∷ steps) follows =
      let fact : Fact = record { line = line; name = name; kind = Bound limit weights done } in
      let again = follow_steps line name limit weights facts (done ++ step ∷ []) steps
      (subst (λ w. Leads (facts ++ record { line = line; name = name; kind = Bound limit weights w } ∷ []) rest) (sym (append_assoc done (step ∷ []) steps)) follows) in (
        _,
        refl,
        ap takes_steps (last_of_grown facts fact),
        subst (λ fs. Leads fs (map step_line steps ++ rest)) (sym (with_step_of_grown facts fact step)) again,
      )

follow_fact : (version : Version) (ids : List (List ℕ)) (sections : List Section) (current : Section) (opens : List ℕ) (nodes : ℕ) (last : DraftState)
    (fact : Fact) (facts : List Fact) (rest : List (ℕ × CertLine))
    → Follows (draft_of stage.Facts version (facts ++ fact ∷ []) ids sections current opens nodes) rest last
    → Follows (draft_of stage.Facts version facts ids sections current opens nodes) (fact_lines fact ++ rest) last
follow_fact version ids sections current opens nodes last fact facts rest follows = by fact.kind follows
  where
    by : (kind : FactKind) → Follows (draft_of stage.Facts version (facts ++ record { line = fact.line; name = fact.name; kind = kind } ∷ []) ids sections current opens nodes) rest last
        → Follows (draft_of stage.Facts version facts ids sections current opens nodes) (fact_lines (record { line = fact.line; name = fact.name; kind = kind }) ++ rest) last
    by (Flow weights) follows = (_, refl, refl, follows)
    by (Trap places) follows = (_, refl, refl, follows)
    by (Bound limit weights steps) follows =
        (_, refl, refl, follow_steps version ids sections current opens nodes last rest fact.line fact.name limit weights facts [] steps follows)

follow_facts : (version : Version) (ids : List (List ℕ)) (sections : List Section) (current : Section) (opens : List ℕ) (nodes : ℕ) (last : DraftState)
    (more facts : List Fact) (rest : List (ℕ × CertLine))
    → Follows (draft_of stage.Facts version (facts ++ more) ids sections current opens nodes) rest last
    → Follows (draft_of stage.Facts version facts ids sections current opens nodes) (flat_map fact_lines more ++ rest) last
follow_facts version ids sections current opens nodes last [] facts rest follows =
    subst (λ fs. Follows (draft_of stage.Facts version fs ids sections current opens nodes) rest last) (append-nil facts) follows
follow_facts version ids sections current opens nodes last (fact ∷ more) facts rest follows =
    subst (λ w. Follows (draft_of stage.Facts version facts ids sections current opens nodes) w last) (sym (append_assoc (fact_lines fact) (flat_map fact_lines more) rest))
    (follow_fact version ids sections current opens nodes last fact facts (flat_map fact_lines more ++ rest)
    (follow_facts version ids sections current opens nodes last more (facts ++ fact ∷ []) rest
    (subst (λ fs. Follows (draft_of stage.Facts version fs ids sections current opens nodes) rest last) (sym (append_assoc facts (fact ∷ []) more)) follows)))

module _ (version : Version) (facts : List Fact) (ids : List (List ℕ)) (sections : List Section) (line : ℕ) (id : List ℕ) (last : DraftState) (rest : List (ℕ × CertLine)) where
  -- behind some nodes of a tree
  abbrev within : List Node → List ℕ → ℕ → DraftState
  within tree opens nodes = settled_by opens (draft_of stage.Tree version facts ids sections (section_of line id tree) opens nodes)

  follow_climb : (most : ℕ) (more tree : List Node) (opens : List ℕ) (nodes : ℕ)
      → Climbs most opens more [] → Follows (within (tree ++ more) [] (nodes + length more)) rest last
      → Follows (within tree opens nodes) (map node_line more ++ rest) last
  follow_climb most [] tree opens nodes climbs follows =
      let none : nodes + 0 ≡ nodes = omega arith in
      subst (λ w. Follows (within tree w nodes) rest last) climbs
      (subst (λ n. Follows (within tree [] n) rest last) none (subst (λ w. Follows (within w [] (nodes + 0)) rest last) (append-nil tree) follows))
  follow_climb most (node ∷ more) tree [] nodes climbs follows = absurd climbs
  follow_climb most (node ∷ more) tree (count ∷ counts) nodes climbs follows =
      let longer : nodes + suc (length more) ≡ (nodes + 1) + length more = omega arith in (
        say.Node node.form,
        refl,
        refl,
        follow_climb most more (tree ++ node ∷ []) _ (nodes + 1) climbs.1
            (subst (λ n. Follows (within ((tree ++ node ∷ []) ++ more) [] n) rest last) longer
            (subst (λ w. Follows (within w [] (nodes + suc (length more))) rest last) (sym (append_assoc tree (node ∷ []) more)) follows)),
      )

  follow_tree : (most : ℕ) (tree : List Node) (nodes : ℕ) → IsTree most tree → Grown most tree []
      → Follows (within tree [] (nodes + length tree)) rest last
      → Follows (draft_of stage.Tree version facts ids sections (section_of line id []) [] nodes) (map node_line tree ++ rest) last
  follow_tree zero [] nodes is grown follows = absurd is
  follow_tree (suc most) [] nodes is grown follows = absurd (let never : (x : Node) (xs : List Node) → [] ≡ x ∷ xs → ⊥ = λ x xs e. cc in never _ _ is.2)
  follow_tree most (root ∷ more) nodes is grown follows =
      let longer : nodes + suc (length more) ≡ (nodes + 1) + length more = omega arith in (
        say.Node root.form,
        refl,
        refl,
        follow_climb most more (root ∷ []) _ (nodes + 1) grown.1 (subst (λ n. Follows (within (root ∷ more) [] n) rest last) longer follows),
      )

abbrev pub trees_of : List Section → List Node
trees_of sections = flat_map (λ section. section.tree) sections

-- facts or whole trees of version 2, behind which properties may come
abbrev between : Stage → List Fact → List (List ℕ) → List Section → ℕ → DraftState
between at facts ids sections nodes = draft_of at Two facts ids sections no_section [] nodes

record MayClose (at : Stage) (facts : List Fact) : Type 0 where
  property : (id : List ℕ) → may_stand_at at Two facts (say.Property id) ≡ true
  end : may_stand_at at Two facts say.End ≡ true

follow_sections : (more : List Section) (at : Stage) (facts : List Fact) (ids : List (List ℕ)) (sections : List Section) (nodes : ℕ) (last : DraftState)
    → MayClose at facts → HasTrees more
    → last ≡ between stage.Nothing facts (ids ++ ids_of more) (sections ++ more) (nodes + length (trees_of more))
    → Follows (between at facts ids sections nodes) (flat_map section_lines more ++ end_line ∷ []) last
follow_sections [] at facts ids sections nodes last may trees is =
    let none : nodes + 0 ≡ nodes = omega arith in (
      say.End,
      refl,
      may.end,
      is
          ∙ ap (λ w. between stage.Nothing facts w (sections ++ []) (nodes + 0)) (append-nil ids)
          ∙ ap (λ w. between stage.Nothing facts ids w (nodes + 0)) (append-nil sections)
          ∙ ap (λ n. between stage.Nothing facts ids sections n) none,
    )
follow_sections (section ∷ more) at facts ids sections nodes last may ((most, tree), trees) is =
    let rest = flat_map section_lines more ++ end_line ∷ [] in
    let all = length-append section.tree (trees_of more) in
    let sum : nodes + length (section.tree ++ trees_of more) ≡ (nodes + length section.tree) + length (trees_of more) = omega (arith, all) in
    subst (λ w. Follows (between at facts ids sections nodes) w last) (sym (append_assoc (section_lines section) (flat_map section_lines more) (end_line ∷ []))) (
      say.Property section.property,
      refl,
      may.property section.property,
      (
        say.Proof,
        refl,
        refl,
        follow_tree Two facts (ids ++ section.property ∷ []) sections section.line section.property last rest most section.tree nodes tree (grown_tree branches_on most section.tree tree)
            (follow_sections more stage.Sections facts (ids ++ section.property ∷ []) (sections ++ section ∷ []) (nodes + length section.tree) last
            (record { property = λ id. refl; end = refl }) trees
            (is
            ∙ ap (λ w. between stage.Nothing facts w (sections ++ section ∷ more) (nodes + length (section.tree ++ trees_of more))) (sym (append_assoc ids (section.property ∷ []) (ids_of more)))
            ∙ ap (λ w. between stage.Nothing facts ((ids ++ section.property ∷ []) ++ ids_of more) w (nodes + length (section.tree ++ trees_of more))) (sym (append_assoc sections (section ∷ []) more))
            ∙ ap (λ n. between stage.Nothing facts ((ids ++ section.property ∷ []) ++ ids_of more) ((sections ++ section ∷ []) ++ more) n) sum)),
      ),
    )

abbrev pub whole : Cert → DraftState
whole cert = draft_of stage.Nothing cert.version cert.facts (ids_of cert.sections) cert.sections no_section [] (length (trees_of cert.sections))

from_nought : (n : ℕ) → n ≡ 0 + n
from_nought n = omega arith

follow_cert : (version : Version) (facts : List Fact) (sections : List Section) → HasItsSections version sections → HasTrees sections
    → Follows nothing_read (lines_of_cert (record { version = version; facts = facts; sections = sections })) (whole (record { version = version; facts = facts; sections = sections }))
follow_cert One facts [] its trees = absurd (let never : 0 ≡ 1 → ⊥ = λ e. cc in never its)
follow_cert One facts (section ∷ next ∷ more) its trees = absurd (let never : (n : ℕ) → suc (suc n) ≡ 1 → ⊥ = λ n e. omega (arith, e) in never (length more) its)
follow_cert One facts (section ∷ []) its ((most, tree), none) =
    let last = whole (record { version = One; facts = facts; sections = section ∷ [] }) in
    let after_tree = end_line ∷ [] in (
      say.Certificate One,
      refl,
      refl,
      (
        say.Property section.property,
        refl,
        refl,
        subst (λ w. Follows (draft_of stage.Facts One [] (section.property ∷ []) [] (section_of section.line section.property []) [] 0) w last)
            (sym (append_assoc (flat_map fact_lines facts) (tree_lines section ++ []) (end_line ∷ [])))
            (follow_facts One (section.property ∷ []) [] (section_of section.line section.property []) [] 0 last facts [] ((tree_lines section ++ []) ++ end_line ∷ []) (
              say.Proof,
              refl,
              refl,
              subst (λ w. Follows (draft_of stage.Tree One facts (section.property ∷ []) [] (section_of section.line section.property []) [] 0) (w ++ end_line ∷ []) last)
                  (sym (append-nil (map node_line section.tree)))
                  (follow_tree One facts (section.property ∷ []) [] section.line section.property last (end_line ∷ []) most section.tree 0 tree (grown_tree branches_on most section.tree tree)
                  (say.End, refl, refl, ap (λ n. draft_of stage.Nothing One facts (section.property ∷ []) (section ∷ []) no_section [] n) (ap length (append-nil section.tree) ∙ from_nought (length section.tree)))),
            )),
      ),
    )
follow_cert Two facts sections its trees =
    let last = whole (record { version = Two; facts = facts; sections = sections }) in (
      say.Certificate Two,
      refl,
      refl,
      subst (λ w. Follows (draft_of stage.Facts Two [] [] [] no_section [] 0) w last) (sym (append_assoc (flat_map fact_lines facts) (flat_map section_lines sections) (end_line ∷ [])))
          (follow_facts Two [] [] no_section [] 0 last facts [] (flat_map section_lines sections ++ end_line ∷ [])
          (follow_sections sections stage.Facts facts [] [] 0 last (record { property = λ id. refl; end = refl }) trees
          (ap (λ n. draft_of stage.Nothing Two facts (ids_of sections) sections no_section [] n) (from_nought (length (trees_of sections)))))),
    )

pub follow_order : (lines : List (ℕ × CertLine)) (cert : Cert) → IsInOrder lines cert → HasTrees cert.sections → Follows nothing_read lines (whole cert)
follow_order lines cert (is, its) trees =
    follow_kept lines nothing_read (whole cert)
    (subst (λ w. Follows nothing_read w (whole cert)) (sym is) (follow_cert cert.version cert.facts cert.sections its trees))

-- and every draft can be followed to an end
abbrev Ends : DraftState → Type 0
Ends draft = (rest : List (ℕ × CertLine)) × ((last : DraftState) × (Follows draft rest last × (last.stage ≡ stage.Nothing)))

ends_before : (line : ℕ × CertLine) (statement : Statement) (draft : DraftState) → line.1 ≡ Says statement → may_stand draft statement ≡ true
    → Ends (after line.0 draft statement) → Ends draft
ends_before line statement draft is may later = (line ∷ later.0, (later.1.0, ((statement, is, may, later.1.1.0), later.1.1.1)))

ends_now : (draft : DraftState) → may_stand draft say.End ≡ true → Ends draft
ends_now draft may = (end_line ∷ [], (_, ((say.End, refl, may, refl), refl)))

abbrev closing : Node
closing = node_at 0 (Close [])

module _ (version : Version) (facts : List Fact) (ids : List (List ℕ)) (sections : List Section) where
  abbrev EndsAt : List ℕ → Type 0
  EndsAt opens = (current : Section) (nodes : ℕ) → Ends (settled_by (still_open opens) (draft_of stage.Tree version facts ids sections current (still_open opens) nodes))

  ends_count : (counts : List ℕ) → EndsAt counts → (count : ℕ) → EndsAt (count ∷ counts)
  ends_count counts ends zero = ends
  ends_count counts ends (suc count) = λ current nodes.
      ends_before (node_line closing) (say.Node (Close [])) (draft_of stage.Tree version facts ids sections current (suc count ∷ counts) nodes) refl refl
      (subst (λ n. Ends (settled_by (still_open (n ∷ counts)) (draft_of stage.Tree version facts ids sections (grown_section current closing) (still_open (n ∷ counts)) (nodes + 1))))
      (sym (one_less_than branches_on count)) (ends_count counts ends count (grown_section current closing) (nodes + 1)))

  ends_opens : (opens : List ℕ) → EndsAt opens
  ends_opens [] = λ current nodes. ends_now _ refl
  ends_opens (count ∷ counts) = ends_count counts (ends_opens counts) count

  ends_root : (current : Section) (nodes : ℕ) → Ends (draft_of stage.Tree version facts ids sections current [] nodes)
  ends_root current nodes =
      ends_before (node_line closing) (say.Node (Close [])) (draft_of stage.Tree version facts ids sections current [] nodes) refl refl
      (ends_opens [] (grown_section current closing) (nodes + 1))

  ends_tree : (current : Section) (opens : List ℕ) (nodes : ℕ) → IsOpen current.tree opens → Ends (draft_of stage.Tree version facts ids sections current opens nodes)
  ends_tree current opens nodes is = by current.tree is
    where
      by : (tree : List Node) → IsOpen tree opens → Ends (draft_of stage.Tree version facts ids sections current opens nodes)
      by [] is = subst (λ w. Ends (draft_of stage.Tree version facts ids sections current w nodes)) (sym is) (ends_root current nodes)
      by (root ∷ more) (count, counts, is) =
          subst (λ w. Ends (draft_of stage.Tree version facts ids sections current w nodes)) (sym is) (ends_opens (suc count ∷ counts) current nodes)

  ends_proof : (at : Stage) (current : Section) (opens : List ℕ) (nodes : ℕ) → may_stand_at at version facts say.Proof ≡ true → opens ≡ []
      → Ends (draft_of at version facts ids sections current opens nodes)
  ends_proof at current opens nodes may none =
      ends_before (0, Says say.Proof) say.Proof (draft_of at version facts ids sections current opens nodes) refl may
      (subst (λ w. Ends (draft_of stage.Tree version facts ids sections current w nodes)) (sym none) (ends_root current nodes))

module _ (facts : List Fact) (ids : List (List ℕ)) (sections : List Section) (current : Section) (opens : List ℕ) (nodes : ℕ) where
  ends_at : (at : Stage) (version : Version) → FitsAt at version facts sections current.tree opens → Ends (draft_of at version facts ids sections current opens nodes)
  ends_at stage.Version version fits =
      ends_before (version_line Two) (say.Certificate Two) (draft_of stage.Version version facts ids sections current opens nodes) refl refl (ends_now _ refl)
  ends_at stage.Property One fits =
      ends_before (0, Says (say.Property [])) (say.Property []) (draft_of stage.Property One facts ids sections current opens nodes) refl refl
      (ends_proof One facts (ids ++ [] ∷ []) sections stage.Facts (section_of 0 [] []) opens nodes refl fits.2.2)
  ends_at stage.Property Two fits = absurd (one_or_two (sym fits.0))
  ends_at stage.Facts One fits = ends_proof One facts ids sections stage.Facts current opens nodes refl fits.2
  ends_at stage.Facts Two fits = ends_now _ refl
  ends_at stage.Proof version fits = ends_proof version facts ids sections stage.Proof current opens nodes refl fits.2
  ends_at stage.Tree version fits = ends_tree version facts ids sections current opens nodes fits.1
  ends_at stage.Sections version fits = ends_now _ refl
  ends_at stage.Nothing version fits = ([], (_, (refl, refl)))

pub order_past : (last : DraftState) (lines : List (ℕ × CertLine)) → last.stage ≡ stage.Nothing → Past last lines → IsInOrder lines (cert_of last) × HasTrees last.sections
order_past last lines is past = (
  (
    past.lines ∙ ap (λ at. read_at at last.version last.facts last.sections last.current) is,
    subst (λ at. FitsAt at last.version last.facts last.sections last.current.tree last.opens) is past.fits,
  ),
  past.trees,
)

-- lines stand exactly where they can be followed
pub follow_stands : (front : List (ℕ × CertLine)) → Stands front → (middle : DraftState) × Follows nothing_read front middle
follow_stands front (rest, cert, order, trees) =
    let parts = follow_front nothing_read (whole cert) front rest (follow_order (front ++ rest) cert order trees) in
    (parts.0, parts.1.0)

pub stands_follow : (front : List (ℕ × CertLine)) (middle : DraftState) → Follows nothing_read front middle → Stands front
stands_follow front middle follows =
    let past = past_lines nothing_read middle [] front past_nothing follows in
    let ends = ends_at middle.facts middle.ids middle.sections middle.current middle.opens middle.nodes middle.stage middle.version past.fits in
    let order = order_past ends.1.0 (front ++ ends.0) ends.1.1.1 (past_lines middle ends.1.0 front ends.0 past ends.1.1.0) in
    (ends.0, cert_of ends.1.0, order.0, order.1)
