-- States by number stand for the states of case trees.
use Rattle.std.proofs.Common.{◌≡◌, ℕ, zero, suc, ◌+◌, Bool, true, false, nat_eq, List, [], ◌∷◌, ◌++◌, map, length, refl, sym, ◌∙◌, ap, arith}
use Rattle.std.specs.Prelude.{Option, Some, None, if◌then◌else◌, sum_by}
use Rattle.std.specs.List.{AllByRecursion}
use Rattle.std.proofs.lemmas.List.{map-append, length-map, length-append}
use Rattle.std.proofs.lemmas.List.Sums.{sum_by-cons}
use Rattle.cert_model.specs.Nets.{Net}
use Rattle.cert_model.specs.Forms.{Form}
use Rattle.cert_model.specs.Paths.{Item, State, entered}
use Rattle.cert_model.specs.Paths as paths
use Rattle.cert_model.specs.Facts.{element}
use Rattle.cert_model.specs.Trees as trees
use Rattle.case_tree.specs.Agendas.{Added, added_by, weight}
use Rattle.case_tree.specs.declared.nodes.Kind.{Kind}
use Rattle.case_tree.specs.declared.nodes.Kind.TheVariants.{Close, Clash, Split, Cases, Each}
use Rattle.case_tree.specs.States.{Path, hypotheses_of, choices_of, lowers_of, uppers_of, choice_of, with_item, cost, kind_rounds, case_rounds, each_rounds}
use Rattle.case_laws.specs.Standing.{Reading, with_added, IsAgenda, kind_of, IsSplit}

abbrev pub state_of : Reading → Path → State
state_of reading path = record {
  hypotheses = map reading.form (hypotheses_of path.items path.entered);
  choices = map (map reading.item) (choices_of path.items path.entered);
  lowers = lowers_of path.items path.entered;
  uppers = uppers_of path.items path.entered;
}

-- the size of the state before the last item
abbrev pub size_before : Reading → List Added → List ℕ → ℕ
size_before reading items [] = 0
size_before reading items (item ∷ before) = paths.size (state_of reading record { items = items; entered = before })

abbrev pub arrival_of : Reading → Path → trees.Arrival
arrival_of reading path = record { before = size_before reading path.items path.entered; state = state_of reading path }

state_entered : (reading : Reading) (path : Path) (item : ℕ) → state_of reading (with_item item path) ≡ with_added reading (added_by path.items item) (state_of reading path)
state_entered reading path item =
    ap (λ hs. record { hypotheses = hs; choices = map (map reading.item) (choices_of path.items path.entered ++ (added_by path.items item).choices); lowers = lowers_of path.items path.entered ++ (added_by path.items item).lowers; uppers = uppers_of path.items path.entered ++ (added_by path.items item).uppers })
    (map-append reading.form (hypotheses_of path.items path.entered) (added_by path.items item).hypotheses)
    ∙ ap (λ cs. record { hypotheses = map reading.form (hypotheses_of path.items path.entered) ++ map reading.form (added_by path.items item).hypotheses; choices = cs; lowers = lowers_of path.items path.entered ++ (added_by path.items item).lowers; uppers = uppers_of path.items path.entered ++ (added_by path.items item).uppers })
    (map-append (map reading.item) (choices_of path.items path.entered) (added_by path.items item).choices)

pub entered_stands : (net : Net) (reading : Reading) (path : Path) → IsAgenda net reading path.items → (item : ℕ) → entered net (reading.item item) (state_of reading path) ≡ state_of reading (with_item item path)
entered_stands net reading path agenda item = agenda item (state_of reading path) ∙ sym (state_entered reading path item)

-- the size of a state
size_more : (reading : Reading) (hypotheses : List Form) (choices : List (List Item)) (lowers uppers : List (ℕ × ℕ)) (added : List (List ℕ))
    → paths.size record { hypotheses = hypotheses; choices = choices ++ map (map reading.item) added; lowers = lowers; uppers = uppers }
    ≡ paths.size record { hypotheses = hypotheses; choices = choices; lowers = lowers; uppers = uppers } + sum_by length added
size_more reading hypotheses [] lowers uppers [] = omega arith
size_more reading hypotheses [] lowers uppers (choice ∷ added) =
    let later = size_more reading hypotheses [] lowers uppers added in
    let long : length (map reading.item choice) ≡ length choice = length-map choice reading.item in
    let sum : sum_by length (choice ∷ added) ≡ length choice + sum_by length added = sum_by-cons length choice added in
    omega (arith, later, long, sum)
size_more reading hypotheses (choice ∷ choices) lowers uppers added =
    let later = size_more reading hypotheses choices lowers uppers added in
    omega (arith, later)

size_added : (reading : Reading) (added : Added) (s : State) → paths.size (with_added reading added s) ≡ paths.size s + weight added
size_added reading added s =
    let choices = size_more reading (s.hypotheses ++ map reading.form added.hypotheses) s.choices (s.lowers ++ added.lowers) (s.uppers ++ added.uppers) added.choices in
    let hypotheses : length (s.hypotheses ++ map reading.form added.hypotheses) ≡ length s.hypotheses + length added.hypotheses =
    length-append s.hypotheses (map reading.form added.hypotheses) ∙ ap (λ n. length s.hypotheses + n) (length-map added.hypotheses reading.form) in
    let lowers : length (s.lowers ++ added.lowers) ≡ length s.lowers + length added.lowers = length-append s.lowers added.lowers in
    let uppers : length (s.uppers ++ added.uppers) ≡ length s.uppers + length added.uppers = length-append s.uppers added.uppers in
    omega (arith, choices, hypotheses, lowers, uppers)

pub cost_stands : (reading : Reading) (path : Path) → trees.cost (arrival_of reading path) ≡ cost path
cost_stands reading path = at path.entered
  where
    at : (entered : List ℕ) → trees.cost (arrival_of reading record { items = path.items; entered = entered }) ≡ cost record { items = path.items; entered = entered }
    at [] = omega arith
    at (item ∷ before) =
        let is = ap paths.size (state_entered reading record { items = path.items; entered = before } item) ∙ size_added reading (added_by path.items item) (state_of reading record { items = path.items; entered = before }) in
        omega (arith, is)

-- choices by number
abbrev read_choice : Reading → Option (List ℕ) → Option (List Item)
read_choice reading None = None
read_choice reading (Some items) = Some (map reading.item items)

element_read : (reading : Reading) (choices : List (List ℕ)) (n : ℕ) → element (map (map reading.item) choices) n ≡ read_choice reading (element choices n)
element_read reading [] n = refl
element_read reading (choice ∷ choices) zero = refl
element_read reading (choice ∷ choices) (suc n) = element_read reading choices n

choice_read : (reading : Reading) (path : Path) (number : ℕ) → trees.numbered (state_of reading path).choices number ≡ read_choice reading (choice_of path number)
choice_read reading path zero = refl
choice_read reading path (suc n) = element_read reading (choices_of path.items path.entered) n

module _ (net : Net) (reading : Reading) (path : Path) (agenda : IsAgenda net reading path.items) where
  abbrev arrived : State → trees.Arrival
  arrived t = record { before = paths.size (state_of reading path); state = t }

  arrival_stands : (item : ℕ) → arrival_of reading (with_item item path) ≡ arrived (entered net (reading.item item) (state_of reading path))
  arrival_stands item = ap arrived (sym (entered_stands net reading path agenda item))

  items_stand : (items : List ℕ) → map (arrival_of reading) (map (λ item. with_item item path) items) ≡ map arrived (map (λ item. entered net item (state_of reading path)) (map reading.item items))
  items_stand [] = refl
  items_stand (item ∷ items) = ap (λ a. a ∷ map (arrival_of reading) (map (λ item. with_item item path) items)) (arrival_stands item) ∙ ap (λ rest. arrived (entered net (reading.item item) (state_of reading path)) ∷ rest) (items_stand items)

  cases_if : (b : Bool) (items : List ℕ) → map (map (arrival_of reading)) (if b then map (λ item. with_item item path) items ∷ [] else [])
      ≡ map (trees.arrivals (state_of reading path)) (if b then map (λ item. entered net item (state_of reading path)) (map reading.item items) ∷ [] else [])
  cases_if true items = ap (λ round. round ∷ []) (items_stand items)
  cases_if false items = refl

  cases_stand : (o : Option (List ℕ)) (count : ℕ) → map (map (arrival_of reading)) (case_rounds path count o) ≡ map (trees.arrivals (state_of reading path)) (trees.case_rounds net (state_of reading path) count (read_choice reading o))
  cases_stand None count = refl
  cases_stand (Some items) count =
      cases_if (nat_eq (length items) count) items
      ∙ ap (λ n. map (trees.arrivals (state_of reading path)) (if nat_eq n count then map (λ item. entered net item (state_of reading path)) (map reading.item items) ∷ [] else [])) (sym (length-map items reading.item))

  each_item : (items : List ℕ) → map (map (arrival_of reading)) (map (λ item. with_item item path ∷ []) items) ≡ map (trees.arrivals (state_of reading path)) (map (λ item. entered net item (state_of reading path) ∷ []) (map reading.item items))
  each_item [] = refl
  each_item (item ∷ items) =
      ap (λ a. (a ∷ []) ∷ map (map (arrival_of reading)) (map (λ item. with_item item path ∷ []) items)) (arrival_stands item)
      ∙ ap (λ rounds. (arrived (entered net (reading.item item) (state_of reading path)) ∷ []) ∷ rounds) (each_item items)

  each_stand : (o : Option (List ℕ)) → map (map (arrival_of reading)) (each_rounds path o) ≡ map (trees.arrivals (state_of reading path)) (trees.each_rounds net (state_of reading path) (read_choice reading o))
  each_stand None = refl
  each_stand (Some items) = each_item items

  pub rounds_stand : (kind : Kind) → IsSplit reading kind → map (map (arrival_of reading)) (kind_rounds path kind) ≡ map (trees.arrivals (state_of reading path)) (trees.rounds net (state_of reading path) (kind_of reading kind))
  rounds_stand (Close mix) split = refl
  rounds_stand (Clash places) split = refl
  rounds_stand (Split item) (first, second) =
      ap (λ a. (a ∷ arrival_of reading (with_item (item + 1) path) ∷ []) ∷ []) (arrival_stands item ∙ ap (λ i. arrived (entered net i (state_of reading path))) first)
      ∙ ap (λ a. (arrived (paths.with_hypothesis (trees.at_most (reading.split item) (reading.limit item)) (state_of reading path)) ∷ a ∷ []) ∷ []) (arrival_stands (item + 1) ∙ ap (λ i. arrived (entered net i (state_of reading path))) second)
  rounds_stand (Cases choice branches) split =
      cases_stand (choice_of path choice) branches ∙ ap (λ o. map (trees.arrivals (state_of reading path)) (trees.case_rounds net (state_of reading path) branches o)) (sym (choice_read reading path choice))
  rounds_stand (Each choice) split =
      each_stand (choice_of path choice) ∙ ap (λ o. map (trees.arrivals (state_of reading path)) (trees.each_rounds net (state_of reading path) o)) (sym (choice_read reading path choice))

-- the items stay the same along a path
abbrev pub HasItems : List Added → Path → Type 0
HasItems items path = path.items ≡ items

module _ (items : List Added) (path : Path) (is : path.items ≡ items) where
  together : (numbers : List ℕ) → AllByRecursion (HasItems items) (map (λ item. with_item item path) numbers)
  together [] = tt
  together (number ∷ numbers) = (is, together numbers)

  one_by_one : (numbers : List ℕ) → AllByRecursion (AllByRecursion (HasItems items)) (map (λ item. with_item item path ∷ []) numbers)
  one_by_one [] = tt
  one_by_one (number ∷ numbers) = ((is, tt), one_by_one numbers)

  cases_kept_if : (b : Bool) (numbers : List ℕ) → AllByRecursion (AllByRecursion (HasItems items)) (if b then map (λ item. with_item item path) numbers ∷ [] else [])
  cases_kept_if true numbers = (together numbers, tt)
  cases_kept_if false numbers = tt

  cases_kept : (o : Option (List ℕ)) (count : ℕ) → AllByRecursion (AllByRecursion (HasItems items)) (case_rounds path count o)
  cases_kept None count = tt
  cases_kept (Some numbers) count = cases_kept_if (nat_eq (length numbers) count) numbers

  each_kept : (o : Option (List ℕ)) → AllByRecursion (AllByRecursion (HasItems items)) (each_rounds path o)
  each_kept None = tt
  each_kept (Some numbers) = one_by_one numbers

  pub rounds_kept : (kind : Kind) → AllByRecursion (AllByRecursion (HasItems items)) (kind_rounds path kind)
  rounds_kept (Close mix) = tt
  rounds_kept (Clash places) = tt
  rounds_kept (Split item) = ((is, (is, tt)), tt)
  rounds_kept (Cases choice branches) = cases_kept (choice_of path choice) branches
  rounds_kept (Each choice) = each_kept (choice_of path choice)
