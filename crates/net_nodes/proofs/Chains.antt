-- Chains of references: one that has led nowhere after as many steps as there are references never leads anywhere.
use Rattle.std.proofs.Common.{◌≡◌, ℕ, zero, suc, ◌<◌, ◌≤◌, ◌⊎◌, inl, inr, Bool, true, false, List, length, refl, sym, ap, subst, ◌∙◌, arith, Some, None, Ok, Err}
use Rattle.std.specs.Prelude.{Option, Result}
use Rattle.std.proofs.lemmas.Bool.{true≢false, cases_lt}
use Rattle.std.proofs.lemmas.List.{get_or_past}
use Rattle.net_model.specs.declared.nets.RefKind.{RefKind}
use Rattle.net_model.specs.declared.nets.RefKind.TheVariants as refers
use Rattle.net_nodes.specs.declared.links.Link.{Link}
use Rattle.net_nodes.specs.declared.nodes.Node.{Node}
use Rattle.net_nodes.specs.declared.nodes.Node.TheVariants as node
use Rattle.net_nodes.specs.declared.nodes.End.{End}
use Rattle.net_nodes.specs.declared.nodes.ReferenceFault.{ReferenceFault}
use Rattle.net_nodes.specs.declared.nodes.ReferenceFault.TheVariants as fault
use Rattle.net_nodes.specs.Nodes.{led, of_kind}
use Rattle.net_nodes.specs.Links.{end_by, link_end, link_kind, link_target, no_link}
use Rattle.net_nodes.proofs.Counted.{Implies, many, many-all, many-same}

abbrev Answer : Type 0
Answer = Result End ReferenceFault

-- whether a chain has come to where it leads
abbrev is_settled : Answer → Bool
is_settled (Ok there) = true
is_settled (Err fault.UnknownNode) = true
is_settled (Err fault.OtherKind) = true
is_settled (Err fault.Circle) = false

unsettled : (x : Answer) → is_settled x ≡ false → x ≡ Err fault.Circle
unsettled (Ok there) e = absurd (true≢false e)
unsettled (Err fault.UnknownNode) e = absurd (true≢false e)
unsettled (Err fault.OtherKind) e = absurd (true≢false e)
unsettled (Err fault.Circle) e = refl

-- what is led on from a reference of the same kind alone
pub of_kind-same : (kind other : RefKind) (x y : Answer) → (other ≡ kind → x ≡ y) → of_kind kind other x ≡ of_kind kind other y
of_kind-same refers.Place refers.Place x y same = same refl
of_kind-same refers.Transition refers.Transition x y same = same refl
of_kind-same refers.Place refers.Transition x y same = refl
of_kind-same refers.Transition refers.Place x y same = refl

pub of_kind-there : (kind other : RefKind) (x : Answer) → other ≡ kind → of_kind kind other x ≡ x
of_kind-there refers.Place other x is = ap (λ o. of_kind refers.Place o x) is
of_kind-there refers.Transition other x is = ap (λ o. of_kind refers.Transition o x) is

pub of_kind-ok : (kind other : RefKind) (x : Answer) (there : End) → of_kind kind other x ≡ Ok there → x ≡ Ok there
of_kind-ok refers.Place refers.Place x there e = e
of_kind-ok refers.Transition refers.Transition x there e = e
of_kind-ok refers.Place refers.Transition x there e = cc
of_kind-ok refers.Transition refers.Place x there e = cc

of_kind-settled : (kind other : RefKind) (x y : Answer) → (other ≡ kind → is_settled x ≡ true → is_settled y ≡ true)
    → is_settled (of_kind kind other x) ≡ true → is_settled (of_kind kind other y) ≡ true
of_kind-settled refers.Place refers.Place x y more e = more refl e
of_kind-settled refers.Transition refers.Transition x y more e = more refl e
of_kind-settled refers.Place refers.Transition x y more e = refl
of_kind-settled refers.Transition refers.Place x y more e = refl

of_kind-mono : (kind other : RefKind) (x y : Answer) → (is_settled x ≡ true → y ≡ x) → is_settled (of_kind kind other x) ≡ true → of_kind kind other y ≡ of_kind kind other x
of_kind-mono refers.Place refers.Place x y more e = more e
of_kind-mono refers.Transition refers.Transition x y more e = more e
of_kind-mono refers.Place refers.Transition x y more e = refl
of_kind-mono refers.Transition refers.Place x y more e = refl

pub led-same : (kind : RefKind) (kinds : ℕ → RefKind) (f g : ℕ → Answer) (t : Option Node) → ((at : ℕ) → t ≡ Some (node.Reference at) → kinds at ≡ kind → f at ≡ g at)
    → led kind kinds f t ≡ led kind kinds g t
led-same kind kinds f g None same = refl
led-same kind kinds f g (Some (node.Place at)) same = refl
led-same kind kinds f g (Some (node.Transition at)) same = refl
led-same kind kinds f g (Some (node.Reference at)) same = of_kind-same kind (kinds at) (f at) (g at) (same at refl)

led-settled : (kind : RefKind) (kinds : ℕ → RefKind) (f g : ℕ → Answer) (t : Option Node) → ((at : ℕ) → kinds at ≡ kind → is_settled (f at) ≡ true → is_settled (g at) ≡ true)
    → is_settled (led kind kinds f t) ≡ true → is_settled (led kind kinds g t) ≡ true
led-settled kind kinds f g None more e = refl
led-settled kind kinds f g (Some (node.Place at)) more e = e
led-settled kind kinds f g (Some (node.Transition at)) more e = e
led-settled kind kinds f g (Some (node.Reference at)) more e = of_kind-settled kind (kinds at) (f at) (g at) (more at) e

led-mono : (kind : RefKind) (kinds : ℕ → RefKind) (f g : ℕ → Answer) (t : Option Node) → ((at : ℕ) → is_settled (f at) ≡ true → g at ≡ f at)
    → is_settled (led kind kinds f t) ≡ true → led kind kinds g t ≡ led kind kinds f t
led-mono kind kinds f g None more e = refl
led-mono kind kinds f g (Some (node.Place at)) more e = refl
led-mono kind kinds f g (Some (node.Transition at)) more e = refl
led-mono kind kinds f g (Some (node.Reference at)) more e = of_kind-mono kind (kinds at) (f at) (g at) (more at) e

-- a chain that has come to where it leads stays there
settled-stays : (links : List Link) (kind : RefKind) (steps : ℕ) (t : Option Node) → is_settled (end_by links kind steps t) ≡ true → end_by links kind (suc steps) t ≡ end_by links kind steps t
settled-stays links kind zero t e = led-mono kind (link_kind links) (λ _. Err fault.Circle) (λ at. end_by links kind zero (link_target links at)) t (λ at never. absurd (true≢false (sym never))) e
settled-stays links kind (suc steps) t e =
    led-mono kind (link_kind links) (λ at. end_by links kind steps (link_target links at)) (λ at. end_by links kind (suc steps) (link_target links at)) t
    (λ at here. settled-stays links kind steps (link_target links at) here) e

abbrev is_settled_link : List Link → ℕ → Link → Bool
is_settled_link links steps l = is_settled (end_by links l.kind steps l.target)

abbrev Settled : List Link → ℕ → ℕ → Type 0
Settled links steps at = is_settled (end_by links (link_kind links at) steps (link_target links at)) ≡ true

-- one more step leads no more chains to where they lead
abbrev Stable : List Link → ℕ → Type 0
Stable links steps = (at : ℕ) → Settled links (suc steps) at → Settled links steps at

stable-on : (links : List Link) (steps : ℕ) → Stable links steps → Stable links (suc steps)
stable-on links steps stable at e =
    led-settled (link_kind links at) (link_kind links) (λ k. end_by links (link_kind links at) (suc steps) (link_target links k)) (λ k. end_by links (link_kind links at) steps (link_target links k))
    (link_target links at) (λ k same. by k (link_kind links at) same) e
  where
    by : (k : ℕ) (kind : RefKind) → link_kind links k ≡ kind → is_settled (end_by links kind (suc steps) (link_target links k)) ≡ true → is_settled (end_by links kind steps (link_target links k)) ≡ true
    by k kind same = subst (λ x. is_settled (end_by links x (suc steps) (link_target links k)) ≡ true → is_settled (end_by links x steps (link_target links k)) ≡ true) same (stable k)

settled-more : (links : List Link) (steps : ℕ) → Implies (is_settled_link links steps) (is_settled_link links (suc steps))
settled-more links steps l e = ap is_settled (settled-stays links l.kind steps l.target e) ∙ e

-- where there are no links, nothing is met
settled-past : (links : List Link) (steps : ℕ) → is_settled_link links steps no_link ≡ true
settled-past links zero = refl
settled-past links (suc steps) = refl

settled-by : (links : List Link) (steps : ℕ) → ((at : ℕ) → at < length links → Settled links (suc steps) at → Settled links steps at) → Stable links steps
settled-by links steps within at e = by (cases_lt at (length links))
  where
    by : (at < length links) ⊎ (length links ≤ at) → Settled links steps at
    by (inl is) = within at is e
    by (inr past) = ap (is_settled_link links steps) (get_or_past links at no_link past) ∙ settled-past links steps

few-stable : (links : List Link) (steps : ℕ) → many (is_settled_link links (suc steps)) links ≤ many (is_settled_link links steps) links → Stable links steps
few-stable links steps few =
    settled-by links steps (λ at within e. many-same (is_settled_link links steps) (is_settled_link links (suc steps)) links (settled-more links steps) few at no_link within e)

-- each step leads one chain more to where it leads, or no later one does
progress : (links : List Link) (steps : ℕ) → (steps ≤ many (is_settled_link links steps) links) ⊎ Stable links steps
progress links zero = inl (omega arith)
progress links (suc steps) = by (progress links steps)
  where
    more : steps ≤ many (is_settled_link links steps) links
        → (many (is_settled_link links steps) links < many (is_settled_link links (suc steps)) links) ⊎ (many (is_settled_link links (suc steps)) links ≤ many (is_settled_link links steps) links)
        → (suc steps ≤ many (is_settled_link links (suc steps)) links) ⊎ Stable links (suc steps)
    more h (inl rises) = inl (omega (arith, h, rises))
    more h (inr stays) = inr (stable-on links steps (few-stable links steps stays))

    by : (steps ≤ many (is_settled_link links steps) links) ⊎ Stable links steps → (suc steps ≤ many (is_settled_link links (suc steps)) links) ⊎ Stable links (suc steps)
    by (inr stable) = inr (stable-on links steps stable)
    by (inl h) = more h (cases_lt (many (is_settled_link links steps) links) (many (is_settled_link links (suc steps)) links))

stable-in-the-end : (links : List Link) → Stable links (length links)
stable-in-the-end links = by (progress links (length links))
  where
    by : (length links ≤ many (is_settled_link links (length links)) links) ⊎ Stable links (length links) → Stable links (length links)
    by (inr stable) = stable
    by (inl all) = settled-by links (length links) (λ at within e.
        many-same (is_settled_link links (length links)) (λ _. true) links (λ x h. refl) (let h = many-all links in omega (arith, all, h)) at no_link within refl)

fixed : (links : List Link) (at : ℕ) → end_by links (link_kind links at) (suc (length links)) (link_target links at) ≡ link_end links at
fixed links at = by (is_settled (link_end links at)) refl
  where
    later : (b : Bool) → is_settled (end_by links (link_kind links at) (suc (length links)) (link_target links at)) ≡ b → is_settled (link_end links at) ≡ false
        → end_by links (link_kind links at) (suc (length links)) (link_target links at) ≡ link_end links at
    later true is not = absurd (true≢false (sym (stable-in-the-end links at is) ∙ not))
    later false is not = unsettled _ is ∙ sym (unsettled _ not)

    by : (b : Bool) → is_settled (link_end links at) ≡ b → end_by links (link_kind links at) (suc (length links)) (link_target links at) ≡ link_end links at
    by true is = settled-stays links (link_kind links at) (length links) (link_target links at) is
    by false is = later _ refl is

-- a reference leads where the one that it leads to does, if that is of the same kind
pub link-led : (links : List Link) (at : ℕ) → link_end links at ≡ led (link_kind links at) (link_kind links) (link_end links) (link_target links at)
link-led links at =
    sym (fixed links at)
    ∙ led-same (link_kind links at) (link_kind links) (λ k. end_by links (link_kind links at) (length links) (link_target links k)) (link_end links) (link_target links at)
    (λ k is same. ap (λ kind. end_by links kind (length links) (link_target links k)) (sym same))
