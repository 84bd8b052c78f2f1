-- A walk that comes through gives nodes their heights, so there is no cycle.
use Rattle.std.proofs.Common.{◌≡◌, ℕ, cond, eqb, ◌<◌, ◌≤◌, List, [], ◌∷◌, length, inl, inr, ⊎_elim, sym, subst, arith, true, false, eq-eqb, ne_eqb}
use Rattle.std.specs.List.{flat_map}
use Rattle.std.proofs.lemmas.Bool.{cases_Bool, cond-true, cond-false, cases_lt}
use Rattle.std.proofs.lemmas.List.{get_or_past}
use Rattle.mk_lemmas.proofs.Members.{length-le_distinct}
use Rattle.mk_graph.specs.declared.node.Node.{Node}
use Rattle.mk_graph.specs.Membership.{Has}
use Rattle.mk_graph.specs.Graph.{Graph, node, no_node, prerequisites, Reached, goal, onward, HasPath, one, then, HasNoCycle, IsSound}
use Rattle.mk_graph.specs.Walk.{Through}
use Rattle.mk_graph.specs.Build.{WalksAll}
use Rattle.mk_graph.proofs.Walks.{IsOrdered, ordered_needs, ordered_distinct, keeps_order, takes, holds_through}

-- how many nodes stand behind n
abbrev behind : List ℕ → ℕ → ℕ
behind [] n = 0
behind (m ∷ ms) n = cond (eqb m n) (length ms) (behind ms n)

-- at the front, all others stand behind it
behind_here : (m n : ℕ) (ms : List ℕ) → eqb m n ≡ true → behind (m ∷ ms) n ≡ length ms
behind_here m n ms e = cond-true (eqb m n) (length ms) (behind ms n) e

-- not at the front, those behind it are those of the rest
behind_there : (m n : ℕ) (ms : List ℕ) → eqb m n ≡ false → behind (m ∷ ms) n ≡ behind ms n
behind_there m n ms e = cond-false (eqb m n) (length ms) (behind ms n) e

-- behind what stands in a list stand fewer than the list has
behind_lt : (ms : List ℕ) (n : ℕ) → Has ms n → behind ms n < length ms
behind_lt [] n h = absurd h
behind_lt (m ∷ ms) n (inl here) = let e = behind_here m n ms (eq-eqb m n here) in omega arith
behind_lt (m ∷ ms) n (inr there) =
    let less = behind_lt ms n there in
    ⊎_elim (λ e. let at = behind_here m n ms e in omega arith) (λ e. let at = behind_there m n ms e in omega arith) (cases_Bool (eqb m n))

-- behind a prerequisite stand fewer
behind_falls : (needs : ℕ → List ℕ) (ms : List ℕ) (n p : ℕ) → IsOrdered needs ms → Has ms n → Has (needs n) p → behind ms p < behind ms n
behind_falls needs [] n p o h need = absurd h
behind_falls needs (m ∷ ms) n p o (inl here) need =
    let there : Has ms p = o.1 p (subst (λ k. Has (needs k) p) (sym here) need) in
    let less = behind_lt ms p there in
    let at = behind_here m n ms (eq-eqb m n here) in
    let under = behind_there m p ms (ne_eqb m p (λ e. o.0 (subst (λ k. Has ms k) (sym e) there))) in
    omega arith
behind_falls needs (m ∷ ms) n p o (inr there) need =
    let p_there : Has ms p = ordered_needs needs ms n p o.2 there need in
    let less = behind_falls needs ms n p o.2 there need in
    let at = behind_there m n ms (ne_eqb m n (λ e. o.0 (subst (λ k. Has ms k) (sym e) there))) in
    let under = behind_there m p ms (ne_eqb m p (λ e. o.0 (subst (λ k. Has ms k) (sym e) p_there))) in
    omega arith

-- what is no node has no prerequisites
pub no_prerequisites : (g : Graph) (n p : ℕ) → length g.nodes ≤ n → ¬ (Has (prerequisites g n) p)
no_prerequisites g n p past h =
    let none : node g n ≡ no_node = get_or_past g.nodes n no_node past in
    subst (λ (v : Node). Has (flat_map (λ group. group) v.groups) p) none h

-- what has prerequisites is a node
pub is_node : (g : Graph) (n p : ℕ) → Has (prerequisites g n) p → n < length g.nodes
is_node g n p h = ⊎_elim (λ lt. lt) (λ past. absurd (no_prerequisites g n p past h)) (cases_lt n (length g.nodes))

-- a walk that comes through has finished all that goals reach
pub finished_all : (g : Graph) (finished : List ℕ) → WalksAll g (Through finished) → (n : ℕ) → Reached g n → Has finished n
finished_all g finished w n (goal h) = takes (prerequisites g) w n h
finished_all g finished w n (onward {n = m} r h) = ordered_needs (prerequisites g) finished m n (keeps_order (prerequisites g) w tt) (finished_all g finished w m r) h

-- and nothing else
pub finished_only : (g : Graph) (finished : List ℕ) → WalksAll g (Through finished) → (n : ℕ) → Has finished n → Reached g n
finished_only g finished w n h = holds_through (prerequisites g) (Reached g) (λ m p r need. onward r need) w (λ m t. goal t) (λ m t. absurd t) n h

-- a sound graph that is walked through has no cycle
pub no_cycle : (g : Graph) (finished : List ℕ) → IsSound g → WalksAll g (Through finished) → HasNoCycle g
no_cycle g finished sound w =
    let ordered = keeps_order (prerequisites g) w tt in
    let within : (n : ℕ) → Has finished n → n < length g.nodes = λ n h. holds_through (prerequisites g) (λ k. k < length g.nodes) (λ m p low need. sound.edges m p need) w sound.goals (λ m t. absurd t) n h in
    let few = length-le_distinct finished (length g.nodes) (ordered_distinct (prerequisites g) finished ordered) within in
    record {
      height = behind finished;
      low = λ n lt. let less = behind_lt finished n (finished_all g finished w n (sound.reached n lt)) in omega arith;
      falls = λ n p need. behind_falls (prerequisites g) finished n p ordered (finished_all g finished w n (sound.reached n (is_node g n p need))) need;
    }

-- along a path of prerequisites heights fall
leads_falls : (g : Graph) (is : HasNoCycle g) (n m : ℕ) → HasPath g n m → is.height m < is.height n
leads_falls g is n m (one h) = is.falls n m h
leads_falls g is n m (then {m = k} l h) = let far = leads_falls g is n k l in let near = is.falls k m h in omega arith

-- so none leads from a node to itself
pub no_node_leads_to_itself : (g : Graph) → HasNoCycle g → (n : ℕ) → ¬ (HasPath g n n)
no_node_leads_to_itself g is n l = let less = leads_falls g is n n l in omega arith
