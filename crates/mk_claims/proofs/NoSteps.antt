-- Lines of which none gives a node a further prerequisite close no cycle.
use Rattle.std.proofs.Common.{◌≡◌, ◌∙◌, ℕ, ◌≤◌, List, [], ◌++◌, length, None, ⊎_elim, ap, subst, sym, append-nil, arith}
use Rattle.std.specs.List.{flat_map}
use Rattle.std.proofs.lemmas.Bool.{cases_lt}
use Rattle.std.proofs.lemmas.List.{get_or_past}
use Rattle.mk_graph.specs.declared.node.Node.{Node}
use Rattle.mk_graph.specs.Build.{WalksAll}
use Rattle.mk_graph.specs.Graph.{Graph, HasPath, IsGraph, no_node, one, prerequisites, then}
use Rattle.mk_graph.specs.Laws.{ClosesOnlyCycles, GoesAlong, WalkHasAnEnd, further, step}
use Rattle.mk_graph.specs.Walk.{Closes, Through, WalkEnd, Walks}
use Rattle.mk_graph.proofs.Acyclic.{no_node_leads_to_itself}
use Rattle.mk_build_needs.specs.NeedsGraph.{IsFirstCycle, with_prerequisites}
use Rattle.mk_repair.specs.Word.{Word}
use Rattle.mk_claims.specs.Offers.{graph_with, needed_in, steps_of}
use Rattle.mk_claims.proofs.WiderGraphs.{count_is, needs_are}

-- along a path a node leads to its end
leads : {g : Graph} {n m : ℕ} {path : List ℕ} → GoesAlong g n m path → HasPath g n m
leads (step h) = one h
leads (further along h) = then (leads along) h

-- the walk of a graph without cycles completes
completes : ClosesOnlyCycles → WalkHasAnEnd → (g : Graph) → IsGraph g → (finished : List ℕ) × WalksAll g (Through finished)
completes closes ends g is = at (ends g is.sound).0 (ends g is.sound).1
  where
    at : (end : WalkEnd) → WalksAll g end → (finished : List ℕ) × WalksAll g (Through finished)
    at (Through finished) w = (finished, w)
    at (Closes path) w = let cycle = closes g path w in absurd (no_node_leads_to_itself g is.no_cycle cycle.first (leads cycle.along))

module _ (g : Graph) (given : ℕ → List ℕ) (same : (n : ℕ) → given n ≡ prerequisites g n) where
  abbrev other : Graph
  other = with_prerequisites g given

  -- a number that is no node's needs nothing
  past_end : (h : Graph) (n : ℕ) → length h.nodes ≤ n → prerequisites h n ≡ []
  past_end h n past = ap (λ (v : Node). flat_map (λ (group : List ℕ). group) v.groups) (get_or_past h.nodes n no_node past)

  -- the nodes need the same
  needs_stay : (n : ℕ) → prerequisites other n ≡ prerequisites g n
  needs_stay n =
      ⊎_elim (λ low. needs_are g given n low ∙ same n)
      (λ past. past_end other n (let count = count_is g given in omega (arith, past)) ∙ sym (past_end g n (omega (arith, past)))) (cases_lt n (length g.nodes))

  walk_stays : (finished : List ℕ) → WalksAll g (Through finished) → WalksAll other (Through finished)
  walk_stays finished w = subst (λ (needs : ℕ → List ℕ). Walks needs [] [] g.goals (Through finished)) (λ i n. sym (needs_stay n) i) w

-- without steps there is no cycle
pub no_steps : ClosesOnlyCycles → WalkHasAnEnd → (g : Graph) → IsGraph g → (words : List Word) → steps_of g words ≡ [] → IsFirstCycle (graph_with g words) None
no_steps closes ends g is words none =
    let whole = completes closes ends g is in (
      whole.0,
      walk_stays g (λ n. prerequisites g n ++ needed_in n (steps_of g words))
          (λ n. ap (λ (l : List (ℕ × ℕ)). prerequisites g n ++ needed_in n l) none ∙ append-nil (prerequisites g n)) whole.0 whole.1,
    )
