-- What is wanted and whose turn may come, as more is done, and what stands in a turn list.
use Rattle.std.proofs.Common.{◌≡◌, ℕ, List, [], ◌∷◌, true, inl, inr, sym, subst}
use Rattle.mk_graph.proofs.Parts.{HasAll-from_Has}
use Rattle.mk_graph.specs.Membership.{Has, IsWithin}
use Rattle.mk_graph.specs.Graph.{Graph, node, prerequisites}
use Rattle.mk_graph.specs.Schedules.{HasAll, InOpenGroup, Wanted, goal, onward, CanStart, IsSchedule, IsPart, Before}

-- one of a list that stands wholly in another
pub HasAll-has : (ns ms : List ℕ) (m : ℕ) → HasAll ns ms → Has ms m → Has ns m
HasAll-has ns [] m all h = absurd h
HasAll-has ns (k ∷ ms) m all (inl here) = subst (λ (n : ℕ). Has ns n) here all.0
HasAll-has ns (k ∷ ms) m all (inr there) = HasAll-has ns ms m all.1 there

module _ (done more : List ℕ) (grows : IsWithin done more) where
  -- what was all done is
  pub HasAll-grow : (ms : List ℕ) → HasAll done ms → HasAll more ms
  HasAll-grow ms all = HasAll-from_Has more ms (λ n h. grows n (HasAll-has done ms n all h))

  -- an open group stays open
  pub InOpenGroup-grow : (groups : List (List ℕ)) (n : ℕ) → InOpenGroup done groups n → InOpenGroup more groups n
  InOpenGroup-grow [] n h = absurd h
  InOpenGroup-grow (group ∷ groups) n (inl here) = inl here
  InOpenGroup-grow (group ∷ groups) n (inr there) = inr (HasAll-grow group there.0, InOpenGroup-grow groups n there.1)

  -- what is wanted stays wanted, of more goals too
  pub Wanted-grow : (g : Graph) (goals all : List ℕ) → IsWithin goals all → {n : ℕ} → Wanted g goals done n → Wanted g all more n
  Wanted-grow g goals all within (goal {n = n} h) = goal (within n h)
  Wanted-grow g goals all within (onward {p = p} {n = n} w h) = onward (Wanted-grow g goals all within w) (InOpenGroup-grow (node g p).groups n h)

  -- a turn that may come may come later, unless the node is done
  pub CanStart-grow : (g : Graph) (goals : List ℕ) (n : ℕ) → ¬ (Has more n) → CanStart g goals done n → CanStart g goals more n
  CanStart-grow g goals n out may = record { wanted = Wanted-grow g goals goals (λ k h. h) may.wanted; not_done = out; prerequisites = HasAll-grow (prerequisites g n) may.prerequisites }

module _ (g : Graph) (goals : List ℕ) where
  -- what stands in a turn list stands behind its prerequisites
  pub turn_has_prerequisites : (ns : List ℕ) (n p : ℕ) → IsSchedule g goals ns → Has ns n → Has (prerequisites g n) p → Has ns p
  turn_has_prerequisites [] n p turns h need = absurd h
  turn_has_prerequisites (m ∷ ns) n p turns (inl here) need = inr (HasAll-has ns (prerequisites g m) p turns.0.prerequisites (subst (λ (k : ℕ). Has (prerequisites g k) p) (sym here) need))
  turn_has_prerequisites (m ∷ ns) n p turns (inr there) need = inr (turn_has_prerequisites ns n p turns.1 there need)

  module _ (part : IsPart goals g.goals) (o t : ℕ) (recipe : (node g t).recipe ≡ true) (before : Before g o t) where
    -- who is before a node that stands in a turn list stands in it
    pub turn_has_before : (ns : List ℕ) → IsSchedule g goals ns → Has ns t → Has ns o
    turn_has_before [] turns h = absurd h
    turn_has_before (m ∷ ns) turns (inl here) = inr (before recipe goals ns part turns.1 (subst (λ (k : ℕ). CanStart g goals ns k) here turns.0))
    turn_has_before (m ∷ ns) turns (inr there) = inr (turn_has_before ns turns.1 there)
