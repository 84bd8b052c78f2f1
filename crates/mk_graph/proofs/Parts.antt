-- What is wanted grows with the goals and with what is done, so a turn list of a part of the goals is one of all.
use Rattle.std.proofs.Common.{ℕ, List, [], ◌∷◌, inl, inr, refl, subst}
use Rattle.mk_graph.specs.Membership.{Has, IsWithin}
use Rattle.mk_graph.specs.Graph.{Graph, node}
use Rattle.mk_graph.specs.Schedules.{HasAll, InOpenGroup, Wanted, goal, onward, CanStart, IsSchedule, IsPart}
use Rattle.mk_graph.specs.ScheduleLaws.{AllGoalsSuffice}

-- all of a list stands there, element by element
pub HasAll-from_Has : (ns ms : List ℕ) → IsWithin ms ns → HasAll ns ms
HasAll-from_Has ns [] h = tt
HasAll-from_Has ns (m ∷ ms) h = (h m (inl refl), HasAll-from_Has ns ms (λ k t. h k (inr t)))

-- and the other way round
pub Has-from_HasAll : (ns ms : List ℕ) → HasAll ns ms → IsWithin ms ns
Has-from_HasAll ns [] all n h = absurd h
Has-from_HasAll ns (m ∷ ms) all n (inl here) = subst (λ k. Has ns k) here all.0
Has-from_HasAll ns (m ∷ ms) all n (inr there) = Has-from_HasAll ns ms all.1 n there

-- what stands in the one list stands in the other
pub HasAll-grows : (ns ms all : List ℕ) → IsWithin ns ms → HasAll ns all → HasAll ms all
HasAll-grows ns ms [] within h = tt
HasAll-grows ns ms (k ∷ all) within h = (within k h.0, HasAll-grows ns ms all within h.1)

-- an open group stays open
pub InOpenGroup-grows : (ns ms : List ℕ) (groups : List (List ℕ)) (n : ℕ) → IsWithin ns ms → InOpenGroup ns groups n → InOpenGroup ms groups n
InOpenGroup-grows ns ms [] n within h = absurd h
InOpenGroup-grows ns ms (group ∷ groups) n within (inl here) = inl here
InOpenGroup-grows ns ms (group ∷ groups) n within (inr later) = inr (HasAll-grows ns ms group within later.0, InOpenGroup-grows ns ms groups n within later.1)

-- what is wanted stays so, with more goals and more nodes done
pub Wanted-grows : (g : Graph) (goals all ns ms : List ℕ) → IsWithin goals all → IsWithin ns ms → (n : ℕ) → Wanted g goals ns n → Wanted g all ms n
Wanted-grows g goals all ns ms goals_within within n (goal h) = goal (goals_within n h)
Wanted-grows g goals all ns ms goals_within within n (onward {p} w stands) = onward (Wanted-grows g goals all ns ms goals_within within p w) (InOpenGroup-grows ns ms (node g p).groups n within stands)

-- what may turn in a make of some goals may turn in one of more
pub CanStart-grows : (g : Graph) (goals all ns : List ℕ) (n : ℕ) → IsWithin goals all → CanStart g goals ns n → CanStart g all ns n
CanStart-grows g goals all ns n within may = record {
  wanted = Wanted-grows g goals all ns ns within (λ k h. h) n may.wanted;
  not_done = may.not_done;
  prerequisites = may.prerequisites;
}

-- so a turn list stays one
pub IsSchedule-grows : (g : Graph) (goals all ns : List ℕ) → IsWithin goals all → IsSchedule g goals ns → IsSchedule g all ns
IsSchedule-grows g goals all [] within turns = tt
IsSchedule-grows g goals all (n ∷ ns) within turns = (CanStart-grows g goals all ns n within turns.0, IsSchedule-grows g goals all ns within turns.1)

-- what has a part that isn't empty is one
pub part_of_itself : (goals all : List ℕ) → IsPart goals all → IsPart all all
part_of_itself [] all part = absurd (part.not_empty refl)
part_of_itself (n ∷ goals) [] part = absurd part.within.0
part_of_itself (n ∷ goals) (m ∷ all) part = record { not_empty = λ e. absurd (cc); within = HasAll-from_Has (m ∷ all) (m ∷ all) (λ k h. h) }

-- makes of all goals tell
pub all_goals_suffice : AllGoalsSuffice
all_goals_suffice g o t all recipe goals ns part turns may =
    let within = Has-from_HasAll g.goals goals part.within in
    all recipe ns (part_of_itself goals g.goals part) (IsSchedule-grows g goals g.goals ns within turns) (CanStart-grows g goals g.goals ns t within may)
