-- All nodes without recipe that are ready can be passed, one after another.
use Rattle.std.proofs.Common.{◌≡◌, ◌⊎◌, ℕ, zero, suc, ◌+◌, ◌<◌, ◌≤◌, Bool, true, false, List, [], ◌∷◌, length, refl, subst, inl, inr, arith}
use Rattle.std.proofs.lemmas.Bool.{cases_lt, true≢false}
use Rattle.std.proofs.lemmas.List.{get_or_past}
use Rattle.mk_lemmas.proofs.Members.{Has-from_has, not-from_has}
use Rattle.mk_graph.proofs.OpenGroups.{InOpenGroup-Has}
use Rattle.mk_world.proofs.Idle.{fewer_missing, first_is_idle, missing}
use Rattle.mk_graph.specs.declared.node.Node.{Node}
use Rattle.mk_graph.specs.Membership.{Has, has, IsWithin}
use Rattle.mk_graph.specs.Graph.{Graph, IsGraph, node, no_node, prerequisites}
use Rattle.mk_graph.specs.Serial.{serial_order}
use Rattle.mk_graph.specs.Schedules.{HasAll, InOpenGroup, Wanted, goal, onward}
use Rattle.mk_build.specs.World.{Disk, Making, World, Idle, Busy}
use Rattle.mk_build.specs.Steps.{finished}
use Rattle.mk_world.specs.declared.plan.PlanCommand.{PlanCommand}
use Rattle.mk_world.specs.declared.plan.PlanCommand.TheVariants as order
use Rattle.mk_world.specs.Running.{IsIdle, IsFirstIdle, AreNotIdle, Passes, PassesAll, PassesAllIn, PassesBefore}
use Rattle.mk_world_plan.proofs.Agreeing.{wanted_low}

-- it holds, or it doesn't
abbrev IsDecided : Type 0 → Type 0
IsDecided P = P ⊎ (¬ P)

has_decided : (ns : List ℕ) (n : ℕ) → IsDecided (Has ns n)
has_decided ns n = at (has ns n) refl
  where
    at : (b : Bool) → has ns n ≡ b → IsDecided (Has ns n)
    at true e = inl (Has-from_has ns n e)
    at false e = inr (not-from_has ns n e)

all_decided : (ns ms : List ℕ) → IsDecided (HasAll ns ms)
all_decided ns [] = inl tt
all_decided ns (m ∷ ms) = elim (has_decided ns m) [
  | inl h ↦ elim (all_decided ns ms) [ inl r ↦ inl (h, r) | inr not ↦ inr (λ all. not all.1) ]
  | inr not ↦ inr (λ all. not all.0)
]

open_decided : (done : List ℕ) (groups : List (List ℕ)) (n : ℕ) → IsDecided (InOpenGroup done groups n)
open_decided done [] n = inr (λ h. h)
open_decided done (group ∷ groups) n = elim (has_decided group n) [
  | inl h ↦ inl (inl h)
  | inr not ↦ elim (all_decided done group) [
    | inl all ↦ elim (open_decided done groups n) [
      | inl later ↦ inl (inr (all, later))
      | inr none ↦ inr (λ h. elim h [ inl here ↦ not here | inr r ↦ none r.1 ])
    ]
    | inr shut ↦ inr (λ h. elim h [ inl here ↦ not here | inr r ↦ shut r.0 ])
  ]
]

-- who has groups is a node
open_low : (g : Graph) (done : List ℕ) (p n : ℕ) → InOpenGroup done (node g p).groups n → p < length g.nodes
open_low g done p n stands = elim (cases_lt p (length g.nodes)) [
  | inl low ↦ low
  | inr high ↦ absurd (subst (λ (v : Node). InOpenGroup done v.groups n) (get_or_past g.nodes p no_node high) stands)
]

-- a wanted node among the first ones, in an open group of which this one stands
abbrev IsWantedBy : (g : Graph) (goals done : List ℕ) (many n : ℕ) → Type 0
IsWantedBy g goals done many n = (p : ℕ) × (p < many) × Wanted g goals done p × InOpenGroup done (node g p).groups n

not_wanted : (g : Graph) (goals done : List ℕ) (n : ℕ) → ¬ (Has goals n) → ¬ (IsWantedBy g goals done (length g.nodes) n) → ¬ (Wanted g goals done n)
not_wanted g goals done n no_goal by_none (goal h) = no_goal h
not_wanted g goals done n no_goal by_none (onward {p = p} w stands) = by_none (p, open_low g done p n stands, w, stands)

module _ (g : Graph) (goals done : List ℕ) (is : IsGraph g) (within : IsWithin goals g.goals) where
  -- what is wanted is decided from the greatest heights down
  abbrev IsDecidedAbove : ℕ → Type 0
  IsDecidedAbove k = (n : ℕ) → length g.nodes ≤ is.no_cycle.height n + k → IsDecided (Wanted g goals done n)

  by_decided : (k n : ℕ) → IsDecidedAbove k → length g.nodes ≤ is.no_cycle.height n + suc k → (many : ℕ) → IsDecided (IsWantedBy g goals done many n)
  by_decided k n above bound zero = inr (λ h. let low = h.1 in absurd (omega arith))
  by_decided k n above bound (suc j) = elim (by_decided k n above bound j) [
    | inl r ↦ inl (r.0, (let low = r.1 in omega arith), r.2, r.3)
    | inr none ↦ elim (open_decided done (node g j).groups n) [
      | inl stands ↦
          let falls = is.no_cycle.falls j n (InOpenGroup-Has done (node g j).groups n stands) in
          elim (above j (omega arith)) [
            | inl w ↦ inl (j, omega arith, w, stands)
            | inr not ↦ inr (λ h. elim (cases_lt h.0 j) [
              | inl low ↦ none (h.0, low, h.2, h.3)
              | inr high ↦ not (subst (Wanted g goals done) (let low = h.1 in omega arith) h.2)
            ])
          ]
      | inr shut ↦ inr (λ h. elim (cases_lt h.0 j) [
        | inl low ↦ none (h.0, low, h.2, h.3)
        | inr high ↦ shut (subst (λ i. InOpenGroup done (node g i).groups n) (let low = h.1 in omega arith) h.3)
      ])
    ]
  ]

  above_decided : (k : ℕ) → IsDecidedAbove k
  above_decided zero n bound = inr (λ w. let low = is.no_cycle.low n (wanted_low g goals done is within n w) in absurd (omega arith))
  above_decided (suc k) n bound = elim (has_decided goals n) [
    | inl h ↦ inl (goal h)
    | inr no_goal ↦ elim (by_decided k n (above_decided k) bound (length g.nodes)) [
      | inl r ↦ inl (onward r.2 r.3)
      | inr none ↦ inr (not_wanted g goals done n no_goal none)
    ]
  ]

  pub wanted_decided : (n : ℕ) → IsDecided (Wanted g goals done n)
  wanted_decided n = above_decided (length g.nodes) n (omega arith)

off_decided : (b : Bool) → IsDecided (b ≡ false)
off_decided true = inr (λ e. true≢false e)
off_decided false = inl refl

idle_decided : (g : Graph) (m : Making) → IsGraph g → IsWithin m.goals g.goals → (n : ℕ) → IsDecided (IsIdle g m n)
idle_decided g m is within n = elim (wanted_decided g m.goals m.done is within n) [
  | inr not ↦ inr (λ h. not h.0.0.wanted)
  | inl wanted ↦ elim (has_decided m.done n) [
    | inl done ↦ inr (λ h. h.0.0.not_done done)
    | inr not_done ↦ elim (all_decided m.done (prerequisites g n)) [
      | inr not ↦ inr (λ h. not h.0.0.prerequisites)
      | inl all ↦ elim (has_decided m.running n) [
        | inl runs ↦ inr (λ h. h.0.1 runs)
        | inr still ↦ elim (has_decided m.broken n) [
          | inl broke ↦ inr (λ h. h.0.2 broke)
          | inr sound ↦ elim (off_decided (node g n).recipe) [
            | inl off ↦ inl ((record { wanted = wanted; not_done = not_done; prerequisites = all }, still, sound), off)
            | inr on ↦ inr (λ h. on h.1)
          ]
        ]
      ]
    ]
  ]
]

-- the first idle node of a list, or none is there
first_decided : (g : Graph) (m : Making) → IsGraph g → IsWithin m.goals g.goals → (xs : List ℕ) → ((n : ℕ) × IsFirstIdle g m xs n) ⊎ AreNotIdle g m xs
first_decided g m is within [] = inr (λ n h. absurd h)
first_decided g m is within (x ∷ xs) = elim (idle_decided g m is within x) [
  | inl here ↦ inl (x, inl (here, refl))
  | inr not ↦ elim (first_decided g m is within xs) [
    | inl r ↦ inl (r.0, inr (not, r.1))
    | inr none ↦ inr (λ n h. elim h [ inl e ↦ subst (λ k. ¬ (IsIdle g m k)) e not | inr r ↦ none n r ])
  ]
]

-- They are passed until none is left.
record PassesOut (g : Graph) (m : Making) : Type 0 where
  nodes : List ℕ
  end : Making
  passes : Passes g m nodes end
  none_left : AreNotIdle g end (serial_order g)

passes_out : (g : Graph) → IsGraph g → (fuel : ℕ) (m : Making) → IsWithin m.goals g.goals → missing (length g.nodes) m.done < fuel → PassesOut g m
passes_out g is zero m within few = absurd (omega arith)
passes_out g is (suc fuel) m within few = elim (first_decided g m is within (serial_order g)) [
  | inr none ↦ record { nodes = []; end = m; passes = refl; none_left = none }
  | inl first ↦
      let n = first.0 in
      let idle = first_is_idle g m (serial_order g) n first.1 in
      let low = wanted_low g m.goals m.done is within n idle.0.0.wanted in
      let fewer = fewer_missing (length g.nodes) n m.done low idle.0.0.not_done in
      let rest = passes_out g is fuel (finished m n) within (omega arith) in
      record { nodes = n ∷ rest.nodes; end = rest.end; passes = (first.1, rest.passes); none_left = rest.none_left }
]

all_passed : (g : Graph) (m : Making) (d : Disk) → IsGraph g → IsWithin m.goals g.goals → (behind : World) × PassesAll g m d behind
all_passed g m d is within =
    let out = passes_out g is (suc (missing (length g.nodes) m.done)) m within (omega arith) in
    (Busy out.end d, record { nodes = out.nodes; end = out.end; passes = out.passes; none_left = out.none_left; leaves = refl })

-- the goals of the make are of the graph, if one is in progress
abbrev pub HasGoalsOf : Graph → World → Type 0
HasGoalsOf g (Idle d) = Unit {0}
HasGoalsOf g (Busy m d) = IsWithin m.goals g.goals

passed_in : (g : Graph) (w : World) → IsGraph g → HasGoalsOf g w → (behind : World) × PassesAllIn g w behind
passed_in g (Idle d) is of = (Idle d, refl)
passed_in g (Busy m d) is of = all_passed g m d is of

-- so a run can make ready for each line
pub passed_before : (g : Graph) (o : PlanCommand) (w : World) → IsGraph g → HasGoalsOf g w → (behind : World) × PassesBefore g o w behind
passed_before g (order.Make jobs goals) w is of = (w, refl)
passed_before g order.Stop w is of = (w, refl)
passed_before g (order.Begin t) w is of = passed_in g w is of
passed_before g (order.Look t f) w is of = (w, refl)
passed_before g (order.Put t f c) w is of = (w, refl)
passed_before g (order.Done t) w is of = (w, refl)
passed_before g (order.Break t removed) w is of = (w, refl)
passed_before g (order.Finish t) w is of = (w, refl)
passed_before g (order.Run t) w is of = passed_in g w is of
passed_before g (order.Pass t) w is of = passed_in g w is of
passed_before g order.End w is of = passed_in g w is of
passed_before g (order.Edit f c) w is of = (w, refl)
