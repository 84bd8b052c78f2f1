-- Histories that show a race.
use Rattle.std.proofs.Common.{◌≡◌, ℕ, ◌+◌, ◌*◌, ◌<◌, ◌≤◌, List, [], ◌∷◌, ◌++◌, length, reverse, true, refl, sym, ap, ◌∙◌, subst, inl, inr, ◌⊎◌, arith}
use Rattle.std.specs.Prelude.{sum_by}
use Rattle.std.proofs.lemmas.List.{reverse-reverse}
use mathlib.Core.List.{reverse-cons}
use Rattle.std.proofs.lemmas.List.Sums.{sum_by-append, sum_by-cons}
use Rattle.mk_lemmas.proofs.Members.{Has-left, Has-reverse, Has-right}
use Rattle.mk_graph.specs.Membership.{Has}
use Rattle.mk_graph.specs.Graph.{Graph, IsGraph, node}
use Rattle.mk_graph.specs.Serial.{serial_order}
use Rattle.mk_build.specs.Setting.{Setting, writes, writings}
use Rattle.mk_build.specs.World.{Disk, World, Idle, Busy, IsStartDisk, last_stamp}
use Rattle.mk_graph.specs.Schedules.{HasAll, Wanted, goal, onward, IsPart, IsScheduleWithout}
use Rattle.mk_build.specs.ScheduleMake.{until_begin, RunsAlone}
use Rattle.mk_build.specs.Steps.{Step, Begin, make_of, IsLegal, after, after_all}
use Rattle.mk_build.specs.NodeByNode.{MakesAllBut}
use Rattle.mk_build.specs.BuildLaws.{SchedulesRun}
use Rattle.mk_graph.specs.Laws.{SerialReachesEachOnce}
use Rattle.mk_find_evidence.specs.Shown.{IsDoneIn}
use Rattle.mk_find_evidence.proofs.Steps.{after_appended, makes_alike}
use Rattle.mk_find_evidence.proofs.Counts.{turns_low, writings_within}

-- where a node is wanted there is a goal
some_goal : (g : Graph) (goals done : List ℕ) (n : ℕ) → Wanted g goals done n → ¬ (goals ≡ [])
some_goal g goals done n (goal h) e = subst (λ (l : List ℕ). Has l n) e h
some_goal g goals done n (onward {p = p} before h) e = some_goal g goals done p before e

all_within : (ns goals : List ℕ) → ((n : ℕ) → Has ns n → Has goals n) → HasAll goals ns
all_within [] goals all = tt
all_within (n ∷ ns) goals all = (all n (inl refl), all_within ns goals (λ m h. all m (inr h)))

-- the goals are a part of the goals
pub all_are_part : (g : Graph) (o t : ℕ) (ns : List ℕ) → IsScheduleWithout g o t ns → IsPart g.goals g.goals
all_are_part g o t ns past = record { not_empty = some_goal g g.goals ns t past.can_start.wanted; within = all_within g.goals g.goals (λ n h. h) }

has_pushed : (xs : List ℕ) (x n : ℕ) → Has xs n ⊎ (x ≡ n) → Has (xs ++ x ∷ []) n
has_pushed xs x n h = elim h [ inl before ↦ Has-left xs (x ∷ []) n before | inr last ↦ Has-right xs (x ∷ []) n (inl last) ]

-- the turns are nodes
pub turns_are_nodes : (g : Graph) (o t : ℕ) (turns : List ℕ) → IsGraph g → IsScheduleWithout g o t (reverse turns) → (n : ℕ) → Has turns n → n < length g.nodes
turns_are_nodes g o t turns is past n h = turns_low g (reverse turns) is past.turns n (Has-reverse turns n h)

sum_reversed : (F : ℕ → ℕ) (xs : List ℕ) → sum_by F (reverse xs) ≡ sum_by F xs
sum_reversed F [] = refl
sum_reversed F (x ∷ xs) =
    let split = ap (sum_by F) (reverse-cons x xs) ∙ sum_by-append F (reverse xs) (x ∷ []) in
    let one = sum_by-cons F x [] in
    let all = sum_by-cons F x xs in
    let rest = sum_reversed F xs in
    omega arith

module _ (g : Graph) (s : Setting) (d : Disk) (o t : ℕ) (turns : List ℕ) (is : IsGraph g) (run : SchedulesRun)
    (once : SerialReachesEachOnce) (start : IsStartDisk s d) (past : IsScheduleWithout g o t (reverse turns))
    (recipe : (node g t).recipe ≡ true) (room : d.clock + (2 * writings g s (serial_order g) + 1) ≤
    last_stamp) where
  -- Steps that make these turns, and then the begin, are legal, and t runs alone then.
  pub turns_run : (passed : List ℕ) (none : (n : ℕ) → ¬ (Has passed n)) (steps : List Step)
      → MakesAllBut g s (Has passed) (Busy (make_of 1 g.goals) d) turns steps
      → IsLegal g s (Idle d) (until_begin g.goals steps t)
      × RunsAlone (reverse turns) t (after_all g s (Idle d) (until_begin g.goals steps t))
  turns_run passed none steps makes =
      let all = makes_alike g s (Has passed) (λ n. ⊥) none (λ n h. absurd h) makes in
      let few = writings_within g s (reverse turns) is once past.turns in
      let same = sum_reversed (λ n. length (writes g s n)) (reverse turns) in
      let turned = subst (λ (l : List ℕ). MakesAllBut g s (λ n. ⊥) (Busy (make_of 1 g.goals) d) l steps) (sym (reverse-reverse turns)) all in
      run g s d g.goals (reverse turns) t steps start (all_are_part g o t (reverse turns) past) past.turns past.can_start recipe (omega arith) turned

  done_before : (w : World) → RunsAlone (reverse turns) t (after g s w (Begin t)) → IsDoneIn w o → Has (reverse turns) o
  done_before (Idle e) runs done = absurd done
  done_before (Busy m e) runs done = subst (λ (l : List ℕ). Has l o) runs.0 done

  -- Before the begin o isn't done.
  pub not_done_before : (before : List Step) → RunsAlone (reverse turns) t (after_all g s (Idle d) (before ++ Begin t ∷ [])) → ¬ (IsDoneIn (after_all g s (Idle d) before) o)
  not_done_before before runs done = past.lacks (done_before (after_all g s (Idle d) before) (subst (RunsAlone (reverse turns) t) (after_appended g s (Idle d) before (Begin t ∷ [])) runs) done)
