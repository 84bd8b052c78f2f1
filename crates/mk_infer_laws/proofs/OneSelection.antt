-- What becomes of goals is one.
use Rattle.std.proofs.Common.{◌≡◌, ◌≢◌, ℕ, List, [], map, Option, Some, None, Result, Ok, Err, ◌⊎◌, inl, inr, refl, sym, ap, subst, ◌∙◌, arith}
use Rattle.mk_graph.specs.Graph as value
use Rattle.mk_graph.specs.Walk.{WalkEnd, Through, Closes}
use Rattle.mk_graph.specs.Build.{Builds}
use Rattle.mk_graph.specs.Laws.{WalkHasOneEnd}
use Rattle.mk_graph.specs.declared.fault.GraphFault.{GraphFault}
use Rattle.mk_graph.specs.declared.fault.GraphFault.TheVariants as graph
use Rattle.mk_read.specs.Reading.{Makefile}
use Rattle.mk_read.specs.declared.fault.Place.{Place}
use Rattle.mk_infer.specs.declared.fault.InferFault.{InferFault}
use Rattle.mk_infer.specs.declared.fault.InferFault.TheVariants.{BadGoal, GoalIsMember, NoRule, NoGoal, InferencePrerequisites, Macro, Graph as Refused, Memory}
use Rattle.mk_infer.specs.Laws.{IsSettled, SelectionIsOne}
use Rattle.mk_infer.specs.Needed.{place_of_graph}
use Rattle.mk_infer.specs.Selection.{Built, BuiltUnless, Selects, graph_of, lacking, needs}
use Rattle.mk_infer.specs.There.{Exists}
use Rattle.mk_infer.specs.Walk.{Meets}
use Rattle.mk_infer_laws.proofs.Walks.{walk_is_one}

abbrev Answer : Type 0
Answer = Result value.Graph InferFault

path_of : WalkEnd → List ℕ
path_of (Through finished) = []
path_of (Closes path) = path

CameThrough : WalkEnd → Type 0
CameThrough (Through finished) = Unit {0}
CameThrough (Closes path) = ⊥

-- a graph that is built, or why it is refused
abbrev IsFate : Makefile → value.Graph → Answer → Type 0
IsFate m handed answer =
    ((g : value.Graph) × (answer ≡ Ok g) × Built m handed (Ok g))
    ⊎ ((fault : GraphFault) × (place : Option Place) × (answer ≡ Err (Refused fault place)) × Built m handed (Err (Refused fault place)))

fate : (m : Makefile) (handed : value.Graph) (answer : Answer) → Built m handed answer → IsFate m handed answer
fate m handed (Ok g) b = inl (g, refl, b)
fate m handed (Err (Refused fault place)) b = inr (fault, place, refl, b)
fate m handed (Err (BadGoal place)) b = absurd b
fate m handed (Err (GoalIsMember place)) b = absurd b
fate m handed (Err (NoRule name place)) b = absurd b
fate m handed (Err NoGoal) b = absurd b
fate m handed (Err (InferencePrerequisites place)) b = absurd b
fate m handed (Err (Macro place fault)) b = absurd b
fate m handed (Err Memory) b = absurd b

module _ (one_end : WalkHasOneEnd) (m : Makefile) (handed : value.Graph) where
  -- what is built isn't refused
  not_both : (g : value.Graph) (fault : GraphFault) (place : Option Place) → Built m handed (Ok g) → Built m handed (Err (Refused fault place)) → ⊥
  unfolding CameThrough
  not_both g graph.TooManyNodes place (le, finished, w, e) (lt, is) = omega arith
  not_both g (graph.Cycle names) place (le, finished, w, e) ((at_most, path, v, f), is) = subst CameThrough (one_end handed (Through finished) (Closes path) w v) tt
  not_both g graph.Memory place b refused = refused

  -- it is refused for one fault
  faults_one : (fault other : GraphFault) → Builds handed (Err fault) → Builds handed (Err other) → fault ≢ graph.Memory → other ≢ graph.Memory → fault ≡ other
  unfolding path_of
  faults_one graph.TooManyNodes graph.TooManyNodes b c s t = refl
  faults_one graph.TooManyNodes (graph.Cycle names) lt (le, path, w, e) s t = absurd (omega arith)
  faults_one (graph.Cycle names) graph.TooManyNodes (le, path, w, e) lt s t = absurd (omega arith)
  faults_one (graph.Cycle names) (graph.Cycle more) (le, path, w, e) (at_most, same, v, f) s t =
      ap graph.Cycle (e ∙ (ap (λ p. map (λ n. (value.node handed n).name) p) (ap path_of (one_end handed (Closes path) (Closes same) w v)) ∙ sym f))
  faults_one graph.Memory other b c s t = absurd (s refl)
  faults_one graph.TooManyNodes graph.Memory b c s t = absurd (t refl)
  faults_one (graph.Cycle names) graph.Memory b c s t = absurd (t refl)

  -- what a refusal says of its fault
  refused_as : (fault : GraphFault) (place : Option Place) → Built m handed (Err (Refused fault place)) → Builds handed (Err fault) × (place ≡ place_of_graph m fault) × (fault ≢ graph.Memory)
  refused_as graph.TooManyNodes place (b, is) = (b, is, λ e. cc)
  refused_as (graph.Cycle names) place (b, is) = (b, is, λ e. cc)
  refused_as graph.Memory place b = absurd b

  fates_one : (one other : Answer) → IsFate m handed one → IsFate m handed other → one ≡ other
  fates_one one other (inl (g, e, (le, finished, w, is))) (inl (h, f, (at_most, done, v, its))) = e ∙ (ap Ok (is ∙ sym its) ∙ sym f)
  fates_one one other (inl (g, e, built)) (inr (fault, place, f, refused)) = absurd (not_both g fault place built refused)
  fates_one one other (inr (fault, place, e, refused)) (inl (g, f, built)) = absurd (not_both g fault place built refused)
  fates_one one other (inr (fault, place, e, refused)) (inr (more, spot, f, refused_too)) =
      let a = refused_as fault place refused in
      let b = refused_as more spot refused_too in
      let same : fault ≡ more = faults_one fault more a.0 b.0 a.2 b.2 in
      e ∙ (ap (λ p. Err (Refused fault p)) a.1 ∙ (ap (λ x. Err (Refused x (place_of_graph m x))) same ∙ (ap (λ p. Err (Refused more p)) (sym b.1) ∙ sym f)))

  built_one : (first : Option (List ℕ)) (one other : Answer) → BuiltUnless m first handed one → BuiltUnless m first handed other → one ≡ other
  built_one (Some name) one other b c = b ∙ sym c
  built_one None one other b c = fates_one one other (fate m handed one b) (fate m handed other c)

module _ (m : Makefile) (e : Exists) (goals : List (List ℕ)) where
  -- the walk of the goals, and what becomes of what it meets
  abbrev Walked : Answer → Type 0
  Walked answer = (all : List (List ℕ)) × Meets (needs m e) [] goals all × BuiltUnless m (lacking m e all) (graph_of m e goals all) answer

  walked : (answer : Answer) → IsSettled answer → Selects m e goals answer → Walked answer
  walked (Ok g) s w = w
  walked (Err (Refused fault place)) s w = w
  walked (Err (BadGoal place)) s w = w
  walked (Err (GoalIsMember place)) s w = w
  walked (Err (NoRule name place)) s w = w
  walked (Err NoGoal) s w = w
  walked (Err (InferencePrerequisites place)) s w = w
  walked (Err (Macro place fault)) s w = w
  walked (Err Memory) s w = absurd s

  walked_one : WalkHasOneEnd → (one other : Answer) → Walked one → Walked other → one ≡ other
  walked_one one_end one other (all, v, b) (same, w, c) =
      let again : BuiltUnless m (lacking m e all) (graph_of m e goals all) other = subst (λ names. BuiltUnless m (lacking m e names) (graph_of m e goals names) other) (walk_is_one (needs m e) goals same all w v) c in
      built_one one_end m (graph_of m e goals all) (lacking m e all) one other b again

pub selection_is_one : WalkHasOneEnd → SelectionIsOne
selection_is_one one_end m e goals one other s t a b = walked_one m e goals one_end one other (walked m e goals one s a) (walked m e goals other t b)
