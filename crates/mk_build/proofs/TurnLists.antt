-- The turns of a turn list run in any setting, recipe by recipe: nothing is known of a recipe before its first run.
use Rattle.std.proofs.Common.{append-nil, ◌≡◌, ℕ, ◌+◌, ◌<◌, ◌≤◌, List, [], ◌∷◌, ◌++◌, length, reverse, true, Option, Some, None, map, ⊎_elim, refl, sym, ◌∙◌, ap, subst, arith}
use Rattle.std.specs.Prelude.{unwrap_or}
use Rattle.std.proofs.lemmas.List.{reverse-reverse}
use Rattle.mk_graph.specs.Membership.{Has}
use Rattle.mk_graph.specs.Graph.{Graph, node}
use Rattle.mk_build.specs.Setting.{FileName, Setting, reads, writes, writings}
use Rattle.mk_build.specs.World.{Outcome, Disk, World, Idle, Busy, IsStartDisk, HasStampsFor, content, changed, last_stamp, outcome, disk_of}
use Rattle.mk_graph.specs.Schedules.{CanStart, IsSchedule, IsPart}
use Rattle.mk_build.specs.Steps.{Step, Begin, Pass, make_of, IsLegal, after_all}
use Rattle.mk_build.specs.Clean.{Contents, put_all}
use Rattle.mk_build.specs.SerialMake.{whole_run}
use Rattle.mk_build.specs.NodeByNode.{next_stamps, to_put, ends, passes, runs, MakesAll}
use Rattle.mk_build.specs.ScheduleMake.{until_begin, MakesSchedule, RunsAlone}
use Rattle.mk_build.proofs.WholeRuns.{legal_append, after_append}
use Rattle.mk_build.proofs.SerialHistory.{TurnOn, turn_on, Arrives, IsLegalRun, ran, passed, joined, clock_behind}
use Rattle.mk_build.proofs.MakesBut.{next_stamps_many}

-- as many contents as there are files can be put into them
pub put_all_total : (at : Contents) (files : List FileName) (cs : List ℕ) → length cs ≡ length files → (new : Contents) × (put_all at files cs ≡ Some new)
put_all_total at [] [] many = (at, refl)
put_all_total at [] (c ∷ cs) many = absurd (omega arith)
put_all_total at (f ∷ files) [] many = absurd (omega arith)
put_all_total at (f ∷ files) (c ∷ cs) many = put_all_total (changed at f (Some c)) files cs (omega arith)

module _ (g : Graph) (s : Setting) (jobs : ℕ) (free : 0 < jobs) (goals : List ℕ) where
  -- a recipe of which nothing is known is to put new stamps, as many as its files
  puts_stamps : (d : Disk) (t : ℕ) → outcome d.known t (map (content d) (reads g s t)) ≡ None → length (to_put g s d t) ≡ length (writes g s t)
  puts_stamps d t none =
      let stamps = next_stamps d.clock (length (writes g s t)) in
      ap (λ (o : Option (List ℕ)). length (unwrap_or o stamps)) none ∙ next_stamps_many d.clock (length (writes g s t))

  -- a run of these nodes, behind these, is legal and arrives where they are done too
  abbrev pub GoesOn : (ns done : List ℕ) (steps : List Step) (w : World) (clock : ℕ) → Type 0
  GoesOn ns done steps w clock = (end : Contents) × IsLegalRun g s [] jobs goals ns done steps w end clock

  -- nothing is known of a recipe that isn't done
  unknown_yet : (t : ℕ) (done : List ℕ) (at : Contents) (clock : ℕ) (w : World) → Arrives g s jobs goals done at clock w → ¬ (Has done t) → outcome (disk_of w).known t (map (content (disk_of w)) (reads g s t)) ≡ None
  unknown_yet t done at clock w arrived new =
      subst (λ (k : World). outcome (disk_of k).known t (map (content (disk_of k)) (reads g s t)) ≡ None) (sym arrived.is) (arrived.unknown t (map (content arrived.disk) (reads g s t)) new)

  -- nodes that are made one after another, whose turns may come one after another
  pub makes_all_legal : {w : World} {ns : List ℕ} {steps : List Step} → MakesAll g s w ns steps → (done : List ℕ) (at : Contents) (clock : ℕ) → TurnOn g goals done ns → clock + writings g s ns ≤ last_stamp → Arrives g s jobs goals done at clock w → GoesOn ns done steps w clock
  makes_all_legal ends done at clock turns room arrived =
      (at, (tt, record { seen = arrived.seen; put = arrived.put; disk = arrived.disk; is = arrived.is; holds = arrived.holds; unknown = arrived.unknown; clock_is = let same = arrived.clock_is in omega arith }))
  makes_all_legal (passes {w = w} {n = n} {ns = ns} {steps = steps} why more) done at clock turns room arrived =
      let none = ⊎_elim (λ e. e) (λ never. absurd never) why in
      let now = passed g s [] jobs goals n done at clock w arrived none turns.0 in
      let behind = clock_behind g s [] jobs goals clock n ns in
      let rest = makes_all_legal more (n ∷ done) at (clock + length (writes g s n)) turns.1 (omega arith) now.1 in
      (rest.0, joined g s [] jobs goals n ns done (Pass n ∷ []) steps w rest.0 clock now.0 rest.1)
  makes_all_legal (runs {w = w} {t = t} {ns = ns} {steps = steps} recipe run more) done at clock turns room arrived =
      let cs = to_put g s (disk_of w) t in
      let new = put_all_total at (writes g s t) cs (puts_stamps (disk_of w) t (unknown_yet t done at clock w arrived turns.0.not_done)) in
      let behind = clock_behind g s [] jobs goals clock t ns in
      let now = ran g s [] jobs goals free t done cs at new.0 clock w arrived recipe turns.0 new.1 (omega arith) in
      let rest = makes_all_legal more (t ∷ done) new.0 (clock + length (writes g s t)) turns.1 (omega arith) now.1 in
      (rest.0, joined g s [] jobs goals t ns done (whole_run g s t cs) steps w rest.0 clock now.0 rest.1)

  -- a make at its begin, from a start
  pub arrives_at_begin : (d : Disk) → IsStartDisk s d → Arrives g s jobs goals [] (content d) d.clock (Busy (make_of jobs goals) d)
  arrives_at_begin d start = record { seen = λ t f. None; put = λ t f. None; disk = d; is = refl; holds = λ f. refl; unknown = λ t saw out. subst (λ (l : List Outcome). outcome l t saw ≡ None) (sym start.nothing_known) refl; clock_is = refl }

  -- the list of nodes that are done behind a turn list
  pub turned : (ns : List ℕ) → reverse (reverse ns) ++ [] ≡ ns
  turned ns = append-nil (reverse (reverse ns)) ∙ reverse-reverse ns

  -- a turn list runs from a start
  pub turn_list_goes : (d : Disk) (ns : List ℕ) (steps : List Step) → IsStartDisk s d → IsSchedule g goals ns
      → HasStampsFor d (writings g s (reverse ns)) → MakesAll g s (Busy (make_of jobs goals) d) (reverse ns)
      steps → (end : Contents) × IsLegal g s (Busy (make_of jobs goals) d) steps
      × Arrives g s jobs goals ns end (d.clock + writings g s (reverse ns))
      (after_all g s (Busy (make_of jobs goals) d) steps)
  turn_list_goes d ns steps start turns room makes =
      let on = turn_on g goals (reverse ns) [] (subst (λ (l : List ℕ). IsSchedule g goals l) (sym (turned ns)) turns) in
      let goes = makes_all_legal makes [] (content d) d.clock on room (arrives_at_begin d start) in
      (goes.0, goes.1.0, subst (λ (l : List ℕ). Arrives g s jobs goals l goes.0 (d.clock + writings g s (reverse ns)) (after_all g s (Busy (make_of jobs goals) d) steps)) (turned ns) goes.1.1)

module _ (g : Graph) (s : Setting) (d : Disk) (goals ns : List ℕ) (t : ℕ) (steps : List Step)
    (start : IsStartDisk s d) (part : IsPart goals g.goals) (turns : IsSchedule g goals ns)
    (may : CanStart g goals ns t) (recipe : (node g t).recipe ≡ true)
    (room : HasStampsFor d (writings g s (reverse ns))) (makes : MakesSchedule g s d goals ns steps) where
  -- the turn list runs, and then the recipe begins
  pub turn_list_runs : IsLegal g s (Idle d) (until_begin goals steps t) × RunsAlone ns t (after_all g s (Idle d) (until_begin goals steps t))
  turn_list_runs =
      let begin = Busy (make_of 1 goals) d in
      let goes = turn_list_goes g s 1 (omega arith) goals d ns steps start turns room makes in
      let last : IsLegal g s (after_all g s begin steps) (Begin t ∷ [])
      × RunsAlone ns t (after_all g s (after_all g s begin steps) (Begin t ∷ [])) = subst
      (λ (w : World). IsLegal g s w (Begin t ∷ []) × RunsAlone ns t (after_all g s w (Begin t ∷ [])))
      (sym goes.2.is) (((((may, λ h. h, λ h. h), recipe, omega arith), tt)), (refl, refl)) in
      (((omega arith, part), legal_append g s begin steps (Begin t ∷ []) goes.1 last.0), subst (λ (w : World). RunsAlone ns t w) (sym (after_append g s begin steps (Begin t ∷ []))) last.1)
