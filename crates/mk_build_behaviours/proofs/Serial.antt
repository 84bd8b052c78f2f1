-- Makes with one job keep the last runs of recipes apart.
use Rattle.std.proofs.Common.{◌≡◌, ℕ, ◌≤◌, List, [], ◌∷◌, Some, None, map, ◌⊎◌, inl, inr, ⊎_elim, refl, sym, ◌∙◌, subst, arith}
use Rattle.std.proofs.lemmas.Bool.{cases_eq}
use Rattle.mk_graph.specs.Membership.{Has}
use Rattle.mk_graph.specs.Graph.{Graph, IsGraph}
use Rattle.mk_build.specs.Setting.{Setting, reads}
use Rattle.mk_build.specs.World.{Disk, World, Idle, Busy, IsStartDisk}
use Rattle.mk_build.specs.Steps.{Step, Edit, Make, Begin, Look, Put, End, Break, Pass, Stop, EndMake, finished}
use Rattle.mk_build.specs.Runs.{WholeRun, Runs}
use Rattle.mk_build.specs.Right.{AreSound}
use Rattle.mk_build.proofs.Changes.{changed_at_here, changed_at_there}
use Rattle.mk_build.proofs.InOrder.{Has-without}
use Rattle.mk_build.proofs.CoherentHistories.{start_is_coherent}
use Rattle.mk_build_behaviours.specs.Behaviours.{Behaviours}
use Rattle.mk_build_behaviours.specs.CoherentBy.{without_reads, IsCoherentBy}
use Rattle.mk_build_behaviours.specs.Serial.{IsSerialBy}
use Rattle.mk_build_behaviours.specs.StepsBy.{AllowedBy, after_by, IsLegalBy, after_all_by, IsUndisturbed, AreUndisturbed}
use Rattle.mk_build_behaviours.specs.Undisturbed.{HaveOneJob}
use Rattle.mk_build_behaviours.proofs.Keeping.{IsKept, keep}
use Rattle.mk_build_behaviours.proofs.Coherence.{other_reads, coherent_is_kept, In, place, began_in, last_in, run_at, Status, status, last_of, came_of, left_of, apart_of, unknown}
use Rattle.mk_build_behaviours.proofs.OneJob.{OneRunsIn, one_after, none_in}

-- The recipe was through at this clock: it isn't running, and its last whole run ended no later.
record WasThrough (p : Runs) (running : List ℕ) (t clock : ℕ) : Type 0 where
  stopped : ¬ (Has running t)
  ended : (run : WholeRun) → p.last t ≡ Some run → run.ended ≤ clock

-- Of two recipes one was through when the other last began.
abbrev AreApart : Runs → List ℕ → Type 0
AreApart p running = (o t : ℕ) → ¬ (o ≡ t) → WasThrough p running o (p.began t) ⊎ WasThrough p running t (p.began o)

-- the recipes that run
abbrev running_in : World → List ℕ
running_in (Idle d) = []
running_in (Busy m d) = m.running

-- what was through stays through, if fewer run and it last ran whole as before
stays_through : (p q : Runs) (running fewer : List ℕ) (t from to : ℕ) → (Has fewer t → Has running t) → q.last t ≡ p.last t → to ≡ from → WasThrough p running t from → WasThrough q fewer t to
stays_through p q running fewer t from to less same at was = record {
  stopped = λ h. was.stopped (less h);
  ended = λ run e. let early = was.ended run (sym same ∙ e) in omega arith;
}

-- nothing that was through began or ended
rest : (p q : Runs) (running fewer : List ℕ) → ((t : ℕ) → Has fewer t → Has running t) → ((t : ℕ) → q.last t ≡ p.last t) → ((t : ℕ) → q.began t ≡ p.began t) → AreApart p running → AreApart q fewer
rest p q running fewer less last began apart o t differ =
    ⊎_elim (λ one. inl (stays_through p q running fewer o (p.began t) (q.began t) (less o) (last o) (began t) one))
    (λ two. inr (stays_through p q running fewer t (p.began o) (q.began o) (less t) (last t) (began o) two)) (apart o t differ)

-- a recipe began, and no other one runs
begun_apart : (p q : Runs) (running : List ℕ) (x clock : ℕ) → ((t : ℕ) → ¬ (Has running t)) → ((t : ℕ) → q.last t ≡ p.last t) → ((t : ℕ) → x ≡ t → q.began t ≡ clock) → ((t : ℕ) → ¬ (x ≡ t) → q.began t ≡ p.began t) → ((t : ℕ) (run : WholeRun) → p.last t ≡ Some run → run.ended ≤ clock) → AreApart p running → AreApart q (x ∷ running)
begun_apart p q running x clock none last here there ended apart o t differ =
    ⊎_elim (λ x_is_t. inl (record {
      stopped = λ h. ⊎_elim (λ x_is_o. differ (sym x_is_o ∙ x_is_t)) (none o) h;
      ended = λ run e. let early = ended o run (sym (last o) ∙ e) in let at = here t x_is_t in omega arith;
    }))
    (λ x_not_t. ⊎_elim (λ x_is_o. inr (record {
      stopped = λ h. ⊎_elim x_not_t (none t) h;
      ended = λ run e. let early = ended t run (sym (last t) ∙ e) in let at = here o x_is_o in omega arith;
    }))
    (λ x_not_o. ⊎_elim (λ one. inl (stays_through p q running (x ∷ running) o (p.began t) (q.began t) (λ h. ⊎_elim (λ same. absurd (x_not_o same)) (λ runs. runs) h) (last o) (there t x_not_t) one))
    (λ two. inr (stays_through p q running (x ∷ running) t (p.began o) (q.began o) (λ h. ⊎_elim (λ same. absurd (x_not_t same)) (λ runs. runs) h) (last t) (there o x_not_o) two)) (apart o t differ))
    (cases_eq x o)) (cases_eq x t)

-- a running recipe ended
ended_apart : (p q : Runs) (running fewer : List ℕ) (x : ℕ) → Has running x → ((t : ℕ) → Has fewer t → Has running t) → ((t : ℕ) → ¬ (x ≡ t) → q.last t ≡ p.last t) → ((t : ℕ) → q.began t ≡ p.began t) → AreApart p running → AreApart q fewer
ended_apart p q running fewer x runs less last began apart o t differ =
    ⊎_elim (λ one. inl (stays_through p q running fewer o (p.began t) (q.began t) (less o) (last o (λ same. one.stopped (subst (λ (k : ℕ). Has running k) same runs))) (began t) one))
    (λ two. inr (stays_through p q running fewer t (p.began o) (q.began o) (less t) (last t (λ same. two.stopped (subst (λ (k : ℕ). Has running k) same runs))) (began o) two)) (apart o t differ)

module _ (g : Graph) (s : Setting) (b : Behaviours) where
  -- A world is as some runs left it that are apart.
  record Goes (w : World) : Type 0 where
    kept : IsKept g s b w
    apart : AreApart kept.runs (running_in w)

  module _ (graph : IsGraph g) (sound : AreSound g (without_reads s)) where
    -- each undisturbed step of a make with one job keeps it so
    goes_on : (w : World) (step : Step) → Goes w → OneRunsIn g s b w → AllowedBy g s b w step → IsUndisturbed g s b w step → Goes (after_by g s w step)
    goes_on (Idle d) (Edit f c) goes one may still = record {
      kept = keep g s b graph sound (Idle d) (Edit f c) goes.kept may still;
      apart = rest goes.kept.runs (keep g s b graph sound (Idle d) (Edit f c) goes.kept may still).runs [] [] (λ k h. h) (λ k. refl) (λ k. refl) goes.apart;
    }
    goes_on (Idle d) (Make jobs goals) goes one may still = record {
      kept = keep g s b graph sound (Idle d) (Make jobs goals) goes.kept may still;
      apart = rest goes.kept.runs (keep g s b graph sound (Idle d) (Make jobs goals) goes.kept may still).runs [] [] (λ k h. h) (λ k. refl) (λ k. refl) goes.apart;
    }
    goes_on (Idle d) (Begin t) goes one may still = absurd may
    goes_on (Idle d) (Look t f) goes one may still = absurd may
    goes_on (Idle d) (Put t f c) goes one may still = absurd may
    goes_on (Idle d) (End t) goes one may still = absurd may
    goes_on (Idle d) (Break t removed) goes one may still = absurd may
    goes_on (Idle d) (Pass t) goes one may still = absurd may
    goes_on (Idle d) Stop goes one may still = absurd may
    goes_on (Idle d) EndMake goes one may still = absurd may
    goes_on (Busy m d) (Edit f c) goes one may still = absurd may
    goes_on (Busy m d) (Make jobs goals) goes one may still = absurd may
    goes_on (Busy m d) (Begin x) goes one may still = record {
      kept = keep g s b graph sound (Busy m d) (Begin x) goes.kept may still;
      apart = begun_apart goes.kept.runs (keep g s b graph sound (Busy m d) (Begin x) goes.kept may still).runs m.running x d.clock
          (λ t. let jobs = one.jobs in let room = may.2 in none_in m.running t (omega arith)) (λ t. refl)
          (λ t same. changed_at_here goes.kept.runs.began x t d.clock same) (λ t differ. changed_at_there goes.kept.runs.began x t d.clock differ)
          goes.kept.is.fits.ended goes.apart;
    }
    goes_on (Busy m d) (Look t f) goes one may still = record { kept = keep g s b graph sound (Busy m d) (Look t f) goes.kept may still; apart = goes.apart }
    goes_on (Busy m d) (Put t f c) goes one may still = record {
      kept = keep g s b graph sound (Busy m d) (Put t f c) goes.kept may still;
      apart = rest goes.kept.runs (keep g s b graph sound (Busy m d) (Put t f c) goes.kept may still).runs m.running m.running (λ k h. h) (λ k. refl) (λ k. refl) goes.apart;
    }
    goes_on (Busy m d) (End x) goes one may still = record {
      kept = keep g s b graph sound (Busy m d) (End x) goes.kept may still;
      apart = ended_apart goes.kept.runs (keep g s b graph sound (Busy m d) (End x) goes.kept may still).runs m.running (finished m x).running x may.runs
          (λ t h. (Has-without x t m.running h).0) (λ t differ. changed_at_there goes.kept.runs.last x t _ differ) (λ t. refl) goes.apart;
    }
    goes_on (Busy m d) (Break x removed) goes one may still = record {
      kept = keep g s b graph sound (Busy m d) (Break x removed) goes.kept may still;
      apart = rest goes.kept.runs (keep g s b graph sound (Busy m d) (Break x removed) goes.kept may still).runs m.running (finished m x).running (λ t h. (Has-without x t m.running h).0) (λ k. refl) (λ k. refl) goes.apart;
    }
    goes_on (Busy m d) (Pass n) goes one may still = record {
      kept = keep g s b graph sound (Busy m d) (Pass n) goes.kept may still;
      apart = rest goes.kept.runs (keep g s b graph sound (Busy m d) (Pass n) goes.kept may still).runs m.running (finished m n).running (λ t h. (Has-without n t m.running h).0) (λ k. refl) (λ k. refl) goes.apart;
    }
    goes_on (Busy m d) Stop goes one may still = record {
      kept = keep g s b graph sound (Busy m d) Stop goes.kept may still;
      apart = rest goes.kept.runs (keep g s b graph sound (Busy m d) Stop goes.kept may still).runs m.running [] (λ k h. absurd h) (λ k. refl) (λ k. refl) goes.apart;
    }
    goes_on (Busy m d) EndMake goes one may still = record {
      kept = keep g s b graph sound (Busy m d) EndMake goes.kept may still;
      apart = rest goes.kept.runs (keep g s b graph sound (Busy m d) EndMake goes.kept may still).runs m.running [] (λ k h. absurd h) (λ k. refl) (λ k. refl) goes.apart;
    }

    -- so do traces
    all_go : (w : World) (steps : List Step) → Goes w → OneRunsIn g s b w → HaveOneJob steps → IsLegalBy g s b w steps → AreUndisturbed g s b w steps → Goes (after_all_by g s w steps)
    all_go w [] goes is one legal still = goes
    all_go w (first ∷ steps) goes is one legal still = all_go (after_by g s w first) steps (goes_on w first goes is legal.0 still.0) (one_after g s b w first is one.0 legal.0) one.1 legal.1 still.1

  module _ (d : Disk) (is : IsSerialBy g s b d) where
    -- the disk over footprints without reads
    abbrev bare : IsCoherentBy g (without_reads s) b d
    bare = other_reads g s b (λ target. []) [] d is.coherent

    -- of two recipes one had ended when the other last began
    through_in : (p : Runs) (o t : ℕ) (a : In g s b d bare o) (c : In g s b d bare t) → p.last o ≡ last_in g s b d bare o a → (¬ (o ≡ t) → ((bare.last o).ended ≤ (bare.last t).began)) → ¬ (o ≡ t) → WasThrough p [] o (began_in g s b d bare t c)
    through_in p o t (inl left) (inl other) last before differ = record {
      stopped = λ h. h;
      ended = λ run e.
          let same : Some (run_at g s b d bare o) ≡ Some run = sym last ∙ e in
          let one : run_at g s b d bare o ≡ run = cc in
          let at : (bare.last o).ended ≡ run.ended = cc in
          let early = before differ in
          omega arith;
    }
    through_in p o t (inl left) (inr bound) last before differ = record {
      stopped = λ h. h;
      ended = λ run e.
          let same : Some (run_at g s b d bare o) ≡ Some run = sym last ∙ e in
          let one : run_at g s b d bare o ≡ run = cc in
          let at : (bare.last o).ended ≡ run.ended = cc in
          let came = (bare.came o).1 in
          omega arith;
    }
    through_in p o t (inr bound) c last before differ = record {
      stopped = λ h. h;
      ended = λ run e. let none : None ≡ Some run = sym last ∙ e in absurd (cc);
    }

    -- so the runs before the disk are apart
    goes_before : Goes (Idle d)
    goes_before = record {
      kept = coherent_is_kept g s b d bare;
      apart = λ o t differ.
          ⊎_elim (λ early. inl (through_in (coherent_is_kept g s b d bare).runs o t (place g s b d bare o) (place g s b d bare t) refl (λ other. early) differ))
          (λ early. inr (through_in (coherent_is_kept g s b d bare).runs t o (place g s b d bare t) (place g s b d bare o) refl (λ other. early) (λ same. differ (sym same))))
          (is.apart o t differ);
    }

  module _ (d : Disk) (goes : Goes (Idle d)) where
    -- the state of a node
    abbrev StatusOf : ℕ → Type 0
    StatusOf t = Status g s b goes.kept.epoch goes.kept.runs [] d goes.kept.known goes.kept.is goes.kept.are t

    abbrev status_of : (t : ℕ) → StatusOf t
    status_of t = status g s b goes.kept.epoch goes.kept.runs [] d goes.kept.known goes.kept.is goes.kept.are t

    -- the disk is coherent
    abbrev coherent_here : IsCoherentBy g s b d
    coherent_here = record {
      last = λ t. last_of g s b goes.kept.epoch goes.kept.runs [] d goes.kept.known goes.kept.is goes.kept.are t (status_of t);
      stamped = goes.kept.is.stamped;
      came = λ t. came_of g s b goes.kept.epoch goes.kept.runs [] d goes.kept.known goes.kept.is goes.kept.are t (status_of t);
      left = λ t recipe stopped. left_of g s b goes.kept.epoch goes.kept.runs [] d goes.kept.known goes.kept.is goes.kept.are t (status_of t) recipe stopped;
      apart = λ o t before. apart_of g s b goes.kept.epoch goes.kept.runs [] d goes.kept.known goes.kept.is goes.kept.are o t (status_of o) (status_of t) before;
    }

    -- and its last runs are apart
    ended_before : (o t : ℕ) (a : StatusOf o) (c : StatusOf t) → WasThrough goes.kept.runs [] o (goes.kept.runs.began t) → ((last_of g s b goes.kept.epoch goes.kept.runs [] d goes.kept.known goes.kept.is goes.kept.are o a).ended ≤ (last_of g s b goes.kept.epoch goes.kept.runs [] d goes.kept.known goes.kept.is goes.kept.are t c).began) ⊎ ((last_of g s b goes.kept.epoch goes.kept.runs [] d goes.kept.known goes.kept.is goes.kept.are t c).ended ≤ (last_of g s b goes.kept.epoch goes.kept.runs [] d goes.kept.known goes.kept.is goes.kept.are o a).began)
    ended_before o t (inl first) (inl second) through = inl (through.ended first.0 first.1.is_last)
    ended_before o t (inl first) (inr bound) through = inr (omega arith)
    ended_before o t (inr bound) c through = inl (omega arith)

    serial_here : IsSerialBy g s b d
    serial_here = record {
      coherent = coherent_here;
      apart = λ o t differ.
          ⊎_elim (λ one. ended_before o t (status_of o) (status_of t) one)
          (λ two. ⊎_elim (λ early. inr early) (λ early. inl early) (ended_before t o (status_of t) (status_of o) two))
          (goes.apart o t differ);
    }

-- makes with one job leave a disk on which no last runs overlap
pub one_job_stays_serial : (g : Graph) (s : Setting) (b : Behaviours) → IsGraph g → AreSound g (without_reads s) → (d now : Disk) (steps : List Step) → IsSerialBy g s b d → HaveOneJob steps → IsLegalBy g s b (Idle d) steps → AreUndisturbed g s b (Idle d) steps → after_all_by g s (Idle d) steps ≡ Idle now → IsSerialBy g s b now
one_job_stays_serial g s b graph sound d now steps is one legal still leaves =
    serial_here g s b now (subst (λ (w : World). Goes g s b w) leaves (all_go g s b graph sound (Idle d) steps (goes_before g s b d is) tt one legal still))

-- on a start disk none has run
pub start_is_serial : (g : Graph) (s : Setting) (b : Behaviours) → AreSound g (without_reads s) → (d : Disk) → IsStartDisk s d → IsSerialBy g s b d
start_is_serial g s b sound d start =
    let today = start_is_coherent g (without_reads s) sound d (record { nothing_known = start.nothing_known; given = start.given; stamped = start.stamped }) in
    record {
      coherent = record {
        last = λ t. record { began = 0; ended = 0; saw = λ f. None };
        stamped = today.stamped;
        came = λ t. (omega arith, omega arith);
        left = λ t recipe stopped. ⊎_elim (λ bound. inl bound) (λ left. absurd (unknown d.known t (map (today.last t).saw (reads g (without_reads s) t)) left.0.written start.nothing_known left.0.known)) (today.left t recipe stopped);
        apart = λ o t before. inl (omega arith);
      };
      apart = λ o t differ. inl (omega arith);
    }
