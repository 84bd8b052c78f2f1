-- Traces that disturb no recipe: makes with one job, and makes in which no recipe writes what a running one has looked at.
use Rattle.std.proofs.Common.{◌≡◌, ℕ, ◌<◌, List, [], ◌∷◌, Some, None, length, ⊎_elim, sym, ◌∙◌, subst, arith}
use Rattle.mk_graph.specs.Membership.{Has}
use Rattle.mk_graph.specs.Graph.{Graph}
use Rattle.mk_build.specs.Setting.{FileName, Setting, writes}
use Rattle.mk_build.specs.World.{Disk, Making, World, Idle, Busy}
use Rattle.mk_build.specs.Steps.{Step, Edit, Make, Begin, Look, Put, End, Break, Pass, Stop, EndMake, finished}
use Rattle.mk_build.proofs.InOrder.{Has-without}
use Rattle.mk_build.proofs.Ending.{seen_somewhere}
use Rattle.mk_build_behaviours.specs.Behaviours.{Behaviours, behaviour, path}
use Rattle.mk_build_behaviours.specs.StepsBy.{saw_in, AllowedBy, after_by, IsLegalBy, IsUndisturbed, AreUndisturbed}
use Rattle.mk_build_behaviours.specs.Undisturbed.{HasOneJob, HaveOneJob, ReadNoOwn, AreApart, StayApart}
use Rattle.mk_build_behaviours.proofs.Seeing.{SeesIn, AreOthersIn, sees_after}

module _ (g : Graph) (s : Setting) (b : Behaviours) (counts : ℕ → FileName → Type 0) where
  -- a recipe whose path counts for it isn't disturbed
  still_there : (w : World) (step : Step) → SeesIn g s b counts w → ((m : Making) (t : ℕ) (f : FileName) → Has (path (behaviour g b t) (saw_in m t)) f → counts t f) → AllowedBy g s b w step → IsUndisturbed g s b w step
  still_there (Idle d) (Edit f c) sees on_path may = tt
  still_there (Idle d) (Make jobs goals) sees on_path may = tt
  still_there (Idle d) (Begin t) sees on_path may = tt
  still_there (Idle d) (Look t f) sees on_path may = tt
  still_there (Idle d) (Put t f c) sees on_path may = tt
  still_there (Idle d) (End t) sees on_path may = tt
  still_there (Idle d) (Break t removed) sees on_path may = tt
  still_there (Idle d) (Pass t) sees on_path may = tt
  still_there (Idle d) Stop sees on_path may = tt
  still_there (Idle d) EndMake sees on_path may = tt
  still_there (Busy m d) (Edit f c) sees on_path may = tt
  still_there (Busy m d) (Make jobs goals) sees on_path may = tt
  still_there (Busy m d) (Begin t) sees on_path may = tt
  still_there (Busy m d) (Look t f) sees on_path may = tt
  still_there (Busy m d) (Put t f c) sees on_path may = tt
  still_there (Busy m d) (End t) sees on_path may = λ f on. sees t f (saw_in m t f) may.runs (on_path m t f on) (seen_somewhere (m.seen t f) (may.seen f on))
  still_there (Busy m d) (Break t removed) sees on_path may = tt
  still_there (Busy m d) (Pass t) sees on_path may = tt
  still_there (Busy m d) Stop sees on_path may = tt
  still_there (Busy m d) EndMake sees on_path may = tt

-- a list that is shorter than one has nothing
pub none_in : (ns : List ℕ) (t : ℕ) → length ns < 1 → ¬ (Has ns t)
none_in [] t short h = h
none_in (n ∷ ns) t short h = absurd (omega arith)

module _ (g : Graph) (s : Setting) (b : Behaviours) where
  -- one recipe runs at most
  pub record OneRuns (m : Making) : Type 0 where
    pub jobs : m.jobs ≡ 1
    pub one : (t u : ℕ) → Has m.running t → Has m.running u → t ≡ u

  abbrev pub OneRunsIn : World → Type 0
  OneRunsIn (Idle d) = Unit {0}
  OneRunsIn (Busy m d) = OneRuns m

  -- after a begin
  begins : (m : Making) (x : ℕ) → OneRuns m → length m.running < m.jobs → (t u : ℕ) → Has (x ∷ m.running) t → Has (x ∷ m.running) u → t ≡ u
  begins m x is room t u t_runs u_runs =
      let jobs = is.jobs in
      let none : (k : ℕ) → ¬ (Has m.running k) = λ k h. none_in m.running k (omega arith) h in
      ⊎_elim (λ t_here. ⊎_elim (λ u_here. sym t_here ∙ u_here) (λ there. absurd (none u there)) u_runs) (λ there. absurd (none t there)) t_runs

  -- after an end
  fewer : (m : Making) (x : ℕ) → OneRuns m → (t u : ℕ) → Has (finished m x).running t → Has (finished m x).running u → t ≡ u
  fewer m x is t u t_runs u_runs = is.one t u (Has-without x t m.running t_runs).0 (Has-without x u m.running u_runs).0

  -- each step keeps it
  pub one_after : (w : World) (step : Step) → OneRunsIn w → HasOneJob step → AllowedBy g s b w step → OneRunsIn (after_by g s w step)
  one_after (Idle d) (Edit f c) is one may = tt
  one_after (Idle d) (Make jobs goals) is one may = record { jobs = one; one = λ t u h. absurd h }
  one_after (Idle d) (Begin t) is one may = absurd may
  one_after (Idle d) (Look t f) is one may = absurd may
  one_after (Idle d) (Put t f c) is one may = absurd may
  one_after (Idle d) (End t) is one may = absurd may
  one_after (Idle d) (Break t removed) is one may = absurd may
  one_after (Idle d) (Pass t) is one may = absurd may
  one_after (Idle d) Stop is one may = absurd may
  one_after (Idle d) EndMake is one may = absurd may
  one_after (Busy m d) (Edit f c) is one may = absurd may
  one_after (Busy m d) (Make jobs goals) is one may = absurd may
  one_after (Busy m d) (Begin t) is one may = record { jobs = is.jobs; one = begins m t is may.2 }
  one_after (Busy m d) (Look t f) is one may = record { jobs = is.jobs; one = is.one }
  one_after (Busy m d) (Put t f c) is one may = record { jobs = is.jobs; one = is.one }
  one_after (Busy m d) (End t) is one may = record { jobs = is.jobs; one = fewer m t is }
  one_after (Busy m d) (Break t removed) is one may = record { jobs = is.jobs; one = fewer m t is }
  one_after (Busy m d) (Pass n) is one may = record { jobs = is.jobs; one = fewer m n is }
  one_after (Busy m d) Stop is one may = tt
  one_after (Busy m d) EndMake is one may = tt

module _ (g : Graph) (s : Setting) (b : Behaviours) (no_own : ReadNoOwn g s b) where
  -- files of others
  abbrev NotOwn : ℕ → FileName → Type 0
  NotOwn t f = ¬ (Has (writes g s t) f)

  -- what it writes is no file of others
  others_in : (w : World) → OneRunsIn g s b w → AreOthersIn g s b NotOwn w
  others_in (Idle d) is = tt
  others_in (Busy m d) is = λ x t h f c x_runs wrote runs other e same. other (subst (λ (k : ℕ). Has (writes g s k) f) (is.one x t x_runs runs) (subst (λ (k : FileName). Has (writes g s x) k) same wrote))

  one_job : (w : World) (steps : List Step) → OneRunsIn g s b w → SeesIn g s b NotOwn w → HaveOneJob steps → IsLegalBy g s b w steps → AreUndisturbed g s b w steps
  one_job w [] is sees one legal = tt
  one_job w (first ∷ steps) is sees one legal = (
    still_there g s b NotOwn w first sees (λ m t f on. no_own t (saw_in m t) f on) legal.0,
    one_job (after_by g s w first) steps (one_after g s b w first is one.0 legal.0) (sees_after g s b NotOwn w first sees (others_in w is) legal.0) one.1 legal.1,
  )

  -- makes with one job disturb no recipe
  pub one_job_from : (d : Disk) (steps : List Step) → HaveOneJob steps → IsLegalBy g s b (Idle d) steps → AreUndisturbed g s b (Idle d) steps
  one_job_from d steps one legal = one_job (Idle d) steps tt tt one legal

module _ (g : Graph) (s : Setting) (b : Behaviours) where
  -- all files count
  abbrev Any : ℕ → FileName → Type 0
  Any t f = Unit {0}

  apart_in : (w : World) → AreApart g s w → AreOthersIn g s b Any w
  apart_in (Idle d) apart = tt
  apart_in (Busy m d) apart = λ x t h f c x_runs wrote runs any e same. apart t x f runs x_runs (λ none. let some : None ≡ Some c = sym none ∙ e in cc) (subst (λ (k : FileName). Has (writes g s x) k) same wrote)

  apart_from : (w : World) (steps : List Step) → SeesIn g s b Any w → StayApart g s w steps → IsLegalBy g s b w steps → AreUndisturbed g s b w steps
  apart_from w [] sees apart legal = tt
  apart_from w (first ∷ steps) sees apart legal = (
    still_there g s b Any w first sees (λ m t f on. tt) legal.0,
    apart_from (after_by g s w first) steps (sees_after g s b Any w first sees (apart_in w apart.0) legal.0) apart.1 legal.1,
  )

  -- traces in which no recipe writes what a running one has looked at disturb no recipe
  pub apart_is_undisturbed : (d : Disk) (steps : List Step) → StayApart g s (Idle d) steps → IsLegalBy g s b (Idle d) steps → AreUndisturbed g s b (Idle d) steps
  apart_is_undisturbed d steps apart legal = apart_from (Idle d) steps tt apart legal
