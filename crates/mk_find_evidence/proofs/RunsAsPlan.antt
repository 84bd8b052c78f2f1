-- Steps that show a finding run as a plan.
use Rattle.std.proofs.Common.{◌≡◌, ◌≤◌, true, List, length, map, Ok, ap, sym, subst, arith}
use Rattle.mk_lines.specs.Names.{has_name}
use Rattle.mk_lines.specs.Paths.{is_plain_path}
use Rattle.mk_graph.specs.Graph.{IsGraph}
use Rattle.mk_build.specs.Steps as model
use Rattle.mk_build.specs.Setting.{FileName}
use Rattle.mk_build.specs.World.{Disk, Idle, IsOfWorld, World}
use Rattle.mk_subject.specs.Subject.{Subject, footprints}
use Rattle.mk_find.specs.declared.finding.Finding.{Finding}
use Rattle.mk_find.specs.declared.finding.Finding.TheVariants.{Race, Stale}
use Rattle.mk_world.specs.NamedStep.{Step, Edit, Make, Begin, Look, Put, End, Break, Pass, Stop, EndMake}
use Rattle.mk_world.specs.RunLaws.{AreLegal}
use Rattle.mk_world.specs.State.{Scene, disk_of, setting, world_in, world_of}
use Rattle.mk_world.specs.Steps.{IsFirstOf, step_of}
use Rattle.mk_world_plan.specs.PlanLaws.{CanBeWritten, HasReadableNumbers, WrittenHistoryRuns}
use Rattle.mk_world_plan.specs.PlanReading.{lines_of, max_jobs, max_lines, plan_of}
use Rattle.mk_world_plan.specs.PlanText.{plan_text}
use Rattle.mk_find_evidence.specs.Numbers.{HasSmallNumbers}
use Rattle.mk_find_evidence.specs.Shown.{Shows, ShowsFrom}
use Rattle.mk_find_evidence.specs.PlanLaws.{NamesOfSubjectArePlain, ShownStepsRun}

pub readable : (step : Step) → HasSmallNumbers step → HasReadableNumbers step
readable (Edit f c) h = h
readable (Make jobs goals) h = let small : jobs ≤ max_jobs = omega (arith, h) in small
readable (Begin t) h = tt
readable (Look t f) h = tt
readable (Put t f c) h = h
readable (End t) h = tt
readable (Break t removed) h = tt
readable (Pass t) h = tt
readable Stop h = tt
readable EndMake h = tt

-- steps that show a finding are legal
pub legal_of : (x : Subject) (d : Disk) (finding : Finding) (steps : List model.Step) → ShowsFrom x d finding steps → model.IsLegal x.graph (footprints x.setting) (Idle d) steps
legal_of x d (Race recipe writer f) steps (o, t, is, also, ends) = ends.legal
legal_of x d (Stale recipe f) steps (t, is, ends) = ends.legal
legal_of x d other steps h = absurd h

pub shown_steps_run : NamesOfSubjectArePlain → WrittenHistoryRuns → ShownStepsRun
shown_steps_run plain written x finding steps is_graph was shows small few first is =
    let went = written first steps own_first own_graph can in
    record {
      lines = went.0;
      is_read = subst (λ (k : Scene). plan_of (plan_text k.graph steps) ≡ Ok went.0) is.scene went.1;
      to_its_end = went.2;
      as_written = went.3;
    }
  where
    at_rest : world_of first ≡ Idle (disk_of first.disk)
    at_rest = ap (world_in first.scene first.disk) is.idle

    over : (P : Scene → Type 0) → P (record { graph = x.graph; recorded = x.setting }) → P first.scene
    over P p = subst P (sym is.scene) p

    own_first : IsFirstOf first.scene.graph first.scene.recorded first
    own_first = over (λ (k : Scene). IsFirstOf k.graph k.recorded first) is

    own_graph : IsGraph first.scene.graph
    own_graph = over (λ (k : Scene). IsGraph k.graph) is_graph

    legal_there : model.IsLegal x.graph (footprints x.setting) (world_of first) (map (step_of x.graph) steps)
    legal_there = subst (λ (w : World). model.IsLegal x.graph (footprints x.setting) w (map (step_of x.graph) steps)) (sym at_rest) (legal_of x (disk_of first.disk) finding (map (step_of x.graph) steps) (shows (disk_of first.disk) is.first))

    legal : AreLegal first steps
    legal = over (λ (k : Scene). model.IsLegal k.graph (setting k) (world_of first) (map (step_of k.graph) steps)) legal_there

    paths : (f : FileName) → has_name first.disk.names f ≡ true → is_plain_path f ≡ true
    paths f h = plain x was f (subst (λ (k : Scene). IsOfWorld k.graph (setting k) f) is.scene ((is.names.all f).0 h))

    can : CanBeWritten first steps
    can = record {
      legal = legal;
      paths = paths;
      numbers = λ step h. readable step (small step h);
      few = over (λ (k : Scene). length (lines_of (plan_text k.graph steps)) ≤ max_lines) few;
    }
