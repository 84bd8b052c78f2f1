use Rattle.std.proofs.Common.{◌≡◌, List, map, refl, ap, sym, ◌∙◌, subst}
use Rattle.mk_build.specs.Steps.{Step, after_all}
use Rattle.mk_build.specs.SerialMake.{whole_run}
use Rattle.mk_world.specs.NamedStep.{step_view}
use Rattle.mk_world.specs.State.{Scene, setting, world_of}
use Rattle.mk_find_evidence.specs.Histories.{History, MayGoOn, Notes, puts_in}
use Rattle.mk_find_evidence.proofs.Notes.{taken_and_noted}
use Rattle.mk_find_evidence.proofs.WholeRuns.{run_is}
use Rattle.mk_find_evidence.proofs.history.History.run.Goals as goal

pub run_allowed-requires-clause-allowed : goal.run_allowed-requires-clause-allowed
run_allowed-requires-clause-allowed c =
    let h : History = record { world = c.self.inside.world; steps = map step_view c.self.inside.steps.items } in
    let t = c.args.number in
    let legal = subst (λ (k : History). MayGoOn k (whole_run k.world.scene.graph (setting k.world.scene) t (puts_in k t))) (sym c.self.view_is) c.requires.legal in
    let run = run_is c.whole_runs_agree.ensures h t c.deref.result.now (c.deref.ensures.value ∙ c.in_ok-contents.ensures) legal in
    subst (λ (l : List Step). MayGoOn h l) (sym run) legal

pub returns : goal.returns
returns c =
    let world = c.self.inside.world in
    let h : History = record { world = world; steps = map step_view c.self.inside.steps.items } in
    let g = world.scene.graph in
    let s = setting world.scene in
    let t = c.args.number in
    let legal = subst (λ (k : History). MayGoOn k (whole_run k.world.scene.graph (setting k.world.scene) t (puts_in k t))) (sym c.self.view_is) c.requires.legal in
    let run = run_is c.whole_runs_agree.ensures h t c.deref.result.now (c.deref.ensures.value ∙ c.in_ok-contents.ensures) legal in
    let mid : History = record { world = c.run_allowed.new.self; steps = map step_view c.self.inside.steps.items } in
    let new = c.push_run.new.self in
    let steps = whole_run g s t (puts_in h t) in
    let leaves = subst (λ (l : List Step). world_of c.run_allowed.new.self ≡ after_all g s (world_of world) l) run c.in_ok-run_allowed.ensures.leaves in
    let scene = c.run_allowed.ensures.scene in
    let same = ap (λ (k : Scene). whole_run k.graph (setting k) t c.deref-2.result.now) scene ∙ run_is c.whole_runs_agree.ensures h t c.deref-2.result.now (c.deref-2.ensures.value ∙ c.in_ok-contents.ensures) legal in
    let notes = subst (λ (l : List Step). Notes mid new l) same c.in_ok-push_run.ensures in
    rw (← c.self.view_is) (taken_and_noted h mid new steps refl scene leaves notes)
