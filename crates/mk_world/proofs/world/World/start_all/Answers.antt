use Rattle.std.proofs.Common.{◌≡◌, ◌<◌, ◌∙◌, List, [], ℕ, length, refl, sym, ap, subst, arith}
use Rattle.std.proofs.lemmas.Bool.{false≢true, eq-eqb}
use Rattle.mk_build.specs.Steps as model
use Rattle.mk_world.specs.State.{MakeState, setting, world_in, busy, start_of}
use Rattle.mk_world.specs.Steps.{Takes}
use Rattle.mk_world.proofs.Changes.{started_takes, is_none}
use Rattle.mk_world.proofs.Lines.{all_are_part}
use Rattle.mk_world.proofs.world.World.start_all.Goals as goal

pub returns : goal.returns
returns c =
    let scene = c.self.inside.scene in
    let disk = c.self.inside.disk in
    let make = c.self.inside.make in
    let none = is_none make (sym c.if-is_some.ensures) in
    let many = length c.nodes-many.result.now in
    let some : 0 < c.args.jobs = omega (arith, c.if-jobs-lt1.false) in
    let goals : c.in_ok-goals.goals.items ≡ scene.graph.goals = c.in_ok-goals.ensures.items ∙ (c.goals-2.ensures.value ∙ ap (λ g. g.goals) c.graph-graph.ensures) in
    let first : c.goals.result.now ≡ scene.graph.goals = c.goals.ensures.value ∙ ap (λ g. g.goals) c.graph-graph.ensures in
    let some_goal : ¬ (scene.graph.goals ≡ []) = λ e. false≢true (c.if-is_empty.ensures ∙ eq-eqb (length c.goals.result.now) 0 (ap length (first ∙ e))) in
    let takes = subst (λ (gs : List ℕ). Takes scene.graph (setting scene) (world_in scene disk make)
    (busy scene (start_of c.args.jobs c.in_ok-goals.goals.items many) disk) (model.Make c.args.jobs gs))
    goals (started_takes scene disk make c.args.jobs c.in_ok-goals.goals.items many none some
    (all_are_part c.in_ok-goals.goals.items scene.graph.goals goals some_goal)) in
    rw (← c.self.view_is) (record {
      scene = refl;
      names = refl;
      judged = subst (λ (m : MakeState). Takes scene.graph (setting scene) (world_in scene disk make) (busy scene m disk) (model.Make c.args.jobs scene.graph.goals)) (sym c.in_ok-new.ensures) takes;
      unchanged = tt;
    })
