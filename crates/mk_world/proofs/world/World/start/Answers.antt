use Rattle.std.proofs.Common.{◌<◌, List, ℕ, map, length, refl, sym, subst, arith}
use Rattle.mk_lemmas.proofs.Results.{MatchOption-at_some}
use Rattle.mk_graph.specs.Membership.{Has}
use Rattle.mk_build.specs.Steps as model
use Rattle.mk_graph_ready.specs.Progress.{Starts}
use Rattle.mk_world.specs.State.{MakeState, setting, world_in, busy, start_of, number_of}
use Rattle.mk_world.specs.Fits.{Fits}
use Rattle.mk_world.specs.Steps.{Takes}
use Rattle.mk_world.proofs.Changes.{started_fits, started_takes, is_none}
use Rattle.mk_world.proofs.Keeping.{kept_graph, kept_started}
use Rattle.mk_world.proofs.world.World.start.Goals as goal

pub start-requires : goal.start-requires
start-requires c = λ n h.
    let scene = c.self.inside.scene in
    let found = MatchOption-at_some _ _ c.in-Some.is c.in_ok-numbers.ensures in
    let is = rw c.graph-graph.ensures at c.nodes-many.ensures.graph in
    let same = kept_graph scene c.self.inside.make c.self.inside.readiness c.self.invariant.2 in
    rw same ((started_fits scene c.args.jobs c.in-Some.numbers.items is found.1.within).goals n (subst (λ (l : List ℕ). Has l n) c.deref.ensures.value h))

pub invariant_of-self-2 : goal.invariant_of-self-2
invariant_of-self-2 c =
    let scene = c.self.inside.scene in
    let found = MatchOption-at_some _ _ c.in-Some.is c.in_ok-numbers.ensures in
    let is = rw c.graph-graph.ensures at c.nodes-many.ensures.graph in
    let same = kept_graph scene c.self.inside.make c.self.inside.readiness c.self.invariant.2 in
    let starts = subst (λ (l : List ℕ). Starts c.self.inside.readiness c.start.new.self l) c.deref.ensures.value c.in_ok-start.ensures.ok in (
      subst (Fits scene) (sym c.in_ok-new.ensures) (rw (c.nodes-many.ensures.value, c.graph-graph.ensures) (started_fits scene c.args.jobs c.in-Some.numbers.items is found.1.within)),
      c.self.invariant.1,
      kept_started scene _ c.self.inside.readiness c.start.new.self c.args.jobs c.in-Some.numbers.items _ same starts c.in_ok-new.ensures,
      c.self.invariant.3,
    )

pub returns : goal.returns
returns c =
    let scene = c.self.inside.scene in
    let disk = c.self.inside.disk in
    let make = c.self.inside.make in
    let found = MatchOption-at_some _ _ c.in-Some.is c.in_ok-numbers.ensures in
    let none = is_none make (sym c.if-is_some.ensures) in
    let many = length c.nodes-many.result.now in
    let some : 0 < c.args.jobs = omega (arith, c.if-jobs-eq0.false) in
    let takes = subst (λ (gs : List ℕ). Takes scene.graph (setting scene) (world_in scene disk make)
    (busy scene (start_of c.args.jobs c.in-Some.numbers.items many) disk) (model.Make c.args.jobs gs))
    found.0 (started_takes scene disk make c.args.jobs c.in-Some.numbers.items many none some found.1) in
    rw (← c.self.view_is) (record {
      scene = refl;
      names = refl;
      judged = subst (λ (m : MakeState). Takes scene.graph (setting scene) (world_in scene disk make) (busy scene m disk) (model.Make c.args.jobs (map (number_of scene.graph) (map (λ goal. goal.now) c.args.goals.now)))) (sym c.in_ok-new.ensures) takes;
      unchanged = tt;
    })
