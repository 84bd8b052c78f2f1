use Rattle.std.proofs.lemmas.Bool.{false≢true}
use Rattle.std.proofs.Common.{sym, ◌∙◌}
use Rattle.mk_build.specs.SerialMake.{whole_run}
use Rattle.mk_world.specs.State.{setting, world_of}
use Rattle.mk_world.proofs.InTurn.{turn_front}
use Rattle.mk_world.proofs.Whole.{all_leave, no_fault}
use Rattle.mk_world.proofs.world.World.run_allowed.Goals as goal

pub returns-in-Ok : goal.returns-in-Ok
returns-in-Ok c =
    let w = c.args.self.now in
    let g = w.scene.graph in
    let s = setting w.scene in
    let steps = whole_run g s c.args.number c.args.contents.now in
    let new = c.run_with.new.self in
    let takes = c.run_with.ensures.takes in
    record {
      scene = c.run_with.ensures.scene;
      names = c.run_with.ensures.names;
      leaves = all_leave g s (world_of w) (world_of new) steps c.run_with.result c.requires.allowed takes c.in-Ok.is;
      part = turn_front g s (world_of w) (world_of new) steps c.run_with.result takes;
    }

pub returns-then-is_memory : goal.returns-then-is_memory
returns-then-is_memory c =
    let w = c.args.self.now in
    let g = w.scene.graph in
    let s = setting w.scene in
    let steps = whole_run g s c.args.number c.args.contents.now in
    let new = c.run_with.new.self in
    let takes = c.run_with.ensures.takes in
    record {
      scene = c.run_with.ensures.scene;
      names = c.run_with.ensures.names;
      leaves = tt;
      part = turn_front g s (world_of w) (world_of new) steps c.run_with.result takes;
    }

pub returns-else-is_memory : goal.returns-else-is_memory
returns-else-is_memory c =
    let w = c.args.self.now in
    let g = w.scene.graph in
    let s = setting w.scene in
    let steps = whole_run g s c.args.number c.args.contents.now in
    let new = c.run_with.new.self in
    let takes = c.run_with.ensures.takes in
    absurd (no_fault g s (world_of w) (world_of new) steps c.run_with.result c.requires.allowed takes c.in-Err.fault c.in-Err.is (λ e. false≢true (sym c.if-is_memory.false ∙ c.is_memory.ensures.1 e)))
