use Rattle.std.proofs.Common.{◌<◌, length, sym, subst, ◌∙◌}
use Rattle.mk_world.specs.State.{State}
use Rattle.mk_find_evidence.proofs.WholeRuns.{run_noted}
use Rattle.mk_find_evidence.proofs.history.History.push_run.Goals as goal

pub push_files-requires : goal.push_files-requires
push_files-requires c = subst (λ (w : State). c.args.number < length w.scene.graph.nodes) (sym c.in_ok-push_begin.ensures.world) c.requires

pub push_end-requires : goal.push_end-requires
push_end-requires c = subst (λ (w : State). c.args.number < length w.scene.graph.nodes) (sym (c.in_ok-push_files.ensures.world ∙ c.in_ok-push_begin.ensures.world)) c.requires

pub returns : goal.returns
returns c = run_noted c.args.self.now c.push_begin.new.self c.push_files.new.self c.push_end.new.self c.args.number c.args.contents.now c.in_ok-push_begin.ensures c.in_ok-push_files.ensures c.in_ok-push_end.ensures
