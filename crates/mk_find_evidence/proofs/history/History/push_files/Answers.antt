use Rattle.std.proofs.Common.{◌≡◌, ◌<◌, length, map, string_bytes, sym, subst}
use Rattle.mk_build.specs.Setting.{reads, writes}
use Rattle.mk_world.specs.State.{State, setting}
use Rattle.mk_find_evidence.specs.Histories.{History}
use Rattle.mk_find_evidence.proofs.WholeRuns.{both_noted}
use Rattle.mk_find_evidence.proofs.history.History.push_files.Goals as goal

pub push_puts-requires : goal.push_puts-requires
push_puts-requires c = subst (λ (w : State). c.args.number < length w.scene.graph.nodes) (sym c.in_ok-push_looks.ensures.world) c.requires

pub returns : goal.returns
returns c =
    let t = c.args.number in
    let files = map string_bytes c.files_of.result.0.now in
    let texts = map string_bytes c.files_of.result.1.now in
    let read = subst (λ (h : History). files ≡ reads h.world.scene.graph (setting h.world.scene) t) c.self.view_is c.files_of.ensures.reads in
    let written = subst (λ (h : History). texts ≡ writes h.world.scene.graph (setting h.world.scene) t) c.self.view_is c.files_of.ensures.writes in
    both_noted c.args.self.now c.push_looks.new.self c.push_puts.new.self t c.args.contents.now files texts read written c.in_ok-push_looks.ensures c.in_ok-push_puts.ensures
