use Rattle.std.proofs.Common.{◌<◌, List, length, String, Global, string_bytes, sym, ap, ◌∙◌, subst}
use Rattle.mk_build.specs.Setting.{FileName}
use Rattle.mk_build.specs.SerialMake.{puts}
use Rattle.mk_world.specs.State.{State}
use Rattle.mk_find_evidence.proofs.Texts.{next_text, no_text}
use Rattle.mk_find_evidence.proofs.Notes.{all_unnoted, next_noted, none_unnoted}
use Rattle.mk_find_evidence.proofs.WholeRuns.{next_put, no_put}
use Rattle.mk_find_evidence.proofs.history.History.push_puts.Goals as goal

pub loop-file-init : goal.loop-file-init
loop-file-init c = all_unnoted _ _

pub push_put-requires : goal.push_put-requires
push_put-requires c = subst (λ (w : State). c.args.number < length w.scene.graph.nodes) (sym c.loop-file.invariant.world) c.requires

pub returns-in_default : goal.returns-in_default
returns-in_default c = none_unnoted _ _ _ _ c.loop-file.invariant (no_put c.args.number _ c.loop-file.rest.now c.in_default.len_below)

pub loop-file-preserved : goal.loop-file-preserved
loop-file-preserved c =
    let is = next_text c.args.files.now c.loop-file.file-index c.file-item.result c.as_str.result.now c.loop-file-test.true (c.as_str.ensures.value ∙ ap (λ (s : String Global). string_bytes s) c.file-item.is) in
    next_noted _ _ _ _ _ _ _ c.loop-file.invariant (next_put c.args.number _ _ c.as_str.result.now c.loop-file.rest.now is c.in-len1-up.len_at_least) c.in_ok-push_put.ensures

pub returns : goal.returns
returns c = none_unnoted _ _ _ _ c.loop-file.invariant (ap (λ (l : List FileName). puts c.args.number l c.loop-file.rest.now) (no_text c.args.files.now c.loop-file.file-index c.loop-file-test.false))
