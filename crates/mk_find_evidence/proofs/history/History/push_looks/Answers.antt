use Rattle.std.proofs.Common.{◌<◌, length, map, String, Global, string_bytes, sym, ap, ◌∙◌, subst}
use Rattle.mk_build.specs.Steps.{Look}
use Rattle.mk_world.specs.State.{State}
use Rattle.mk_find_evidence.proofs.Texts.{next_text, no_text}
use Rattle.mk_find_evidence.proofs.Notes.{all_unnoted, next_noted, none_unnoted}
use Rattle.mk_find_evidence.proofs.history.History.push_looks.Goals as goal

pub loop-file-init : goal.loop-file-init
loop-file-init c = all_unnoted _ _

pub push_look-requires : goal.push_look-requires
push_look-requires c = subst (λ (w : State). c.args.number < length w.scene.graph.nodes) (sym c.loop-file.invariant.world) c.requires

pub loop-file-preserved : goal.loop-file-preserved
loop-file-preserved c =
    let is = next_text c.args.files.now c.loop-file.file-index c.file-item.result c.as_str.result.now c.loop-file-test.true (c.as_str.ensures.value ∙ ap (λ (s : String Global). string_bytes s) c.file-item.is) in
    next_noted _ _ _ _ _ _ _ c.loop-file.invariant (ap (map (λ f. Look c.args.number f)) is) c.in_ok-push_look.ensures

pub returns : goal.returns
returns c = none_unnoted _ _ _ _ c.loop-file.invariant (ap (map (λ f. Look c.args.number f)) (no_text c.args.files.now c.loop-file.file-index c.loop-file-test.false))
