use Rattle.std.proofs.Common.{◌≡◌, ◌∙◌, ℕ, List, ap, map}
use Rattle.std.specs.List.{flat_map}
use Rattle.std.proofs.lemmas.Result.{IfOk-weaker}
use Rattle.mk_graph.specs.Graph.{Graph, node}
use Rattle.mk_infer.specs.Inference.{choice}
use Rattle.mk_infer.specs.Laws.{with_more}
use Rattle.mk_build.specs.Setting as build
use Rattle.mk_subject.specs.Subject.{subject_of, footprints, all_writes}
use Rattle.mk_subject.proofs.looking_up.choices_after.Goals as goal

pub returns : goal.returns
returns c =
    let g = c.args.records.now.graph in
    let x = subject_of c.args.choices.now.makefile c.args.choices.now.exists g c.args.records.now.setting in
    let written : c.in_ok-names.names ≡ all_writes x = c.in_ok-names.ensures ∙ (c.in_ok-writes.ensures ∙ ap (flat_map (build.writes g (footprints c.args.records.now.setting))) c.requires.order) in
    IfOk-weaker c.choices_with.result _ _ (λ chosen e. e ∙ (ap
    (λ (k : Graph). map (λ n. choice c.args.choices.now.makefile (with_more c.args.choices.now.exists c.in_ok-names.names)
    (node k n).name) c.args.order.now) c.graph.ensures ∙ ap
    (λ (ws : List (List ℕ)). map (λ n. choice c.args.choices.now.makefile (with_more c.args.choices.now.exists ws)
    (node g n).name) c.args.order.now) written)) c.choices_with.ensures
