use Rattle.std.proofs.Common.{List, refl, ◌+◌, ◌++◌, ◌∙◌, None, Some, sym, subst, string_bytes, drop, take, []}
use Rattle.std.proofs.lemmas.List.{take_all, take-append-drop}
use Rattle.std.proofs.lemmas.Bool.{false≢true}
use Rattle.mk_world.specs.declared.plan.PlanLine.{PlanLine}
use Rattle.mk_world.specs.State.{world_of}
use Rattle.mk_world.specs.Running.{stage_of, printed, RunsTo, RunsPartly}
use Rattle.mk_world.proofs.Lines.{LinesRun, leads_further, nothing_run, one_run, one_refused, cut_after, cut_within, part_of, line_at, up_to, not_memory, on_error}
use Rattle.mk_world.proofs.running.run_plan.Goals as goal

pub loop-line-init : goal.loop-line-init
loop-line-init c = record {
  scene = refl;
  names = refl;
  leads = record { steps = []; legal = tt; leaves = refl };
  run = nothing_run c.args.world.now _ c.new-text.ensures.bytes;
}

pub returns-in_err-print-in-Ok-clause-leads : goal.returns-in_err-print-in-Ok-clause-leads
returns-in_err-print-in-Ok-clause-leads c = leads_further c.args.world.now c.loop-line.world c.follow.new.world c.loop-line.invariant.scene c.loop-line.invariant.leads c.follow.ensures.leads

-- memory runs out where the files are printed after a line
pub returns-in_err-print-in-Ok-clause-part : goal.returns-in_err-print-in-Ok-clause-part
returns-in_err-print-in-Ok-clause-part c =
    let first = c.args.world.now in
    let new = c.follow.new.world in
    let items = c.as_slice-line-items.result.now in
    let i = c.loop-line.line-index in
    let line = c.line-item.result in
    let text = string_bytes c.loop-line.text in
    let run = one_run first c.loop-line.world new (take i items) line text (text ++ printed new.disk.names line.order (world_of new)) c.loop-line.invariant.run c.follow.ensures.scene c.follow.ensures.names c.in-Ok.ensures.ok refl in
    let front = subst (λ (l : List PlanLine). LinesRun first new l (text ++ printed new.disk.names line.order (world_of new))) (up_to items i line c.loop-line-test.true c.line-item.is) run in
    on_error c.from_residual.result (subst (λ all. RunsPartly (stage_of first) (world_of first) (world_of new) all) (take-append-drop (i + 1) items ∙ c.as_slice-line-items.ensures) (cut_after first new (take (i + 1) items) (drop (i + 1) items) _ front))

pub returns-then-is_memory-clause-leads : goal.returns-then-is_memory-clause-leads
returns-then-is_memory-clause-leads c = leads_further c.args.world.now c.loop-line.world c.follow.new.world c.loop-line.invariant.scene c.loop-line.invariant.leads c.follow.ensures.leads

-- memory runs out within a line
pub returns-then-is_memory-clause-part : goal.returns-then-is_memory-clause-part
returns-then-is_memory-clause-part c =
    let first = c.args.world.now in
    let now = c.loop-line.world in
    let new = c.follow.new.world in
    let items = c.as_slice-line-items.result.now in
    let i = c.loop-line.line-index in
    let line = c.line-item.result in
    let part = part_of (stage_of now) (world_of now) (world_of new) line.order c.in-Err.fault (c.is_memory.ensures.0 c.if-is_memory.true) c.in-Err.ensures.err in
    let cut = cut_within first now new (take i items) (drop (i + 1) items) line (string_bytes c.loop-line.text) c.loop-line.invariant.run part in
    subst (λ all. RunsPartly (stage_of first) (world_of first) (world_of new) all) (line_at items i line c.loop-line-test.true c.line-item.is ∙ c.as_slice-line-items.ensures) cut

pub returns-in-Err : goal.returns-in-Err
returns-in-Err c =
    let first = c.args.world.now in
    let now = c.loop-line.world in
    let new = c.follow.new.world in
    let items = c.as_slice-line-items.result.now in
    let i = c.loop-line.line-index in
    let line = c.line-item.result in
    let refusal = not_memory (λ e. false≢true (sym c.if-is_memory.false ∙ c.is_memory.ensures.1 e)) c.in-Err.ensures.err in
    let run = one_refused first now new (take i items) (drop (i + 1) items) line (string_bytes c.loop-line.text) c.in-Err.fault c.loop-line.invariant.run refusal in
    record {
      scene = c.follow.ensures.scene ∙ c.loop-line.invariant.scene;
      names = c.follow.ensures.names ∙ c.loop-line.invariant.names;
      ran = subst (λ all. RunsTo (stage_of first) (world_of first) all (string_bytes c.loop-line.text) (Some (line.number, c.in-Err.fault)) (world_of new)) (line_at items i line c.loop-line-test.true c.line-item.is ∙ c.as_slice-line-items.ensures) run;
      part = tt;
      leads = leads_further first now new c.loop-line.invariant.scene c.loop-line.invariant.leads c.follow.ensures.leads;
    }

pub loop-line-preserved : goal.loop-line-preserved
loop-line-preserved c =
    let first = c.args.world.now in
    let now = c.loop-line.world in
    let new = c.follow.new.world in
    let items = c.as_slice-line-items.result.now in
    let i = c.loop-line.line-index in
    let line = c.line-item.result in
    record {
      scene = c.follow.ensures.scene ∙ c.loop-line.invariant.scene;
      names = c.follow.ensures.names ∙ c.loop-line.invariant.names;
      leads = leads_further first now new c.loop-line.invariant.scene c.loop-line.invariant.leads c.follow.ensures.leads;
      run = subst (λ (l : List PlanLine). LinesRun first new l (string_bytes c.print.new.text)) (up_to items i line c.loop-line-test.true c.line-item.is) (one_run first now new (take i items) line (string_bytes c.loop-line.text) (string_bytes c.print.new.text) c.loop-line.invariant.run c.follow.ensures.scene c.follow.ensures.names c.in-Ok.ensures.ok c.in_ok-print-in-Ok.ensures);
    }

pub returns-clause-ran : goal.returns-clause-ran
returns-clause-ran c =
    let items = c.as_slice-line-items.result.now in
    subst (λ all. RunsTo (stage_of c.args.world.now) (world_of c.args.world.now) all (string_bytes c.loop-line.text) None (world_of c.loop-line.world))
    (take_all c.loop-line.line-index items c.loop-line-test.false ∙ c.as_slice-line-items.ensures) c.loop-line.invariant.run.run
