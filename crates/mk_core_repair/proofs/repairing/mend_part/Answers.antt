use Rattle.std.proofs.Common.{◌∙◌, ℕ, List, ap, subst, sym, string_bytes}
use Rattle.std.specs.Prelude.{◌==◌}
use Rattle.std.proofs.lemmas.Result.{IfOk-weaker}
use Rattle.mk_core_repair.specs.Trial.{Trial, with_part}
use Rattle.mk_core_repair.specs.Views.{end_outcome}
use Rattle.mk_core_repair.proofs.Trials.{full_trial}
use Rattle.mk_core_repair.proofs.repairing.mend_part.Goals as goal

pub returns-clause-answer : goal.returns-clause-answer
returns-clause-answer g c =
    let request = c.args.request.now in
    let why = string_bytes c.args.obstacle.why in
    let lines = string_bytes c.args.obstacle.lines in
    let some = ap (λ n. n == 0) (sym c.args.obstacle.lines.bytes.ok.0) ∙ sym c.if-is_empty.ensures in
    IfOk-weaker c.trial.result _ _ (λ end h told fits first.
    let base = c.in_ok-own.ensures.base told fits in
    let names = c.in_ok-own.ensures.names told fits in
    subst (λ (l : List (List ℕ)). Trial l told request (with_part first why) lines (end_outcome first end)) names
    (full_trial _ told request (with_part first why) lines (end_outcome first end) some (h told base first))) c.trial.ensures.answer
