use Rattle.std.proofs.Common.{◌∙◌, ℕ, List, ap, subst, sym, string_bytes}
use Rattle.mk_core_repair.specs.Amending.{added_lines, makefile_text}
use Rattle.mk_core_repair.specs.Outcome.{Outcome}
use Rattle.mk_core_repair.specs.Trial.{Tries, with_part}
use Rattle.mk_core_repair.specs.Views.{end_outcome}
use Rattle.mk_core_repair.proofs.Trials.{trial_judged, trial_refused}
use Rattle.mk_core_repair.proofs.trial.trial.Goals as goal

pub returns-in-Ok-clause-answer : goal.returns-in-Ok-clause-answer
returns-in-Ok-clause-answer c =
    let request = c.args.base.request.now in
    let own = c.args.base.own.now in
    let known = c.args.base.known.now in
    let lines = string_bytes c.args.lines in
    let added = c.in_ok-added.ensures ∙ ap (λ (t : List ℕ). added_lines own.text.items t) c.as_str.ensures.value in
    let ok = c.in-Ok.ensures.ok in
    λ told base first.
    trial_judged told request own known base (with_part first (string_bytes c.args.why)) lines c.in_ok-added.added.items c.deref.result.now added c.deref.ensures.value c.deref-2.result.now c.deref-2.ensures.value
    c.if-is_too_long.ensures ok.0 (end_outcome first c.tried.result) (c.tried.ensures known.names _ _ ok.0 ok.1 first) (ok.2 told base)

pub returns-else-is_out_of_memory-clause-answer : goal.returns-else-is_out_of_memory-clause-answer
returns-else-is_out_of_memory-clause-answer c =
    let request = c.args.base.request.now in
    let own = c.args.base.own.now in
    let known = c.args.base.known.now in
    let lines = string_bytes c.args.lines in
    let added = c.in_ok-added.ensures ∙ ap (λ (t : List ℕ). added_lines own.text.items t) c.as_str.ensures.value in
    λ told base first.
    subst (λ (o : Outcome). Tries known.names told request (with_part first (string_bytes c.args.why)) lines (added_lines (makefile_text told request) lines) o) (sym (c.untried-in-Err.ensures first))
    (trial_refused told request own known base (with_part first (string_bytes c.args.why)) lines c.in_ok-added.added.items c.deref.result.now added c.deref.ensures.value c.deref-2.result.now c.deref-2.ensures.value
    c.if-is_too_long.ensures c.in-Err.fault (sym c.if-is_out_of_memory.ensures) (c.in-Err.ensures.err told base))
