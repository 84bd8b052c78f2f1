use Rattle.std.proofs.Common.{◌≡◌, ◌∙◌, ℕ, suc, ◌+◌, ◌-◌, List, ◌∷◌, ap, sym, subst, arith, string_bytes}
use Rattle.mk_core_repair.specs.Amending.{added_lines}
use Rattle.mk_core_repair.specs.Outcome.{reason_of}
use Rattle.mk_core_repair.specs.Rounds.{max_rounds}
use Rattle.mk_core_repair.specs.Views.{IsFound}
use Rattle.mk_core_repair.specs.declared.rounds.Found.{Found}
use Rattle.mk_core_repair.proofs.Rounding.{ends_last, step_further, step_lacking, step_long, step_refused, step_right, step_unknown}
use Rattle.mk_core_repair.proofs.rounds.rounds.Goals as goal

pub returns-then-is_too_long-clause-answer : goal.returns-then-is_too_long-clause-answer
returns-then-is_too_long-clause-answer c =
    let left = max_rounds - (c.loop-done._done + 1) in
    let more : max_rounds - c.loop-done._done ≡ suc left = omega arith in
    let text = string_bytes c.in_ok-lines.lines in
    let added = c.in_ok-added.ensures ∙ ap (λ (t : List ℕ). added_lines c.args.base.own.now.text.items t) c.as_str.ensures.value in
    λ told base first.
    c.loop-done.invariant told base first _
    (step_long told c.args.base.request.now c.args.base.own.now c.args.base.known.now base first c.loop-done.words (reason_of c.loop-done.why) _ left more text c.in_ok-added.added.items c.deref.result.now
    c.in_ok-lines.ensures added c.deref.ensures.value (reason_of c.stopped-reason.result) c.stopped-reason.ensures c.if-is_too_long.ensures)

pub returns-in-Ok-Right-clause-answer : goal.returns-in-Ok-Right-clause-answer
returns-in-Ok-Right-clause-answer c =
    let left = max_rounds - (c.loop-done._done + 1) in
    let more : max_rounds - c.loop-done._done ≡ suc left = omega arith in
    let text = string_bytes c.in_ok-lines.lines in
    let added = c.in_ok-added.ensures ∙ ap (λ (t : List ℕ). added_lines c.args.base.own.now.text.items t) c.as_str.ensures.value in
    let ok = c.in-Ok-Right.ensures.ok in
    let is = subst (λ (f : Found). IsFound c.args.base.known.now.names c.loop-done.words c.round.new.words ok.0 f) c.in-Ok-Right.field-0-is ok.1 in
    λ told base first.
    c.loop-done.invariant told base first _
    (step_right told c.args.base.request.now c.args.base.own.now c.args.base.known.now base first c.loop-done.words (reason_of c.loop-done.why) _ left more text c.in_ok-added.added.items c.deref.result.now
    c.in_ok-lines.ensures added c.deref.ensures.value c.deref-in-loop-done.result.now c.deref-in-loop-done.ensures.value c.if-is_too_long.ensures ok.0 is.0 is.1 (ok.2 told base))

pub returns-in-Ok-Unknown-clause-answer : goal.returns-in-Ok-Unknown-clause-answer
returns-in-Ok-Unknown-clause-answer c =
    let left = max_rounds - (c.loop-done._done + 1) in
    let more : max_rounds - c.loop-done._done ≡ suc left = omega arith in
    let text = string_bytes c.in_ok-lines.lines in
    let added = c.in_ok-added.ensures ∙ ap (λ (t : List ℕ). added_lines c.args.base.own.now.text.items t) c.as_str.ensures.value in
    let ok = c.in-Ok-Unknown.ensures.ok in
    let is = subst (λ (f : Found). IsFound c.args.base.known.now.names c.loop-done.words c.round.new.words ok.0 f) c.in-Ok-Unknown.field-0-is ok.1 in
    λ told base first.
    c.loop-done.invariant told base first _
    (step_unknown told c.args.base.request.now c.args.base.own.now c.args.base.known.now base first c.loop-done.words (reason_of c.loop-done.why) _ left more text c.in_ok-added.added.items c.deref.result.now
    c.in_ok-lines.ensures added c.deref.ensures.value c.deref-in-loop-done.result.now c.deref-in-loop-done.ensures.value c.if-is_too_long.ensures ok.0 c.in-Ok-Unknown.name is (ok.2 told base))

pub returns-then-not-is_new-clause-answer : goal.returns-then-not-is_new-clause-answer
returns-then-not-is_new-clause-answer c =
    let left = max_rounds - (c.loop-done._done + 1) in
    let more : max_rounds - c.loop-done._done ≡ suc left = omega arith in
    let text = string_bytes c.in_ok-lines.lines in
    let added = c.in_ok-added.ensures ∙ ap (λ (t : List ℕ). added_lines c.args.base.own.now.text.items t) c.as_str.ensures.value in
    let ok = c.in-Ok-Lacks.ensures.ok in
    let is = subst (λ (f : Found). IsFound c.args.base.known.now.names c.loop-done.words c.round.new.words ok.0 f) c.in-Ok-Lacks.field-0-is ok.1 in
    λ told base first.
    c.loop-done.invariant told base first _
    (step_lacking told c.args.base.request.now c.args.base.own.now c.args.base.known.now base first c.loop-done.words (reason_of c.loop-done.why) _ left more text c.in_ok-added.added.items c.deref.result.now
    c.in_ok-lines.ensures added c.deref.ensures.value c.deref-in-loop-done.result.now c.deref-in-loop-done.ensures.value c.if-is_too_long.ensures ok.0 c.in-Ok-Lacks.found c.in-Ok-Lacks.is_new _
    is.0 is.1 is.2 (ok.2 told base) c.if-not-is_new.true)

pub returns-in-Err-clause-answer : goal.returns-in-Err-clause-answer
returns-in-Err-clause-answer c =
    let left = max_rounds - (c.loop-done._done + 1) in
    let more : max_rounds - c.loop-done._done ≡ suc left = omega arith in
    let text = string_bytes c.in_ok-lines.lines in
    let added = c.in_ok-added.ensures ∙ ap (λ (t : List ℕ). added_lines c.args.base.own.now.text.items t) c.as_str.ensures.value in
    λ told base first.
    c.loop-done.invariant told base first _
    (step_refused told c.args.base.request.now c.args.base.own.now c.args.base.known.now base first c.loop-done.words (reason_of c.loop-done.why) _ left more text c.in_ok-added.added.items c.deref.result.now
    c.in_ok-lines.ensures added c.deref.ensures.value c.deref-in-loop-done.result.now c.deref-in-loop-done.ensures.value c.if-is_too_long.ensures c.in-Err.fault (sym c.if-is_out_of_memory.ensures)
    (c.in-Err.ensures.err told base))

pub loop-done-preserved : goal.loop-done-preserved
loop-done-preserved c =
    let left = max_rounds - (c.loop-done._done + 1) in
    let more : max_rounds - c.loop-done._done ≡ suc left = omega arith in
    let text = string_bytes c.in_ok-lines.lines in
    let added = c.in_ok-added.ensures ∙ ap (λ (t : List ℕ). added_lines c.args.base.own.now.text.items t) c.as_str.ensures.value in
    let ok = c.in-Ok-Lacks.ensures.ok in
    let is = subst (λ (f : Found). IsFound c.args.base.known.now.names c.loop-done.words c.round.new.words ok.0 f) c.in-Ok-Lacks.field-0-is ok.1 in
    λ told base first outcome h.
    c.loop-done.invariant told base first outcome
    (step_further told c.args.base.request.now c.args.base.own.now c.args.base.known.now base first c.loop-done.words (reason_of c.loop-done.why) _ left more text c.in_ok-added.added.items c.deref.result.now
    c.in_ok-lines.ensures added c.deref.ensures.value c.deref-in-loop-done.result.now c.deref-in-loop-done.ensures.value c.if-is_too_long.ensures ok.0 c.in-Ok-Lacks.found c.in-Ok-Lacks.is_new _
    is.0 is.1 is.2 (ok.2 told base) c.if-not-is_new.false outcome h)

pub returns-clause-answer : goal.returns-clause-answer
returns-clause-answer c =
    let none : max_rounds - c.loop-done._done ≡ 0 = omega arith in
    λ told base first.
    c.loop-done.invariant told base first _
    (ends_last c.args.base.known.now.names told c.args.base.request.now first c.loop-done.words (reason_of c.loop-done.why) (max_rounds - c.loop-done._done) (reason_of c.stopped-last.result) c.stopped-last.ensures none)
