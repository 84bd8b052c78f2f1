use Rattle.std.proofs.Common.{◌≡◌, ◌+◌, ◌≤◌, ◌∷◌, [], ◌++◌, true, false, length, take, refl, sym, ap, ◌∙◌, arith}
use Rattle.std.proofs.lemmas.List.{take_all, length-append}
use Rattle.mk_lines.specs.Lines.{escapes, runs}
use Rattle.mk_lines.proofs.Pieces.{pieces, next_left, one_left, some_whole}
use Rattle.mk_lines.proofs.RunsFound.{first_run, behind_run, runs_of_text, first_goes_on, behind_goes_on, first_ends, behind_ends, first_last, behind_last, cut_on, cut_here, left_behind}
use Rattle.mk_lines.proofs.runs.take_run.Goals as goal

pub loop-after-init : goal.loop-after-init
loop-after-init c = record {
  rest = refl;
  size = omega arith;
  behind = refl;
  run = λ m h. ap (λ n. pieces (take n c.args.text.now)) (let e : 0 + m ≡ m = omega arith in e) ∙ h;
  count = omega arith;
  few = omega arith;
}

pub loop-after-preserved : goal.loop-after-preserved
loop-after-preserved c =
    let text = c.args.text.now in
    let rest = c.loop-after.rest.now in
    let piece = c.cut.result.0.now in
    let after = c.in-Some.after.now in
    let end = c.loop-after.end in
    let whole : rest ≡ piece ++ 10 ∷ after = some_whole rest piece c.cut.result.1 c.in-Some.after c.cut.ensures.whole c.in-Some.is in
    let goes_on : escapes piece ≡ true = sym (c.if-not-escapes.ensures) in
    let parts : pieces rest ≡ piece ∷ pieces after = next_left piece c.cut.result.1 c.in-Some.after (pieces rest) c.cut.ensures.parts c.in-Some.is in
    let long = ap length whole ∙ length-append piece (10 ∷ after) in
    let more = ap length (first_goes_on piece (pieces rest) (pieces after) parts goes_on) in
    record {
      rest = left_behind text rest piece after end c.loop-after.invariant.rest whole;
      size = omega (arith, long, c.loop-after.invariant.size);
      behind = sym (behind_goes_on piece (pieces rest) (pieces after) parts goes_on) ∙ c.loop-after.invariant.behind;
      run = λ m h. ap (λ n. pieces (take n text)) (let e : end + length piece + 1 + m ≡ end + (length piece + 1 + m) = omega arith in e) ∙ c.loop-after.invariant.run (length piece + 1 + m) (cut_on piece after rest whole c.cut.ensures.clean goes_on m h);
      count = omega (arith, more, c.loop-after.invariant.count);
      few = omega (arith, c.loop-after.invariant.few);
    }

pub returns-in_default-clause-first : goal.returns-in_default-clause-first
returns-in_default-clause-first c =
    let text = c.args.text.now in
    let rest = c.loop-after.rest.now in
    let piece = c.cut.result.0.now in
    let one : pieces rest ≡ piece ∷ [] = one_left piece c.cut.result.1 (pieces rest) c.cut.ensures.parts c.in_default.is in
    let all : length text ≤ c.loop-after.end + length rest = omega (arith, c.loop-after.invariant.size) in
    let same : pieces text ≡ first_run (pieces text) =
    sym (ap pieces (take_all (c.loop-after.end + length rest) text all)) ∙ c.loop-after.invariant.run (length rest) (ap pieces (take_all (length rest) rest (omega arith)) ∙ (one ∙ sym (first_last piece (pieces rest) one))) in
    let none : behind_run (pieces text) ≡ [] = sym c.loop-after.invariant.behind ∙ behind_last piece (pieces rest) one in
    runs_of_text text ∙ (ap (λ xs. xs ∷ runs (behind_run (pieces text))) (sym same) ∙ ap (λ xs. pieces text ∷ runs xs) none)

pub returns-in_default-clause-count : goal.returns-in_default-clause-count
returns-in_default-clause-count c =
    let text = c.args.text.now in
    let rest = c.loop-after.rest.now in
    let piece = c.cut.result.0.now in
    let one : pieces rest ≡ piece ∷ [] = one_left piece c.cut.result.1 (pieces rest) c.cut.ensures.parts c.in_default.is in
    let all : length text ≤ c.loop-after.end + length rest = omega (arith, c.loop-after.invariant.size) in
    let same : pieces text ≡ first_run (pieces text) =
    sym (ap pieces (take_all (c.loop-after.end + length rest) text all)) ∙ c.loop-after.invariant.run (length rest) (ap pieces (take_all (length rest) rest (omega arith)) ∙ (one ∙ sym (first_last piece (pieces rest) one))) in
    omega (arith, ap length (first_last piece (pieces rest) one), ap length same, c.loop-after.invariant.count)

pub returns-then-not-escapes-clause-first : goal.returns-then-not-escapes-clause-first
returns-then-not-escapes-clause-first c =
    let text = c.args.text.now in
    let rest = c.loop-after.rest.now in
    let piece = c.cut.result.0.now in
    let after = c.in-Some.after.now in
    let whole : rest ≡ piece ++ 10 ∷ after = some_whole rest piece c.cut.result.1 c.in-Some.after c.cut.ensures.whole c.in-Some.is in
    let ends : escapes piece ≡ false = sym (c.if-not-escapes.ensures) in
    let parts : pieces rest ≡ piece ∷ pieces after = next_left piece c.cut.result.1 c.in-Some.after (pieces rest) c.cut.ensures.parts c.in-Some.is in
    let run : pieces (take (c.loop-after.end + length piece) text) ≡ first_run (pieces text) = c.loop-after.invariant.run (length piece) (cut_here piece after rest whole c.cut.ensures.clean ends) in
    let left : behind_run (pieces text) ≡ pieces after = sym c.loop-after.invariant.behind ∙ behind_ends piece (pieces rest) (pieces after) parts ends in
    runs_of_text text ∙ (ap (λ xs. xs ∷ runs (behind_run (pieces text))) (sym run) ∙ ap (λ xs. pieces (take (c.loop-after.end + length piece) text) ∷ runs xs) left)

pub returns-then-not-escapes-clause-count : goal.returns-then-not-escapes-clause-count
returns-then-not-escapes-clause-count c =
    let text = c.args.text.now in
    let rest = c.loop-after.rest.now in
    let piece = c.cut.result.0.now in
    let after = c.in-Some.after.now in
    let whole : rest ≡ piece ++ 10 ∷ after = some_whole rest piece c.cut.result.1 c.in-Some.after c.cut.ensures.whole c.in-Some.is in
    let ends : escapes piece ≡ false = sym (c.if-not-escapes.ensures) in
    let parts : pieces rest ≡ piece ∷ pieces after = next_left piece c.cut.result.1 c.in-Some.after (pieces rest) c.cut.ensures.parts c.in-Some.is in
    let run : pieces (take (c.loop-after.end + length piece) text) ≡ first_run (pieces text) = c.loop-after.invariant.run (length piece) (cut_here piece after rest whole c.cut.ensures.clean ends) in
    omega (arith, ap length run, ap length (first_ends piece (pieces rest) (pieces after) parts ends), c.loop-after.invariant.count)
