use Rattle.std.proofs.Common.{◌≡◌, ◌≤◌, ◌<◌, ◌+◌, ◌++◌, length, get_or, drop, refl, sym, ap, ◌∙◌, arith, rules, tests, append-nil}
use Rattle.std.specs.List.{slice_split}
use Rattle.std.proofs.lemmas.Bool.{eqb-true, eqb-false}
use Rattle.std.proofs.lemmas.List.{length_push}
use Rattle.std.proofs.lemmas.Iterator.Consumers.{YieldsList-turn, YieldsList-end}
use Rattle.std.proofs.lemmas.Iterator.Splits.{YieldsList-from_slice_split}
use Rattle.mk_lines.specs.Bytes.{is_blank}
use Rattle.mk_lines.specs.Words.{word_spans}
use Rattle.mk_lines.proofs.WordSpans.{room_split, room_at, words_left, words_more, words_skip, words_left_end}
use Rattle.mk_lines.proofs.spans.words.Goals as goal
use Rattle.mk_lines.proofs.spans.words.Goals.{then-not-is_empty+in_ok-push, else-not-is_empty}

pub loop-part-init : goal.loop-part-init
unfolding word_spans
loop-part-init c = (rw (c.in_ok-spans.ensures.items) refl, (let e = room_split is_blank c.args.text.now in omega arith))

pub overflow_add-end : goal.overflow_add-end
overflow_add-end c =
    let parts = slice_split is_blank c.args.text.now in
    let t : (length c.loop-part.yielded < length parts) × (c.in-Some.part.now
    ≡ get_or parts (length c.loop-part.yielded) c.in-Some.part.now) = YieldsList-turn
    (YieldsList-from_slice_split _ is_blank c.args.text.now (cc) (cc) refl
    (λ x r q k. search (rules, tests))) c.loop-part.yielded _ c.loop-part.yielded_by _ _ c.in-Some.part
    c.in-Some.is c.next.ensures.steps in
    let e = room_at parts (length c.loop-part.yielded) c.in-Some.part.now t in
    omega (arith, e, c.loop-part.invariant.1)

pub overflow_add-at : goal.overflow_add-at
overflow_add-at c =
    let parts = slice_split is_blank c.args.text.now in
    let t : (length c.loop-part.yielded < length parts) × (c.in-Some.part.now
    ≡ get_or parts (length c.loop-part.yielded) c.in-Some.part.now) = YieldsList-turn
    (YieldsList-from_slice_split _ is_blank c.args.text.now (cc) (cc) refl
    (λ x r q k. search (rules, tests))) c.loop-part.yielded _ c.loop-part.yielded_by _ _ c.in-Some.part
    c.in-Some.is c.next.ensures.steps in
    let e = room_at parts (length c.loop-part.yielded) c.in-Some.part.now t in
    omega (arith, e, c.loop-part.invariant.1)

pub loop-part-preserved : goal.loop-part-preserved
loop-part-preserved c =
    let parts = slice_split is_blank c.args.text.now in
    let part = c.in-Some.part.now in
    let k = length c.loop-part.yielded in
    let t : (k < length parts) × (part ≡ get_or parts k part) = YieldsList-turn (YieldsList-from_slice_split _ is_blank c.args.text.now (cc) (cc) refl (λ x r q k. search (rules, tests))) c.loop-part.yielded _ c.loop-part.yielded_by _ _ c.in-Some.part c.in-Some.is c.next.ensures.steps in
    let e = room_at parts k part t in
    let n = length_push c.loop-part.yielded c.in-Some.part in
    let found : c.if-not-is_empty.spans.items ++ words_left (c.loop-part.at + length part + 1) (drop (k + 1) parts) ≡ word_spans c.args.text.now =
    elim c.if-not-is_empty.branch [
      | then-not-is_empty+in_ok-push w ↦ ap (λ spans. spans.items
          ++ words_left (c.loop-part.at + length part + 1) (drop (k + 1) parts)) w.spans-is
          ∙ rw (w.in_ok-push.ensures.items) (words_more c.loop-part.spans.items c.loop-part.at parts k part t
          (let ne = eqb-false (length part) 0 (sym w.if-not-is_empty.ensures) in omega arith)
          ∙ c.loop-part.invariant.0)
      | else-not-is_empty w ↦ ap (λ spans. spans.items ++ words_left (c.loop-part.at + length part + 1) (drop (k + 1) parts)) w.spans-is ∙ (words_skip c.loop-part.spans.items c.loop-part.at parts k part t (eqb-true (length part) 0 (sym w.if-not-is_empty.ensures)) ∙ c.loop-part.invariant.0)
    ] in
    (rw n found, rw n (omega (arith, e, c.loop-part.invariant.1)))

pub returns : goal.returns
returns c =
    let parts = slice_split is_blank c.args.text.now in
    let t = YieldsList-end (YieldsList-from_slice_split _ is_blank c.args.text.now (cc) (cc) refl (λ x r q k. search (rules, tests))) c.loop-part.yielded _ c.loop-part.yielded_by _ _ c.in-None.is c.next.ensures.steps in
    let le : length parts ≤ length c.loop-part.yielded = omega (arith, t.1) in
    record { exact = sym (append-nil c.loop-part.spans.items) ∙ (ap (λ rest. c.loop-part.spans.items ++ rest) (sym (words_left_end c.loop-part.at parts (length c.loop-part.yielded) le)) ∙ c.loop-part.invariant.0) }
