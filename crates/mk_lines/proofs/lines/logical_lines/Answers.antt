use Rattle.std.proofs.Common.{◌≡◌, ℕ, ◌+◌, ◌<◌, ◌∷◌, List, Option, length, vec_len, sym, ap, ◌∙◌, subst, arith, inr}
use Rattle.std.specs.Borrow.{Bor}
use Rattle.std.specs.Option.{option_map}
use Rattle.std.proofs.lemmas.Result.{err_from_is_err_and}
use Rattle.mk_lines.specs.Bytes.{is_blank_alone, parts_left}
use Rattle.mk_lines.specs.Lines.{runs, line_fault}
use Rattle.mk_lines.specs.Views.{line_view}
use Rattle.mk_lines.proofs.TextLeft.{size_left, still_counted}
use Rattle.mk_lines.proofs.Pieces.{pieces, some_piece}
use Rattle.mk_lines.proofs.RunsLeft.{Left, nothing_read, one_kept, one_dropped, one_faulty, all_read, all_lent, tested_well, tested_ill}
use Rattle.mk_lines.proofs.lines.logical_lines.Goals as goal
use Rattle.mk_lines.proofs.lines.logical_lines.Goals.{then-not-is_blank_alone+in_ok-check_line+in_ok-push, else-not-is_blank_alone}

-- the runs of what is left of the text
abbrev left_of : Option (Bor (List ℕ)) → List (List (List ℕ))
left_of rest = runs (parts_left 10 (option_map (λ r. r.now) rest))

pub loop-rest-init : goal.loop-rest-init
loop-rest-init c = record { left = rw (c.new-lines.ensures.items) (nothing_read c.args.text.now); counted = omega arith }

pub loop-rest-smaller : goal.loop-rest-smaller
loop-rest-smaller c =
    let count = c.take_run-count.result.2 in
    let long : size_left (option_map (λ r. r.now) c.loop-rest.rest) ≡ length c.in-Some.text.now + 1 = ap (λ (o : Option (Bor (List ℕ))). size_left (option_map (λ r. r.now) o)) c.in-Some.is in
    let counted = still_counted (length c.in-Some.text.now) count c.take_run-count.result.1 c.take_run-count.ensures.shorter in
    let some : 0 < count = rw (c.take_run-count.ensures.count) (some_piece c.take_run-count.result.0.now) in
    let lt : size_left (option_map (λ r. r.now) c.take_run-count.result.1) < size_left (option_map (λ r. r.now) c.loop-rest.rest) = omega (arith, counted, long) in
    lt

pub loop-rest-smaller-after-not-is_blank_alone : goal.loop-rest-smaller-after-not-is_blank_alone
loop-rest-smaller-after-not-is_blank_alone c =
    let count = c.take_run-count.result.2 in
    let long : size_left (option_map (λ r. r.now) c.loop-rest.rest) ≡ length c.in-Some.text.now + 1 = ap (λ (o : Option (Bor (List ℕ))). size_left (option_map (λ r. r.now) o)) c.in-Some.is in
    let counted = still_counted (length c.in-Some.text.now) count c.take_run-count.result.1 c.take_run-count.ensures.shorter in
    let some : 0 < count = rw (c.take_run-count.ensures.count) (some_piece c.take_run-count.result.0.now) in
    let lt : size_left (option_map (λ r. r.now) c.take_run-count.result.1) < size_left (option_map (λ r. r.now) c.loop-rest.rest) = omega (arith, counted, long) in
    lt

pub loop-rest-smaller-after-not-is_blank_alone-2 : goal.loop-rest-smaller-after-not-is_blank_alone-2
loop-rest-smaller-after-not-is_blank_alone-2 c =
    let count = c.take_run-count.result.2 in
    let long : size_left (option_map (λ r. r.now) c.loop-rest.rest) ≡ length c.in-Some.text.now + 1 = ap (λ (o : Option (Bor (List ℕ))). size_left (option_map (λ r. r.now) o)) c.in-Some.is in
    let counted = still_counted (length c.in-Some.text.now) count c.take_run-count.result.1 c.take_run-count.ensures.shorter in
    let some : 0 < count = rw (c.take_run-count.ensures.count) (some_piece c.take_run-count.result.0.now) in
    let lt : size_left (option_map (λ r. r.now) c.take_run-count.result.1) < size_left (option_map (λ r. r.now) c.loop-rest.rest) = omega (arith, counted, long) in
    lt

pub loop-rest-preserved : goal.loop-rest-preserved
loop-rest-preserved c =
    let text = c.args.text.now in
    let items = c.loop-rest.lines.items in
    let size : length items ≡ vec_len c.loop-rest.lines = omega arith in
    let line = c.in_ok-line.line in
    let first = c.loop-rest.first in
    let count = c.take_run-count.result.2 in
    let run = pieces c.take_run-count.result.0.now in
    let here = left_of c.loop-rest.rest in
    let rest = left_of c.take_run-count.result.1 in
    let step : here ≡ run ∷ rest = ap left_of c.in-Some.is ∙ c.take_run-count.ensures.first in
    let long : size_left (option_map (λ r. r.now) c.loop-rest.rest) ≡ length c.in-Some.text.now + 1 = ap (λ (o : Option (Bor (List ℕ))). size_left (option_map (λ r. r.now) o)) c.in-Some.is in
    let counted = still_counted (length c.in-Some.text.now) count c.take_run-count.result.1 c.take_run-count.ensures.shorter in
    let left : Left c.if-not-is_blank_alone.lines.items (first + count) rest text =
    elim c.if-not-is_blank_alone.branch [
      | then-not-is_blank_alone+in_ok-check_line+in_ok-push w ↦
          subst (λ lines. Left lines (first + count) rest text) (sym (ap (λ lines. lines.items) w.lines-is ∙ w.in_ok-push.ensures.items))
          (one_kept items line text first count run here rest c.loop-rest.invariant.left step c.in_ok-line.ensures.exact c.in_ok-line.ensures.lends c.take_run-count.ensures.count
          (ap is_blank_alone (sym c.deref.ensures.value) ∙ sym w.if-not-is_blank_alone.ensures)
          (ap (λ before. line_fault before (line_view line)) (size ∙ sym w.len.ensures) ∙ tested_well (line_fault w.len.result (line_view line)) _ w.in_ok-check_line.ensures.exact))
      | else-not-is_blank_alone w ↦
          subst (λ lines. Left lines (first + count) rest text) (sym (ap (λ lines. lines.items) w.lines-is))
          (one_dropped items line text first count run here rest c.loop-rest.invariant.left step c.in_ok-line.ensures.exact c.take_run-count.ensures.count
          (ap is_blank_alone (sym c.deref.ensures.value) ∙ sym w.if-not-is_blank_alone.ensures))
    ] in
    record { left = left; counted = omega (arith, counted, long, c.loop-rest.invariant.counted) }

pub loop-rest-preserved-after-not-is_blank_alone : goal.loop-rest-preserved-after-not-is_blank_alone
loop-rest-preserved-after-not-is_blank_alone c =
    let text = c.args.text.now in
    let items = c.loop-rest.lines.items in
    let size : length items ≡ vec_len c.loop-rest.lines = omega arith in
    let line = c.in_ok-line.line in
    let first = c.loop-rest.first in
    let count = c.take_run-count.result.2 in
    let run = pieces c.take_run-count.result.0.now in
    let here = left_of c.loop-rest.rest in
    let rest = left_of c.take_run-count.result.1 in
    let step : here ≡ run ∷ rest = ap left_of c.in-Some.is ∙ c.take_run-count.ensures.first in
    let long : size_left (option_map (λ r. r.now) c.loop-rest.rest) ≡ length c.in-Some.text.now + 1 = ap (λ (o : Option (Bor (List ℕ))). size_left (option_map (λ r. r.now) o)) c.in-Some.is in
    let counted = still_counted (length c.in-Some.text.now) count c.take_run-count.result.1 c.take_run-count.ensures.shorter in
    let left : Left c.if-not-is_blank_alone.lines.items (first + count) rest text =
    elim c.if-not-is_blank_alone.branch [
      | then-not-is_blank_alone+in_ok-check_line+in_ok-push w ↦
          subst (λ lines. Left lines (first + count) rest text) (sym (ap (λ lines. lines.items) w.lines-is ∙ w.in_ok-push.ensures.items))
          (one_kept items line text first count run here rest c.loop-rest.invariant.left step c.in_ok-line.ensures.exact c.in_ok-line.ensures.lends c.take_run-count.ensures.count
          (ap is_blank_alone (sym c.deref.ensures.value) ∙ sym w.if-not-is_blank_alone.ensures)
          (ap (λ before. line_fault before (line_view line)) (size ∙ sym w.len.ensures) ∙ tested_well (line_fault w.len.result (line_view line)) _ w.in_ok-check_line.ensures.exact))
      | else-not-is_blank_alone w ↦
          subst (λ lines. Left lines (first + count) rest text) (sym (ap (λ lines. lines.items) w.lines-is))
          (one_dropped items line text first count run here rest c.loop-rest.invariant.left step c.in_ok-line.ensures.exact c.take_run-count.ensures.count
          (ap is_blank_alone (sym c.deref.ensures.value) ∙ sym w.if-not-is_blank_alone.ensures))
    ] in
    record { left = left; counted = omega (arith, counted, long, c.loop-rest.invariant.counted) }

pub loop-rest-preserved-after-not-is_blank_alone-2 : goal.loop-rest-preserved-after-not-is_blank_alone-2
loop-rest-preserved-after-not-is_blank_alone-2 c =
    let text = c.args.text.now in
    let items = c.loop-rest.lines.items in
    let size : length items ≡ vec_len c.loop-rest.lines = omega arith in
    let line = c.in_ok-line.line in
    let first = c.loop-rest.first in
    let count = c.take_run-count.result.2 in
    let run = pieces c.take_run-count.result.0.now in
    let here = left_of c.loop-rest.rest in
    let rest = left_of c.take_run-count.result.1 in
    let step : here ≡ run ∷ rest = ap left_of c.in-Some.is ∙ c.take_run-count.ensures.first in
    let long : size_left (option_map (λ r. r.now) c.loop-rest.rest) ≡ length c.in-Some.text.now + 1 = ap (λ (o : Option (Bor (List ℕ))). size_left (option_map (λ r. r.now) o)) c.in-Some.is in
    let counted = still_counted (length c.in-Some.text.now) count c.take_run-count.result.1 c.take_run-count.ensures.shorter in
    let left : Left c.if-not-is_blank_alone.lines.items (first + count) rest text =
    elim c.if-not-is_blank_alone.branch [
      | then-not-is_blank_alone+in_ok-check_line+in_ok-push w ↦
          subst (λ lines. Left lines (first + count) rest text) (sym (ap (λ lines. lines.items) w.lines-is ∙ w.in_ok-push.ensures.items))
          (one_kept items line text first count run here rest c.loop-rest.invariant.left step c.in_ok-line.ensures.exact c.in_ok-line.ensures.lends c.take_run-count.ensures.count
          (ap is_blank_alone (sym c.deref.ensures.value) ∙ sym w.if-not-is_blank_alone.ensures)
          (ap (λ before. line_fault before (line_view line)) (size ∙ sym w.len.ensures) ∙ tested_well (line_fault w.len.result (line_view line)) _ w.in_ok-check_line.ensures.exact))
      | else-not-is_blank_alone w ↦
          subst (λ lines. Left lines (first + count) rest text) (sym (ap (λ lines. lines.items) w.lines-is))
          (one_dropped items line text first count run here rest c.loop-rest.invariant.left step c.in_ok-line.ensures.exact c.take_run-count.ensures.count
          (ap is_blank_alone (sym c.deref.ensures.value) ∙ sym w.if-not-is_blank_alone.ensures))
    ] in
    record { left = left; counted = omega (arith, counted, long, c.loop-rest.invariant.counted) }

pub returns-in_err-check_line-clause-exact : goal.returns-in_err-check_line-clause-exact
returns-in_err-check_line-clause-exact c =
    let text = c.args.text.now in
    let items = c.loop-rest.lines.items in
    let size : length items ≡ vec_len c.loop-rest.lines = omega arith in
    let line = c.in_ok-line.line in
    let first = c.loop-rest.first in
    let count = c.take_run-count.result.2 in
    let run = pieces c.take_run-count.result.0.now in
    let here = left_of c.loop-rest.rest in
    let rest = left_of c.take_run-count.result.1 in
    let step : here ≡ run ∷ rest = ap left_of c.in-Some.is ∙ c.take_run-count.ensures.first in
    let p = err_from_is_err_and c.from_residual-in_err-check_line.result c.from_residual-in_err-check_line.ensures.1 in
    rw (p.1, p.2) (inr (one_faulty items line text first count run here rest _ c.loop-rest.invariant.left step c.in_ok-line.ensures.exact c.take_run-count.ensures.count
    (ap is_blank_alone (sym c.deref.ensures.value) ∙ sym (c.if-not-is_blank_alone.ensures))
    (ap (λ before. line_fault before (line_view line)) (size ∙ sym c.len.ensures) ∙ tested_ill (line_fault c.len.result (line_view line)) _ c.in_err-check_line.ensures.exact)))

pub returns-clause-exact : goal.returns-clause-exact
returns-clause-exact c = all_read c.loop-rest.lines.items c.args.text.now c.loop-rest.first (left_of c.loop-rest.rest) c.loop-rest.invariant.left (ap left_of c.in_default.is)

pub returns-clause-lends : goal.returns-clause-lends
returns-clause-lends c = all_lent c.loop-rest.lines.items c.args.text.now c.loop-rest.first (left_of c.loop-rest.rest) c.loop-rest.invariant.left (ap left_of c.in_default.is)
