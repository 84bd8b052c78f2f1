use Rattle.std.proofs.Common.{◌<◌, ◌≤◌, ◌≡◌, ◌&&◌, eqb, true, false, length, get_or, sym, ap, refl, ◌∙◌, arith}
use Rattle.mk_lines.specs.References.{is_one_of, first_outside, first_from}
use Rattle.mk_lines.specs.Views.{reference_state_view}
use Rattle.mk_lines.proofs.Found.{moved, moved_zero, found_here, found_more, found_end}
use Rattle.mk_lines.proofs.NoReference.{found_without_references}
use Rattle.mk_lines.proofs.references.first_outside.Goals as goal
use Rattle.mk_lines.proofs.references.first_outside.Goals.{else-is_outside-via-then-is_outside+else-contains, else-is_outside-via-else-is_outside}

pub returns-then-not-has_byte-clause-exact : goal.returns-then-not-has_byte-clause-exact
returns-then-not-has_byte-clause-exact c = found_without_references c.args.wanted.now c.args.text.now c.find_byteset.result (sym c.if-not-has_byte.ensures) c.find_byteset.ensures

pub loop-at-init : goal.loop-at-init
loop-at-init c =
    ap (λ ends. moved 0 (first_from (is_one_of c.args.wanted.now) (record { ends = ends; dollar = false }) c.args.text.now)) (rw c.new.ensures.items refl) ∙ moved_zero (first_outside (is_one_of c.args.wanted.now) c.args.text.now)

pub loop-at-preserved : goal.loop-at-preserved
loop-at-preserved c =
    let lt : c.loop-at.at < length c.args.text.now = omega arith in
    let passes : (eqb (length (reference_state_view c.loop-at.place).ends) 0 && is_one_of c.args.wanted.now (get_or c.args.text.now c.loop-at.at 0)) ≡ false =
    elim c.else-is_outside.branch [ else-is_outside-via-then-is_outside+else-contains w ↦ rw (sym w.if-is_outside.ensures) (sym w.if-contains.ensures.value) | else-is_outside-via-else-is_outside w ↦ rw (sym w.if-is_outside.ensures) refl ] in
    rw (c.in_ok-pass.ensures) (sym (found_more (is_one_of c.args.wanted.now) (reference_state_view c.loop-at.place) c.args.text.now c.loop-at.at lt passes) ∙ c.loop-at.invariant)

pub returns-then-contains-clause-exact : goal.returns-then-contains-clause-exact
returns-then-contains-clause-exact c =
    let lt : c.loop-at.at < length c.args.text.now = omega arith in
    let found : (eqb (length (reference_state_view c.loop-at.place).ends) 0 && is_one_of c.args.wanted.now (get_or c.args.text.now c.loop-at.at 0)) ≡ true = rw (sym c.if-is_outside.ensures) (sym c.if-contains.ensures.value) in
    sym (found_here (is_one_of c.args.wanted.now) (reference_state_view c.loop-at.place) c.args.text.now c.loop-at.at lt found) ∙ c.loop-at.invariant

pub returns-clause-exact : goal.returns-clause-exact
returns-clause-exact c =
    let le : length c.args.text.now ≤ c.loop-at.at = omega arith in
    sym (found_end (is_one_of c.args.wanted.now) (reference_state_view c.loop-at.place) c.args.text.now c.loop-at.at le) ∙ c.loop-at.invariant
