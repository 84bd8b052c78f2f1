use Rattle.std.proofs.Common.{◌≡◌, ◌<◌, ◌≤◌, ◌&&◌, false, not, eqb, length, get_or, sym, refl, ◌∙◌, arith}
use Rattle.std.proofs.lemmas.Bool.{ne_eqb}
use Rattle.mk_lines.proofs.Hashes.{comment_here, comment_more, comment_end}
use Rattle.mk_lines.proofs.comments.comment_at.Goals as goal
use Rattle.mk_lines.proofs.comments.comment_at.Goals.{else-byte-eq35-via-then-byte-eq35+else-not-behind_backslash, else-byte-eq35-via-else-byte-eq35}

pub returns-then-not-behind_backslash-clause-exact : goal.returns-then-not-behind_backslash-clause-exact
returns-then-not-behind_backslash-clause-exact c =
    let lt : c.loop-at.at < length c.args.text.now = omega arith in
    sym (comment_here c.loop-at.behind_backslash c.args.text.now c.loop-at.at lt (rw (c.if-byte-eq35.true, c.if-not-behind_backslash.true) refl)) ∙ c.loop-at.invariant

pub loop-at-preserved : goal.loop-at-preserved
loop-at-preserved c =
    let lt : c.loop-at.at < length c.args.text.now = omega arith in
    let passes : (eqb (get_or c.args.text.now c.loop-at.at 0) 35 && not c.loop-at.behind_backslash) ≡ false =
    elim c.else-byte-eq35.branch [ else-byte-eq35-via-then-byte-eq35+else-not-behind_backslash w ↦ rw (w.if-byte-eq35.true, w.if-not-behind_backslash.false) refl | else-byte-eq35-via-else-byte-eq35 w ↦ rw (ne_eqb (get_or c.args.text.now c.loop-at.at 0) 35 w.if-byte-eq35.false) refl ] in
    sym (comment_more c.loop-at.behind_backslash c.args.text.now c.loop-at.at lt passes) ∙ c.loop-at.invariant

pub returns-clause-exact : goal.returns-clause-exact
returns-clause-exact c =
    let le : length c.args.text.now ≤ c.loop-at.at = omega arith in
    sym (comment_end c.loop-at.behind_backslash c.args.text.now c.loop-at.at le) ∙ c.loop-at.invariant
