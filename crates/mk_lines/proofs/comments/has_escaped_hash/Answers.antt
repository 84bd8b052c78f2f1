use Rattle.std.proofs.Common.{◌≡◌, ◌<◌, ◌&&◌, false, eqb, length, get_or, sym, refl, ◌∙◌, arith}
use Rattle.std.proofs.lemmas.Bool.{ne_eqb}
use Rattle.mk_lines.specs.Comments.{begins_with_hash}
use Rattle.mk_lines.proofs.Hashes.{behind_first, escaped_hash_here, escaped_hash_more, escaped_hash_nil}
use Rattle.mk_lines.proofs.comments.has_escaped_hash.Goals as goal
use Rattle.mk_lines.proofs.comments.has_escaped_hash.Goals.{else-byte-eq92-via-then-byte-eq92+else-begins_with_hash, else-byte-eq92-via-else-byte-eq92}

pub returns-then-begins_with_hash : goal.returns-then-begins_with_hash
returns-then-begins_with_hash c =
    let lt : 0 < length c.loop-rest.rest.now = omega arith in
    sym (escaped_hash_here c.loop-rest.rest.now lt (rw (c.if-byte-eq92.true) (sym c.if-begins_with_hash.ensures))) ∙ c.loop-rest.invariant

pub loop-rest-preserved : goal.loop-rest-preserved
loop-rest-preserved c =
    let lt : 0 < length c.loop-rest.rest.now = omega arith in
    let passes : (eqb (get_or c.loop-rest.rest.now 0 0) 92 && begins_with_hash (behind_first c.loop-rest.rest.now)) ≡ false =
    elim c.else-byte-eq92.branch [ else-byte-eq92-via-then-byte-eq92+else-begins_with_hash w ↦ rw (w.if-byte-eq92.true) (sym w.if-begins_with_hash.ensures) | else-byte-eq92-via-else-byte-eq92 w ↦ rw (ne_eqb (get_or c.loop-rest.rest.now 0 0) 92 w.if-byte-eq92.false) refl ] in
    sym (escaped_hash_more c.loop-rest.rest.now lt passes) ∙ c.loop-rest.invariant

pub returns : goal.returns
returns c =
    let lt : length c.loop-rest.rest.now < 1 = omega arith in
    sym (escaped_hash_nil c.loop-rest.rest.now lt) ∙ c.loop-rest.invariant
