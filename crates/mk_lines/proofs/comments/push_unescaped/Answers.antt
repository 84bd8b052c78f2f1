use Rattle.std.proofs.Common.{◌≡◌, ◌<◌, ◌&&◌, ◌++◌, true, false, eqb, length, get_or, sym, ap, refl, ◌∙◌, arith, append-nil}
use Rattle.std.proofs.lemmas.Bool.{ne_eqb}
use Rattle.mk_lines.specs.Comments.{begins_with_hash}
use Rattle.mk_lines.proofs.Hashes.{behind_first, unescaped_drops, unescaped_more, unescaped_nil}
use Rattle.mk_lines.proofs.comments.push_unescaped.Goals as goal
use Rattle.mk_lines.proofs.comments.push_unescaped.Goals.{then-byte-ne92-via-then-byte-ne92, then-byte-ne92-via-else-byte-ne92+then-not-begins_with_hash}

pub loop-rest-preserved-in_ok-push : goal.loop-rest-preserved-in_ok-push
loop-rest-preserved-in_ok-push c =
    let lt : 0 < length c.loop-rest.rest.now = omega arith in
    let kept : (eqb (get_or c.loop-rest.rest.now 0 0) 92 && begins_with_hash (behind_first c.loop-rest.rest.now)) ≡ false =
    elim c.then-byte-ne92.branch [ then-byte-ne92-via-then-byte-ne92 w ↦ rw (ne_eqb (get_or c.loop-rest.rest.now 0 0) 92 w.if-byte-ne92.true) refl | then-byte-ne92-via-else-byte-ne92+then-not-begins_with_hash w ↦ rw (w.if-byte-ne92.false) (sym w.if-not-begins_with_hash.ensures) ] in
    rw (c.in_ok-push.ensures.items) (unescaped_more c.loop-rest.into.items c.loop-rest.rest.now lt kept ∙ c.loop-rest.invariant)

pub loop-rest-preserved : goal.loop-rest-preserved
loop-rest-preserved c =
    let lt : 0 < length c.loop-rest.rest.now = omega arith in
    let dropped : (eqb (get_or c.loop-rest.rest.now 0 0) 92 && begins_with_hash (behind_first c.loop-rest.rest.now)) ≡ true = rw (c.if-byte-ne92.false) (sym c.if-not-begins_with_hash.ensures) in
    sym (ap (λ added. c.loop-rest.into.items ++ added) (unescaped_drops c.loop-rest.rest.now lt dropped)) ∙ c.loop-rest.invariant

pub returns : goal.returns
returns c =
    let lt : length c.loop-rest.rest.now < 1 = omega arith in
    sym (append-nil c.loop-rest.into.items) ∙ (sym (ap (λ added. c.loop-rest.into.items ++ added) (unescaped_nil c.loop-rest.rest.now lt)) ∙ c.loop-rest.invariant)
