use Rattle.std.proofs.Common.{◌≡◌, ◌≤◌, ◌++◌, false, length, take, drop, unwrap_or, sym, ap, ◌∙◌, arith}
use Rattle.std.proofs.lemmas.List.{length-take}
use Rattle.mk_lines.specs.Comments.{searched_part, unchanged_part, unescaped, has_escaped_hash}
use Rattle.mk_lines.proofs.NoComment.{nothing_to_uncomment}
use Rattle.mk_lines.proofs.Uncommenting.{unwrapped_within, with_comment, with_no_comment, nothing_changes, unescaped_same}
use Rattle.mk_lines.proofs.comments.uncomment.Goals as goal
use Rattle.mk_lines.proofs.comments.uncomment.Goals.{then-is_some, else-is_some, then-is_none+in_ok-extend_from_slice, else-is_none}

pub slice_bounds-kept-end : goal.slice_bounds-kept-end
slice_bounds-kept-end c =
    let le : c.unwrap_or.result ≤ length c.split_at.result.0.now = rw (c.unwrap_or.ensures) (unwrapped_within (length c.split_at.result.0.now) c.comment_at-comment.result c.comment_at-comment.ensures.within) in
    omega (arith, length-take c.unwrap_or.result c.split_at.result.0.now)

pub returns-then-not-has_byte-clause-exact : goal.returns-then-not-has_byte-clause-exact
returns-then-not-has_byte-clause-exact c = sym (nothing_to_uncomment c.args.text.now (sym c.if-not-has_byte.ensures))

pub returns-then-not-has_escaped_hash-clause-exact : goal.returns-then-not-has_escaped_hash-clause-exact
returns-then-not-has_escaped_hash-clause-exact c =
    let text = c.args.text.now in
    let part = c.split_at.result.0.now in
    let read : part ≡ searched_part text = c.split_at.ensures.front ∙ ap (λ n. take n text) c.in_ok-unchanged_from.ensures.exact in
    let none : has_escaped_hash (take c.unwrap_or.result part) ≡ false = sym (c.if-not-has_escaped_hash.ensures) in
    elim c.if-is_some.branch [
      | then-is_some w ↦
          ap (λ r. r.now) w.result-is ∙ (sym (unescaped_same (take c.unwrap_or.result part) none) ∙ (ap (λ n. unescaped (take n part)) c.unwrap_or.ensures ∙ with_comment text part c.comment_at-comment.result read c.comment_at-comment.ensures.exact (sym w.if-is_some.ensures)))
      | else-is_some w ↦
          ap (λ r. r.now) w.result-is ∙ nothing_changes text part c.comment_at-comment.result read c.comment_at-comment.ensures.exact (sym w.if-is_some.ensures) (ap (λ n. has_escaped_hash (take n part)) (sym c.unwrap_or.ensures) ∙ none)
    ]

pub returns-clause-exact : goal.returns-clause-exact
returns-clause-exact c =
    let text = c.args.text.now in
    let part = c.split_at.result.0.now in
    let read : part ≡ searched_part text = c.split_at.ensures.front ∙ ap (λ n. take n text) c.in_ok-unchanged_from.ensures.exact in
    let spared : c.split_at.result.1.now ≡ unchanged_part text = c.split_at.ensures.back ∙ ap (λ n. drop n text) c.in_ok-unchanged_from.ensures.exact in
    let pushed : c.push_unescaped.new.into.items ≡ unescaped (take c.unwrap_or.result part) = c.in_ok-push_unescaped.ensures ∙ ap (λ xs. xs ++ unescaped (take c.unwrap_or.result part)) c.new-line.ensures.items in
    elim c.if-is_none.branch [
      | then-is_none+in_ok-extend_from_slice w ↦
          ap (λ line. line.items) w.line-is ∙ (w.in_ok-extend_from_slice.ensures.items
          ∙ (ap (λ front. front ++ c.split_at.result.1.now)
          (pushed ∙ ap (λ n. unescaped (take n part)) c.unwrap_or.ensures)
          ∙ (ap (λ rest. unescaped (take (unwrap_or c.comment_at-comment.result (length part)) part)
          ++ rest) spared ∙ with_no_comment text part c.comment_at-comment.result read
          c.comment_at-comment.ensures.exact w.if-is_none.ensures)))
      | else-is_none w ↦
          ap (λ line. line.items) w.line-is ∙ (pushed ∙ (ap (λ n. unescaped (take n part)) c.unwrap_or.ensures ∙ with_comment text part c.comment_at-comment.result read c.comment_at-comment.ensures.exact w.if-is_none.ensures))
    ]
