use Rattle.std.proofs.Common.{◌≡◌, ◌<◌, ◌≤◌, ◌++◌, ◌∷◌, [], length, sym, ap, ◌∙◌, arith, append_assoc}
use Rattle.std.specs.List.{prefix_len}
use Rattle.std.proofs.lemmas.List.{length-drop}
use Rattle.mk_lines.specs.Bytes.{is_blank, trimmed}
use Rattle.mk_lines.specs.Lines.{without_last_byte, plain_of}
use Rattle.mk_lines.proofs.Pieces.{pieces, plain_step, plain_end, one_left, next_left, some_shorter}
use Rattle.mk_lines.proofs.joins.join_plain.Goals as goal

pub loop-after-preserved : goal.loop-after-preserved
loop-after-preserved c =
    let piece = c.cut.result.0.now in
    let after = c.in-Some.after.now in
    let left : plain_of (pieces c.loop-after.rest.now) ≡ without_last_byte piece ++ 32 ∷ plain_of (pieces (trimmed after)) =
    ap plain_of (next_left piece c.cut.result.1 c.in-Some.after (pieces c.loop-after.rest.now) c.cut.ensures.parts c.in-Some.is) ∙ plain_step piece after in
    rw (c.trimmed-rest.ensures, c.in_ok-push.ensures.items, c.in_ok-extend_from_slice-2.ensures.items, c.without_last_byte.ensures)
    (append_assoc (c.loop-after.text.items ++ without_last_byte piece) (32 ∷ [])
    (plain_of (pieces (trimmed after))) ∙ (append_assoc c.loop-after.text.items (without_last_byte piece)
    (32 ∷ plain_of (pieces (trimmed after))) ∙ (ap (λ rest. c.loop-after.text.items ++ rest) (sym left)
    ∙ c.loop-after.invariant)))

pub loop-after-smaller : goal.loop-after-smaller
loop-after-smaller c =
    let le : length c.trimmed-rest.result.now ≤ length c.in-Some.after.now = rw (c.trimmed-rest.ensures) (omega (arith, length-drop (prefix_len is_blank c.in-Some.after.now) c.in-Some.after.now)) in
    let lt = some_shorter (length c.loop-after.rest.now) c.cut.result.1 c.in-Some.after c.cut.ensures.shorter c.in-Some.is in
    let smaller : length c.trimmed-rest.result.now < length c.loop-after.rest.now = omega (arith, le, lt) in
    smaller

pub returns-in_default : goal.returns-in_default
returns-in_default c =
    let piece = c.cut.result.0.now in
    let left : plain_of (pieces c.loop-after.rest.now) ≡ piece = ap plain_of (one_left piece c.cut.result.1 (pieces c.loop-after.rest.now) c.cut.ensures.parts c.in_default.is) ∙ plain_end piece in
    c.in_ok-extend_from_slice.ensures.items ∙ (ap (λ rest. c.loop-after.text.items ++ rest) (sym left) ∙ c.loop-after.invariant)
