use Rattle.std.proofs.Common.{◌≡◌, ◌<◌, ◌≤◌, ◌++◌, ◌∷◌, [], length, sym, ap, ◌∙◌, arith, append_assoc}
use Rattle.mk_lines.specs.Lines.{without_tab, command_of}
use Rattle.mk_lines.proofs.Pieces.{pieces, command_step, command_end, one_left, next_left, some_shorter, without_tab_shorter}
use Rattle.mk_lines.proofs.joins.join_command.Goals as goal

pub loop-after-preserved : goal.loop-after-preserved
loop-after-preserved c =
    let piece = c.cut.result.0.now in
    let after = c.in-Some.after.now in
    let left : command_of (pieces c.loop-after.rest.now) ≡ piece ++ 10 ∷ command_of (pieces (without_tab after)) =
    ap command_of (next_left piece c.cut.result.1 c.in-Some.after (pieces c.loop-after.rest.now) c.cut.ensures.parts c.in-Some.is) ∙ command_step piece after in
    rw (c.without_tab-rest.ensures, c.in_ok-push.ensures.items, c.in_ok-extend_from_slice-2.ensures.items)
    (append_assoc (c.loop-after.text.items ++ piece) (10 ∷ []) (command_of (pieces (without_tab after))) ∙ (append_assoc c.loop-after.text.items piece (10 ∷ command_of (pieces (without_tab after))) ∙ (ap (λ rest. c.loop-after.text.items ++ rest) (sym left) ∙ c.loop-after.invariant)))

pub loop-after-smaller : goal.loop-after-smaller
loop-after-smaller c =
    let le : length c.without_tab-rest.result.now ≤ length c.in-Some.after.now = rw (c.without_tab-rest.ensures) (without_tab_shorter c.in-Some.after.now) in
    let lt = some_shorter (length c.loop-after.rest.now) c.cut.result.1 c.in-Some.after c.cut.ensures.shorter c.in-Some.is in
    let smaller : length c.without_tab-rest.result.now < length c.loop-after.rest.now = omega (arith, le, lt) in
    smaller

pub returns-in_default : goal.returns-in_default
returns-in_default c =
    let piece = c.cut.result.0.now in
    let left : command_of (pieces c.loop-after.rest.now) ≡ piece = ap command_of (one_left piece c.cut.result.1 (pieces c.loop-after.rest.now) c.cut.ensures.parts c.in_default.is) ∙ command_end piece in
    c.in_ok-extend_from_slice.ensures.items ∙ (ap (λ rest. c.loop-after.text.items ++ rest) (sym left) ∙ c.loop-after.invariant)
