use Rattle.std.proofs.Common.{◌≡◌, ◌∙◌, ◌<◌, ◌++◌, ◌||◌, length, get_or, inr, ap, sym, arith}
use Rattle.std.specs.String.{string_bytes}
use Rattle.std.proofs.lemmas.Bool.{eqb-true}
use Rattle.std.proofs.lemmas.List.{nil_from_length}
use mathlib.Core.Bool.{or-false}
use Rattle.mk_lines.specs.Names.{has_name}
use Rattle.mk_infer.specs.Table.{texts_at}
use Rattle.mk_infer.proofs.Sources.{back_added, not_behind, one_back}
use Rattle.mk_infer.proofs.backs.add_backs.Goals as goal
use Rattle.mk_infer.proofs.backs.add_backs.Goals.{then-not-is_empty+in_ok-add_back, else-not-is_empty}

pub loop-name-preserved : goal.loop-name-preserved
loop-name-preserved c = λ front back some is.
    let names = c.args.names.now in
    let i = c.loop-name.name-index in
    let lt : i < length names = omega arith in
    let name = c.deref.result.now in
    let whole = front ++ back in
    let named : name ≡ string_bytes (get_or names i c.name-item.result) = c.deref.ensures ∙ ap string_bytes c.name-item.is in
    let had = has_name (texts_at c.args.backs.now front) back in
    let before = has_name (texts_at c.loop-name.backs front) back in
    let so_far = c.loop-name.invariant front back some is in
    elim c.if-not-is_empty.branch [
      | then-not-is_empty+in_ok-add_back w ↦
          let one = one_back name c.cut.result.0 c.cut.result.1 front back _ _ c.cut.ensures.whole c.cut.ensures.parts (inr (some, is)) (w.in_ok-add_back.ensures front) in
          ap (λ t. has_name (texts_at t front) back) w.backs-is ∙ back_added string_bytes names i c.name-item.result name whole had before (has_name (texts_at w.add_back.new.backs front) back) named one so_far lt
      | else-not-is_empty w ↦
          let none : length c.cut.result.1.now ≡ 0 = eqb-true (length c.cut.result.1.now) 0 (sym c.is_empty.ensures ∙ w.if-not-is_empty.false) in
          let same : before ≡ (before || _) = sym (ap (λ b. before || b) (not_behind name c.cut.result.0.now c.cut.result.1.now front back c.cut.ensures.parts (nil_from_length c.cut.result.1.now none) some is) ∙ or-false before) in
          ap (λ t. has_name (texts_at t front) back) w.backs-is ∙ back_added string_bytes names i c.name-item.result name whole had before before named same so_far lt
    ]
