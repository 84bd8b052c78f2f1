use Rattle.std.proofs.Common.{◌≡◌, ℕ, ◌+◌, ◌-◌, ◌<◌, ◌≤◌, List, [], ◌++◌, map, length, Option, None, Some, inr, refl, sym, ap, subst, ◌∙◌, arith, rules, length-append}
use Rattle.std.specs.Prelude.{unwrap_or}
use Rattle.std.specs.Borrow.{Bor}
use Rattle.std.specs.List.{join_with_byte}
use Rattle.std.specs.Option.{option_map}
use Rattle.mk_lines.specs.Words.{words}
use Rattle.mk_macros.specs.Substitution.{replaced, part_text, substituted}
use Rattle.mk_macros.proofs.WordByWord.{Goes, goes_on, gone, not_longer, made_of}
use Rattle.mk_macros.proofs.substitution.push_substituted.Goals as goal

-- the words behind a blank
abbrev behind_words : Option (Bor (List ℕ)) → List (List ℕ)
behind_words behind = unwrap_or (option_map (λ (b : Bor (List ℕ)). words b.now) behind) []

pub parts-init : goal.parts-init
parts-init c =
    record {
      starts = search rules;
      above = search rules;
      goes = refl;
    }

pub overflow_sub-len : goal.overflow_sub-len
overflow_sub-len c =
    let more = ap length c.in_ok-is_first.ensures.1 ∙ length-append c.parts.into.items (part_text c.parts.is_first (replaced c.new-old_cut.result c.new-new_cut.result) c.cut_at_blank.result.0.now) in
    omega (arith, more, c.len.ensures, c.parts.invariant.above)

pub returns-then-len-start-clause-err : goal.returns-then-len-start-clause-err
returns-then-len-start-clause-err c =
    let f = replaced c.new-old_cut.result c.new-new_cut.result in
    let made = join_with_byte 32 (map f (words c.args.value.now)) in
    let all = c.args.into.now.items ++ made in
    let on : Goes f all c.push_part.new.into.items c.in_ok-is_first.is_first (behind_words c.cut_at_blank.result.1) =
    goes_on f all c.parts.into.items c.push_part.new.into.items c.parts.is_first c.in_ok-is_first.is_first c.cut_at_blank.result.0.now c.parts.rest.now _ c.parts.invariant.goes c.cut_at_blank.ensures.words c.in_ok-is_first.ensures.0 c.in_ok-is_first.ensures.1 in
    let same = ap length (made_of c.args.old.now c.new-old_cut.result c.args.new.now c.new-new_cut.result c.args.value.now c.new-old_cut.ensures c.new-new_cut.ensures) in
    let sizes = length-append c.args.into.now.items made in
    let longer = not_longer f all c.push_part.new.into.items c.in_ok-is_first.is_first _ on in
    let long : c.args.room < length c.push_part.new.into.items - c.len-start.result = omega (arith, c.len.ensures, c.push_part.new.into.ok.0) in
    inr (refl, omega (arith, same, sizes, longer, long, c.parts.invariant.starts))

pub returns-in_default-clause-ok : goal.returns-in_default-clause-ok
returns-in_default-clause-ok c =
    let f = replaced c.new-old_cut.result c.new-new_cut.result in
    let all = c.args.into.now.items ++ join_with_byte 32 (map f (words c.args.value.now)) in
    let on : Goes f all c.push_part.new.into.items c.in_ok-is_first.is_first (behind_words c.cut_at_blank.result.1) =
    goes_on f all c.parts.into.items c.push_part.new.into.items c.parts.is_first c.in_ok-is_first.is_first c.cut_at_blank.result.0.now c.parts.rest.now _ c.parts.invariant.goes c.cut_at_blank.ensures.words c.in_ok-is_first.ensures.0 c.in_ok-is_first.ensures.1 in
    let end : Goes f all c.push_part.new.into.items c.in_ok-is_first.is_first [] = subst (λ (o : Option (Bor (List ℕ))). Goes f all c.push_part.new.into.items c.in_ok-is_first.is_first (behind_words o)) c.in_default.is on in
    sym (gone f all c.push_part.new.into.items c.in_ok-is_first.is_first end)
    ∙ ap (λ (s : List ℕ). c.args.into.now.items ++ s) (made_of c.args.old.now c.new-old_cut.result c.args.new.now c.new-new_cut.result c.args.value.now c.new-old_cut.ensures c.new-new_cut.ensures)

pub returns-in_default-clause-fits : goal.returns-in_default-clause-fits
returns-in_default-clause-fits c =
    let f = replaced c.new-old_cut.result c.new-new_cut.result in
    let made = join_with_byte 32 (map f (words c.args.value.now)) in
    let all = c.args.into.now.items ++ made in
    let on : Goes f all c.push_part.new.into.items c.in_ok-is_first.is_first (behind_words c.cut_at_blank.result.1) =
    goes_on f all c.parts.into.items c.push_part.new.into.items c.parts.is_first c.in_ok-is_first.is_first c.cut_at_blank.result.0.now c.parts.rest.now _ c.parts.invariant.goes c.cut_at_blank.ensures.words c.in_ok-is_first.ensures.0 c.in_ok-is_first.ensures.1 in
    let end : Goes f all c.push_part.new.into.items c.in_ok-is_first.is_first [] = subst (λ (o : Option (Bor (List ℕ))). Goes f all c.push_part.new.into.items c.in_ok-is_first.is_first (behind_words o)) c.in_default.is on in
    let whole = ap length (gone f all c.push_part.new.into.items c.in_ok-is_first.is_first end) in
    let same = ap length (made_of c.args.old.now c.new-old_cut.result c.args.new.now c.new-new_cut.result c.args.value.now c.new-old_cut.ensures c.new-new_cut.ensures) in
    let sizes = length-append c.args.into.now.items made in
    let short : length c.push_part.new.into.items - c.len-start.result ≤ c.args.room = omega (arith, c.len.ensures, c.push_part.new.into.ok.0) in
    omega (arith, whole, same, sizes, short, c.parts.invariant.starts)

pub parts-preserved : goal.parts-preserved
parts-preserved c =
    let f = replaced c.new-old_cut.result c.new-new_cut.result in
    let all = c.args.into.now.items ++ join_with_byte 32 (map f (words c.args.value.now)) in
    let on : Goes f all c.push_part.new.into.items c.in_ok-is_first.is_first (behind_words c.cut_at_blank.result.1) =
    goes_on f all c.parts.into.items c.push_part.new.into.items c.parts.is_first c.in_ok-is_first.is_first c.cut_at_blank.result.0.now c.parts.rest.now _ c.parts.invariant.goes c.cut_at_blank.ensures.words c.in_ok-is_first.ensures.0 c.in_ok-is_first.ensures.1 in
    let more = ap length c.in_ok-is_first.ensures.1 ∙ length-append c.parts.into.items (part_text c.parts.is_first f c.cut_at_blank.result.0.now) in
    record {
      starts = c.parts.invariant.starts;
      above = omega (arith, more, c.parts.invariant.above);
      goes = subst (λ (o : Option (Bor (List ℕ))). Goes f all c.push_part.new.into.items c.in_ok-is_first.is_first (behind_words o)) c.in-Some.is on;
    }
