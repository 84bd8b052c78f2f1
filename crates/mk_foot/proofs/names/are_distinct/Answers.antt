use Rattle.std.proofs.Common.{◌≡◌, ◌<◌, ◌+◌, ◌∙◌, false, List, [], ◌∷◌, ◌++◌, ℕ, ap, sym, refl, map, take, length, get_or, arith}
use Rattle.std.specs.String.{string_bytes}
use Rattle.std.proofs.lemmas.List.{length-map, take_more}
use Rattle.mk_lines.proofs.Once.{once-push}
use Rattle.mk_foot.specs.Names.{has_name, with_name, once}
use Rattle.mk_foot.proofs.Apart.{once_short}
use Rattle.mk_foot.proofs.names.are_distinct.Goals as goal

pub returns-then-names-lt2 : goal.returns-then-names-lt2
returns-then-names-lt2 c = λ apart. once_short (map string_bytes c.args.names.now) (omega (arith, length-map c.args.names.now string_bytes))

pub loop-place-preserved : goal.loop-place-preserved
loop-place-preserved c =
    let all = map string_bytes c.args.names.now in
    let i = c.loop-place.place in
    let x = get_or all i [] in
    let low : i < length all = omega (arith, length-map c.args.names.now string_bytes) in
    let after : take (i + 1) all ≡ take i all ++ x ∷ [] = take_more all i [] low in
    let lacks : has_name (take i all) x ≡ false = sym c.in_ok-is_repeated.ensures.repeated ∙ c.if-branch.false in
    let more : with_name (take i all) x ≡ take i all ++ x ∷ [] = rw lacks refl in
    record {
      apart = ap once after ∙ (once-push (take i all) x ∙ (ap (λ (set : List (List ℕ)). with_name set x) c.loop-place.invariant.apart ∙ (more ∙ sym after)));
      seen = c.in_ok-is_repeated.ensures.seen;
    }
