use Rattle.std.proofs.Common.{◌≡◌, ◌∙◌, ◌<◌, ◌+◌, ◌∷◌, ◌++◌, [], ℕ, List, ap, sym, length, map, take, arith}
use Rattle.std.specs.String.{string_bytes}
use Rattle.std.proofs.lemmas.List.{length-map, take-map, take_more}
use Rattle.mk_lemmas.proofs.Texts.{string_bytes-at}
use Rattle.mk_lines.proofs.Once.{once-push}
use Rattle.mk_lines.specs.Names.{has_name, once}
use Rattle.mk_lines.specs.Names.{with_name}
use Rattle.mk_foot.proofs.repeats.is_repeated.Goals as goal

pub returns-then-names-le-FEW-clause-repeated : goal.returns-then-names-le-FEW-clause-repeated
returns-then-names-le-FEW-clause-repeated c =
    let names = c.args.names.now in
    let i = c.args.place in
    let here = c.as_str-name.ensures.value ∙ string_bytes-at names i c.index-names-place.result c.requires.place c.index-names-place.is in
    c.contains_by_scan.ensures ∙ (ap (λ (l : List (List ℕ)). has_name l c.as_str-name.result.now) (sym (take-map string_bytes i names)) ∙ ap (λ (name : List ℕ). has_name (take i (map string_bytes names)) name) here)

pub returns-clause-seen : goal.returns-clause-seen
returns-clause-seen c = λ many.
    let names = c.args.names.now in
    let all = map string_bytes names in
    let i = c.args.place in
    let low : i < length all = omega (arith, c.requires.place, length-map names string_bytes) in
    let here = c.as_str-name.ensures.value ∙ string_bytes-at names i c.index-names-place.result c.requires.place c.index-names-place.is in
    let after : take (i + 1) all ≡ take i all ++ c.as_str-name.result.now ∷ [] = take_more all i [] low ∙ ap (λ (name : List ℕ). take i all ++ name ∷ []) (sym here) in
    c.in_ok-insert.ensures.ok ∙ (ap (λ (set : List (List ℕ)). with_name set c.as_str-name.result.now) (c.requires.seen many) ∙ (sym (once-push (take i all) c.as_str-name.result.now) ∙ ap once (sym after)))
