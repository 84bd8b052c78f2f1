use Rattle.std.proofs.Common.{◌≡◌, ◌<◌, ◌∙◌, [], List, ℕ, ap, sym, map, length, get_or, arith}
use Rattle.std.specs.Prelude.{bytes_eq}
use Rattle.std.specs.String.{string_bytes}
use Rattle.std.proofs.lemmas.List.{get_or-map, length-map}
use Rattle.std.proofs.lemmas.List.Folds.{list_any_at}
use Rattle.mk_foot.proofs.repeats.contains_by_scan.Goals as goal

pub returns-then-eq : goal.returns-then-eq
returns-then-eq c =
    let names = c.args.names.now in
    let i = c.loop-other.other-index in
    let lt : i < length names = omega arith in
    let low : i < length (map string_bytes names) = omega (arith, length-map names string_bytes) in
    let is : get_or (map string_bytes names) i [] ≡ c.as_str.result.now = get_or-map string_bytes names i c.other-item.result [] lt ∙ (ap string_bytes (sym c.other-item.is) ∙ sym c.as_str.ensures.value) in
    sym (list_any_at (λ other. bytes_eq c.args.name.now other) (map string_bytes names) i [] low (ap (λ (other : List ℕ). bytes_eq c.args.name.now other) is ∙ sym c.if-eq.ensures))
