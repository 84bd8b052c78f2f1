use Rattle.std.proofs.Common.{◌<◌, ◌≤◌, List, length, map, arith, ap, ◌∙◌, string_bytes, String, Global}
use Rattle.std.proofs.lemmas.List.{take_all}
use Rattle.mk_lines.specs.Names.{place_from}
use Rattle.mk_lines.specs.Places.{place_in}
use Rattle.mk_lines.proofs.Places.{next_place, none_in}
use Rattle.mk_lines.proofs.name_table.places_of.Goals as goal

pub loop-i-init : goal.loop-i-init
loop-i-init c = λ q. ap (λ places. place_in places q) c.in_ok-places.ensures ∙ none_in q

pub loop-i-preserved : goal.loop-i-preserved
loop-i-preserved c = λ q.
    let lt : c.loop-i.i < length c.args.names.now = omega arith in
    next_place _ _ c.args.names.now c.loop-i.i c.index-names-i.result c.as_str.result.now q (c.as_str.ensures.value ∙ ap (λ (s : String Global). string_bytes s) c.index-names-i.is) (c.in_ok-note.ensures q) (c.loop-i.invariant q) lt

pub returns : goal.returns
returns c = λ q.
    let le : length c.args.names.now ≤ c.loop-i.i = omega arith in
    c.loop-i.invariant q ∙ ap (λ (names : List (String Global)). place_from 0 (map string_bytes names) q) (take_all c.loop-i.i c.args.names.now le)
