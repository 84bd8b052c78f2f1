use Rattle.std.proofs.Common.{◌<◌, ◌≤◌, List, length, map, arith, ap, ◌∙◌}
use Rattle.std.proofs.lemmas.List.{take_all}
use Rattle.mk_lines.proofs.Places.{none_in}
use Rattle.mk_lines.specs.Places.{place_in}
use Rattle.mk_foot.specs.Book.{Record}
use Rattle.mk_foot.specs.Names.{place_from}
use Rattle.mk_foot.proofs.TargetPlaces.{next_place}
use Rattle.mk_foot.proofs.setting.targets_of.Goals as goal

pub loop-i-init : goal.loop-i-init
loop-i-init c = λ name. ap (λ places. place_in places name) c.in_ok-targets.ensures ∙ none_in name

pub loop-i-preserved : goal.loop-i-preserved
loop-i-preserved c = λ name.
    let lt : c.loop-i.i < length c.args.records.now = omega arith in
    let is = c.as_str.ensures.value ∙ (ap (λ (r : Record). r.target) c.record.view_is ∙ ap (λ (r : Record). r.target) c.index-records-i.is) in
    next_place (λ (r : Record). r.target) _ _ c.args.records.now c.loop-i.i c.index-records-i.result c.as_str.result.now name is (c.in_ok-note.ensures name) (c.loop-i.invariant name) lt

pub returns : goal.returns
returns c = λ name.
    let le : length c.args.records.now ≤ c.loop-i.i = omega arith in
    c.loop-i.invariant name ∙ ap (λ (records : List Record). place_from 0 (map (λ (r : Record). r.target) records) name) (take_all c.loop-i.i c.args.records.now le)
