use Rattle.std.proofs.Common.{◌<◌, ◌≤◌, ap, length, map, drop, arith}
use Rattle.mk_lemmas.proofs.Members.{Has-get_or}
use Rattle.mk_find.specs.Candidates.{two_writers}
use Rattle.mk_find.proofs.Adding.{drop_past, leads_map, leads_done}
use Rattle.mk_find.proofs.pairs.note_pairs_with.Goals as goal

pub loop-other-init : goal.loop-other-init
loop-other-init c = λ last h. h

pub note_pair-requires-clause-written : goal.note_pair-requires-clause-written
note_pair-requires-clause-written c =
    let lt : c.loop-other.other-index < length c.args.others.now = omega arith in
    c.requires.written _ (Has-get_or c.args.others.now c.loop-other.other-index 0 lt)

pub loop-other-preserved : goal.loop-other-preserved
loop-other-preserved c =
    let lt : c.loop-other.other-index < length c.args.others.now = omega arith in
    leads_map c.args.subject.now (λ t. two_writers c.args.row.now.number t c.args.file.now.file) c.args.others.now c.loop-other.other-index 0 _ c.loop-other.found c.note_pair.new.found c.args.found.now lt c.loop-other.invariant c.in_ok-note_pair.ensures

pub returns : goal.returns
returns c =
    let past : length c.args.others.now ≤ c.loop-other.other-index = omega arith in
    leads_done c.args.subject.now (map (λ t. two_writers c.args.row.now.number t c.args.file.now.file)
    (drop c.loop-other.other-index c.args.others.now)) _ c.loop-other.found c.args.found.now
    (ap (map (λ t. two_writers c.args.row.now.number t c.args.file.now.file))
    (drop_past c.args.others.now c.loop-other.other-index past)) c.loop-other.invariant
