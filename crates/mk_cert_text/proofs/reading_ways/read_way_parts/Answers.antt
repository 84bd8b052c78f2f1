use Rattle.std.proofs.Common.{◌≡◌, None, Some, arith}
use Rattle.json.specs.Json.{read_key}
use Rattle.serde_json.specs.Data.{put}
use Rattle.mk_json.proofs.Turns.{refused_members}
use Rattle.mk_cert_text.proofs.reading_ways.read_way_parts.Goals as goal

pub returns-in_err-key : goal.returns-in_err-key
returns-in_err-key c =
    let l = c.members in
    refused_members _ _ _ _ _ c.from_residual.ensures.0 (c.members_are_read_in_order.ensures.has_no_key c.args.depth c.args.reader.now l.invariant.0 l.reader l.invariant.1 c.in_err-key.ensures.value)

pub members-preserved : goal.members-preserved
members-preserved c =
    let l = c.members in
    let key = c.in-Some.key.now in
    let named : read_key l.reader ≡ Some (Some key, c.next_key.new.self) = grind arith in
    let found = c.in_ok-read_way_part.ensures in (
      put key found.0 l.invariant.0,
      c.members_are_read_in_order.ensures.goes_on c.args.depth c.args.reader.now l.invariant.0 key found.0 l.reader c.next_key.new.self c.read_way_part.new.reader l.invariant.1 named found.1,
      found.2 l.invariant.0 l.invariant.2,
    )

pub returns-in_err-read_way_part : goal.returns-in_err-read_way_part
returns-in_err-read_way_part c =
    let l = c.members in
    let key = c.in-Some.key.now in
    let named : read_key l.reader ≡ Some (Some key, c.next_key.new.self) = grind arith in
    refused_members _ _ _ _ _ c.from_residual-in_err-read_way_part.ensures.0 (c.members_are_read_in_order.ensures.fails c.args.depth c.args.reader.now l.invariant.0 key l.reader c.next_key.new.self l.invariant.1 named c.in_err-read_way_part.ensures)

pub returns : goal.returns
returns c =
    let l = c.members in
    let closed : read_key l.reader ≡ Some (None, c.next_key.new.self) = grind arith in
    (l.invariant.0, c.members_are_read_in_order.ensures.ends c.args.depth c.args.reader.now l.invariant.0 l.reader c.next_key.new.self l.invariant.1 closed, l.invariant.2)
