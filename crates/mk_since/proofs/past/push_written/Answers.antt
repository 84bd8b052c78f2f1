use Rattle.std.proofs.Common.{◌≡◌, ◌<◌, ◌∙◌, ◌++◌, ℕ, List, ap, length, map, take, arith}
use Rattle.std.specs.List.{flat_map}
use Rattle.std.specs.String.{string_bytes}
use Rattle.std.proofs.lemmas.List.{take_all}
use Rattle.mk_subject.specs.NodeRow.{NodeRow, row_writes}
use Rattle.mk_since.proofs.Naming.{all_written, written_more}
use Rattle.mk_since.proofs.past.push_written.Goals as goal

pub loop-entry-preserved : goal.loop-entry-preserved
loop-entry-preserved c =
    let entries = c.entries-entry-items.result.now in
    let i = c.loop-entry.entry-index in
    let lt : i < length entries = omega arith in
    written_more entries i c.entry-item.result (map string_bytes c.args.names.now.items) (map string_bytes c.loop-entry.names.items) (map string_bytes c.push_copies.new.copies.items) (map string_bytes c.writes.result.now) lt (c.writes.ensures ∙ ap (λ (e : NodeRow). row_writes e) c.entry-item.is) c.in_ok-push_copies.ensures c.loop-entry.invariant

pub returns : goal.returns
returns c =
    let x = c.args.subject.now in
    let entries = c.entries-entry-items.result.now in
    let all : take c.loop-entry.entry-index entries ≡ entries = take_all c.loop-entry.entry-index entries (omega arith) in
    c.loop-entry.invariant ∙ ap (λ (l : List (List ℕ)). map string_bytes c.args.names.now.items ++ l) (ap (flat_map (λ (e : NodeRow). row_writes e)) all ∙ all_written x entries c.entries-entry-items.ensures)
