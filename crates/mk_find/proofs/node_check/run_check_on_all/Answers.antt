use Rattle.std.proofs.Common.{◌≡◌, ◌∙◌, ◌<◌, ◌≤◌, ℕ, List, ap, sym, subst, length, get_or, map, drop, arith}
use Rattle.std.specs.List.{flat_map}
use Rattle.std.proofs.lemmas.List.{get_or-map, length-map}
use Rattle.std.proofs.lemmas.List.Elements.{All-get_or}
use Rattle.mk_subject.specs.NodeRow.{NodeRow, IsRow}
use Rattle.mk_find.specs.Listed.{Adds}
use Rattle.mk_find.specs.NodeChecks.{candidates_of_check}
use Rattle.mk_find.proofs.Adding.{drop_past, leads_each, leads_done}
use Rattle.mk_find.proofs.node_check.run_check_on_all.Goals as goal

pub loop-entry-init : goal.loop-entry-init
loop-entry-init c =
    let x = c.args.subject.now in
    λ last h. subst (λ (ns : List ℕ). Adds x (flat_map (candidates_of_check x c.args.check) ns) c.args.found.now last) c.entries-entries.ensures.in_order h

pub run_check-requires : goal.run_check-requires
run_check-requires c =
    let x = c.args.subject.now in
    let entries = c.entries-entries.result.now in
    let lt : c.loop-entry.entry-index < length entries = omega arith in
    subst (λ (e : NodeRow). IsRow x e) (sym c.entry-item.is) (All-get_or (IsRow x) entries c.loop-entry.entry-index c.entry-item.result lt c.entries-entries.ensures.right)

pub loop-entry-preserved : goal.loop-entry-preserved
loop-entry-preserved c =
    let x = c.args.subject.now in
    let number = λ (e : NodeRow). e.number in
    let entries = c.entries-entries.result.now in
    let i = c.loop-entry.entry-index in
    let lt : i < length entries = omega arith in
    let low : i < length (map number entries) = omega (arith, length-map entries number) in
    let is : get_or (map number entries) i 0 ≡ c.entry-item.result.number = get_or-map number entries i c.entry-item.result 0 lt ∙ ap number (sym c.entry-item.is) in
    leads_each x (candidates_of_check x c.args.check) (map number entries) i 0 _ c.loop-entry.found c.run_check.new.found c.args.found.now low c.loop-entry.invariant
    (subst (λ (n : ℕ). Adds x (candidates_of_check x c.args.check n) c.loop-entry.found c.run_check.new.found) (sym is) c.in_ok-run_check.ensures)

pub returns : goal.returns
returns c =
    let x = c.args.subject.now in
    let number = λ (e : NodeRow). e.number in
    let entries = c.entries-entries.result.now in
    let i = c.loop-entry.entry-index in
    let past : length (map number entries) ≤ i = omega (arith, length-map entries number) in
    leads_done x (flat_map (candidates_of_check x c.args.check) (drop i (map number entries))) _ c.loop-entry.found c.args.found.now (ap (flat_map (candidates_of_check x c.args.check)) (drop_past (map number entries) i past)) c.loop-entry.invariant
