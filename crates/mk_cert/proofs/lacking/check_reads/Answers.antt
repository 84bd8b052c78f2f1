use Rattle.std.proofs.Common.{◌≡◌, ◌+◌, ◌<◌, ◌≤◌, ◌++◌, ◌∙◌, [], ℕ, List, Err, inr, ⊎_elim, refl, ap, sym, subst, get_or, length, map, drop, arith}
use Rattle.std.specs.List.{flat_map}
use Rattle.std.proofs.lemmas.Bool.{true≢false, cases_Bool}
use Rattle.std.proofs.lemmas.List.{drop_more, get_or-map, length-map}
use Rattle.std.proofs.lemmas.List.Elements.{All-get_or}
use Rattle.mk_lemmas.proofs.Members.{Has-flat_map, Has-map}
use Rattle.mk_lines.specs.Names.{has_name}
use Rattle.mk_graph.specs.Membership.{Has}
use Rattle.mk_graph.specs.Serial.{serial_order}
use Rattle.mk_cert.specs.declared.fault.CertFault.{CertFault}
use Rattle.mk_subject.specs.Subject.{reads_of}
use Rattle.mk_subject.specs.NodeRow.{NodeRow, IsRow}
use Rattle.mk_find.specs.Listing.{IsFirstIn}
use Rattle.mk_subject.specs.Reads.{Read, all_reads}
use Rattle.mk_cert.specs.Verdict.{LacksWay}
use Rattle.mk_cert.specs.Checks.{AnswersReads, reads_by}
use Rattle.mk_find.proofs.Adding.{drop_past}
use Rattle.mk_find.proofs.Decided.{name_is}
use Rattle.mk_find.proofs.FirstOf.{Left, left_all, left_in, left_part, left_none}
use Rattle.mk_subject.proofs.InOrder.{reader_has_recipe, reader_in_order}
use Rattle.mk_cert.proofs.Walks.{recipe_is_node}
use Rattle.mk_cert.proofs.lacking.check_reads.Goals as goal

pub loop-entry-init : goal.loop-entry-init
loop-entry-init c = λ ways seen.
    let x = c.args.subject.now in
    subst (λ (ns : List ℕ). Left (LacksWay x ways) (flat_map (reads_by x) ns) (all_reads x)) (sym c.entries-entries.ensures.in_order) (left_all (LacksWay x ways) (all_reads x))

pub first_lacking-requires : goal.first_lacking-requires
first_lacking-requires c =
    let x = c.args.subject.now in
    let entries = c.entries-entries.result.now in
    let lt : c.loop-entry.entry-index < length entries = omega arith in
    subst (λ (e : NodeRow). IsRow x e) (sym c.entry-item.is) (All-get_or (IsRow x) entries c.loop-entry.entry-index c.entry-item.result lt c.entries-entries.ensures.right)

pub returns-in-Some : goal.returns-in-Some
returns-in-Some c = λ ways seen.
    let x = c.args.subject.now in
    let number = λ (e : NodeRow). e.number in
    let entries = c.entries-entries.result.now in
    let numbers = map number entries in
    let i = c.loop-entry.entry-index in
    let e = c.entry-item.result in
    let lt : i < length entries = omega arith in
    let low : i < length numbers = omega (arith, length-map entries number) in
    let is : get_or numbers i 0 ≡ e.number = get_or-map number entries i e 0 lt ∙ ap number (sym c.entry-item.is) in
    let it : IsRow x e = subst (λ (k : NodeRow). IsRow x k) (sym c.entry-item.is) (All-get_or (IsRow x) entries i e lt c.entries-entries.ensures.right) in
    let left : Left (LacksWay x ways) (reads_by x (get_or numbers i 0) ++ flat_map (reads_by x) (drop (i + 1) numbers)) (all_reads x) = subst (λ (ns : List ℕ). Left (LacksWay x ways) (flat_map (reads_by x) ns) (all_reads x)) (drop_more numbers i 0 low) (c.loop-entry.invariant ways seen) in
    let read : Read = record { recipe = e.number; file = c.in-Some.file.now } in
    let first : IsFirstIn (LacksWay x ways) (reads_by x (get_or numbers i 0)) read = subst (λ (n : ℕ). IsFirstIn (LacksWay x ways) (reads_by x n) read) (sym is) (c.in-Some.ensures ways seen) in
    inr (subst (λ (f : CertFault). AnswersReads x ways (Err f)) (sym c.in_ok-no_way.ensures)
    (read, left_in (LacksWay x ways) (reads_by x (get_or numbers i 0)) (flat_map (reads_by x) (drop (i + 1) numbers)) (all_reads x) read left first, name_is x e e.node.name it refl, refl))

pub loop-entry-preserved : goal.loop-entry-preserved
loop-entry-preserved c = λ ways seen.
    let x = c.args.subject.now in
    let number = λ (e : NodeRow). e.number in
    let entries = c.entries-entries.result.now in
    let numbers = map number entries in
    let i = c.loop-entry.entry-index in
    let e = c.entry-item.result in
    let lt : i < length entries = omega arith in
    let low : i < length numbers = omega (arith, length-map entries number) in
    let is : get_or numbers i 0 ≡ e.number = get_or-map number entries i e 0 lt ∙ ap number (sym c.entry-item.is) in
    let left : Left (LacksWay x ways) (reads_by x (get_or numbers i 0) ++ flat_map (reads_by x) (drop (i + 1) numbers)) (all_reads x) = subst (λ (ns : List ℕ). Left (LacksWay x ways) (flat_map (reads_by x) ns) (all_reads x)) (drop_more numbers i 0 low) (c.loop-entry.invariant ways seen) in
    left_part (LacksWay x ways) (reads_by x (get_or numbers i 0)) (flat_map (reads_by x) (drop (i + 1) numbers)) (all_reads x) left
    (subst (λ (n : ℕ). (r : Read) → Has (reads_by x n) r → ¬ (LacksWay x ways r)) (sym is) (c.in_default.ensures ways seen))

pub returns : goal.returns
returns c = λ ways seen.
    let x = c.args.subject.now in
    let number = λ (e : NodeRow). e.number in
    let numbers = map number c.entries-entries.result.now in
    let i = c.loop-entry.entry-index in
    let is = c.graph-graph.ensures.graph in
    let reaches = c.serial_reaches_each_once.ensures in
    let past : length numbers ≤ i = omega (arith, length-map c.entries-entries.result.now number) in
    let none = left_none (LacksWay x ways) (all_reads x) (subst (λ (ns : List ℕ). Left (LacksWay x ways) (flat_map (reads_by x) ns) (all_reads x)) (drop_past numbers i past) (c.loop-entry.invariant ways seen)) in
    inr (λ r needs.
    let read = λ (f : List ℕ). let one : Read = record { recipe = r.recipe; file = f } in one in
    let stands : Has (all_reads x) r = Has-flat_map (reads_by x) (serial_order x.graph) r.recipe r (reader_in_order x is reaches r.recipe r.file needs.0) (Has-map read (reads_of x r.recipe) r.file needs.0) in
    let told = seen r.recipe (recipe_is_node x r.recipe (reader_has_recipe x is reaches r.recipe r.file needs.0)) r.file in
    ⊎_elim (λ t. told.0 t) (λ out. absurd (none r stands (needs, λ h. true≢false (sym (told.1 h) ∙ out)))) (cases_Bool (has_name (get_or c.args.seen.now r.recipe []) r.file)))
