use Rattle.std.proofs.Common.{◌≡◌, ◌++◌, ◌∙◌, ◌<◌, ◌≤◌, ℕ, ◌+◌, List, [], ap, sym, subst, length, get_or, map, drop, arith}
use Rattle.std.specs.Prelude.{Option, Some}
use Rattle.std.specs.List.{flat_map}
use Rattle.std.proofs.lemmas.List.{get_or-map, length-map, drop_more}
use Rattle.std.proofs.lemmas.List.Elements.{All-get_or}
use Rattle.mk_subject.specs.NodeRow.{NodeRow, IsRow}
use Rattle.mk_find.specs.NodeChecks.{behind, pairs_with}
use Rattle.mk_graph.specs.Membership.{IsDistinct}
use Rattle.mk_graph.specs.Serial.{serial_order}
use Rattle.mk_find.specs.declared.finding.Finding.{Finding}
use Rattle.mk_subject.specs.Subject.{Subject, writes_of}
use Rattle.mk_find.specs.Candidates.{Candidate, IsFinding, pairs_of_writers, two_writers}
use Rattle.mk_find.specs.Listed.{IsFirstFinding}
use Rattle.mk_find.specs.Listing.{Lists}
use Rattle.mk_find.proofs.Adding.{drop_past}
use Rattle.mk_find.proofs.Behind.{behind_after}
use Rattle.mk_find.proofs.FirstOf.{Left, left_all, left_in, left_part, left_none}
use Rattle.mk_find.proofs.Lists.{lists_nothing, nothing_holds}
use Rattle.mk_find.proofs.first.first_pair.Goals as goal

pub loop-entry-init : goal.loop-entry-init
loop-entry-init c =
    let x = c.args.subject.now in
    let all = pairs_of_writers x (serial_order x.graph) in
    subst (λ (ns : List ℕ). Left (IsFinding x) (pairs_of_writers x ns) all) (sym c.entries-entries.ensures.in_order) (left_all (IsFinding x) all)

pub first_pair_with-requires : goal.first_pair_with-requires
first_pair_with-requires c =
    let x = c.args.subject.now in
    let entries = c.entries-entries.result.now in
    let lt : c.loop-entry.entry-index < length entries = omega arith in
    subst (λ (e : NodeRow). IsRow x e) (sym c.entry-item.is) (All-get_or (IsRow x) entries c.loop-entry.entry-index c.entry-item.result lt c.entries-entries.ensures.right)

-- those of the recipe that is looked at, and of those behind it
parts : (x : Subject) (entries : List NodeRow) (i : ℕ) (e : NodeRow) → e ≡ get_or entries i e → i < length entries → IsDistinct (serial_order x.graph) → map (λ (k : NodeRow). k.number) entries ≡ serial_order x.graph
    → pairs_of_writers x (drop i (map (λ (k : NodeRow). k.number) entries)) ≡ pairs_with x e.number ++ pairs_of_writers x (drop (i + 1) (map (λ (k : NodeRow). k.number) entries))
parts x entries i e here lt distinct same =
    let number = λ (k : NodeRow). k.number in
    let order = map number entries in
    let low : i < length order = omega (arith, length-map entries number) in
    let is : e.number ≡ get_or order i 0 = sym (get_or-map number entries i e 0 lt ∙ ap number (sym here)) in
    let alone : IsDistinct order = subst (λ (ns : List ℕ). IsDistinct ns) (sym same) distinct in
    let later : drop (i + 1) order ≡ behind e.number (serial_order x.graph) = sym (ap (behind e.number) (sym same) ∙ (ap (λ n. behind n order) is ∙ behind_after order i alone low)) in
    let with = λ (n : ℕ) (ns : List ℕ). flat_map (λ f. map (λ t. two_writers n t f) ns) (writes_of x n) in
    ap (pairs_of_writers x) (drop_more order i 0 low) ∙ ap (λ (l : List Candidate). l ++ pairs_of_writers x (drop (i + 1) order)) (ap (λ (n : ℕ). with n (drop (i + 1) order)) (sym is) ∙ ap (with e.number) later)

pub returns-in-Some : goal.returns-in-Some
returns-in-Some c =
    let x = c.args.subject.now in
    let all = pairs_of_writers x (serial_order x.graph) in
    let entries = c.entries-entries.result.now in
    let i = c.loop-entry.entry-index in
    let e = c.entry-item.result in
    let lt : i < length entries = omega arith in
    let rest = pairs_of_writers x (drop (i + 1) (map (λ (k : NodeRow). k.number) entries)) in
    let cut = parts x entries i e c.entry-item.is lt (c.serial_reaches_each_once.ensures x.graph c.graph-graph.ensures.graph.no_cycle).0 c.entries-entries.ensures.in_order in
    let left : Left (IsFinding x) (pairs_with x e.number ++ rest) all = subst (λ (l : List Candidate). Left (IsFinding x) l all) cut c.loop-entry.invariant in
    let told : IsFirstFinding x (pairs_with x e.number) (Some c.in-Some.finding) = subst (λ (r : Option Finding). IsFirstFinding x (pairs_with x e.number) r) c.in-Some.is c.in_ok-finding.ensures in
    (told.0, left_in (IsFinding x) (pairs_with x e.number) rest all told.0 left told.1, told.2)

pub loop-entry-preserved : goal.loop-entry-preserved
loop-entry-preserved c =
    let x = c.args.subject.now in
    let all = pairs_of_writers x (serial_order x.graph) in
    let entries = c.entries-entries.result.now in
    let i = c.loop-entry.entry-index in
    let e = c.entry-item.result in
    let lt : i < length entries = omega arith in
    let rest = pairs_of_writers x (drop (i + 1) (map (λ (k : NodeRow). k.number) entries)) in
    let cut = parts x entries i e c.entry-item.is lt (c.serial_reaches_each_once.ensures x.graph c.graph-graph.ensures.graph.no_cycle).0 c.entries-entries.ensures.in_order in
    let left : Left (IsFinding x) (pairs_with x e.number ++ rest) all = subst (λ (l : List Candidate). Left (IsFinding x) l all) cut c.loop-entry.invariant in
    let none : Lists x (pairs_with x e.number) [] = subst (λ (r : Option Finding). IsFirstFinding x (pairs_with x e.number) r) c.in_default.is c.in_ok-finding.ensures in
    left_part (IsFinding x) (pairs_with x e.number) rest all left (nothing_holds x (pairs_with x e.number) none)

pub returns : goal.returns
returns c =
    let x = c.args.subject.now in
    let all = pairs_of_writers x (serial_order x.graph) in
    let number = λ (k : NodeRow). k.number in
    let entries = c.entries-entries.result.now in
    let past : length (map number entries) ≤ c.loop-entry.entry-index = omega (arith, length-map entries number) in
    lists_nothing x all (left_none (IsFinding x) all (subst (λ (ns : List ℕ). Left (IsFinding x) (pairs_of_writers x ns) all) (drop_past (map number entries) c.loop-entry.entry-index past) c.loop-entry.invariant))
