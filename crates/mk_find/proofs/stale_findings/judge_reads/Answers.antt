-- Each file of the record is judged in its turn, and has its entry once, as the record has no
-- repeats.
use Rattle.std.proofs.Common.{◌≡◌, ◌∙◌, ◌<◌, ◌≤◌, ◌+◌, ◌∷◌, [], ℕ, List, Option, MatchOption, ap, sym, subst, length, get_or, map, drop, take, arith}
use Rattle.std.proofs.lemmas.List.{take_all}
use Rattle.mk_lemmas.proofs.Members.{Has-get_or}
use Rattle.mk_subject.proofs.Entries.{same_reads}
use Rattle.mk_lines.specs.Names.{once}
use Rattle.mk_graph.specs.Membership.{Has}
use Rattle.mk_graph_search.specs.Places.{SearchInput}
use Rattle.mk_graph_search.specs.Ways.{successors}
use Rattle.mk_find.specs.declared.first_path.FirstPath.{FirstPath}
use Rattle.mk_find.specs.FirstPaths.{AlwaysNoneBefore, IsAlongFirstPath}
use Rattle.mk_find.specs.Candidates.{stale}
use Rattle.mk_subject.specs.Carried.{carried}
use Rattle.mk_subject.specs.NodeRow.{NodeRow}
use Rattle.mk_find.specs.Listed.{Adds}
use Rattle.mk_subject.specs.Subject.{reads_of}
use Rattle.mk_subject.specs.Target.{Target}
use Rattle.mk_find.specs.Certifying.{ReadNeedsWay, IsEntryFor, AddsEntries}
use Rattle.mk_find.proofs.Adding.{drop_past, leads_map, leads_done}
use Rattle.mk_find.proofs.AddingEntries.{reads_of_files, adds_entry, adds_next, adds_no_entries, adds_no_entry, nothing_before}
use Rattle.mk_find.proofs.Noting.{reader_writes_not, reads_distinct}
use Rattle.mk_find.proofs.FileReads.{read_at}
use Rattle.mk_find.proofs.Trying.{always_none_before_first}
use Rattle.mk_find.proofs.stale_findings.judge_reads.Goals as goal
use Rattle.mk_find.proofs.stale_findings.judge_reads.Goals.{in-Some+in_ok-push, in_default}

pub loop-place-init : goal.loop-place-init
loop-place-init c = (c.requires.search, λ last h. h, λ none. adds_no_entries c.args.tables.now.subject.now c.args.ways.now, always_none_before_first c.args.tables.now.subject.now c.args.search.now.start)

pub read-file-requires-clause-place : goal.read-file-requires-clause-place
read-file-requires-clause-place c =
    let x = c.args.tables.now.subject.now in
    let count = c.count_of_reads-place-end.ensures ∙ ap (λ (k : NodeRow). length (reads_of x k.number)) c.row.view_is in
    omega (arith, c.loop-place-test.true, count, ap (λ (l : List (List ℕ)). length l) (same_reads x c.args.row.now c.requires.row))

pub judge_read-requires-clause-rows : goal.judge_read-requires-clause-rows
judge_read-requires-clause-rows c =
    subst (λ (task : SearchInput). (t : ℕ) → successors task.rows t ≡ carried c.args.tables.now.subject.now t) (sym c.loop-place.invariant.0) c.requires.tables.rows

pub judge_read-requires-clause-start : goal.judge_read-requires-clause-start
judge_read-requires-clause-start c =
    ap (λ (task : SearchInput). task.start) c.loop-place.invariant.0

pub judge_read-requires-clause-ends : goal.judge_read-requires-clause-ends
judge_read-requires-clause-ends c = c.requires.tables.ends

pub judge_read-requires-clause-read : goal.judge_read-requires-clause-read
judge_read-requires-clause-read c =
    let x = c.args.tables.now.subject.now in
    let e = c.args.row.now in
    let i = c.loop-place.place in
    let count = c.count_of_reads-place-end.ensures ∙ ap (λ (k : NodeRow). length (reads_of x k.number)) c.row.view_is in
    let low : i < length (reads_of x e.number) = omega (arith, c.loop-place-test.true, count) in
    read_at _ i c.requires.row low c.read-file.ensures

pub judge_read-requires-clause-out : goal.judge_read-requires-clause-out
judge_read-requires-clause-out c =
    let x = c.args.tables.now.subject.now in
    let e = c.args.row.now in
    let i = c.loop-place.place in
    let count = c.count_of_reads-place-end.ensures ∙ ap (λ (k : NodeRow). length (reads_of x k.number)) c.row.view_is in
    let low : i < length (reads_of x e.number) = omega (arith, c.loop-place-test.true, count) in
    let reads : Has (reads_of x e.number) c.read-file.result.file = subst (λ (v : Target). Has (reads_of x e.number) v.file) (sym c.read-file.ensures) (Has-get_or (reads_of x e.number) i [] low) in
    reader_writes_not c.nothing_found_is_sound.ensures x c.graph-graph.ensures.graph c.graph-graph.ensures.subject c.requires.nothing e.number c.read-file.result.file reads

pub push-requires : goal.push-requires
push-requires c =
    let x = c.args.tables.now.subject.now in
    let t = c.args.row.now.number in
    let f = c.read-file.result.file in
    let told = λ (o : Option FirstPath). MatchOption o (c.judge_read.new.found ≡ [] → ¬ (ReadNeedsWay x (record { recipe = t; file = f }))) (λ path. (c.judge_read.new.found ≡ []) × ReadNeedsWay x (record { recipe = t; file = f }) × IsAlongFirstPath x f t path.nodes.items path.finish) in
    let (none, needs, first) = subst told c.in-Some.is c.in_ok-path.ensures.path in
    let count = c.count_of_reads-place-end.ensures ∙ ap (λ (k : NodeRow). length (reads_of x k.number)) c.row.view_is in
    let low : c.loop-place.place < length (reads_of x t) = omega (arith, c.loop-place-test.true, count) in
    record { read = read_at _ c.loop-place.place c.requires.row low c.read-file.ensures; first = first }

pub loop-place-preserved : goal.loop-place-preserved
loop-place-preserved c =
    let x = c.args.tables.now.subject.now in
    let t = c.args.row.now.number in
    let files = reads_of x t in
    let i = c.loop-place.place in
    let g = get_or files i [] in
    let f = c.read-file.result.file in
    let is : f ≡ g = ap (λ (v : Target). v.file) c.read-file.ensures in
    let count = c.count_of_reads-place-end.ensures ∙ ap (λ (k : NodeRow). length (reads_of x k.number)) c.row.view_is in
    let low : i < length files = omega (arith, c.loop-place-test.true, count) in
    let inv = c.loop-place.invariant in
    let found = c.judge_read.new.found in
    let added = c.in_ok-path.ensures.found in
    let earlier : found ≡ [] → c.loop-place.found ≡ [] = λ none. nothing_before x (stale t f ∷ []) c.loop-place.found found added none in
    let told = λ (o : Option FirstPath). MatchOption o (found ≡ [] → ¬ (ReadNeedsWay x (record { recipe = t; file = f }))) (λ path. (found ≡ []) × ReadNeedsWay x (record { recipe = t; file = f }) × IsAlongFirstPath x f t path.nodes.items path.finish) in
    let out : (found ≡ [] → ¬ (ReadNeedsWay x (record { recipe = t; file = f }))) → found ≡ [] → ¬ (ReadNeedsWay x (record { recipe = t; file = g })) = λ h none. subst (λ (k : List ℕ). ¬ (ReadNeedsWay x (record { recipe = t; file = k }))) is (h none) in
    let ways : found ≡ [] → AddsEntries x (reads_of_files t (take (i + 1) files)) c.args.ways.now c.match-path.ways = λ none.
    let so = inv.2 (earlier none) in
    elim c.match-path.branch [
      | in-Some+in_ok-push w ↦
          let (empty, needs, first) = subst told w.in-Some.is c.in_ok-path.ensures.path in
          let (way, right, grown) = w.in_ok-push.ensures in
          let needed = subst (λ (k : List ℕ). ReadNeedsWay x (record { recipe = t; file = k })) is needs in
          let entry = subst (λ (k : List ℕ). IsEntryFor x (record { recipe = t; file = k }) way) is right in
          rw w.ways-is (adds_next x t i files c.args.ways.now c.loop-place.ways w.push.new.self low so (adds_entry x (record { recipe = t; file = g }) way c.loop-place.ways w.push.new.self needed entry grown))
      | in_default w ↦ rw w.ways-is (adds_next x t i files c.args.ways.now c.loop-place.ways c.loop-place.ways low so (adds_no_entry x (record { recipe = t; file = g }) c.loop-place.ways (out (subst told w.in_default.is c.in_ok-path.ensures.path) none)))
    ] in (
      c.in_ok-path.ensures.same ∙ inv.0,
      leads_map x (λ k. stale t k) files i [] _ c.loop-place.found found c.args.found.now low inv.1 (subst (λ (k : List ℕ). Adds x (stale t k ∷ []) c.loop-place.found found) is added),
      ways,
      subst (λ (task : SearchInput). AlwaysNoneBefore x task.start c.judge_read.new.passed) (sym c.in_ok-path.ensures.same) c.in_ok-path.ensures.passed,
    )

pub returns-clause-found : goal.returns-clause-found
returns-clause-found c =
    let x = c.args.tables.now.subject.now in
    let e = c.args.row.now in
    let i = c.loop-place.place in
    let count = c.count_of_reads-place-end.ensures ∙ ap (λ (k : NodeRow). length (reads_of x k.number)) c.row.view_is in
    let past : length (reads_of x e.number) ≤ i = omega (arith, c.loop-place-test.false, count) in
    leads_done x (map (λ f. stale e.number f) (drop i (reads_of x e.number))) _ c.loop-place.found c.args.found.now (ap (λ (fs : List (List ℕ)). map (λ f. stale e.number f) fs) (drop_past (reads_of x e.number) i past)) c.loop-place.invariant.1

pub returns-clause-ways : goal.returns-clause-ways
returns-clause-ways c none =
    let x = c.args.tables.now.subject.now in
    let e = c.args.row.now in
    let i = c.loop-place.place in
    let count = c.count_of_reads-place-end.ensures ∙ ap (λ (k : NodeRow). length (reads_of x k.number)) c.row.view_is in
    let past : length (reads_of x e.number) ≤ i = omega (arith, c.loop-place-test.false, count) in
    let all : take i (reads_of x e.number) ≡ once (reads_of x e.number) = take_all i (reads_of x e.number) past ∙ sym (reads_distinct x e c.requires.row) in
    subst (λ (l : List (List ℕ)). AddsEntries x (reads_of_files e.number l) c.args.ways.now c.loop-place.ways) all (c.loop-place.invariant.2 none)
