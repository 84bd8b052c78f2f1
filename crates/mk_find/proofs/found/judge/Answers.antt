-- Where nothing static is found, the races and the stale reads are listed one after the other;
-- where neither are, there is an entry for each read.
use Rattle.std.proofs.Common.{◌≡◌, ◌∙◌, List, length, map, vec_len, inr, ap, sym, subst, eqb-true, arith}
use Rattle.std.proofs.lemmas.List.{nil_from_length}
use Rattle.mk_graph.specs.Graph.{Graph}
use Rattle.mk_find.specs.declared.finding.Finding.{Finding}
use Rattle.mk_find.specs.Candidates.{static_candidates, race_candidates, stale_candidates}
use Rattle.mk_subject.specs.Subject.{name_of}
use Rattle.mk_find.specs.Findings.{AreFindings}
use Rattle.mk_find.proofs.Adding.{adds_both}
use Rattle.mk_find.proofs.FindingLists.{nothing_added}
use Rattle.mk_find.proofs.found.judge.Goals as goal

pub judge_all-requires : goal.judge_all-requires
judge_all-requires c =
    let x = c.args.subject.now in
    let empty : vec_len c.in_ok-first.first ≡ 0 = eqb-true (vec_len c.in_ok-first.first) 0 (sym c.if-not-is_empty.ensures) in
    let none : length c.in_ok-first.first.items ≡ 0 = omega (arith, c.in_ok-first.first.ok.0) in
    nothing_added x (static_candidates x) c.in_ok-first.first.items c.in_ok-first.ensures.found none

pub returns-then-not-is_empty-2-clause-found : goal.returns-then-not-is_empty-2-clause-found
returns-then-not-is_empty-2-clause-found c =
    let x = c.args.subject.now in
    let empty : vec_len c.in_ok-first.first ≡ 0 = eqb-true (vec_len c.in_ok-first.first) 0 (sym c.if-not-is_empty.ensures) in
    let none : length c.in_ok-first.first.items ≡ 0 = omega (arith, c.in_ok-first.first.ok.0) in
    inr (nothing_added x (static_candidates x) c.in_ok-first.first.items c.in_ok-first.ensures.found none, adds_both x (race_candidates x) (stale_candidates x) c.new-found.result c.note_races.new.found c.judge_all.new.found c.into_findings-found.result.items c.new-found.ensures c.into_findings-found.ensures c.in_ok-note_races.ensures c.in_ok-ways.ensures.found)

pub returns-clause-nothing : goal.returns-clause-nothing
returns-clause-nothing c =
    let x = c.args.subject.now in
    let empty : vec_len c.in_ok-first.first ≡ 0 = eqb-true (vec_len c.in_ok-first.first) 0 (sym c.if-not-is_empty.ensures) in
    let none : length c.in_ok-first.first.items ≡ 0 = omega (arith, c.in_ok-first.first.ok.0) in
    let found = c.into_findings-found.result in
    let few : vec_len found ≡ 0 = eqb-true (vec_len found) 0 (sym c.if-not-is_empty-2.ensures) in
    let long : length found.items ≡ 0 = omega (arith, found.ok.0) in
    subst (λ (l : List Finding). AreFindings x l) (nil_from_length found.items long)
    (inr (
      nothing_added x (static_candidates x) c.in_ok-first.first.items c.in_ok-first.ensures.found
          none,
      adds_both x (race_candidates x) (stale_candidates x) c.new-found.result c.note_races.new.found c.judge_all.new.found c.into_findings-found.result.items c.new-found.ensures c.into_findings-found.ensures c.in_ok-note_races.ensures c.in_ok-ways.ensures.found,
    ))

pub returns-clause-certificate : goal.returns-clause-certificate
returns-clause-certificate c =
    let x = c.args.subject.now in
    let found = c.into_findings-found.result in
    let few : vec_len found ≡ 0 = eqb-true (vec_len found) 0 (sym c.if-not-is_empty-2.ensures) in
    let long : length found.items ≡ 0 = omega (arith, found.ok.0) in
    record {
      goals = c.in_ok-goals.ensures ∙ ap (map (name_of x)) (c.goals.ensures.value ∙ ap (λ (g : Graph). g.goals) c.graph-graph.ensures.value);
      ways = c.in_ok-ways.ensures.ways (sym c.into_findings-found.ensures ∙ nil_from_length found.items long);
    }

pub returns-clause-shortest : goal.returns-clause-shortest
returns-clause-shortest c =
    c.certificate_is_shortest.ensures c.args.subject.now _ c.graph-graph.ensures.graph (returns-clause-certificate c)
