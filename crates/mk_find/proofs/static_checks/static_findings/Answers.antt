use Rattle.std.proofs.Common.{◌≡◌, ◌∙◌, ◌++◌, [], List, sym, subst, take, drop}
use Rattle.std.proofs.lemmas.Grind.{flat_map-append}
use Rattle.mk_lemmas.proofs.Members.{Has-map}
use Rattle.mk_graph.specs.Serial.{serial_order}
use Rattle.mk_find.specs.declared.finding.Finding.{Finding}
use Rattle.mk_graph.specs.Membership.{Has}
use Rattle.mk_subject.specs.Subject.{name_of}
use Rattle.mk_find.specs.Candidates.{Candidate, by_number, pairs_of_writers, selection, static_candidates}
use Rattle.mk_find.specs.Listed.{Adds, HasNoSelection, named}
use Rattle.mk_find.specs.Listing.{Lists}
use Rattle.mk_find.specs.NodeChecks.{candidates_before_pairs, candidates_after_pairs}
use Rattle.mk_find.proofs.Adding.{adds_append}
use Rattle.mk_find.proofs.static_checks.static_findings.Goals as goal

-- without findings there is no selection among them
pub returns-then-branch : goal.returns-then-branch
returns-then-branch c =
    let x = c.args.subject.now in
    let none : Lists x (static_candidates x) [] = c.in_ok-finds_nothing.ensures.0 c.if-branch.true in
    let stays = c.nothing_found_is_selected.ensures x c.graph-graph.ensures.graph c.graph-graph.ensures.subject [] none (λ n chosen stands. stands) in
    record {
      found = record { kept = []; right = none; added = c.into_findings.ensures ∙ c.new-found.ensures };
      selected = λ told. stays.0;
      parts = λ told. stays.1;
    }

pub returns : goal.returns
returns c =
    let x = c.args.subject.now in
    let first = candidates_before_pairs x in
    let pairs = pairs_of_writers x (serial_order x.graph) in
    let then = candidates_after_pairs x in
    let list = c.run_checks_after_pairs.new.found in
    let found = c.into_findings-2.result.items in
    let all : Adds x (first ++ (pairs ++ then)) c.new-found.result list =
    adds_append x first (pairs ++ then) c.new-found.result c.run_checks_before_pairs.new.found list c.in_ok-run_checks_before_pairs.ensures
    (adds_append x pairs then c.run_checks_before_pairs.new.found c.note_pairs.new.found list c.in_ok-note_pairs.ensures c.in_ok-run_checks_after_pairs.ensures) in
    let joined : static_candidates x ≡ first ++ (pairs ++ then) = flat_map-append (λ (part : List Candidate). part) (take 4 (by_number x)) (drop 4 (by_number x)) in
    let adds : Adds x (static_candidates x) [] found = subst (λ (l : List Finding). Adds x (static_candidates x) [] l) (sym c.into_findings-2.ensures) (subst (λ (l : List Candidate). Adds x l [] list) (sym joined) (subst (λ (old : List Finding). Adds x (first ++ (pairs ++ then)) old list) c.new-found.ensures all)) in
    let stays = λ (none : HasNoSelection found). c.nothing_found_is_selected.ensures x c.graph-graph.ensures.graph c.graph-graph.ensures.subject adds.kept adds.right
    (λ n chosen stands. none (name_of x n) chosen (subst (λ (l : List Finding). Has l (named x (selection n chosen))) (sym adds.added) (Has-map (named x) adds.kept (selection n chosen) stands))) in
    record {
      found = adds;
      selected = λ none. (stays none).0;
      parts = λ none. (stays none).1;
    }
