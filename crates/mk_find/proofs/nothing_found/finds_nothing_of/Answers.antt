use Rattle.std.proofs.Common.{◌∙◌, ◌++◌, [], List, ap, subst, map}
use Rattle.mk_find.specs.declared.finding.Finding.{Finding}
use Rattle.mk_find.specs.Candidates.{Candidate}
use Rattle.mk_find.specs.Listed.{Adds, named}
use Rattle.mk_find.specs.NodeChecks.{candidates_of_node, before_pairs, behind_pairs, found_of, pairs_with}
use Rattle.mk_find.proofs.Adding.{adds_append}
use Rattle.mk_find.proofs.FirstFound.{none_found}
use Rattle.mk_find.proofs.Lists.{one_list}
use Rattle.mk_find.proofs.nothing_found.finds_nothing_of.Goals as goal

pub returns : goal.returns
returns c =
    let x = c.args.subject.now in
    let n = c.args.row.now.number in
    let first = candidates_of_node x before_pairs n in
    let pairs = pairs_with x n in
    let then = candidates_of_node x behind_pairs n in
    let found = c.run_checks_on-2.new.found in
    let all : Adds x (found_of x n) c.new-found.result found =
    adds_append x first (pairs ++ then) c.new-found.result c.run_checks_on.new.found found c.in_ok-run_checks_on.ensures
    (adds_append x pairs then c.run_checks_on.new.found c.note_files.new.found found c.in_ok-note_files.ensures c.in_ok-run_checks_on-2.ensures) in
    let adds : Adds x (found_of x n) [] found = subst (λ (old : List Finding). Adds x (found_of x n) old found) c.new-found.ensures all in (
      λ told. none_found x (found_of x n) found adds (c.is_empty.ensures.0 told),
      λ none. c.is_empty.ensures.1 (adds.added ∙ ap (λ (ks : List Candidate). map (named x) ks) (one_list x adds.right none)),
    )
