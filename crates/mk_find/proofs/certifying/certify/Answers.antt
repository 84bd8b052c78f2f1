-- Where no read is stale nothing is found, and so there is an entry for each read.
use Rattle.std.proofs.Common.{◌∙◌, List, ap, subst, map}
use Rattle.mk_graph.specs.Graph.{Graph}
use Rattle.mk_find.specs.declared.finding.Finding.{Finding}
use Rattle.mk_find.specs.Candidates.{stale_candidates}
use Rattle.mk_find.specs.Listed.{Adds}
use Rattle.mk_subject.specs.Subject.{name_of}
use Rattle.mk_find.proofs.FindingLists.{none_added}
use Rattle.mk_find.proofs.certifying.certify.Goals as goal

pub returns-clause-certificate : goal.returns-clause-certificate
returns-clause-certificate c =
    let x = c.args.subject.now in
    let found = subst (λ (l : List Finding). Adds x (stale_candidates x) l c.judge_all.new.found) c.new-found.ensures c.in_ok-ways.ensures.found in
    record {
      goals = c.in_ok-goals.ensures ∙ ap (map (name_of x)) (c.goals.ensures.value ∙ ap (λ (g : Graph). g.goals) c.graph-graph.ensures.value);
      ways = c.in_ok-ways.ensures.ways (none_added c.list_is_one.ensures x (stale_candidates x) c.judge_all.new.found c.requires.no_stale found);
    }

pub returns-clause-shortest : goal.returns-clause-shortest
returns-clause-shortest c =
    c.certificate_is_shortest.ensures c.args.subject.now _ c.graph-graph.ensures.graph (returns-clause-certificate c)
