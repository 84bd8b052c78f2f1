use Rattle.std.proofs.Common.{ℕ, List, Ok, sym, subst}
use Rattle.mk_infer.specs.Choosing.{Looked}
use Rattle.mk_infer.specs.Selection.{Selects}
use Rattle.tests_findings.proofs.builds.graph_of.Goals as goal

-- the goals of the graph are those that were asked for
pub returns : goal.returns
returns c =
    let m = c.args.table.now in
    let e = c.args.there.now in
    let names = c.args.goals.now in
    let g = c.in_ok-graph.graph in
    let s : Selects m e names (Ok g) = subst (λ (k : Looked). Selects k.makefile k.exists names (Ok g)) c.in_ok-choices.ensures c.in_ok-graph.ensures in
    subst (λ (l : List (List ℕ)). Selects m e l (Ok g)) (sym (c.selected_goals.ensures m e names g s)) s
