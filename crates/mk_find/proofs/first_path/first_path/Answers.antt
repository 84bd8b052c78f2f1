-- The first place at which a path may end ends the first path, and what is passed over isn't always
-- made.
use Rattle.std.proofs.Common.{ℕ, Option, MatchOption, sym, subst}
use Rattle.mk_graph_search.specs.Places.{HasAtMost}
use Rattle.mk_cert_text.specs.declared.certificate.Finish.{Finish}
use Rattle.mk_subject.specs.Carried.{carried}
use Rattle.mk_find.specs.FirstPaths.{AlwaysNoneBefore, IsEndAt}
use Rattle.mk_find.proofs.Trying.{path_found, path_missing, passed_over, gone, gone_out}
use Rattle.mk_find.proofs.first_path.first_path.Goals as goal

pub returns-in_default-clause-passed : goal.returns-in_default-clause-passed
returns-in_default-clause-passed c =
    let x = c.args.subject.now in
    let start = c.args.search.now.start in
    subst (λ (k : ℕ). AlwaysNoneBefore x start k) (sym c.max.ensures) (passed_over x c.args.file.now.file start c.go_on_to_end.new.place c.args.passed.now c.in_ok-finish.ensures.before c.requires.passed)

pub returns-in_err-nodes-clause-passed : goal.returns-in_err-nodes-clause-passed
returns-in_err-nodes-clause-passed c =
    let x = c.args.subject.now in
    let start = c.args.search.now.start in
    subst (λ (k : ℕ). AlwaysNoneBefore x start k) (sym c.max.ensures) (passed_over x c.args.file.now.file start c.go_on_to_end.new.place c.args.passed.now c.in_ok-finish.ensures.before c.requires.passed)

pub returns-in_default-2-clause-passed : goal.returns-in_default-2-clause-passed
returns-in_default-2-clause-passed c =
    let x = c.args.subject.now in
    let start = c.args.search.now.start in
    subst (λ (k : ℕ). AlwaysNoneBefore x start k) (sym c.max.ensures) (passed_over x c.args.file.now.file start c.go_on_to_end.new.place c.args.passed.now c.in_ok-finish.ensures.before c.requires.passed)

pub returns-clause-passed : goal.returns-clause-passed
returns-clause-passed c =
    let x = c.args.subject.now in
    let start = c.args.search.now.start in
    subst (λ (k : ℕ). AlwaysNoneBefore x start k) (sym c.max.ensures) (passed_over x c.args.file.now.file start c.go_on_to_end.new.place c.args.passed.now c.in_ok-finish.ensures.before c.requires.passed)

pub returns-in_default-clause-found : goal.returns-in_default-clause-found
returns-in_default-clause-found c =
    let x = c.args.subject.now in
    let f = c.args.file.now.file in
    let start = c.args.search.now.start in
    let place = c.go_on_to_end.new.place in
    let few = subst (λ (o : Option Finish). MatchOption o (HasAtMost (carried x) start place) (λ finish. IsEndAt x f start place finish)) c.in_default.is c.in_ok-finish.ensures.found in
    path_missing c.carried_exactly.ensures c.none_by_places.ensures x c.graph-graph.ensures.graph f start place c.in_ok-finish.ensures.before few

pub returns-in_default-2-clause-found : goal.returns-in_default-2-clause-found
returns-in_default-2-clause-found c =
    let x = c.args.subject.now in
    let first = c.args.search.now in
    let place = c.go_on_to_end.new.place in
    let few = gone_out x c.go_on_to_end.new.search first c.in_ok-finish.ensures.same c.requires.rows place c.in_ok-nodes.field-0 c.in_default-2.is c.in_ok-nodes.ensures.found in
    path_missing c.carried_exactly.ensures c.none_by_places.ensures x c.graph-graph.ensures.graph c.args.file.now.file first.start place c.in_ok-finish.ensures.before few

pub returns-clause-found : goal.returns-clause-found
returns-clause-found c =
    let x = c.args.subject.now in
    let f = c.args.file.now.file in
    let first = c.args.search.now in
    let place = c.go_on_to_end.new.place in
    let end = subst (λ (o : Option Finish). MatchOption o (HasAtMost (carried x) first.start place) (λ finish. IsEndAt x f first.start place finish)) c.in-Some.is c.in_ok-finish.ensures.found in
    let goes = gone x c.go_on_to_end.new.search first c.in_ok-finish.ensures.same c.requires.rows place c.in_ok-nodes.field-0 c.in-Some-2.nodes c.in-Some-2.is c.in_ok-nodes.ensures.found in
    path_found c.carried_exactly.ensures c.first_by_places.ensures c.one_way_at_a_place.ensures x
    c.graph-graph.ensures.graph f first.start place end.number c.in-Some.finish c.in-Some-2.nodes.items
    c.requires.out c.in_ok-finish.ensures.before end.there end.first goes
