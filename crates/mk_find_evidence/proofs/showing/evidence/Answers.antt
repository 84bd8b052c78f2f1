-- What is told of a race and of a stale read is what is asked to show them.
use Rattle.std.proofs.Common.{◌≡◌, ℕ, List, map, true, sym, subst}
use Rattle.std.specs.Prelude.{IfOk, MatchOption}
use Rattle.mk_graph.specs.Graph.{Graph, node}
use Rattle.mk_build.specs.Setting.{IsNumberOf}
use Rattle.mk_graph.specs.Schedules.{Before}
use Rattle.mk_find.specs.Conditions.{IsStale}
use Rattle.mk_find.specs.declared.finding.Finding.{Finding}
use Rattle.mk_world.specs.NamedStep.{step_view}
use Rattle.mk_find_evidence.specs.Shown.{HasStamps, IsReported, ShowsStaleRead}
use Rattle.mk_find_evidence.proofs.Told.{race_answers, race_numbers, reader_has_recipe, stale_answers, stale_number, told_race, told_stale}
use Rattle.mk_find_evidence.proofs.showing.evidence.Goals as goal

pub returns-in_default-number_of-clause-shown : goal.returns-in_default-number_of-clause-shown
returns-in_default-number_of-clause-shown c =
    let x = c.args.subject.now in
    let race = told_race c.listed_exactly.ensures x c.in-Race.recipe c.in-Race.writer c.in-Race.file (subst (λ (f : Finding). IsReported x f) c.in-Race.is c.requires) in
    let numbers = race_numbers x c.in-Race.recipe c.in-Race.writer c.in-Race.file race in
    absurd (c.in_default-number_of.ensures race.o (subst (λ (g : Graph). IsNumberOf g c.in-Race.writer race.o) (sym c.graph-graph.ensures.value) numbers.0))

pub returns-in_default-number_of-2-clause-shown : goal.returns-in_default-number_of-2-clause-shown
returns-in_default-number_of-2-clause-shown c =
    let x = c.args.subject.now in
    let race = told_race c.listed_exactly.ensures x c.in-Race.recipe c.in-Race.writer c.in-Race.file (subst (λ (f : Finding). IsReported x f) c.in-Race.is c.requires) in
    let numbers = race_numbers x c.in-Race.recipe c.in-Race.writer c.in-Race.file race in
    absurd (c.in_default-number_of-2.ensures race.t (subst (λ (g : Graph). IsNumberOf g c.in-Race.recipe race.t) (sym c.graph-graph.ensures.value) numbers.1))

pub race-requires-clause-recipe : goal.race-requires-clause-recipe
race-requires-clause-recipe c =
    let x = c.args.subject.now in
    let race = told_race c.listed_exactly.ensures x c.in-Race.recipe c.in-Race.writer c.in-Race.file (subst (λ (f : Finding). IsReported x f) c.in-Race.is c.requires) in
    let numbers = race_numbers x c.in-Race.recipe c.in-Race.writer c.in-Race.file race in
    let t = subst (λ (g : Graph). IsNumberOf g c.in-Race.recipe c.in-Some-number_of.t) c.graph-graph.ensures.value c.in-Some-number_of.ensures in
    let same = c.names_have_one_number.ensures x.graph c.graph-graph.ensures.graph.sound c.in-Race.recipe race.t c.in-Some-number_of.t numbers.1 t in
    subst (λ (n : ℕ). (node x.graph n).recipe ≡ true) same (reader_has_recipe x race.t c.in-Race.file race.races.1)

pub race-requires-clause-not_before : goal.race-requires-clause-not_before
race-requires-clause-not_before c =
    let x = c.args.subject.now in
    let race = told_race c.listed_exactly.ensures x c.in-Race.recipe c.in-Race.writer c.in-Race.file (subst (λ (f : Finding). IsReported x f) c.in-Race.is c.requires) in
    let numbers = race_numbers x c.in-Race.recipe c.in-Race.writer c.in-Race.file race in
    let t = subst (λ (g : Graph). IsNumberOf g c.in-Race.recipe c.in-Some-number_of.t) c.graph-graph.ensures.value c.in-Some-number_of.ensures in
    let o = subst (λ (g : Graph). IsNumberOf g c.in-Race.writer c.in-Some.o) c.graph-graph.ensures.value c.in-Some.ensures in
    let same_t = c.names_have_one_number.ensures x.graph c.graph-graph.ensures.graph.sound c.in-Race.recipe race.t c.in-Some-number_of.t numbers.1 t in
    let same_o = c.names_have_one_number.ensures x.graph c.graph-graph.ensures.graph.sound c.in-Race.writer race.o c.in-Some.o numbers.0 o in
    subst (λ (n : ℕ). ¬ (Before x.graph c.in-Some.o n)) same_t (subst (λ (n : ℕ). ¬ (Before x.graph n race.t)) same_o race.races.3)

pub returns-in_default-number_of-3-clause-shown : goal.returns-in_default-number_of-3-clause-shown
returns-in_default-number_of-3-clause-shown c =
    let x = c.args.subject.now in
    let told = told_stale c.listed_exactly.ensures x c.in-Stale.recipe c.in-Stale.file (subst (λ (f : Finding). IsReported x f) c.in-Stale.is c.requires) in
    let number = stale_number x c.in-Stale.recipe c.in-Stale.file told.0 in
    absurd (c.in_default-number_of-3.ensures told.0.t (subst (λ (g : Graph). IsNumberOf g c.in-Stale.recipe told.0.t) (sym c.graph-graph.ensures.value) number))

pub stale-requires-clause-nothing : goal.stale-requires-clause-nothing
stale-requires-clause-nothing c =
    let x = c.args.subject.now in
    (told_stale c.listed_exactly.ensures x c.in-Stale.recipe c.in-Stale.file (subst (λ (f : Finding). IsReported x f) c.in-Stale.is c.requires)).1

pub stale-requires-clause-stale : goal.stale-requires-clause-stale
stale-requires-clause-stale c =
    let x = c.args.subject.now in
    let told = told_stale c.listed_exactly.ensures x c.in-Stale.recipe c.in-Stale.file (subst (λ (f : Finding). IsReported x f) c.in-Stale.is c.requires) in
    let number = stale_number x c.in-Stale.recipe c.in-Stale.file told.0 in
    let t = subst (λ (g : Graph). IsNumberOf g c.in-Stale.recipe c.in-Some-number_of-2.t) c.graph-graph.ensures.value c.in-Some-number_of-2.ensures in
    let same = c.names_have_one_number.ensures x.graph c.graph-graph.ensures.graph.sound c.in-Stale.recipe told.0.t c.in-Some-number_of-2.t number t in
    subst (λ (f : List ℕ). IsStale x c.in-Some-number_of-2.t f) (sym c.as_str.ensures) (subst (λ (n : ℕ). IsStale x n c.in-Stale.file) same told.0.stale)

pub returns-in-Some-number_of-clause-shown : goal.returns-in-Some-number_of-clause-shown
returns-in-Some-number_of-clause-shown c =
    let x = c.args.subject.now in
    let t = subst (λ (g : Graph). IsNumberOf g c.in-Race.recipe c.in-Some-number_of.t) c.graph-graph.ensures.value c.in-Some-number_of.ensures in
    let o = subst (λ (g : Graph). IsNumberOf g c.in-Race.writer c.in-Some.o) c.graph-graph.ensures.value c.in-Some.ensures in
    race_answers x c.args.finding.now c.in-Race.recipe c.in-Race.writer c.in-Race.file c.in-Some.o c.in-Some-number_of.t c.in-Race.is o t c.race.result c.race.ensures.shown

pub returns-in-Some-number_of-2-clause-shown : goal.returns-in-Some-number_of-2-clause-shown
returns-in-Some-number_of-2-clause-shown c =
    let x = c.args.subject.now in
    let t = subst (λ (g : Graph). IsNumberOf g c.in-Stale.recipe c.in-Some-number_of-2.t) c.graph-graph.ensures.value c.in-Some-number_of-2.ensures in
    stale_answers x c.args.finding.now c.in-Stale.recipe c.in-Stale.file c.in-Some-number_of-2.t c.in-Stale.is t c.stale.result
    (subst (λ (f : List ℕ). IfOk c.stale.result (λ shown. MatchOption shown (¬ (HasStamps x)) (λ steps. ShowsStaleRead x c.in-Some-number_of-2.t f (map step_view steps.items)))) c.as_str.ensures c.stale.ensures.shown)
