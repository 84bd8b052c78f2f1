use Rattle.std.proofs.Common.{◌+◌, ◌*◌, ◌<◌, ◌≤◌, List, ℕ, length, reverse, refl, sym, ap, ◌∙◌, subst}
use Rattle.std.proofs.lemmas.Bool.{false≢true}
use Rattle.mk_lemmas.proofs.Results.{MatchOption-at_some}
use Rattle.mk_graph.specs.Graph.{Graph}
use Rattle.mk_graph.specs.Schedules.{Before, IsScheduleWithout}
use Rattle.mk_graph.specs.Serial.{serial_order}
use Rattle.mk_build.specs.Setting.{writings}
use Rattle.mk_build.specs.World.{last_stamp}
use Rattle.mk_subject.specs.Subject.{footprints}
use Rattle.mk_world.specs.State.{Scene, disk_of}
use Rattle.mk_find_evidence.proofs.Races.{turns_are_nodes}
use Rattle.mk_find_evidence.proofs.RaceHistories.{none_of, may_start, may_make, may_begin, ends_in_race}
use Rattle.mk_find_evidence.proofs.race.make_until_begin.Goals as goal

pub returns-in_default : goal.returns-in_default
returns-in_default c = absurd (c.requires.not_before (subst (λ (k : Graph). Before k c.args.o c.args.t) c.graph-graph.ensures.value (none_of _ _ c.in_default.is c.in_ok-turns.ensures)))

pub returns-then-not-has_stamps : goal.returns-then-not-has_stamps
returns-then-not-has_stamps c = λ enough.
    let x = c.args.subject.now in
    let room = subst (λ (n : ℕ). n + (2 * writings x.graph (footprints x.setting) (serial_order x.graph) + 1) ≤ last_stamp) (sym c.clock.ensures) (enough (disk_of c.args.history.now.world.disk) c.requires.first.first) in
    false≢true (c.if-not-has_stamps.ensures.1 room)

pub start-requires : goal.start-requires
start-requires c =
    let x = c.args.subject.now in
    let room = subst (λ (n : ℕ). n + (2 * writings x.graph (footprints x.setting) (serial_order x.graph) + 1) ≤ last_stamp) c.clock.ensures (c.if-not-has_stamps.ensures.0 refl) in
    let past = subst (λ (k : Graph). IsScheduleWithout k c.args.o c.args.t (reverse c.in-Some.turns.items)) c.graph-graph.ensures.value (MatchOption-at_some _ _ c.in-Some.is c.in_ok-turns.ensures) in
    may_start x.graph x.setting c.args.history.now c.requires.first c.requires.steps c.args.o c.args.t c.in-Some.turns.items c.graph-graph.ensures.graph c.schedules_run.ensures c.serial_reaches_each_once.ensures c.first_is_a_start.ensures past c.requires.recipe room

pub make_but-requires-clause-graph : goal.make_but-requires-clause-graph
make_but-requires-clause-graph c =
    let x = c.args.subject.now in
    c.graph-graph.ensures.value ∙ sym (ap (λ (k : Scene). k.graph) (c.in_ok-start.ensures.scene ∙ c.requires.first.scene))

pub make_but-requires-clause-nodes : goal.make_but-requires-clause-nodes
make_but-requires-clause-nodes c = λ n has.
    let x = c.args.subject.now in
    let turns = c.deref.result.now in
    let found = subst (λ (k : Graph). IsScheduleWithout k c.args.o c.args.t (reverse c.in-Some.turns.items)) c.graph-graph.ensures.value (MatchOption-at_some _ _ c.in-Some.is c.in_ok-turns.ensures) in
    let past = subst (λ (l : List ℕ). IsScheduleWithout x.graph c.args.o c.args.t (reverse l)) (sym c.deref.ensures.value) found in
    subst (λ (k : Graph). n < length k.nodes) (sym c.graph-graph.ensures.value) (turns_are_nodes x.graph c.args.o c.args.t turns c.graph-graph.ensures.graph past n has)

pub make_but-requires-clause-legal : goal.make_but-requires-clause-legal
make_but-requires-clause-legal c =
    let x = c.args.subject.now in
    let room = subst (λ (n : ℕ). n + (2 * writings x.graph (footprints x.setting) (serial_order x.graph) + 1) ≤ last_stamp) c.clock.ensures (c.if-not-has_stamps.ensures.0 refl) in
    let turns = c.deref.result.now in
    let found = subst (λ (k : Graph). IsScheduleWithout k c.args.o c.args.t (reverse c.in-Some.turns.items)) c.graph-graph.ensures.value (MatchOption-at_some _ _ c.in-Some.is c.in_ok-turns.ensures) in
    let past = subst (λ (l : List ℕ). IsScheduleWithout x.graph c.args.o c.args.t (reverse l)) (sym c.deref.ensures.value) found in
    may_make x.graph x.setting c.args.history.now c.requires.first c.requires.steps c.args.o c.args.t turns
    c.graph-graph.ensures.graph c.schedules_run.ensures c.serial_reaches_each_once.ensures
    c.first_is_a_start.ensures past c.requires.recipe room c.start.new.self c.in_ok-start.ensures
    c.new.result c.new.ensures

pub begin-requires-clause-node : goal.begin-requires-clause-node
begin-requires-clause-node c =
    let x = c.args.subject.now in
    let scene = c.in_ok-make_but.ensures.goes_on.scene ∙ (c.in_ok-start.ensures.scene ∙ c.requires.first.scene) in
    subst (λ (k : Scene). c.args.t < length k.graph.nodes) (sym scene) c.requires.node

pub begin-requires-clause-legal : goal.begin-requires-clause-legal
begin-requires-clause-legal c =
    let x = c.args.subject.now in
    let room = subst (λ (n : ℕ). n + (2 * writings x.graph (footprints x.setting) (serial_order x.graph) + 1) ≤ last_stamp) c.clock.ensures (c.if-not-has_stamps.ensures.0 refl) in
    let turns = c.deref.result.now in
    let found = subst (λ (k : Graph). IsScheduleWithout k c.args.o c.args.t (reverse c.in-Some.turns.items)) c.graph-graph.ensures.value (MatchOption-at_some _ _ c.in-Some.is c.in_ok-turns.ensures) in
    let past = subst (λ (l : List ℕ). IsScheduleWithout x.graph c.args.o c.args.t (reverse l)) (sym c.deref.ensures.value) found in
    may_begin x.graph x.setting c.args.history.now c.requires.first c.requires.steps c.args.o c.args.t turns
    c.graph-graph.ensures.graph c.schedules_run.ensures c.serial_reaches_each_once.ensures
    c.first_is_a_start.ensures past c.requires.recipe room c.start.new.self c.in_ok-start.ensures
    c.new.result c.new.ensures c.make_but.new.history c.in_ok-make_but.ensures

pub returns : goal.returns
returns c =
    let x = c.args.subject.now in
    let room = subst (λ (n : ℕ). n + (2 * writings x.graph (footprints x.setting) (serial_order x.graph) + 1) ≤ last_stamp) c.clock.ensures (c.if-not-has_stamps.ensures.0 refl) in
    let turns = c.deref.result.now in
    let found = subst (λ (k : Graph). IsScheduleWithout k c.args.o c.args.t (reverse c.in-Some.turns.items)) c.graph-graph.ensures.value (MatchOption-at_some _ _ c.in-Some.is c.in_ok-turns.ensures) in
    let past = subst (λ (l : List ℕ). IsScheduleWithout x.graph c.args.o c.args.t (reverse l)) (sym c.deref.ensures.value) found in
    ends_in_race x.graph x.setting c.args.history.now c.requires.first c.requires.steps c.args.o c.args.t
    turns c.graph-graph.ensures.graph c.schedules_run.ensures c.serial_reaches_each_once.ensures
    c.first_is_a_start.ensures past c.requires.recipe room c.start.new.self c.in_ok-start.ensures
    c.new.result c.new.ensures c.make_but.new.history c.in_ok-make_but.ensures c.begin.new.self
    c.in_ok-begin.ensures
