-- The parts of the history are those of the law.
use Rattle.std.proofs.Common.{◌+◌, ◌*◌, ◌≤◌, ℕ, refl, sym, subst}
use Rattle.std.proofs.lemmas.Bool.{false≢true}
use Rattle.mk_graph.specs.Serial.{serial_order}
use Rattle.mk_build.specs.Setting.{writings}
use Rattle.mk_build.specs.World.{last_stamp}
use Rattle.mk_subject.specs.Subject.{footprints}
use Rattle.mk_world.specs.State.{disk_of}
use Rattle.mk_find_evidence.proofs.MakingGoals.{are_shown, ends_stale, may_edit_then, may_make_first, may_make_second}
use Rattle.mk_find_evidence.proofs.stale.make_edit_make.Goals as goal

pub returns-then-not-has_stamps : goal.returns-then-not-has_stamps
returns-then-not-has_stamps c = λ enough.
    let x = c.args.subject.now in
    let room = subst (λ (n : ℕ). n + (2 * writings x.graph (footprints x.setting) (serial_order x.graph) + 1) ≤ last_stamp) (sym c.clock.ensures) (enough (disk_of c.args.history.now.world.disk) c.requires.first.first) in
    false≢true (c.if-not-has_stamps.ensures.1 room)

pub make_all-requires-clause-legal : goal.make_all-requires-clause-legal
make_all-requires-clause-legal c =
    let x = c.args.subject.now in
    let one = c.args.history.now in
    let room = subst (λ (n : ℕ). n + (2 * writings x.graph (footprints x.setting) (serial_order x.graph) + 1) ≤ last_stamp) c.clock.ensures (c.if-not-has_stamps.ensures.0 refl) in
    let shown = are_shown c.first_is_a_start.ensures c.nothing_found_is_sound.ensures
    c.order_of_all_goals.ensures c.stale_is_shown.ensures c.args.subject.now c.graph-graph.ensures.graph
    c.graph-graph.ensures.subject c.requires.nothing c.args.t c.args.file.now c.requires.stale
    (disk_of one.world.disk) c.requires.first.first room in
    may_make_first c.args.subject.now c.args.t c.args.file.now c.args.passed.now c.requires.passed c.new.result c.new.ensures one c.requires.first c.requires.steps shown

pub edit_if_editable-requires-clause-legal : goal.edit_if_editable-requires-clause-legal
edit_if_editable-requires-clause-legal c =
    let x = c.args.subject.now in
    let one = c.args.history.now in
    let room = subst (λ (n : ℕ). n + (2 * writings x.graph (footprints x.setting) (serial_order x.graph) + 1) ≤ last_stamp) c.clock.ensures (c.if-not-has_stamps.ensures.0 refl) in
    let shown = are_shown c.first_is_a_start.ensures c.nothing_found_is_sound.ensures
    c.order_of_all_goals.ensures c.stale_is_shown.ensures c.args.subject.now c.graph-graph.ensures.graph
    c.graph-graph.ensures.subject c.requires.nothing c.args.t c.args.file.now c.requires.stale
    (disk_of one.world.disk) c.requires.first.first room in
    may_edit_then c.args.subject.now c.args.t c.args.file.now c.args.passed.now c.requires.passed c.new.result c.new.ensures one c.requires.first c.requires.steps shown c.make_all.new.history c.in_ok-make_all.ensures

pub make_all-requires-2-clause-legal : goal.make_all-requires-2-clause-legal
make_all-requires-2-clause-legal c =
    let x = c.args.subject.now in
    let one = c.args.history.now in
    let room = subst (λ (n : ℕ). n + (2 * writings x.graph (footprints x.setting) (serial_order x.graph) + 1) ≤ last_stamp) c.clock.ensures (c.if-not-has_stamps.ensures.0 refl) in
    let shown = are_shown c.first_is_a_start.ensures c.nothing_found_is_sound.ensures
    c.order_of_all_goals.ensures c.stale_is_shown.ensures c.args.subject.now c.graph-graph.ensures.graph
    c.graph-graph.ensures.subject c.requires.nothing c.args.t c.args.file.now c.requires.stale
    (disk_of one.world.disk) c.requires.first.first room in
    may_make_second c.args.subject.now c.args.t c.args.file.now c.args.passed.now c.requires.passed c.new.result c.new.ensures one c.requires.first c.requires.steps shown c.make_all.new.history c.in_ok-make_all.ensures c.edit_if_editable.new.history c.in_ok-edit_if_editable.ensures

pub returns : goal.returns
returns c =
    let x = c.args.subject.now in
    let one = c.args.history.now in
    let room = subst (λ (n : ℕ). n + (2 * writings x.graph (footprints x.setting) (serial_order x.graph) + 1) ≤ last_stamp) c.clock.ensures (c.if-not-has_stamps.ensures.0 refl) in
    let shown = are_shown c.first_is_a_start.ensures c.nothing_found_is_sound.ensures
    c.order_of_all_goals.ensures c.stale_is_shown.ensures c.args.subject.now c.graph-graph.ensures.graph
    c.graph-graph.ensures.subject c.requires.nothing c.args.t c.args.file.now c.requires.stale
    (disk_of one.world.disk) c.requires.first.first room in
    ends_stale c.args.subject.now c.args.t c.args.file.now c.args.passed.now c.requires.passed c.new.result
    c.new.ensures one c.requires.first c.requires.steps shown c.make_all.new.history
    c.in_ok-make_all.ensures c.edit_if_editable.new.history c.in_ok-edit_if_editable.ensures
    c.make_all-2.new.history c.in_ok-make_all-2.ensures
