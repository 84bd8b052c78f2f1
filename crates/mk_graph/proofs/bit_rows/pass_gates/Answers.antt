-- Each group takes the gate, and the gate takes the group's done rows.
use Rattle.std.proofs.Common.{◌≡◌, ℕ, List, sym, subst, ◌∙◌, arith}
use Rattle.std.specs.Prelude.{◌↔◌}
use Rattle.mk_graph.specs.Membership.{Has}
use Rattle.mk_graph.specs.BitRows.{Lacks, RowLacks}
use Rattle.mk_graph.proofs.Loops.{group_within}
use Rattle.mk_graph.proofs.RowBits.{gate_goes_on, gate_ends}
use Rattle.mk_graph.proofs.bit_rows.pass_gates.Goals as goal
use Rattle.mk_graph.proofs.bit_rows.pass_gates.Goals.{then-place-groups, else-place-groups}

pub meet_rows-requires-clause-rows : goal.meet_rows-requires-clause-rows
meet_rows-requires-clause-rows c n h =
    let room = c.requires.rows n (group_within c.args.groups.now c.loop-place.place c.index-groups-place.result c.deref.result.now c.loop-place-test.true c.index-groups-place.is c.deref.ensures.value n h) in
    omega arith

pub unite_rows-requires-clause-rows : goal.unite_rows-requires-clause-rows
unite_rows-requires-clause-rows c n h = c.requires.rows n (group_within c.args.groups.now c.loop-place.place c.index-groups-place.result c.deref-then-place-groups.result.now c.loop-place-test.true c.index-groups-place.is c.deref-then-place-groups.ensures.value n h)

pub loop-place-preserved : goal.loop-place-preserved
loop-place-preserved c =
    let first = c.args.first.now in
    let stride = c.args.stride in
    let done = RowLacks stride c.args.done.now in
    let groups = c.args.groups.now in
    let place = c.loop-place.place in
    let numbers = c.deref.result.now in
    let gate = c.loop-place.gate in
    elim c.if-place-groups.branch [
      | then-place-groups w ↦ rw w.gate-is
          (let same : w.deref-then-place-groups.result.now ≡ numbers = w.deref-then-place-groups.ensures.value
          ∙ sym c.deref.ensures.value in gate_goes_on groups place c.index-groups-place.result numbers
          c.loop-place-test.true c.index-groups-place.is c.deref.ensures.value done (RowLacks stride first)
          (RowLacks stride c.loop-place.first) (RowLacks stride c.meet_rows.new.words)
          (RowLacks stride first c.args.number) (Lacks gate) c.meet_rows.ensures c.loop-place.invariant
          (Lacks w.unite_rows.new.gate) (subst (λ (l : List ℕ). (o : ℕ) → Lacks w.unite_rows.new.gate o
          ↔ (Lacks gate o × ((m : ℕ) → Has l m → done m o))) same w.unite_rows.ensures))
      | else-place-groups w ↦ rw w.gate-is (gate_ends groups place c.index-groups-place.result numbers
          c.loop-place-test.true c.index-groups-place.is c.deref.ensures.value done (RowLacks stride first)
          (RowLacks stride c.loop-place.first) (RowLacks stride c.meet_rows.new.words)
          (RowLacks stride first c.args.number) (Lacks gate) c.meet_rows.ensures c.loop-place.invariant
          w.if-place-groups.false)
    ]
