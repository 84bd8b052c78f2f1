use Rattle.std.proofs.Common.{◌<◌, length, refl, sym, ap, subst, arith}
use Rattle.mk_graph.specs.Graph.{IsGraph}
use Rattle.mk_world.specs.State.{making_of, busy}
use Rattle.mk_world.specs.State as lists
use Rattle.mk_world.specs.Fits.{Fits}
use Rattle.mk_world.proofs.Changes.{finished_fits}
use Rattle.mk_world.proofs.Idle.{missing, idle_low, idle_fewer, passed_more}
use Rattle.mk_world.proofs.Keeping.{first_from, none_from, kept_done}
use Rattle.mk_world.proofs.passing.pass_idle.Goals as goal

pub finish-requires-clause-node : goal.finish-requires-clause-node
finish-requires-clause-node c =
    let scene = c.args.scene.now in
    let m = c.loop-number.making in
    let k = c.loop-number.invariant.kept in
    let is = subst IsGraph k.graph c.in-Some.ensures.graph in
    let first = first_from scene c.can_start_stays.ensures m c.loop-number.readiness k c.in-Some.number c.in-Some.ensures.found in
    rw c.loop-number.invariant.fits.many (idle_low scene m c.in-Some.number is c.loop-number.invariant.fits first)

pub finish-requires-clause-small : goal.finish-requires-clause-small
finish-requires-clause-small c =
    let scene = c.args.scene.now in
    let m = c.loop-number.making in
    let k = c.loop-number.invariant.kept in
    let is = subst IsGraph k.graph c.in-Some.ensures.graph in
    let first = first_from scene c.can_start_stays.ensures m c.loop-number.readiness k c.in-Some.number c.in-Some.ensures.found in
    let low = idle_low scene m c.in-Some.number is c.loop-number.invariant.fits first in
    let few = is.few in
    omega arith

pub mark_done-requires : goal.mark_done-requires
mark_done-requires c =
    let scene = c.args.scene.now in
    let m = c.loop-number.making in
    let k = c.loop-number.invariant.kept in
    let is = subst IsGraph k.graph c.in-Some.ensures.graph in
    let first = first_from scene c.can_start_stays.ensures m c.loop-number.readiness k c.in-Some.number c.in-Some.ensures.found in
    rw k.graph (idle_low scene m c.in-Some.number is c.loop-number.invariant.fits first)

pub loop-number-smaller : goal.loop-number-smaller
loop-number-smaller c =
    let scene = c.args.scene.now in
    let m = c.loop-number.making in
    let k = c.loop-number.invariant.kept in
    let is = subst IsGraph k.graph c.in-Some.ensures.graph in
    let first = first_from scene c.can_start_stays.ensures m c.loop-number.readiness k c.in-Some.number c.in-Some.ensures.found in
    let fewer = idle_fewer scene m c.in-Some.number is c.loop-number.invariant.fits first in
    subst (λ (w : lists.MakeState). missing (length scene.graph.nodes) w.done < missing (length scene.graph.nodes) m.done) (sym c.in_ok-finish.ensures.ok) fewer

pub loop-number-preserved : goal.loop-number-preserved
loop-number-preserved c =
    let scene = c.args.scene.now in
    let m = c.loop-number.making in
    let k = c.loop-number.invariant.kept in
    let is = subst IsGraph k.graph c.in-Some.ensures.graph in
    let first = first_from scene c.can_start_stays.ensures m c.loop-number.readiness k c.in-Some.number c.in-Some.ensures.found in
    let low = idle_low scene m c.in-Some.number is c.loop-number.invariant.fits first in
    record {
      fits = subst (Fits scene) (sym c.in_ok-finish.ensures.ok) (finished_fits scene m c.in-Some.number c.loop-number.invariant.fits low);
      kept = kept_done scene m c.finish.new.self c.loop-number.readiness c.mark_done.new.self c.in-Some.number k c.mark_done.ensures c.in_ok-finish.ensures.ok;
      passes = rw c.in_ok-finish.ensures.ok (passed_more scene c.args.making.now m c.in-Some.number is c.loop-number.invariant.fits first c.loop-number.invariant.passes);
    }

pub returns-in_err-finish-clause-kept : goal.returns-in_err-finish-clause-kept
returns-in_err-finish-clause-kept c = rw c.in_err-finish.ensures.err c.loop-number.invariant.kept

pub returns-in_err-finish-clause-some : goal.returns-in_err-finish-clause-some
returns-in_err-finish-clause-some c =
    let scene = c.args.scene.now in
    λ d. record { nodes = c.loop-number.invariant.passes.0; end = making_of scene c.loop-number.making; passes = c.loop-number.invariant.passes.1; leaves = ap (λ m. busy scene m d) c.in_err-finish.ensures.err }

pub returns-clause-ok : goal.returns-clause-ok
returns-clause-ok c =
    let scene = c.args.scene.now in
    let none = none_from scene c.can_start_stays.ensures c.loop-number.making c.loop-number.readiness c.loop-number.invariant.kept c.in_default.ensures.found in
    λ d. record { nodes = c.loop-number.invariant.passes.0; end = making_of scene c.loop-number.making; passes = c.loop-number.invariant.passes.1; none_left = none; leaves = refl }

pub returns-clause-some : goal.returns-clause-some
returns-clause-some c =
    let scene = c.args.scene.now in
    λ d. record { nodes = c.loop-number.invariant.passes.0; end = making_of scene c.loop-number.making; passes = c.loop-number.invariant.passes.1; leaves = refl }
