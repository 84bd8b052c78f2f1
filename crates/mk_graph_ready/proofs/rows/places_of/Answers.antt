use Rattle.std.proofs.Common.{ℕ, arith}
use Rattle.std.proofs.lemmas.List.{length-set}
use Rattle.mk_lemmas.proofs.Members.{Has-get_or}
use Rattle.mk_graph_ready.proofs.Users.{notes}
use Rattle.mk_graph_ready.proofs.rows.places_of.Goals as goal

pub index_mut-requires : goal.index_mut-requires
index_mut-requires c =
    let low = c.requires.low _ (Has-get_or c.args.order.now c.loop-place.place 0 c.loop-place-test.true) in
    let many = c.loop-place.invariant.many in
    omega arith

pub loop-place-preserved : goal.loop-place-preserved
loop-place-preserved c =
    let low = c.requires.low _ (Has-get_or c.args.order.now c.loop-place.place 0 c.loop-place-test.true) in
    let many = c.loop-place.invariant.many in
    record {
      many = omega (arith, length-set {A = ℕ});
      noted = notes c.args.order.now c.loop-place.places.items c.loop-place.place c.requires.distinct c.loop-place-test.true (omega arith) c.loop-place.invariant.noted;
    }
