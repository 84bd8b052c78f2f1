use Rattle.std.proofs.Common.{◌≡◌, ◌<◌, ◌++◌, ◌∷◌, [], ℕ, List, Vec, length, get_or, arith, ap, sym, ◌∙◌}
use Rattle.std.specs.declared.alloc.Global.{Global}
use Rattle.std.proofs.lemmas.List.{length-set}
use Rattle.mk_lemmas.proofs.Members.{Has-get_or}
use Rattle.mk_graph.specs.Progress.{row}
use Rattle.mk_graph_ready.proofs.Users.{row_at, adds}
use Rattle.mk_graph_ready.proofs.rows.add_user.Goals as goal

pub index_mut-requires : goal.index_mut-requires
index_mut-requires c =
    let low = c.requires _ (Has-get_or c.args.numbers.now c.loop-number.number-index 0 c.loop-number-test.true) in
    let many = c.loop-number.invariant.many in
    omega arith

pub loop-number-preserved : goal.loop-number-preserved
loop-number-preserved c =
    let rows = c.loop-number.rows.items in
    let k = get_or c.args.numbers.now c.loop-number.number-index 0 in
    let few = c.requires k (Has-get_or c.args.numbers.now c.loop-number.number-index 0 c.loop-number-test.true) in
    let many = c.loop-number.invariant.many in
    let low : k < length rows = omega arith in
    let was : c.index_mut.result.now.items ≡ row rows k = ap (λ (r : Vec ℕ Global). r.items) c.index_mut.ensures.value ∙ sym (row_at rows k c.index_mut.result.now low) in
    record {
      many = omega (arith, length-set {A = Vec ℕ Global});
      left = adds c.args.rows.now.items rows c.args.numbers.now c.loop-number.number-index c.args.node c.push.new.self c.loop-number-test.true low (c.in_ok-push.ensures.items ∙ ap (λ (l : List ℕ). l ++ c.args.node ∷ []) was) c.loop-number.invariant.left;
    }
