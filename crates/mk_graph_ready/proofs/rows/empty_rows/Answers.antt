use Rattle.std.proofs.Common.{◌≡◌, [], List, ℕ, arith, ap, ◌∙◌, replicate}
use Rattle.mk_graph_ready.proofs.rows.empty_rows.Goals as goal

pub returns : goal.returns
returns c =
    let all : c.loop.counter ≡ c.args.many = omega arith in
    c.loop.invariant ∙ ap (λ (n : ℕ). replicate {A = List ℕ} n []) all
