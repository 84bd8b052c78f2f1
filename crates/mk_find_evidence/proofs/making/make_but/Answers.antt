use Rattle.std.proofs.Common.{◌≡◌, ◌<◌, length, get_or, true, false, refl, sym, ap, ◌∙◌, subst, ◌⊎◌}
use Rattle.mk_lemmas.proofs.Members.{Has-get_or}
use Rattle.mk_graph.specs.Graph.{Graph, node}
use Rattle.mk_graph.specs.Membership.{Has}
use Rattle.mk_world.specs.State.{Scene}
use Rattle.mk_find_evidence.proofs.Texts.{next_number, no_number}
use Rattle.mk_find_evidence.proofs.Histories.{all_unmade, pass_may, pass_taken, run_may, run_taken, none_unmade}
use Rattle.mk_find_evidence.proofs.making.make_but.Goals as goal
use Rattle.mk_find_evidence.proofs.making.make_but.Goals.{then-is_to_run+in_ok-run, else-is_to_run+in_ok-pass}

pub loop-number-init : goal.loop-number-init
loop-number-init c = all_unmade _ _ _ c.requires.legal

pub is_to_run-requires : goal.is_to_run-requires
is_to_run-requires c = c.requires.nodes _ (Has-get_or c.args.order.now c.loop-number.number-index 0 c.loop-number-test.true)

pub run-requires-clause-node : goal.run-requires-clause-node
run-requires-clause-node c =
    let same = c.requires.graph ∙ ap (λ (k : Scene). k.graph) (sym c.loop-number.invariant.scene) in
    subst (λ (k : Graph). get_or c.args.order.now c.loop-number.number-index 0 < length k.nodes) same (c.requires.nodes _ (Has-get_or c.args.order.now c.loop-number.number-index 0 c.loop-number-test.true))

pub run-requires-clause-legal : goal.run-requires-clause-legal
run-requires-clause-legal c =
    let n = get_or c.args.order.now c.loop-number.number-index 0 in
    let same = c.requires.graph ∙ ap (λ (k : Scene). k.graph) (sym c.loop-number.invariant.scene) in
    let recipe = subst (λ (k : Graph). (node k n).recipe ≡ true) same c.if-is_to_run.ensures.0 in
    run_may _ _ _ _ _ _ n c.loop-number.invariant (next_number c.args.order.now c.loop-number.number-index 0 n c.loop-number-test.true refl) recipe c.if-is_to_run.ensures.1

pub pass-requires-clause-node : goal.pass-requires-clause-node
pass-requires-clause-node c =
    let same = c.requires.graph ∙ ap (λ (k : Scene). k.graph) (sym c.loop-number.invariant.scene) in
    subst (λ (k : Graph). get_or c.args.order.now c.loop-number.number-index 0 < length k.nodes) same (c.requires.nodes _ (Has-get_or c.args.order.now c.loop-number.number-index 0 c.loop-number-test.true))

pub pass-requires-clause-legal : goal.pass-requires-clause-legal
pass-requires-clause-legal c =
    let n = get_or c.args.order.now c.loop-number.number-index 0 in
    let same = c.requires.graph ∙ ap (λ (k : Scene). k.graph) (sym c.loop-number.invariant.scene) in
    let why = subst (λ (k : Graph). ((node k n).recipe ≡ false) ⊎ Has c.args.passed.now n) same c.if-is_to_run.ensures in
    pass_may _ _ _ _ _ _ n c.loop-number.invariant (next_number c.args.order.now c.loop-number.number-index 0 n c.loop-number-test.true refl) why

pub loop-number-preserved : goal.loop-number-preserved
loop-number-preserved c =
    let n = get_or c.args.order.now c.loop-number.number-index 0 in
    let same = c.requires.graph ∙ ap (λ (k : Scene). k.graph) (sym c.loop-number.invariant.scene) in
    let next = next_number c.args.order.now c.loop-number.number-index 0 n c.loop-number-test.true refl in
    elim c.if-is_to_run.branch [
      | then-is_to_run+in_ok-run w ↦
          let recipe = subst (λ (k : Graph). (node k n).recipe ≡ true) same w.if-is_to_run.ensures.0 in
          rw w.history-is (run_taken _ _ _ _ _ _ _ n c.loop-number.invariant next recipe w.if-is_to_run.ensures.1 w.in_ok-run.ensures)
      | else-is_to_run+in_ok-pass w ↦
          let why = subst (λ (k : Graph). ((node k n).recipe ≡ false) ⊎ Has c.args.passed.now n) same w.if-is_to_run.ensures in
          rw w.history-is (pass_taken _ _ _ _ _ _ _ n c.loop-number.invariant next why w.in_ok-pass.ensures)
    ]

pub returns : goal.returns
returns c = none_unmade _ _ _ _ _ c.loop-number.invariant (no_number c.args.order.now c.loop-number.number-index c.loop-number-test.false)
