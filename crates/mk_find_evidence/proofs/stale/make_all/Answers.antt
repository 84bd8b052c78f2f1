use Rattle.std.proofs.Common.{◌∙◌, ap, Result, Ok, Err}
use Rattle.std.specs.Prelude.{OnOk}
use Rattle.std.specs.declared.alloc.AllocError.{AllocError}
use Rattle.mk_graph.specs.Serial.{serial_order}
use Rattle.mk_find_evidence.proofs.MakingGoals.{all_made, may_end, may_make, may_start}
use Rattle.mk_find_evidence.proofs.stale.make_all.Goals as goal

pub start-requires : goal.start-requires
start-requires c =
    may_start c.args.history.now c.requires.idle c.args.passed.now c.args.order.now (c.requires.order ∙ ap serial_order c.requires.graph) c.order_of_all_goals.ensures c.requires.legal

pub make_but-requires-clause-legal : goal.make_but-requires-clause-legal
make_but-requires-clause-legal c =
    may_make c.args.history.now c.requires.idle c.args.passed.now c.args.order.now (c.requires.order ∙ ap serial_order c.requires.graph) c.order_of_all_goals.ensures c.requires.legal c.start.new.self c.in_ok-start.ensures

pub end_make-requires : goal.end_make-requires
end_make-requires c =
    may_end c.args.history.now c.requires.idle c.args.passed.now c.args.order.now (c.requires.order ∙ ap serial_order c.requires.graph) c.order_of_all_goals.ensures c.requires.legal c.start.new.self c.in_ok-start.ensures c.make_but.new.history c.in_ok-make_but.ensures

on_ok : (r : Result (Unit {0}) AllocError) (P Q : Type 0) → (P → Q) → OnOk r P → OnOk r Q
on_ok (Ok u) P Q f h = f h
on_ok (Err e) P Q f h = tt

pub returns : goal.returns
returns c =
    on_ok c.end_make.result _ _ (λ ended. all_made c.args.history.now c.requires.idle c.args.passed.now
    c.args.order.now (c.requires.order ∙ ap serial_order c.requires.graph) c.order_of_all_goals.ensures
    c.requires.legal c.start.new.self c.in_ok-start.ensures c.make_but.new.history
    c.in_ok-make_but.ensures c.end_make.new.self ended) c.end_make.ensures
