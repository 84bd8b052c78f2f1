use Rattle.std.proofs.Common.{◌≡◌, ◌<◌, ◌≤◌, ◌+◌, List, ℕ, codes, length, Ok, Vec, arith, ap, subst, ◌∙◌}
use Rattle.std.specs.declared.alloc.Global.{Global}
use Rattle.mk_macros.specs.Definitions.{with_operand}
use Rattle.mk_read.specs.Steps.{Fails, at_place}
use Rattle.std.proofs.lemmas.Result.{err_from_is_err_and}
use Rattle.mk_read_parse.proofs.OperandLists.{operand_done, operand_failed, operands_done}
use Rattle.mk_read_parse.proofs.reading.fix_operands.Goals as goal

pub loop-i-preserved : goal.loop-i-preserved
loop-i-preserved c =
    let lt : c.loop-i.i < length c.args.operands.now = omega arith in
    operand_done c.args.operands.now c.loop-i.i _ c.loop-i.macros c.fix_operand.new.macros _
    (subst (λ (operand : List ℕ). at_place (record { file = codes "operand"; line = c.loop-i.i + 1 })
    (with_operand c.loop-i.macros operand) ≡ Ok c.fix_operand.new.macros)
    (c.deref.ensures.value ∙ ap (λ (v : Vec ℕ Global). v.items) c.index-operands-i.is)
    c.in_ok-fix_operand.ensures.exact) c.loop-i.invariant lt

pub returns-in_err-fix_operand-clause-exact : goal.returns-in_err-fix_operand-clause-exact
returns-in_err-fix_operand-clause-exact c =
    let lt : c.loop-i.i < length c.args.operands.now = omega arith in
    let p = err_from_is_err_and c.from_residual.result c.from_residual.ensures.1 in
    rw (p.1, p.2) (operand_failed c.args.operands.now c.loop-i.i _ c.loop-i.macros _ _
    (subst (λ (operand : List ℕ). Fails c.in_err-fix_operand.field-0.0
    (at_place (record { file = codes "operand"; line = c.loop-i.i + 1 })
    (with_operand c.loop-i.macros operand))) (c.deref.ensures.value
    ∙ ap (λ (v : Vec ℕ Global). v.items) c.index-operands-i.is) c.in_err-fix_operand.ensures.exact)
    c.loop-i.invariant lt)

pub returns-clause-exact : goal.returns-clause-exact
returns-clause-exact c =
    let le : length c.args.operands.now ≤ c.loop-i.i = omega arith in
    operands_done c.args.operands.now c.loop-i.i c.loop-i.macros _ c.loop-i.invariant le
