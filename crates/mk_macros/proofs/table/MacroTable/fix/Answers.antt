use Rattle.std.proofs.Common.{◌≡◌, ◌<◌, true, List, ℕ, length, Result, inr, sym, ap, subst, ◌∙◌, arith}
use Rattle.mk_macros.specs.declared.fault.MacroFault.{MacroFault}
use Rattle.mk_macros.specs.Names.{is_macro_name}
use Rattle.mk_macros.specs.Table.{Macro}
use Rattle.mk_macros.specs.Definitions.{set}
use Rattle.mk_macros.specs.Steps.{Gives}
use Rattle.mk_macros.proofs.Operands.{no_operator, operand_is}
use Rattle.mk_macros.proofs.table.MacroTable.fix.Goals as goal

pub returns-then-at-operand-clause-exact : goal.returns-then-at-operand-clause-exact
returns-then-at-operand-clause-exact c = inr (no_operator c.args.self.now c.args.operand.now c.first_place-at.result c.first_place-at.ensures.place c.if-at-operand.true)

pub returns-clause-exact : goal.returns-clause-exact
returns-clause-exact c =
    let below : c.first_place-at.result < length c.args.operand.now = omega arith in
    let good : is_macro_name c.without_blanks-name.result.now ≡ true = sym c.is_macro_name.ensures ∙ c.if-not-is_macro_name.false in
    let same = operand_is c.args.self.now c.args.operand.now c.first_place-at.result c.operator_of-op.result.0
    c.operator_of-op.result.1.now c.without_blanks-name.result.now c.first_place-at.ensures.place below
    c.operator_of-op.ensures.op c.operator_of-op.ensures.name c.without_blanks-name.ensures good in
    let text = ap (λ (t : List ℕ). set c.args.self.now c.without_blanks-name.result.now true c.operator_of-op.result.0 t) c.trimmed.ensures in
    subst (λ (made : Result (List Macro) MacroFault). Gives (λ _. c.set.new.self) c.set.result made) (text ∙ sym same) c.set.ensures.exact
