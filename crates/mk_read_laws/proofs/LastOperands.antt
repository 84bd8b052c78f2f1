-- The last operand of a name.
use Rattle.std.proofs.Common.{◌≡◌, ℕ, ◌+◌, false, List, [], ◌∷◌, ◌++◌, Some, Result, Ok, Err, sym, ap, ◌∙◌}
use Rattle.std.specs.List.{list_any}
use Rattle.std.proofs.lemmas.Bool.{or_parts}
use Rattle.mk_macros.specs.declared.fault.MacroFault.{MacroFault}
use Rattle.mk_macros.specs.Definitions.{with_operand}
use Rattle.mk_macros.specs.Laws.{OperandsFix, OperandsLeaveOthers, OperandsWin, operand_name}
use Rattle.mk_macros.specs.Table.{Macro, macro_named}
use Rattle.mk_read.specs.declared.fault.Place.{Place}
use Rattle.mk_read.specs.Reading.{with_operands}
use Rattle.mk_read.specs.RuleLaws.{sets, LastOperandWins}
use Rattle.mk_read.specs.State.{State}
use Rattle.mk_read.specs.Steps.{at_place}
use Rattle.mk_read_laws.proofs.OneLine.{bind_ok, parts_of}
use Rattle.mk_read_laws.proofs.FixedMacros.{operands_win_over_makefiles}

placed_ok : {A : Type 0} (place : Place) (r : Result A MacroFault) (x : A) → at_place place r ≡ Ok x → r ≡ Ok x
placed_ok place (Ok y) x e = let one : y ≡ x = cc in ap (λ z. Ok z) one
placed_ok place (Err fault) x e = absurd cc

-- operands of other names leave what a name means
keeps_operands : OperandsLeaveOthers → (number : ℕ) (operands : List (List ℕ)) (table after : List Macro) (name : List ℕ) → list_any (sets name) operands ≡ false → with_operands number operands table ≡ Ok after → macro_named after name ≡ macro_named table name
unfolding with_operands
keeps_operands leave number [] table after name none e = let one : table ≡ after = cc in ap (λ (t : List Macro). macro_named t name) (sym one)
keeps_operands leave number (operand ∷ operands) table after name none e =
    let parts = or_parts (sets name operand) (list_any (sets name) operands) none in
    let step = bind_ok (at_place _ (with_operand table operand)) (with_operands (number + 1) operands) after e in
    keeps_operands leave (number + 1) operands step.0 after name parts.1 step.2 ∙ leave table operand step.0 name parts.0 (placed_ok _ (with_operand table operand) step.0 step.1)

-- what is left of the operands behind the first ones
behind : (number : ℕ) (before rest : List (List ℕ)) (start table after : List Macro) → with_operands number (before ++ rest) start ≡ Ok after → with_operands number before start ≡ Ok table → (n : ℕ) × (with_operands n rest table ≡ Ok after)
unfolding with_operands
behind number [] rest start table after e is = let one : start ≡ table = cc in (number, sym (ap (with_operands number rest) one) ∙ e)
behind number (operand ∷ before) rest start table after e is =
    let left = bind_ok (at_place _ (with_operand start operand)) (with_operands (number + 1) (before ++ rest)) after e in
    let right = bind_ok (at_place _ (with_operand start operand)) (with_operands (number + 1) before) table is in
    let both : Ok left.0 ≡ Ok right.0 = sym left.1 ∙ right.1 in
    let one : left.0 ≡ right.0 = cc in
    behind (number + 1) before rest right.0 table after (sym (ap (with_operands (number + 1) (before ++ rest)) one) ∙ left.2) right.2

-- the operand itself, and those behind it
from_operand : (number : ℕ) (operand : List ℕ) (operands : List (List ℕ)) (table set after : List Macro) → with_operands number (operand ∷ operands) table ≡ Ok after → with_operand table operand ≡ Ok set → (n : ℕ) × (with_operands n operands set ≡ Ok after)
unfolding with_operands
from_operand number operand operands table set after e is =
    let step = bind_ok (at_place _ (with_operand table operand)) (with_operands (number + 1) operands) after e in
    let both : Ok step.0 ≡ Ok set = sym (placed_ok _ (with_operand table operand) step.0 step.1) ∙ is in
    let one : step.0 ≡ set = cc in
    (number + 1, sym (ap (with_operands (number + 1) operands) one) ∙ step.2)

pub last_operand_wins : OperandsFix → OperandsWin → OperandsLeaveOthers → LastOperandWins
last_operand_wins fix win leave reader file defaults operands m e start before after operand table set starts is first second none =
    let name = operand_name operand in
    let parts = parts_of reader file defaults operands m e in
    let both : Ok parts.start ≡ Ok start = sym parts.starts ∙ starts in
    let same_start : parts.start ≡ start = cc in
    let all : with_operands 1 operands start.table ≡ Ok parts.table = sym (ap (λ (s : State). with_operands 1 operands s.table) same_start) ∙ parts.fixed in
    let rest = behind 1 before (operand ∷ after) start.table table parts.table (sym (ap (λ (os : List (List ℕ)). with_operands 1 os start.table) is) ∙ all) first in
    let last = from_operand rest.0 operand after table set parts.table rest.1 second in
    let fixed = fix table operand set second in
    let stays : macro_named parts.table name ≡ Some fixed.0 = keeps_operands leave last.0 after set parts.table name none last.1 ∙ fixed.1 in
    operands_win_over_makefiles win reader file defaults operands m e start parts.table starts all name fixed.0 stays fixed.2 ∙ sym fixed.1
