-- Assignments.
use Rattle.std.proofs.Common.{◌≡◌, Result, Ok, Err, None, refl}
use Rattle.mk_macros.specs.Expansion.{Expanded, expansion}
use Rattle.mk_macros.specs.declared.fault.MacroFault.{MacroFault}
use Rattle.mk_macros.specs.Definitions.{defined, without_blanks}
use Rattle.mk_read.specs.declared.fault.Place.{Place}
use Rattle.mk_read.specs.Kinds.{AssignmentLine}
use Rattle.mk_read.specs.Rules.{assignment}
use Rattle.mk_read.specs.State.{State, parted}
use Rattle.mk_read.specs.Steps.{◌>>=◌, at_place}
use Rattle.mk_read_parse.specs.Views.{assigned, expanded_text}

-- by the text that the name expands to
pub by_text : (place : Place) (state : State) (line : AssignmentLine) → assignment place state line ≡ (expanded_text place state.table line.name >>= assigned place state line)
unfolding assignment assigned
by_text place state line = by (expansion state.table None line.name)
  where
    by : (r : Result Expanded MacroFault) → (at_place place r >>= λ name. at_place place
        (defined state.table (without_blanks name.text) line.op line.value) >>= λ table. Ok
        (record (parted state) { table = table })) ≡ ((at_place place r >>= λ expanded. Ok expanded.text) >>=
        assigned place state line)
    by (Ok name) = refl
    by (Err fault) = refl
