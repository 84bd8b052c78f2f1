-- Results in sequence: the first fault is the result.
use Rattle.std.specs.Prelude.{Bool, true, false, ℕ, List, Result, Ok, Err}
use Rattle.mk_lines.specs.declared.fault.LineFault.{LineFault}
use Rattle.mk_lines.specs.declared.fault.LineFault.TheVariants as line
use Rattle.mk_macros.specs.declared.fault.MacroFault.{MacroFault}
use Rattle.mk_macros.specs.declared.fault.MacroFault.TheVariants as macro
use Rattle.mk_read.specs.declared.fault.KindFault.{KindFault}
use Rattle.mk_read.specs.declared.fault.KindFault.TheVariants as kind
use Rattle.mk_read.specs.declared.fault.Place.{Place}
use Rattle.mk_read.specs.declared.fault.ReadFault.{ReadFault}
use Rattle.mk_read.specs.declared.fault.ReadFault.TheVariants.{Line, Macro, Kind, Memory}
pub use Rattle.mk_lines.specs.Results.{◌>>=◌, seen}
use Rattle.mk_lines.specs.Results as results

-- The fault is out of memory, in one of its forms.
abbrev pub is_out_of_memory : ReadFault → Bool
is_out_of_memory Memory = true
is_out_of_memory (Line file line.Memory) = true
is_out_of_memory (Macro place macro.Memory) = true
is_out_of_memory (Kind place kind.Memory) = true
is_out_of_memory fault = false

-- A fault of a text's lines as one of this file.
abbrev pub in_file : {A : Type 0} → List ℕ → Result A LineFault → Result A ReadFault
in_file file (Ok x) = Ok x
in_file file (Err fault) = Err (Line file fault)

-- A fault of a macro as one at this place.
abbrev pub at_place : {A : Type 0} → Place → Result A MacroFault → Result A ReadFault
at_place place (Ok x) = Ok x
at_place place (Err fault) = Err (Macro place fault)

-- A fault of a line's kind as one at this place.
abbrev pub of_kind : {A : Type 0} → Place → Result A KindFault → Result A ReadFault
of_kind place (Ok x) = Ok x
of_kind place (Err fault) = Err (Kind place fault)

-- The fault is the defined one, or out of memory, which may come at any time.
abbrev pub Fails : {Y : Type 0} → ReadFault → Result Y ReadFault → Type 0
Fails = results.Fails Memory

-- The function returned what is defined, its value seen by the view; or it ran out of memory.
abbrev pub Gives : {X Y : Type 0} → (X → Y) → Result X ReadFault → Result Y ReadFault → Type 0
Gives = results.Gives Memory
