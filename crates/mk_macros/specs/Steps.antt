-- Results in sequence: the first fault is the result.
use Rattle.std.specs.Prelude.{Result}
use Rattle.mk_macros.specs.declared.fault.MacroFault.{MacroFault}
use Rattle.mk_macros.specs.declared.fault.MacroFault.TheVariants.{Memory}
pub use Rattle.mk_lines.specs.Results.{◌>>=◌}
use Rattle.mk_lines.specs.Results as results

-- The function returned what is defined, its value seen by the view; or it ran out of memory.
abbrev pub Gives : {X Y : Type 0} → (X → Y) → Result X MacroFault → Result Y MacroFault → Type 0
Gives = results.Gives Memory
