-- Results of lower crates as results of a request.
use Rattle.std.specs.Prelude.{Result, Ok, Err}
use Rattle.mk_core_text.specs.declared.fault.Fault.{Fault}
pub use Rattle.mk_lines.specs.Results.{◌>>=◌, seen}
pub use Rattle.mk_core_text.specs.Faults.{is_out_of_memory, of_certificate, of_foot, of_infer, of_plan, of_read, of_verify}

-- The result, with its fault as one of a request.
abbrev pub as_fault : {A E : Type 0} → (E → Fault) → Result A E → Result A Fault
as_fault named (Ok x) = Ok x
as_fault named (Err fault) = Err (named fault)
