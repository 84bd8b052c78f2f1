-- What is read of a request before any file.
use Rattle.std.specs.Prelude.{ℕ, List, [], Bool, Option, None, Result}
use Rattle.mk_macros.specs.Table.{Macro}
use Rattle.mk_read.specs.declared.fault.ReadFault.{ReadFault}
use Rattle.mk_read.specs.Following.{reader_of}
use Rattle.mk_read.specs.Reading.{Reader, after_default, named, with_operands}
use Rattle.mk_read.specs.Steps.{◌>>=◌}

-- The reader without files.
abbrev pub no_files : Reader
no_files = reader_of [] None

-- The macros before any file is read, or the first fault: of the makefile's name, then of the
-- default text, which has no include lines, then of the macro operands.
abbrev pub request_read : Option (List ℕ) → Bool → List (List ℕ) → Result (List Macro) ReadFault
request_read name defaults operands = do
  file ← named name
  start ← after_default no_files defaults
  with_operands 1 operands start.table
