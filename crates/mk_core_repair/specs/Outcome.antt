-- What comes of mending a makefile.
use Rattle.std.specs.Prelude.{ℕ, List, Result}
use Rattle.std.specs.String.{string_bytes}
use Rattle.mk_find.specs.declared.finding.Finding.{Finding}
use Rattle.mk_core_text.specs.declared.fault.Fault.{Fault}
use Rattle.mk_core_repair.specs.declared.outcome.Stop.{Stop}
use Rattle.mk_core_repair.specs.declared.outcome.Stop.TheVariants.{NoMore}
use Rattle.mk_core_repair.specs.declared.outcome.Repair.{Repair}
use Rattle.mk_core_repair.specs.declared.outcome.Repair.TheVariants as repairs
use Rattle.mk_core_repair.specs.declared.outcome.Part as declared
use Rattle.mk_core_repair.specs.declared.outcome.Part.TheVariants as parts
use Rattle.mk_core_repair.specs.declared.outcome.Why.{Why}
use Rattle.mk_core_repair.specs.declared.outcome.Why.TheVariants as whys

-- What comes of the lines for those findings that give some: none gives one; or this text has these
-- lines, and with it at the makefile's end `check` has these findings; or with these lines `check`
-- refuses the makefile; or the makefile would be too long with the lines.
pub data Part : Type 0 where
  no_lines : Part
  taken : (lines text : List ℕ) → (left : List Finding) → Part
  refused_lines : (lines : List ℕ) → Fault → Part
  long_lines : Part

-- Why nothing mends a makefile: a finding gives no word, for this reason, and this comes of the
-- lines of the others; or the makefile would be too long with the lines; or these names form a
-- cycle; or these lines were tried last, `check` then has these findings or this fault, and for
-- this reason no further ones were tried.
pub data Reason : Type 0 where
  untried : (why : List ℕ) → Part → Reason
  too_long : Reason
  cycle : (names : List (List ℕ)) → Reason
  tried : (lines : List ℕ) → Result (List Finding) Fault → Stop → Reason

-- The reason, where for this reason no further lines were tried.
abbrev pub stopped : Stop → Reason → Reason
stopped stop (untried why part) = untried why part
stopped stop too_long = too_long
stopped stop (cycle names) = cycle names
stopped stop (tried lines after other) = tried lines after stop

-- These lines were tried last, and no further ones are known.
abbrev pub tried_all : List ℕ → Result (List Finding) Fault → Reason
tried_all lines after = tried lines after NoMore

-- The makefile is right; or it is mended by this text; or it has these findings and isn't mended.
pub data Outcome : Type 0 where
  right : Outcome
  mended : (text : List ℕ) → Outcome
  unmended : (found : List Finding) → Reason → Outcome

-- What comes of the lines, as the code has it.
abbrev pub part_view : declared.Part → Part
part_view parts.NoLines = no_lines
part_view (parts.Taken lines text left) = taken (string_bytes lines) text.items left
part_view (parts.Refused lines fault) = refused_lines (string_bytes lines) fault
part_view parts.TooLong = long_lines

-- The reason that the code gives.
abbrev pub reason_of : Why → Reason
reason_of (whys.Untried why part) = untried (string_bytes why) (part_view part)
reason_of whys.TooLong = too_long
reason_of (whys.Cycle names) = cycle names
reason_of (whys.Tried lines after stop) = tried (string_bytes lines) after stop

-- The outcome that the code returns.
abbrev pub outcome_of : Repair → Outcome
outcome_of repairs.Right = right
outcome_of (repairs.Mended text) = mended text.items
outcome_of (repairs.Unmended found why) = unmended found (reason_of why)
