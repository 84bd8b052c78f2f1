-- The kinds of plain lines.
use Rattle.std.specs.Prelude.{ℕ, suc, ◌==◌, Bool, true, false, List, length, take, drop, codes, slice_index, ◌||◌, Option, None, Some, Result, Ok, Err, if◌then◌else◌}
use Rattle.std.specs.List.{before_first, after_first}
use Rattle.std.specs.Str.{bytes_eq}
use Rattle.mk_lines.specs.Bytes.{is_blank, trimmed, begins_with}
use Rattle.mk_lines.specs.References.{first_outside}
use Rattle.mk_lines.specs.RuleLines.{is_decisive}
use Rattle.mk_macros.specs.declared.op.Op.{Op}
use Rattle.mk_macros.specs.declared.op.Op.TheVariants.{Delay, Now, Double, IfUnset, Append}
use Rattle.mk_macros.specs.Definitions.{without_blanks}
use Rattle.mk_macros.specs.Substitution.{ends_with, without_end}
use Rattle.mk_read.specs.declared.fault.KindFault.{KindFault}
use Rattle.mk_read.specs.declared.fault.KindFault.TheVariants.{ShellAssign, ColonAssign, DoubleColon, TargetMacro, NotALine}

-- An include line: whether missing files are skipped, and the text with the names of the files.
pub record IncludeLine : Type 0 where
  pub optional : Bool
  pub names : List ℕ

-- An assignment: the text with the name, the operator, and the assigned text.
pub record AssignmentLine : Type 0 where
  pub name : List ℕ
  pub op : Op
  pub value : List ℕ

-- A rule line: the text with the targets, the text with the prerequisites, and the command after
-- the `;`, if there is one.
pub record RuleLine : Type 0 where
  pub targets : List ℕ
  pub words : List ℕ
  pub command : Option (List ℕ)

-- What a plain line is: a comment line, an include line, an assignment or a rule line.
pub data Kind : Type 0 where
  Comment : Kind
  Include : IncludeLine → Kind
  Assignment : AssignmentLine → Kind
  Rule : RuleLine → Kind

-- The line as an include line, where its first word is `include` or `-include`.
abbrev pub include_line : List ℕ → Option IncludeLine
include_line line =
    if bytes_eq (before_first is_blank line)
    (codes "include") then Some (record { optional = false; names = after_first is_blank line })
    else (if bytes_eq (before_first is_blank line)
    (codes "-include") then Some (record { optional = true; names = after_first is_blank line })
    else None)

-- An assignment without the blanks around its operator; blanks at the end of the assigned text
-- stay.
abbrev pub assigned : List ℕ → Op → List ℕ → Kind
assigned name op value =
    Assignment (record { name = without_blanks name; op = op; value = trimmed value })

-- An assignment with `=`, `?=` or `+=`, by the byte before the `=`; `ShellAssign` (21) for `!=`.
abbrev pub assignment_line : List ℕ → List ℕ → Result Kind KindFault
assignment_line before value =
    if ends_with (codes "!") before then Err ShellAssign
    else (if ends_with (codes "?") before then Ok (assigned (without_end 1 before) IfUnset value)
    else (if ends_with (codes "+") before then Ok (assigned (without_end 1 before) Append value)
    else Ok (assigned before Delay value)))

-- A rule line, the text after its colon split at the position of the first `=` or `;` outside
-- references: `TargetMacro` (24) for `=`; the text after `;` is a command.
abbrev pub words_and_command : List ℕ → List ℕ → Option ℕ → Result RuleLine KindFault
words_and_command targets rest None =
    Ok (record { targets = targets; words = rest; command = None })
words_and_command targets rest (Some at) =
    if slice_index rest at == 61 then Err TargetMacro
    else Ok (record {
      targets = targets;
      words = take at rest;
      command = Some (trimmed (drop (suc at) rest));
    })

-- The byte is `=` or `;`.
abbrev pub is_end_of_words : ℕ → Bool
is_end_of_words b = b == 61 || b == 59

-- The rule line, or `NotALine` (25) where it has no text before its colon.
abbrev pub with_targets : Result RuleLine KindFault → Result Kind KindFault
with_targets (Err fault) = Err fault
with_targets (Ok rule) = if length rule.targets == 0 then Err NotALine else Ok (Rule rule)

-- The rule line with these texts before and after its colon, or its fault.
abbrev pub rule_line : List ℕ → List ℕ → Result Kind KindFault
rule_line targets rest =
    with_targets (words_and_command targets rest (first_outside is_end_of_words rest))

-- The kind of a line, from the text before the first `=`, `:` or `;` outside references, and from
-- what begins there.
abbrev pub by_parts : List ℕ → List ℕ → Result Kind KindFault
by_parts before from =
    if begins_with (codes "=") from then assignment_line before (drop 1 from)
    else (if begins_with (codes ":::=") from then Ok (assigned before Double (drop 4 from))
    else (if begins_with (codes "::=") from then Ok (assigned before Now (drop 3 from))
    else (if begins_with (codes ":=") from then Err ColonAssign
    else (if begins_with (codes "::") from then Err DoubleColon
    else (if begins_with (codes ":") from then rule_line before (drop 1 from)
    else Err NotALine)))))

-- The kind of a line, from the position of the first `=`, `:` or `;` outside references; `NotALine`
-- (25) without one.
abbrev pub by_byte : List ℕ → Option ℕ → Result Kind KindFault
by_byte line None = Err NotALine
by_byte line (Some at) = by_parts (take at line) (drop at line)

-- The kind of a line that isn't empty: an include line, else by the first of `=`, `:`, `;` outside
-- references.
abbrev pub by_word : List ℕ → Option IncludeLine → Result Kind KindFault
by_word line (Some include) = Ok (Include include)
by_word line None = by_byte line (first_outside is_decisive line)

-- The kind of a line without its leading blanks; an empty one is a comment line.
abbrev pub of_trimmed : List ℕ → Result Kind KindFault
of_trimmed line = if length line == 0 then Ok Comment else by_word line (include_line line)

-- The kind of a plain line whose comment has been removed, or the fault of a line that has none.
unfoldable pub kind_of : List ℕ → Result Kind KindFault
kind_of text = of_trimmed (trimmed text)
