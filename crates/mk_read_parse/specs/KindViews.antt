-- What contracts see of the code's parsed lines, and what the functions that parse them return.
use Rattle.std.specs.Prelude.{Result}
use Rattle.std.specs.Option.{option_map}
use Rattle.mk_lines.specs.Results.{Gives}
use Rattle.mk_read.specs.declared.fault.KindFault.{KindFault}
use Rattle.mk_read.specs.declared.fault.KindFault.TheVariants.{Memory}
use Rattle.mk_read.specs.Kinds.{Kind, IncludeLine, AssignmentLine, RuleLine, Comment, Include, Assignment, Rule}
use Rattle.mk_read_parse.specs.declared.kinds.Kind as code
use Rattle.mk_read_parse.specs.declared.kinds.Kind.TheVariants as kinds
use Rattle.mk_read_parse.specs.declared.kinds.IncludeLine as include
use Rattle.mk_read_parse.specs.declared.kinds.AssignmentLine as assignment
use Rattle.mk_read_parse.specs.declared.kinds.RuleLine as rule

-- The include line that an `IncludeLine` of the code stands for.
abbrev pub include_view : include.IncludeLine → IncludeLine
include_view line = record { optional = line.optional; names = line.names.now }

-- The rule line that a `RuleLine` of the code stands for.
abbrev pub rule_view : rule.RuleLine → RuleLine
rule_view line =
    record {
      targets = line.targets.now;
      words = line.words.now;
      command = option_map (λ command. command.now) line.command;
    }

-- The assignment that an `AssignmentLine` of the code stands for.
abbrev pub assignment_view : assignment.AssignmentLine → AssignmentLine
assignment_view line = record { name = line.name.now; op = line.op; value = line.value.now }

-- The kind that a `Kind` of the code stands for.
abbrev pub kind_view : code.Kind → Kind
kind_view kinds.Comment = Comment
kind_view (kinds.Include line) = Include (include_view line)
kind_view (kinds.Assignment line) = Assignment (assignment_view line)
kind_view (kinds.Rule line) = Rule (rule_view line)

-- The function returned what is defined, its value seen by the view; or it ran out of memory.
abbrev pub GivesKind : {X Y : Type 0} → (X → Y) → Result X KindFault → Result Y KindFault → Type 0
GivesKind = Gives Memory
