use Rattle.std.proofs.Common.{arith, map}
use Rattle.std.specs.String.{string_bytes}
use Rattle.std.proofs.lemmas.List.{length-map}
use Rattle.mk_subject.proofs.Decided.{lines_differ}
use Rattle.mk_subject.proofs.node_row.are_lines.Goals as goal

pub returns-then-commands-lines : goal.returns-then-commands-lines
returns-then-commands-lines c = lines_differ (map string_bytes c.args.commands.now) _ (λ same. absurd (omega (arith, length-map c.args.commands.now string_bytes, length-map c.args.lines.now (λ line. line.items))))
