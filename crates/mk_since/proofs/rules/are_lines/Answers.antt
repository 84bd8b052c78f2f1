use Rattle.std.proofs.Common.{arith, map}
use Rattle.std.proofs.lemmas.List.{length-map}
use Rattle.mk_subject.proofs.Decided.{lines_differ}
use Rattle.mk_since.proofs.rules.are_lines.Goals as goal

pub returns-then-lines-own : goal.returns-then-lines-own
returns-then-lines-own c = lines_differ (map (λ line. line.items) c.args.lines.now) (map (λ line. line.items) c.args.own.now) (λ same. absurd (omega (arith, length-map c.args.own.now (λ line. line.items), length-map c.args.lines.now (λ line. line.items))))
