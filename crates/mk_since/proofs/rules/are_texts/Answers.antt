use Rattle.std.proofs.Common.{arith, map}
use Rattle.std.specs.String.{string_bytes}
use Rattle.std.proofs.lemmas.List.{length-map}
use Rattle.mk_subject.proofs.Decided.{lines_differ}
use Rattle.mk_since.proofs.rules.are_texts.Goals as goal

pub returns-then-lines-texts : goal.returns-then-lines-texts
returns-then-lines-texts c = lines_differ (map (λ line. line.items) c.args.lines.now) (map string_bytes c.args.texts.now) (λ same. absurd (omega (arith, length-map c.args.texts.now string_bytes, length-map c.args.lines.now (λ line. line.items))))
