use Rattle.std.proofs.Common.{arith, map}
use Rattle.std.specs.String.{string_bytes}
use Rattle.std.proofs.lemmas.List.{length-map}
use Rattle.mk_subject.proofs.Decided.{lines_differ}
use Rattle.mk_since.proofs.rules.are_equal.Goals as goal

pub returns-then-names-others : goal.returns-then-names-others
returns-then-names-others c = lines_differ (map string_bytes c.args.names.now) (map string_bytes c.args.others.now) (λ same. absurd (omega (arith, length-map c.args.others.now string_bytes, length-map c.args.names.now string_bytes)))
