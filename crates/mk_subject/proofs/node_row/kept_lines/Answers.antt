use Rattle.std.proofs.Common.{◌∙◌, map, sym}
use Rattle.std.specs.Option.{option_copied}
use Rattle.mk_subject.proofs.Decided.{lines_recorded, some_mapped}
use Rattle.mk_subject.proofs.node_row.kept_lines.Goals as goal

pub returns-then-not-others : goal.returns-then-not-others
returns-then-not-others c =
    lines_recorded (option_copied c.args.recorded) c.args.others (map (λ line. line.items) c.args.lines.items) (map (λ line. line.items) c.new.result.items) (some_mapped (λ r. r.now) c.args.recorded (sym c.is_some.ensures ∙ c.if-is_some.true)) c.if-not-others.true c.requires
