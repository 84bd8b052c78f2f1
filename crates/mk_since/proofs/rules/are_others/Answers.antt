use Rattle.std.proofs.Common.{map, sym, ◌∙◌}
use Rattle.std.specs.String.{string_bytes}
use Rattle.mk_since.proofs.Deciding.{equal_are_same}
use Rattle.mk_since.proofs.rules.are_others.Goals as goal

pub returns-then-are_equal : goal.returns-then-are_equal
returns-then-are_equal c =
    sym (equal_are_same (map string_bytes c.args.names.now) (map string_bytes c.args.others.now) (sym c.are_equal.ensures ∙ c.if-are_equal.true))
