use Rattle.std.proofs.Common.{◌≡◌, drop}
use Rattle.std.specs.List.{list_all}
use Rattle.mk_repair.specs.Rows.{names_view}
use Rattle.mk_core_json.specs.PlainText.{is_plain}
use Rattle.mk_core_json.proofs.names.are_plain.Given as goal

-- the names that are left decide
abbrev pub invariant-loop-name : goal.invariant-loop-name
invariant-loop-name l =
    list_all (list_all is_plain) (names_view (drop l.name-index l.names))
    ≡ list_all (list_all is_plain) (names_view l.names)
