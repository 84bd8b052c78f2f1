use Rattle.std.proofs.Common.{◌≡◌, ◌++◌, false, drop, string_bytes}
use Rattle.mk_repair.specs.Rows.{names_view}
use Rattle.mk_core_json.specs.PlainText.{put_between}
use Rattle.mk_core_json.proofs.names.push_between.Given as goal

-- the text so far, with that of the names that are left
abbrev pub invariant-loop-name : goal.invariant-loop-name
invariant-loop-name l =
    string_bytes l.out ++ put_between l.between l.later (names_view (drop l.name-index l.names))
    ≡ string_bytes l.fn.out ++ put_between l.between false (names_view l.names)
