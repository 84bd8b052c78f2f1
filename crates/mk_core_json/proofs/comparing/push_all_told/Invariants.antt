use Rattle.std.proofs.Common.{◌≡◌, ◌++◌, false, drop, map, string_bytes}
use Rattle.serde_json.specs.View.{items_of}
use Rattle.serde_json.specs.Written.{items_text}
use Rattle.mk_core_json.specs.SinceValues.{told_value}
use Rattle.mk_core_json.proofs.comparing.push_all_told.Given as goal

-- the text so far, with that of the findings that are left
abbrev pub invariant-loop-finding : goal.invariant-loop-finding
invariant-loop-finding l =
    string_bytes l.out ++ items_text l.later (items_of (map told_value (drop l.finding-index l.found)))
    ≡ string_bytes l.fn.out ++ items_text false (items_of (map told_value l.found))
