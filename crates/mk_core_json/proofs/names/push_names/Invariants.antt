use Rattle.std.proofs.Common.{◌≡◌, ◌++◌, ◌∷◌, [], false, drop, map, string_bytes}
use Rattle.serde_json.specs.Data.{string}
use Rattle.serde_json.specs.View.{items_of}
use Rattle.serde_json.specs.Written.{items_text}
use Rattle.mk_repair.specs.Rows.{names_view}
use Rattle.mk_core_json.proofs.names.push_names.Given as goal

-- the text so far, with that of the names that are left
abbrev pub invariant-loop-name : goal.invariant-loop-name
invariant-loop-name l =
    string_bytes l.out ++ items_text l.later (items_of (map string (names_view (drop l.name-index l.names))))
    ≡ (string_bytes l.fn.out ++ 91 ∷ []) ++ items_text false (items_of (map string (names_view l.names)))
