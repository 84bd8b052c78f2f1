use Rattle.std.proofs.Common.{◌≡◌, map, take}
use Rattle.serde_json.specs.Data.{string}
use Rattle.serde_json.specs.View.{view}
use Rattle.mk_repair.specs.Rows.{names_view}
use Rattle.mk_core_json.proofs.names.names_value.Given as goal

-- the texts so far
abbrev pub invariant-loop-name : goal.invariant-loop-name
invariant-loop-name l = map view l.texts.items ≡ map string (names_view (take l.name-index l.names))
