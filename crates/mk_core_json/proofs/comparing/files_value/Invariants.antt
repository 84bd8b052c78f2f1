use Rattle.std.proofs.Common.{◌≡◌, map, take}
use Rattle.serde_json.specs.Data.{string}
use Rattle.serde_json.specs.View.{view}
use Rattle.mk_core_json.proofs.comparing.files_value.Given as goal

-- the texts so far
abbrev pub invariant-loop-file : goal.invariant-loop-file
invariant-loop-file l = map view l.texts.items ≡ map string (take l.file-index l.files)
