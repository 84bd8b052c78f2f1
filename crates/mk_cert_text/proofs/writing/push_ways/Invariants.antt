use Rattle.std.proofs.Common.{◌≡◌, ◌++◌, false, map, drop, string_bytes}
use Rattle.serde_json.specs.View.{items_of}
use Rattle.serde_json.specs.Written.{items_text}
use Rattle.mk_cert_text.specs.Writing.{way_value}
use Rattle.mk_cert_text.proofs.writing.push_ways.Given as goal

-- the text so far, with that of the ways that are left
abbrev pub invariant-loop-place : goal.invariant-loop-place
invariant-loop-place l = string_bytes l.text ++ items_text l.later (items_of (map way_value (drop l.place l.ways))) ≡ string_bytes l.fn.text ++ items_text false (items_of (map way_value l.ways))
