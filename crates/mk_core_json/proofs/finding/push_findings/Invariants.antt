use Rattle.std.proofs.Common.{◌≡◌, ◌+◌, ◌++◌, false, drop, string_bytes}
use Rattle.serde_json.specs.View.{items_of}
use Rattle.serde_json.specs.Written.{items_text}
use Rattle.mk_core_json.specs.FindingValue.{finding_values}
use Rattle.mk_core_json.proofs.finding.push_findings.Given as goal

-- the text so far, with that of the findings that are left
abbrev pub invariant-loop-place : goal.invariant-loop-place
invariant-loop-place l =
    string_bytes l.text ++ items_text l.later (items_of (finding_values (l.place + 1) (drop l.place l.found) (drop l.place l.groups)))
    ≡ string_bytes l.fn.text ++ items_text false (items_of (finding_values 1 l.found l.groups))
