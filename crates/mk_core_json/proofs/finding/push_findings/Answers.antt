use Rattle.std.proofs.Common.{◌∙◌, ◌≤◌, ◌+◌, ◌++◌, List, ap, arith, length, string_bytes, sym}
use Rattle.std.specs.Prelude.{min}
use Rattle.serde_json.specs.Data.{Data}
use Rattle.serde_json.specs.View.{items_of}
use Rattle.serde_json.specs.Written.{items_text}
use Rattle.mk_core_json.proofs.FindingLists.{none_left}
use Rattle.mk_core_json.proofs.finding.push_findings.Goals as goal

pub returns : goal.returns
returns c =
    let found = c.args.found.now in
    let groups = c.args.groups.now in
    let place = c.loop-place.place in
    let past : min (length found) (length groups) ≤ place = omega (arith, c.min-place-end.ensures, c.loop-place-test.false) in
    let none = none_left (place + 1) place found groups past in
    c.in_ok-push_str.ensures.bytes
    ∙ (sym (ap (λ (values : List Data). string_bytes c.loop-place.text ++ items_text c.loop-place.later (items_of values)) none) ∙ c.loop-place.invariant)
