use Rattle.std.proofs.Common.{◌∙◌, ◌++◌, List, ℕ, ap, string_bytes}
use Rattle.std.proofs.lemmas.Result.{on_ok_weaker}
use Rattle.mk_repair.specs.Rows.{names_view}
use Rattle.mk_core_json.proofs.Appended.{on_ok_if}
use Rattle.mk_core_json.proofs.PlainFindings.{number_joined, plain_joined}
use Rattle.mk_core_json.proofs.finding.push_plain.Goals as goal

pub returns : goal.returns
returns c =
    let group = number_joined _ _ _ _ c.args.numbers.group c.in_ok-push_str.ensures.bytes c.in_ok-push_number.ensures in
    let key = c.in_ok-push_str-2.ensures.bytes ∙ ap (λ (text : List ℕ). string_bytes c.push_number.new.text ++ text) c.key_of.ensures in
    let number = number_joined _ _ _ _ c.args.numbers.own c.in_ok-push_str-3.ensures.bytes c.in_ok-push_number-2.ensures in
    let line = c.in_ok-push_str-4.ensures.bytes ∙ ap (λ (text : List ℕ). string_bytes c.push_number-2.new.text ++ text) c.line_of.ensures in
    on_ok_weaker c.push_str-5.result (λ is.
    plain_joined c.args.numbers.own c.args.numbers.group c.args.finding.now (names_view c.args.names.now) (string_bytes c.args.out.now) _ _ _ _ _ _ _ c.requires.names c.requires.plain
    group key c.in_ok-push_between.ensures number line c.in_ok-push_between-2.ensures is) (on_ok_if c.push_str-5.result _ _ _ c.push_str-5.ensures.bytes)
