use Rattle.std.proofs.Common.{◌≡◌, ◌++◌, ℕ, List, false, map, ap, ◌∙◌, string_bytes}
use Rattle.serde_json.specs.View.{items_of}
use Rattle.serde_json.specs.Written.{compact_text, items_text}
use Rattle.mk_cert_text.specs.Certificate.{Way, Certificate}
use Rattle.mk_cert_text.specs.Writing.{names_value, way_value}
use Rattle.mk_cert_text.proofs.WrittenTexts.{parts_joined}
use Rattle.mk_cert_text.proofs.writing.certificate_text.Goals as goal

pub returns : goal.returns
returns c =
    let goals : c.certificate.inside.goals ≡ c.args.certificate.now.goals = ap (λ (x : Certificate). x.goals) c.certificate.view_is in
    let ways : c.certificate.inside.ways ≡ c.args.certificate.now.ways = ap (λ (x : Certificate). x.ways) c.certificate.view_is in
    let second = c.in_ok-push_names.ensures ∙ ap (λ (names : List (List ℕ)). string_bytes c.in_ok-text.text ++ compact_text (names_value names)) goals in
    let fourth = c.in_ok-push_ways.ensures ∙ ap (λ (xs : List Way). string_bytes c.push_str.new.self ++ items_text false (items_of (map way_value xs))) ways in
    parts_joined c.args.certificate.now _ _ _ _ _ c.in_ok-text.ensures.ok second c.in_ok-push_str.ensures.bytes fourth c.in_ok-push_str-2.ensures.bytes
