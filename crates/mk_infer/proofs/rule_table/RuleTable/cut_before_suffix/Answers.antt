use Rattle.std.proofs.Common.{◌≡◌, ℕ, ◌-◌, ◌<◌, List, Some, None, true, length, take, drop, sym, ap, ◌∙◌, arith}
use Rattle.std.specs.List.{list_all}
use Rattle.std.proofs.lemmas.List.{length-drop}
use Rattle.std.proofs.lemmas.Str.Pattern.{rfind_char}
use Rattle.mk_read.specs.Names.{has_name}
use Rattle.mk_read.specs.Reading.{Makefile}
use Rattle.mk_read.specs.Special.{is_suffix}
use Rattle.mk_infer.proofs.LastDots.{IsLastDot, known_there, unknown_there, without_dot}
use Rattle.mk_infer.proofs.rule_table.RuleTable.cut_before_suffix.Goals as goal
use Rattle.mk_infer.proofs.rule_table.RuleTable.cut_before_suffix.Goals.{then-at-eq0-via-then-at-eq0, then-at-eq0-via-else-at-eq0+then-not-contains}

pub returns-in_default : goal.returns-in_default
returns-in_default c =
    let name = c.args.name.now in
    let suffixes = c.args.self.now.suffixes in
    let all : list_all is_suffix suffixes ≡ true = ap (λ (m : Makefile). list_all is_suffix m.suffixes) (sym c.self.view_is) ∙ c.self.invariant.are_suffixes in
    without_dot suffixes all name (rfind_char 46 name None c.in_default.ensures.cases (omega arith))

pub returns-then-at-eq0 : goal.returns-then-at-eq0
returns-then-at-eq0 c =
    let name = c.args.name.now in
    let suffixes = c.args.self.now.suffixes in
    let all : list_all is_suffix suffixes ≡ true = ap (λ (m : Makefile). list_all is_suffix m.suffixes) (sym c.self.view_is) ∙ c.self.invariant.are_suffixes in
    let place = c.in-Some.at in
    let found = rfind_char 46 name (Some place) c.in-Some.ensures.cases (omega arith) in
    let last : IsLastDot name place = record { within = found.0; dot = found.1; after = found.2 } in
    let held : has_name c.self.inside.suffixes (drop place name) ≡ has_name suffixes (drop place name) = c.self.invariant.suffixes_held (drop place name) ∙ ap (λ (m : Makefile). has_name m.suffixes (drop place name)) c.self.view_is in
    unknown_there suffixes all name place last (λ some. elim c.then-at-eq0.branch [
      | then-at-eq0-via-then-at-eq0 w ↦ absurd (omega arith)
      | then-at-eq0-via-else-at-eq0+then-not-contains w ↦
          sym held ∙ (ap (has_name c.self.inside.suffixes) (sym (w.as_bytes.ensures.value ∙ c.range_from-suffix.ensures.value)) ∙ (sym w.contains.ensures ∙ w.if-not-contains.true))
    ])

pub returns : goal.returns
returns c =
    let name = c.args.name.now in
    let suffixes = c.args.self.now.suffixes in
    let all : list_all is_suffix suffixes ≡ true = ap (λ (m : Makefile). list_all is_suffix m.suffixes) (sym c.self.view_is) ∙ c.self.invariant.are_suffixes in
    let place = c.in-Some.at in
    let found = rfind_char 46 name (Some place) c.in-Some.ensures.cases (omega arith) in
    let last : IsLastDot name place = record { within = found.0; dot = found.1; after = found.2 } in
    let held : has_name c.self.inside.suffixes (drop place name) ≡ has_name suffixes (drop place name) = c.self.invariant.suffixes_held (drop place name) ∙ ap (λ (m : Makefile). has_name m.suffixes (drop place name)) c.self.view_is in
    let suffix = c.range_from-suffix.ensures.value in
    let within : place < length name = found.0 in
    let long : length c.range_from-suffix.result.now ≡ length name - place = ap length suffix ∙ length-drop place name in
    let back : place - 0 ≡ length name - length c.range_from-suffix.result.now = omega arith in
    let some : 0 < place = omega arith in
    let known : has_name suffixes (drop place name) ≡ true = sym held ∙ (ap (has_name c.self.inside.suffixes) (sym (c.as_bytes.ensures.value ∙ suffix)) ∙ (sym c.contains.ensures ∙ c.if-not-contains.false)) in
    (c.range.ensures.value ∙ ap (λ n. take n name) back, known_there suffixes all name place last some known ∙ ap (λ (s : List ℕ). Some s) (sym suffix))
