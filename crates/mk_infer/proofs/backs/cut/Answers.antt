use Rattle.std.proofs.Common.{◌≡◌, ℕ, ◌-◌, Some, None, take, ap, subst, sym, ◌∙◌, arith, List}
use Rattle.std.proofs.lemmas.Str.Pattern.{rfind_char}
use Rattle.mk_infer.specs.Table.{IsCut}
use Rattle.mk_infer.proofs.LastDots.{IsLastDot, one_last}
use Rattle.mk_infer.proofs.Sources.{cut_nowhere, cut_there_is}
use Rattle.mk_infer.proofs.backs.cut.Goals as goal
use Rattle.mk_infer.proofs.backs.cut.Goals.{in_default-via-in-Some+else-at-gt0, in_default-via-in_default}

pub returns-in-Some-clause-parts : goal.returns-in-Some-clause-parts
returns-in-Some-clause-parts c =
    let name = c.args.name.now in
    let place = c.in-Some.at in
    let found = rfind_char 46 name (Some place) c.in-Some.ensures.cases (omega arith) in
    let last : IsLastDot name place = record { within = found.0; dot = found.1; after = found.2 } in
    let back : place - 0 ≡ place = omega arith in
    let front : c.range.result.now ≡ take place name = c.range.ensures.value ∙ ap (λ n. take n name) back in
    subst (λ (x : List ℕ). IsCut name x c.range_from.result.now) (sym front) (subst (λ (x : List ℕ). IsCut name (take place name) x) (sym c.range_from.ensures.value) (cut_there_is name place last c.if-at-gt0.true))

pub returns-in_default-clause-parts : goal.returns-in_default-clause-parts
returns-in_default-clause-parts c =
    let name = c.args.name.now in
    cut_nowhere name (λ place last some. elim c.in_default.branch [
      | in_default-via-in-Some+else-at-gt0 w ↦
          let found = rfind_char 46 name (Some w.in-Some.at) w.in-Some.ensures.cases (omega arith) in
          let other : IsLastDot name w.in-Some.at = record { within = found.0; dot = found.1; after = found.2 } in
          let same : place ≡ w.in-Some.at = one_last name place w.in-Some.at last other in
          absurd (omega arith)
      | in_default-via-in_default w ↦ rfind_char 46 name None w.in_default.ensures.cases (omega arith) place last.within last.dot
    ])
