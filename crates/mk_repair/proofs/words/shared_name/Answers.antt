use Rattle.std.proofs.Common.{◌≡◌, ◌∙◌, sym}
use Rattle.std.specs.Rc.{rc_str_bytes}
use Rattle.std.specs.Str.{bytes_eq}
use Rattle.std.proofs.lemmas.Result.{MatchResult-weaker}
use Rattle.std.proofs.lemmas.Slice.Eq.{bytes_eq-Decides}
use Rattle.mk_lemmas.proofs.Lists.{find-passes}
use Rattle.mk_repair.proofs.words.shared_name.Goals as goal

pub returns-in-Some : goal.returns-in-Some
returns-in-Some c =
    let passes = find-passes (λ name. bytes_eq c.args.text.now (rc_str_bytes name)) c.args.names.now.keys c.in-Some.name.now (sym c.in-Some.ensures.key) in
    let same : rc_str_bytes c.in-Some.name.now ≡ c.args.text.now = sym ((bytes_eq-Decides _ _).0 passes) in
    MatchResult-weaker c.clone.result {P = λ copy. rc_str_bytes copy ≡ rc_str_bytes c.in-Some.name.now} {P' = λ copy. rc_str_bytes copy ≡ c.args.text.now} c.clone.ensures.cases (λ copy e. e ∙ same) (λ _ _. tt)
