use Rattle.std.proofs.Common.{ℕ, ◌∙◌, ◌++◌, List, map, ap, string_bytes}
use Rattle.std.proofs.lemmas.Result.{IfOk-equal}
use Rattle.mk_repair.specs.Rows.{names_view}
use Rattle.mk_sentences.proofs.AddedTexts.{between}
use Rattle.mk_sentences.proofs.adding.push_added_between.Goals as goal

pub returns : goal.returns
returns c =
    let parts = ap (map string_bytes) c.deref-2.ensures.value ∙ c.in_ok-prerequisites.ensures in
    let heads = ap (map string_bytes) c.deref.ensures.value ∙ c.in_ok-targets.ensures in
    IfOk-equal c.push_added_pieces.result _ _ _ c.push_added_pieces.ensures
    (ap (λ (text : List ℕ). string_bytes c.args.out.now ++ text) (between string_bytes c.deref-2.result.now c.deref.result.now (names_view c.args.targets.now) (names_view c.args.prerequisites.now) parts heads))
