use Rattle.std.proofs.Common.{ℕ, ◌≡◌, ◌≤◌, ◌∙◌, ◌∷◌, ◌++◌, [], List, length, map, drop, sym, ap, string_bytes, arith}
use Rattle.std.proofs.lemmas.List.{drop_all, map_push}
use Rattle.mk_repair.specs.Lines.{spaced, pieces}
use Rattle.mk_repair.specs.Rows.{names_view}
use Rattle.mk_repair.proofs.PieceTexts.{all_texts, texts_from}
use Rattle.mk_repair.proofs.pieces.pieces_of.Goals as goal

pub returns : goal.returns
returns c =
    let others = c.in-Some.others.now in
    let done = c.loop-name.pieces.items in
    let piece = c.loop-name.piece in
    let le : length others ≤ c.loop-name.name-index = omega arith in
    let whole : names_view c.args.names.now ≡ c.in-Some.first.now.now ∷ names_view others = ap names_view c.in-Some.ensures.cases.0 in
    ap (map string_bytes) c.in_ok-push-2.ensures.items ∙ (map_push string_bytes done piece
    ∙ (sym (ap (λ rest. map string_bytes done ++ texts_from (string_bytes piece) (names_view rest)) (drop_all c.loop-name.name-index others le)) ∙ (c.loop-name.invariant
    ∙ (ap (λ (text : List ℕ). texts_from text (names_view others)) c.in_ok-piece.ensures.ok
    ∙ (sym (all_texts c.in-Some.first.now.now (names_view others)) ∙ ap (λ (names : List (List ℕ)). map spaced (pieces names)) (sym whole))))))
