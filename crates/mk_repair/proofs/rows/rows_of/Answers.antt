use Rattle.std.proofs.Common.{ℕ, ◌+◌, ◌<◌, ◌∙◌, ◌∷◌, List, length, map, drop, sym, ap, refl, arith}
use Rattle.std.specs.Str.{bytes_eq}
use Rattle.std.proofs.lemmas.List.{drop_more}
use Rattle.mk_repair.specs.Word.{Word}
use Rattle.mk_repair.specs.Words.{stored_view}
use Rattle.mk_repair.specs.Gathering.{with_values}
use Rattle.mk_repair.specs.Lines.{needed_pairs}
use Rattle.mk_repair.specs.Rows.{rows_view}
use Rattle.mk_repair.proofs.Gathered.{row_added}
use Rattle.mk_repair.proofs.rows.rows_of.Goals as goal

pub loop-word-preserved : goal.loop-word-preserved
loop-word-preserved c =
    let words = c.args.words.now in
    let i = c.loop-word.word-index in
    let lt : i < length words = omega arith in
    let rest = drop (i + 1) words in
    let added = row_added c.loop-word.rows.entries c.add_value.new.rows.entries _ c.in-Needs.target c.in-Needs.prerequisite c.in_ok-add_value.ensures (λ x y. refl) in
    let here = ap (λ l. needed_pairs (map stored_view l)) (drop_more words i c.word-item.result lt) ∙ ap (λ (word : Word). needed_pairs (word ∷ map stored_view rest)) (ap stored_view (sym c.word-item.is) ∙ sym c.in-Needs.ensures) in
    ap (λ (rows : List (List ℕ × List (List ℕ))). with_values bytes_eq rows (needed_pairs (map stored_view rest))) added
    ∙ (sym (ap (λ (pairs : List (List ℕ × List ℕ)). with_values bytes_eq (rows_view c.loop-word.rows.entries) pairs) here) ∙ c.loop-word.invariant)
