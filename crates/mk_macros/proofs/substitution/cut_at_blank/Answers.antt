use Rattle.std.proofs.Common.{◌≡◌, ◌+◌, ◌-◌, ◌<◌, List, ℕ, [], ◌∷◌, ◌++◌, length, take, drop, sym, ap, ◌∙◌, arith, append-nil}
use Rattle.std.specs.Prelude.{filter}
use Rattle.std.proofs.lemmas.List.{take_all, length-drop}
use Rattle.mk_lines.specs.Words.{is_word, words}
use Rattle.mk_macros.proofs.WordByWord.{words_alone, words_cut}
use Rattle.mk_macros.proofs.substitution.cut_at_blank.Goals as goal

pub returns-then-at-text-clause-words : goal.returns-then-at-text-clause-words
returns-then-at-text-clause-words c =
    words_alone c.args.text.now c.first_blank-at.result c.first_blank-at.ensures.place c.if-at-text.true
    ∙ sym (append-nil (filter is_word (c.args.text.now ∷ [])))

pub returns-clause-words : goal.returns-clause-words
returns-clause-words c =
    let text = c.args.text.now in
    let at = c.first_blank-at.result in
    let low : at < length text = omega (arith, c.first_blank-at.ensures.within) in
    let all : take (length text - (at + 1)) (drop (at + 1) text) ≡ drop (at + 1) text = take_all (length text - (at + 1)) (drop (at + 1) text) (omega (arith, length-drop (at + 1) text)) in
    words_cut text at c.first_blank-at.ensures.place low
    ∙ ap (λ (t : List ℕ). filter is_word (take at text ∷ []) ++ words t) (sym all)
