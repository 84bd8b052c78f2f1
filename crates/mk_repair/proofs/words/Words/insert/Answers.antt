use Rattle.std.proofs.Common.{◌≡◌, ◌∙◌, ◌∷◌, ◌++◌, [], List, not, cond, map, ap, rules}
use Rattle.std.specs.List.{list_any}
use Rattle.mk_repair.specs.Word.{Word, word_eq, has_word}
use Rattle.mk_repair.specs.Words.{stored_view, word_view}
use Rattle.mk_repair.specs.contracts.word.StoredWordPartialEq.TheImpl.{eq-value}
use Rattle.mk_repair.specs.declared.word.StoredWord.{StoredWord}
use Rattle.mk_repair.specs.declared.word.StoredWord.TheVariants.{Needs, Phony}
use Rattle.mk_repair.proofs.Sets.{any_seen, key_seen}
use Rattle.mk_repair.proofs.words.Words.insert.Goals as goal

-- stored words are equal where the words are that they stand for
agrees : (x y : StoredWord) → eq-value.it x y ≡ word_eq (stored_view x) (stored_view y)
agrees (Needs t p) (Needs u q) = search rules
agrees (Needs t p) (Phony u) = search rules
agrees (Phony t) (Needs u q) = search rules
agrees (Phony t) (Phony u) = search rules

-- whether a stored word is there
there : (key : StoredWord) (keys : List StoredWord) (word : Word) (words : List Word) → stored_view key ≡ word → map stored_view keys ≡ words → list_any (eq-value.it key) keys ≡ has_word words word
there key keys word words e v =
    any_seen stored_view eq-value.it word_eq agrees key keys ∙ (ap (λ (w : Word). has_word (map stored_view keys) w) e ∙ ap (λ (ws : List Word). has_word ws word) v)

pub returns-clause-new : goal.returns-clause-new
returns-clause-new c = c.in_ok-insert.ensures.added ∙ ap not (there c.in_ok-word.word c.self.inside.words.keys (word_view c.args.word) c.args.self.now c.in_ok-word.ensures c.self.view_is)

pub returns-clause-ok : goal.returns-clause-ok
returns-clause-ok c =
    let key = c.in_ok-word.word in
    let word = word_view c.args.word in
    let has = there key c.self.inside.words.keys word c.args.self.now c.in_ok-word.ensures c.self.view_is in
    ap (map stored_view) c.in_ok-insert.ensures.keys
    ∙ (key_seen stored_view _ _ key c.self.inside.words.keys has
    ∙ (ap (λ (words : List Word). cond (has_word c.args.self.now word) words (words ++ stored_view key ∷ [])) c.self.view_is
    ∙ ap (λ (w : Word). cond (has_word c.args.self.now word) c.args.self.now (c.args.self.now ++ w ∷ [])) c.in_ok-word.ensures))
