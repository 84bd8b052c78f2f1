-- What contracts see of the code's words.
use Rattle.std.specs.Rc.{rc_str_bytes}
use Rattle.mk_repair.specs.Word.{Word, needs, phony}
use Rattle.mk_repair.specs.declared.word.Word as borrowed
use Rattle.mk_repair.specs.declared.word.Word.TheVariants as borrowed_word
use Rattle.mk_repair.specs.declared.word.StoredWord as stored
use Rattle.mk_repair.specs.declared.word.StoredWord.TheVariants as stored_word

-- The word that a borrowed word stands for.
abbrev pub word_view : borrowed.Word → Word
word_view (borrowed_word.Needs target prerequisite) = needs target.now prerequisite.now
word_view (borrowed_word.Phony target) = phony target.now

-- The word that a stored word stands for.
abbrev pub stored_view : stored.StoredWord → Word
stored_view (stored_word.Needs target prerequisite) =
    needs (rc_str_bytes target) (rc_str_bytes prerequisite)
stored_view (stored_word.Phony target) = phony (rc_str_bytes target)
