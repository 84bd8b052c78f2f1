use Rattle.mk_macros.proofs.Rounds.{replaced_round}
use Rattle.mk_macros.proofs.laws.substitutions_replace_words.Goals as goal

pub returns : goal.returns
returns c = λ table recipe name old new value n o w ln lo lw e low. replaced_round 255 (record { table = table; recipe = recipe }) name old new value n o w ln lo lw e low
