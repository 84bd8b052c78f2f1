use Rattle.mk_macros.proofs.Rounds.{immediate_stays}
use Rattle.mk_macros.proofs.laws.immediate_values_stay.Goals as goal

pub returns : goal.returns
returns c = λ table recipe name macro n e i le low. immediate_stays 255 (record { table = table; recipe = recipe }) name macro n e i le low
