use Rattle.std.proofs.Common.{take}
use Rattle.mk_lemmas.proofs.Texts.{texts}
use Rattle.mk_infer.specs.Choosing.{IsLeast, chosen_by, fits_by}
use Rattle.mk_infer.proofs.inference.least_fitting.Given as goal

-- the least of the suffixes so far
abbrev pub invariant-loop-suffix : goal.invariant-loop-suffix
invariant-loop-suffix l = IsLeast (fits_by l.lookup.table.now l.lookup.exists.now l.stem l.ending) (chosen_by l.lookup.table.now l.stem l.ending) l.lookup.table.now.suffixes (texts (take l.suffix-index l.suffixes)) l.least
