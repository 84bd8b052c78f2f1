use Rattle.std.proofs.Common.{◌≡◌, drop}
use Rattle.std.specs.Prelude.{find}
use Rattle.mk_lemmas.proofs.Texts.{texts}
use Rattle.mk_infer.specs.Choosing.{fits_by}
use Rattle.mk_infer.proofs.inference.first_fitting.Given as goal

-- the suffixes that are left decide
abbrev pub invariant-loop-suffix : goal.invariant-loop-suffix
invariant-loop-suffix l = find (fits_by l.lookup.table.now l.lookup.exists.now l.stem l.ending) (texts (drop l.suffix-index l.suffixes)) ≡ find (fits_by l.lookup.table.now l.lookup.exists.now l.stem l.ending) (texts l.suffixes)
