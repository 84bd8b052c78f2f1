use Rattle.std.proofs.Common.{◌≡◌, ◌++◌, ℕ, List, take}
use Rattle.mk_lemmas.proofs.Texts.{texts}
use Rattle.mk_infer.specs.Table.{given, texts_at}
use Rattle.mk_infer.proofs.source_suffixes.add_sources.Given as goal

-- the endings so far have the suffix
abbrev pub invariant-loop-ending : goal.invariant-loop-ending
invariant-loop-ending l = (name : List ℕ) → texts_at l.sources name ≡ texts_at l.initial.sources name ++ given l.suffix name (texts (take l.ending-index l.endings))
