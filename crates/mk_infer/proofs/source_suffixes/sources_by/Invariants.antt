use Rattle.std.proofs.Common.{◌≡◌, ℕ, List, map, take}
use Rattle.std.specs.String.{string_bytes}
use Rattle.mk_infer.specs.Table.{sources_by, texts_at}
use Rattle.mk_infer.proofs.source_suffixes.sources_by.Given as goal

-- the suffixes so far
abbrev pub invariant-loop-suffix : goal.invariant-loop-suffix
invariant-loop-suffix l = (name : List ℕ) → texts_at l.sources name ≡ sources_by (texts_at l.backs) name (map string_bytes (take l.suffix-index l.suffixes))
