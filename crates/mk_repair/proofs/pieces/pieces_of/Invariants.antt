use Rattle.std.proofs.Common.{◌≡◌, ◌++◌, drop, map, string_bytes}
use Rattle.mk_repair.specs.Rows.{names_view}
use Rattle.mk_repair.proofs.PieceTexts.{texts_from}
use Rattle.mk_repair.proofs.pieces.pieces_of.Given as goal

-- the texts so far, with those of the names that are left
abbrev pub invariant-loop-name : goal.invariant-loop-name
invariant-loop-name l = map string_bytes l.pieces.items ++ texts_from (string_bytes l.piece) (names_view (drop l.name-index l.others)) ≡ texts_from (string_bytes l.initial.piece) (names_view l.others)
