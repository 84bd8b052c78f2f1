use Rattle.std.proofs.Common.{◌≡◌, ◌++◌, ℕ, List, map, take}
use Rattle.std.specs.Borrow.{Bor}
use Rattle.std.specs.String.{string_bytes}
use Rattle.mk_lemmas.proofs.Texts.{texts}
use Rattle.mk_subject.specs.FileInfo.{StandAt, known_by}
use Rattle.mk_subject.specs.Writers.{numbers_at}
use Rattle.mk_subject.proofs.files.places_for.Given as goal

-- the files so far have their places
abbrev pub invariant-loop-file : goal.invariant-loop-file
invariant-loop-file l = record {
  all : l.known.items ≡ map (λ f. known_by l.sources.table.now l.sources.setting.now (numbers_at l.sources.writers.now) l.sources.names.now f.now) l.files.keys;
  more : (rest : List (Bor (List ℕ))) × (l.files.keys ≡ l.initial.files.keys ++ rest);
  here : StandAt (texts l.files.keys) l.places.items (map string_bytes (take l.file-index l.listed));
}
