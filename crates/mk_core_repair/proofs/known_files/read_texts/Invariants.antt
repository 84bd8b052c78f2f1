use Rattle.std.proofs.Common.{◌≡◌, map, take, string_bytes}
use Rattle.mk_read.specs.Files.{IfFits, Keeps}
use Rattle.mk_core_repair.specs.Amending.{IsCutTo}
use Rattle.mk_core_repair.proofs.known_files.read_texts.Given as goal

-- the texts of the files so far
abbrev pub invariant-loop-name : goal.invariant-loop-name
invariant-loop-name g l = record {
  keeps : Keeps (g.F.Files.fits l.fn.files) (g.F.Files.fits l.files);
  noted : g.F.Files.failed l.files ≡ g.F.Files.failed l.fn.files;
  cut : IfFits (g.F.Files.fits l.files) (λ told. IsCutTo (map string_bytes (take l.name-index l.names)) told (map (λ entry. (string_bytes entry.0, entry.1.items)) l.texts.entries));
}
