use Rattle.std.proofs.Common.{◌≡◌, ◌++◌, drop, string_bytes}
use Rattle.std.specs.List.{flat_map}
use Rattle.mk_world.specs.Running.{file_text}
use Rattle.mk_world.proofs.running.print_files.Given as goal

-- the text so far, with the lines of the files that are left
abbrev pub invariant-loop-file : goal.invariant-loop-file
invariant-loop-file l = string_bytes l.text ++ flat_map file_text (drop l.file-index l.file-items) ≡ string_bytes l.fn.text ++ flat_map file_text l.file-items
