-- What contracts see of files in memory.
use Rattle.std.specs.Prelude.{◌≡◌, ℕ, ◌+◌, ◌-◌, ◌^◌, List, map, Option, Some, min}
use Rattle.mk_read_parse.specs.declared.mem_files.MemFile.{MemFile}
use Rattle.mk_read_parse.specs.declared.mem_files.MemFiles.{MemFiles}
use Rattle.mk_read.specs.Files.{Told}

-- The names and texts of the files.
abbrev pub entries : List MemFile → Told
entries files = map (λ (file : MemFile). (file.name, file.text.items)) files

-- The map of the files.
abbrev pub told_by : MemFiles → Told
told_by m = entries m.files.items

-- The names of the files whose reads failed, the last one first.
abbrev pub failed_of : MemFiles → List (List ℕ)
failed_of m = m.answered.given.failed

-- The number of the read that is to fail, if one is.
abbrev pub failing_of : MemFiles → Option ℕ
failing_of m = m.fails_at

-- How many reads there were, up to the greatest value.
abbrev pub reads_of : MemFiles → ℕ
reads_of m = m.reads

-- The number of the next read, up to the greatest value.
abbrev pub next_read : MemFiles → ℕ
next_read m = min (m.reads + 1) (2 ^ 64 - 1)

-- The next read is the one that is to fail.
abbrev pub IsToFail : MemFiles → Type 0
IsToFail m = m.fails_at ≡ Some (next_read m)
