-- The places of files among the names of a world.
use Rattle.std.specs.Prelude.{◌≡◌, ℕ, List, [], length, map, Option, None, option_map, slice_index_or, unwrap_or}
use Rattle.mk_lines.specs.Names.{place_from}
use Rattle.mk_build.specs.Setting.{FileName, reads}
use Rattle.mk_world.specs.declared.file.File.{File}
use Rattle.mk_world.specs.State.{Scene, setting}

-- The position of the name in the list, or the length of the list if it isn't there.
abbrev pub place_among : List FileName → FileName → ℕ
place_among names f = unwrap_or (place_from 0 names f) (length names)

-- The content of the file at a place, if it exists.
abbrev pub content_at : List (Option File) → ℕ → Option ℕ
content_at files place = option_map (λ file. file.content) (slice_index_or files place None)

-- `places` has for each node the places of the files that its recipe reads.
abbrev pub ArePlaces : Scene → (names : List FileName) → List (List ℕ) → Type 0
ArePlaces scene names places =
    (t : ℕ) → slice_index_or places t [] ≡
    map (place_among names) (reads scene.graph (setting scene) t)
