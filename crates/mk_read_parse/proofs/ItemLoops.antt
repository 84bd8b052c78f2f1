-- The lines of a text, and the files of an include line, one after another.
use Rattle.std.proofs.Common.{◌≡◌, ℕ, ◌<◌, ◌≤◌, ◌+◌, Bool, List, [], ◌∷◌, map, drop, length, get_or, Ok, Err, refl, subst}
use Rattle.mk_lines.specs.Lines.{Line}
use Rattle.mk_read.specs.declared.fault.Place.{Place}
use Rattle.mk_read.specs.declared.fault.ReadFault.{ReadFault}
use Rattle.mk_read.specs.Files.{IfFits, Keeps, Told}
use Rattle.mk_read.specs.Following.{Follows, below}
use Rattle.mk_read.specs.Reading.{Reader, Text, files, one_file, with_line, with_lines}
use Rattle.mk_read.specs.State.{State}
use Rattle.mk_read.specs.Steps.{◌>>=◌}
use Rattle.mk_read_parse.specs.Views.{read_below}
use Rattle.mk_read_parse.proofs.Histories.{SoFar, item_done, item_failed, items_done}

lines_none : (levels : ℕ) (text : Text) (reader : Reader) (state : State) → with_lines reader (below levels reader) text [] state ≡ Ok state
unfolding with_lines
lines_none levels text reader state = refl

lines_more : (levels : ℕ) (text : Text) (reader : Reader) (line : Line) (lines : List Line) (state : State) → with_lines reader (below levels reader) text (line ∷ lines) state ≡ (with_line reader (below levels reader) text state line >>= with_lines reader (below levels reader) text lines)
unfolding with_lines
lines_more levels text reader line lines state = refl

files_none : (levels : ℕ) (place : Place) (optional : Bool) (reader : Reader) (state : State) → files reader (read_below levels reader) place optional [] state ≡ Ok state
unfolding files
files_none levels place optional reader state = refl

files_more : (levels : ℕ) (place : Place) (optional : Bool) (reader : Reader) (name : List ℕ)
    (names : List (List ℕ)) (state : State) → files reader (read_below levels reader) place optional
    (name ∷ names) state ≡ (one_file reader (read_below levels reader) place optional state name >>= files
    reader (read_below levels reader) place optional names)
unfolding files
files_more levels place optional reader name names state = refl

-- lines
module _ {C : Type 0} (view : C → Line) (levels : ℕ) (text : Text) (items : List C) (old : State) where
  abbrev pub LinesLeft : Told → ℕ → State → Type 0
  LinesLeft told i now = SoFar told (λ reader. with_lines reader (below levels reader) text (map view items) old) (λ reader. with_lines reader (below levels reader) text (map view (drop i items)) now) old now

  pub line_done : (o o' : Told → Type 0) (i : ℕ) (d item : C) (now next : State) → Keeps o o' → item ≡ get_or items i d → i < length items → IfFits o (λ told. LinesLeft told i now)
      → IfFits o' (λ told. Follows told (λ reader. with_line reader (below levels reader) text now (view item)) now (Ok next)) → IfFits o' (λ told. LinesLeft told (i + 1) next)
  line_done o o' i d item now next keeps is lt so_far went =
      λ told e. item_done view (λ reader lines state. with_lines reader (below levels reader) text lines state) (λ reader line state. with_line reader (below levels reader) text state line) (lines_none levels text) (lines_more levels text)
      told items i d old now next (so_far told (keeps told e)) lt
      (subst (λ (line : C). Follows told (λ reader. with_line reader (below levels reader) text now (view line)) now (Ok next)) is (went told e))

  pub line_failed : (o o' : Told → Type 0) (i : ℕ) (d item : C) (now : State) (fault : ReadFault) → Keeps o o' → item ≡ get_or items i d → i < length items → IfFits o (λ told. LinesLeft told i now)
      → IfFits o' (λ told. Follows told (λ reader. with_line reader (below levels reader) text now (view item)) now (Err fault)) → IfFits o' (λ told. Follows told (λ reader. with_lines reader (below levels reader) text (map view items) old) old (Err fault))
  line_failed o o' i d item now fault keeps is lt so_far went =
      λ told e. item_failed view
      (λ reader lines state. with_lines reader (below levels reader) text lines state)
      (λ reader line state. with_line reader (below levels reader) text state line)
      (lines_none levels text) (lines_more levels text)
      told items i d old now fault (so_far told (keeps told e)) lt
      (subst (λ (line : C). Follows told (λ reader. with_line reader (below levels reader) text now (view line)) now (Err fault)) is (went told e))

  pub lines_done : (o : Told → Type 0) (i : ℕ) (now : State) → length items ≤ i → IfFits o (λ told. LinesLeft told i now) → IfFits o (λ told. Follows told (λ reader. with_lines reader (below levels reader) text (map view items) old) old (Ok now))
  lines_done o i now le so_far =
      λ told e. items_done view (λ reader lines state. with_lines reader
      (below levels reader) text lines state) (λ reader line state. with_line reader (below levels reader)
      text state line) (lines_none levels text) (lines_more levels text)
      told items i old now (so_far told e) le

-- files
module _ {C : Type 0} (view : C → List ℕ) (levels : ℕ) (place : Place) (optional : Bool) (items : List C) (old : State) where
  abbrev pub FilesLeft : Told → ℕ → State → Type 0
  FilesLeft told i now = SoFar told (λ reader. files reader (read_below levels reader) place optional (map view items) old) (λ reader. files reader (read_below levels reader) place optional (map view (drop i items)) now) old now

  pub file_done : (o o' : Told → Type 0) (i : ℕ) (d : C) (name : List ℕ) (now next : State) → Keeps o o' → name ≡ view (get_or items i d) → i < length items → IfFits o (λ told. FilesLeft told i now)
      → IfFits o' (λ told. Follows told (λ reader. one_file reader (read_below levels reader) place optional now name) now (Ok next)) → IfFits o' (λ told. FilesLeft told (i + 1) next)
  file_done o o' i d name now next keeps is lt so_far went =
      λ told e. item_done view
      (λ reader names state. files reader (read_below levels reader) place optional names state)
      (λ reader n state. one_file reader (read_below levels reader) place optional state n)
      (files_none levels place optional) (files_more levels place optional)
      told items i d old now next (so_far told (keeps told e)) lt
      (subst (λ (n : List ℕ). Follows told (λ reader. one_file reader (read_below levels reader) place optional now n) now (Ok next)) is (went told e))

  pub file_failed : (o o' : Told → Type 0) (i : ℕ) (d : C) (name : List ℕ) (now : State) (fault : ReadFault) → Keeps o o' → name ≡ view (get_or items i d) → i < length items → IfFits o (λ told. FilesLeft told i now)
      → IfFits o' (λ told. Follows told (λ reader. one_file reader (read_below levels reader) place optional now name) now (Err fault)) → IfFits o' (λ told. Follows told (λ reader. files reader (read_below levels reader) place optional (map view items) old) old (Err fault))
  file_failed o o' i d name now fault keeps is lt so_far went =
      λ told e. item_failed view
      (λ reader names state. files reader (read_below levels reader) place optional names state)
      (λ reader n state. one_file reader (read_below levels reader) place optional state n)
      (files_none levels place optional) (files_more levels place optional)
      told items i d old now fault (so_far told (keeps told e)) lt
      (subst (λ (n : List ℕ). Follows told (λ reader. one_file reader (read_below levels reader) place optional now n) now (Err fault)) is (went told e))

  pub files_done : (o : Told → Type 0) (i : ℕ) (now : State) → length items ≤ i → IfFits o (λ told. FilesLeft told i now) → IfFits o (λ told. Follows told (λ reader. files reader (read_below levels reader) place optional (map view items) old) old (Ok now))
  files_done o i now le so_far =
      λ told e. items_done view
      (λ reader names state. files reader (read_below levels reader) place optional names state)
      (λ reader n state. one_file reader (read_below levels reader) place optional state n)
      (files_none levels place optional) (files_more levels place optional)
      told items i old now (so_far told e) le
