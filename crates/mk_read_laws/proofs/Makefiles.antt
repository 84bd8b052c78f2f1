-- Makefiles with the lines of included files in place.
use Rattle.std.proofs.Common.{◌≡◌, ℕ, suc, Bool, true, false, cond, List, [], ◌∷◌, ◌++◌, Option, None, Some, Result, Ok, Err, refl, sym, ap, ◌∙◌, arith}
use Rattle.std.proofs.lemmas.Bool.{cond-false}
use Rattle.mk_lines.specs.declared.fault.LineFault.{LineFault}
use Rattle.mk_lines.specs.Lines.{Line, logical_lines}
use Rattle.mk_macros.specs.Table.{Macro}
use Rattle.mk_read.specs.declared.fault.ReadFault.{ReadFault}
use Rattle.mk_read.specs.declared.fault.ReadFault.TheVariants.{BadMakefileName, ReadFailed, NoMakefile}
use Rattle.mk_read.specs.IncludeLaws.{content, MakefilesMayHaveTheLinesInPlace}
use Rattle.mk_read.specs.PlaceLaws.{but_places, lines_said, begins_without_command, said, IncludesLines}
use Rattle.mk_read.specs.Reading.{Reader, Deeper, Text, makefile, makefile_of, named, fails, with_lines, reading, after_default, with_operands, text_or, own_text, from_named}
use Rattle.mk_read.specs.State.{State, parted}
use Rattle.mk_read.specs.Steps.{◌>>=◌, in_file}
use Rattle.mk_read_laws.proofs.OneLine.{bind_ok}
use Rattle.mk_read_laws.proofs.SameLines as alike
use Rattle.mk_read_laws.proofs.Nested.{works, lines_like, reading_like, like_said, include_lines_stand_for_their_lines}

-- a result is a state where another one without places is one
from_alike : (r s : Result State ReadFault) (x : State) → alike.AlikeResults r s → s ≡ Ok x → (y : State) × (r ≡ Ok y) × alike.Alike y x
from_alike (Ok y) s x e is = let one : Ok (alike.bare y) ≡ Ok (alike.bare x) = e ∙ ap (but_places alike.bare) is in (y, refl, cc)
from_alike (Err fault) s x e is = let one : but_places alike.bare (Err fault) ≡ Ok (alike.bare x) = e ∙ ap (but_places alike.bare) is in absurd cc

-- the name that was tested
chosen_is : (bad : Bool) (name : List ℕ) (chosen : Option (List ℕ)) → cond bad (Err (BadMakefileName name)) (Ok (Some name)) ≡ Ok chosen → Some name ≡ chosen
chosen_is true name chosen e = absurd cc
chosen_is false name chosen e = cc

-- a text with further levels below
reading_next : (levels : ℕ) (reader : Reader) (file bytes : List ℕ) (state : State)
    → reading (suc levels) reader file bytes state ≡ (in_file file (logical_lines bytes) >>= λ lines. with_lines reader (Some (reading levels reader)) (record { file = file; default = false }) lines state)
unfolding reading
reading_next levels reader file bytes state = refl

module _ (reader : Reader) (never : reader.failing ≡ None) where
  -- the state in which the makefile's own text is read
  abbrev opened : List ℕ → State → State
  opened file state = record (parted state) { texts = file ∷ [] }

  abbrev text_of : List ℕ → Text
  text_of file = record { file = file; default = false }

  abbrev lines_of_file : List ℕ → List ℕ → State → Result State ReadFault
  lines_of_file file bytes state = in_file file (logical_lines bytes) >>= λ lines. with_lines reader (Some (reading 15 reader)) (text_of file) lines (opened file state)

  -- where the makefile's own text is there
  own_is : (state : State) (file bytes : List ℕ) → reader.text file ≡ Some bytes → from_named reader state (Some file) ≡ lines_of_file file bytes state
  unfolding from_named own_text
  own_is state file bytes there =
      let none : Result State ReadFault = Err (NoMakefile (Some file)) in
      cond-false (fails reader state) (Err (ReadFailed None file)) (text_or reader state file none (reader.text file)) (works reader never state)
      ∙ (ap (text_or reader state file none) there ∙ reading_next 15 reader file bytes (opened file state))

  -- one makefile from its parts
  made_of : (file : Option (List ℕ)) (chosen : Option (List ℕ)) (defaults : Bool) (operands : List (List ℕ)) (start : State) (table : List Macro) (state : State) → named file ≡ Ok chosen → after_default reader defaults ≡ Ok start
      → with_operands 1 operands start.table ≡ Ok table → from_named reader (record start { table = table }) chosen ≡ Ok state → makefile reader file defaults operands ≡ Ok (makefile_of state)
  unfolding makefile
  made_of file chosen defaults operands start table state name starts fixed reads =
      ap (λ (r : Result (Option (List ℕ)) ReadFault). r >>= λ file. after_default reader defaults >>= λ start. with_operands 1 operands start.table >>= λ table. from_named reader (record start { table = table }) file >>= λ state. Ok (makefile_of state)) name
      ∙ (ap (λ (r : Result State ReadFault). r >>= λ start. with_operands 1 operands start.table >>= λ table. from_named reader (record start { table = table }) chosen >>= λ state. Ok (makefile_of state)) starts
      ∙ (ap (λ (r : Result (List Macro) ReadFault). r >>= λ table. from_named reader (record start { table = table }) chosen >>= λ state. Ok (makefile_of state)) fixed
      ∙ ap (λ (r : Result State ReadFault). r >>= λ state. Ok (makefile_of state)) reads))

  module _ (including inlined one other : List ℕ) (before lines after : List Line) (line : Line) (there : reader.text including ≡ Some one) (first : logical_lines one ≡ Ok (before ++ line ∷ after)) (here : reader.text inlined ≡ Some other)
      (second : lines_said (logical_lines other) ≡ lines_said (Ok (before ++ lines ++ after))) (includes : (state : State) → IncludesLines reader (record { file = including; default = false }) line lines state) (begins : begins_without_command after ≡ true) where
    -- from one state both texts are read
    both_read : (start state : State) → from_named reader start (Some including) ≡ Ok state → (same : State) × (from_named reader start (Some inlined) ≡ Ok same) × (said same ≡ said state)
    both_read start state e =
        let deeper : Deeper = Some (reading 15 reader) in
        let from : with_lines reader deeper (text_of including) (before ++ line ∷ after) (opened including start) ≡ Ok state =
        sym (ap (λ (r : Result (List Line) LineFault). in_file including r >>= λ lines. with_lines reader deeper (text_of including) lines (opened including start)) first) ∙ (sym (own_is start including one there) ∙ e) in
        let stand = include_lines_stand_for_their_lines reader 15 (text_of including) before lines after line (opened including start) state never refl (λ state h. includes state) begins from in
        let moved = lines_like reader never deeper deeper (reading_like reader never 15 15 (omega arith)) (text_of including) (text_of inlined) refl (before ++ lines ++ after) (opened including start) (opened inlined start) (record { is = refl; fewer = omega arith }) stand.0 stand.1 in
        let agree = alike.lines_alike reader reader refl (λ name. refl) deeper deeper (alike.reading_alike reader reader refl (λ name. refl) 15) (text_of inlined) (logical_lines other) (Ok (before ++ lines ++ after)) (opened inlined start) (opened inlined start) second refl in
        let last = from_alike (lines_of_file inlined other start) (with_lines reader deeper (text_of inlined) (before ++ lines ++ after) (opened inlined start)) moved.0 agree moved.1 in
        (last.0, own_is start inlined other here ∙ last.1, like_said reader never moved.0 last.0 (ap (λ (s : State). record s { texts = [] }) (sym last.2)) ∙ (like_said reader never stand.0 moved.0 moved.2.is ∙ stand.2))

pub makefiles_may_have_the_lines_in_place : MakefilesMayHaveTheLinesInPlace
unfolding makefile
makefiles_may_have_the_lines_in_place reader including inlined one other defaults operands m before lines after line never good there first here second includes begins e =
    let a = bind_ok (named (Some including)) _ m e in
    let b = bind_ok (after_default reader defaults) _ m a.2 in
    let c = bind_ok (with_operands 1 operands b.0.table) _ m b.2 in
    let start : State = record b.0 { table = c.0 } in
    let d = bind_ok (from_named reader start a.0) _ m c.2 in
    let name : Some including ≡ a.0 = chosen_is _ including a.0 a.1 in
    let reads : from_named reader start (Some including) ≡ Ok d.0 = ap (from_named reader start) name ∙ d.1 in
    let is : makefile_of d.0 ≡ m = cc in
    let both = both_read reader never including inlined one other before lines after line there first here second includes begins start d.0 reads in
    (makefile_of both.0, made_of reader never (Some inlined) (Some inlined) defaults operands b.0 c.0 both.0 good b.1 c.1 both.1, both.2 ∙ ap content is)
