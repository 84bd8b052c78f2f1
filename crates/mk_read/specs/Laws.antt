-- Laws of reading.
use Rattle.std.specs.Prelude.{◌≡◌, ◌↔◌, ℕ, true, false, List, ◌∷◌, ◌++◌, Result, Ok, Err, Bool, filter, not}
use Rattle.std.specs.List.{flat_map}
use Rattle.mk_lines.specs.Comments.{uncomment}
use Rattle.mk_lines.specs.Lines.{Line}
use Rattle.mk_lines.specs.RuleLines.{is_include, is_rule_line}
use Rattle.mk_read.specs.declared.fault.KindFault.{KindFault}
use Rattle.mk_read.specs.declared.fault.KindFault.TheVariants.{TargetMacro, NotALine}
use Rattle.mk_read.specs.Kinds.{Kind, IncludeLine, RuleLine, Comment, Include, Rule, kind_of}
use Rattle.mk_read.specs.Needs.{is_wait, groups}
use Rattle.mk_read.specs.State.{State}
use Rattle.mk_read.specs.Reading.{Reader, Deeper, Text, with_lines}

-- A comment line changes nothing: reading lines with it gives what reading them without it gives.
abbrev pub CommentLinesChangeNothing : Type 0
CommentLinesChangeNothing =
    (reader : Reader) → (deeper : Deeper) → (text : Text) → (before after : List Line) →
    (line : Line) → (state : State)
    → line.command ≡ false → kind_of (uncomment line.text) ≡ Ok Comment
    → with_lines reader deeper text (before ++ line ∷ after) state ≡
    with_lines reader deeper text (before ++ after) state

-- The groups joined to one list.
abbrev pub joined : List (List (List ℕ)) → List (List ℕ)
joined groups = flat_map (λ group. group) groups

-- The groups hold the words in order, without `.WAIT`.
abbrev pub GroupsKeepTheirWords : Type 0
GroupsKeepTheirWords =
    (not_parallel : Bool) → (words : List (List ℕ)) →
    joined (groups not_parallel words) ≡ filter (λ word. not (is_wait word)) words

-- The line is a rule line, or is refused with `TargetMacro` (24) or `NotALine` (25).
abbrev pub IsOfRule : Result Kind KindFault → Type 0
IsOfRule (Ok (Rule line)) = Unit {0}
IsOfRule (Err TargetMacro) = Unit {0}
IsOfRule (Err NotALine) = Unit {0}
IsOfRule kind = ⊥

-- For a line without a comment, `is_rule_line` (which decides where a comment may begin) and
-- `kind_of` agree on which lines are rule lines, but for refused ones.
abbrev pub RuleLinesAreOfOneKind : Type 0
RuleLinesAreOfOneKind =
    (text : List ℕ)
    → (is_rule_line text ≡ true → IsOfRule (kind_of text))
    × ((line : RuleLine) → kind_of text ≡ Ok (Rule line) → is_rule_line text ≡ true)

-- For a line without a comment, `is_include` and `kind_of` agree on which lines are include lines.
abbrev pub IncludeLinesAreOfOneKind : Type 0
IncludeLinesAreOfOneKind =
    (text : List ℕ)
    → (is_include text ≡ true) ↔ ((line : IncludeLine) × (kind_of text ≡ Ok (Include line)))
