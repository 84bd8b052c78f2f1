-- Lines of a comment alone.
use Rattle.std.proofs.Common.{◌≡◌, false, [], ◌∷◌, ◌++◌, Ok, Err, Result, refl, ap}
use Rattle.mk_lines.specs.Comments.{uncomment}
use Rattle.mk_lines.specs.Lines.{Line}
use Rattle.mk_read.specs.declared.fault.ReadFault.{ReadFault}
use Rattle.mk_read.specs.Kinds.{Comment, kind_of}
use Rattle.mk_read.specs.Laws.{CommentLinesChangeNothing}
use Rattle.mk_read.specs.State.{State}
use Rattle.mk_read.specs.Reading.{Reader, Deeper, Text, with_line, with_lines}
use Rattle.mk_read.specs.Steps.{◌>>=◌}

kept : (reader : Reader) (deeper : Deeper) (text : Text) (line : Line) (state : State) → line.command ≡ false → kind_of (uncomment line.text) ≡ Ok Comment → with_line reader deeper text state line ≡ Ok state
unfolding with_line
kept reader deeper text line state h e = rw (h, e) refl

-- what follows a step is the same where it is the same after each state
same_after : (r : Result State ReadFault) (f g : State → Result State ReadFault) → ((state : State) → f state ≡ g state) → (r >>= f) ≡ (r >>= g)
same_after (Ok state) f g h = h state
same_after (Err fault) f g h = refl

pub comments_change_nothing : CommentLinesChangeNothing
unfolding with_lines
comments_change_nothing reader deeper text [] after line state h e = ap (λ r. r >>= with_lines reader deeper text after) (kept reader deeper text line state h e)
comments_change_nothing reader deeper text (other ∷ before) after line state h e =
    same_after (with_line reader deeper text state other) (with_lines reader deeper text (before ++ line ∷ after)) (with_lines reader deeper text (before ++ after)) (λ next. comments_change_nothing reader deeper text before after line next h e)
