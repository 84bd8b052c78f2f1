use Rattle.std.proofs.Common.{◌≡◌, ◌+◌, ◌++◌, length, drop}
use Rattle.std.specs.List.{slice_split}
use Rattle.mk_lines.specs.Bytes.{is_blank}
use Rattle.mk_lines.specs.Words.{word_spans}
use Rattle.mk_lines.proofs.WordSpans.{room, words_left}
use Rattle.mk_lines.proofs.spans.words.Given as goal

-- the words so far and those of the parts that are left; the parts that are left end with the text
abbrev pub invariant-loop-part : goal.invariant-loop-part
invariant-loop-part l =
    (l.spans.items ++ words_left l.at (drop (length l.yielded) (slice_split is_blank l.text)) ≡ word_spans l.text) ×
    (l.at + room (drop (length l.yielded) (slice_split is_blank l.text)) ≡ length l.text + 1)
