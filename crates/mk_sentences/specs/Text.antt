-- The text of findings in sentences.
use Rattle.std.specs.Prelude.{◌≡◌, ℕ, List, [], ◌∷◌, ◌++◌, codes, drop, length, take, if◌then◌else◌}
use Rattle.std.specs.List.{flat_map, list_any}
use Rattle.mk_read.specs.Reading.{Makefile}
use Rattle.mk_subject.specs.Subject.{Subject}
use Rattle.mk_find.specs.declared.finding.Finding.{Finding}
use Rattle.mk_claims.specs.declared.topic.Kind.{Kind}
use Rattle.mk_claims.specs.declared.topic.Kind.TheVariants.{TwoWriters}
use Rattle.mk_claims.specs.Topics.{Topic, kind_word}
use Rattle.mk_claims.specs.Claims.{Claim}
use Rattle.mk_claims.specs.Grouping.{Group, groups}
use Rattle.mk_claims.specs.Joining.{joined}
use Rattle.mk_claims.specs.Shown.{AreShown, all_claims, is_static}
use Rattle.mk_sentences.specs.Counts.{counts_of, counts_text}
use Rattle.mk_sentences.specs.Places.{first_name, head}
use Rattle.mk_sentences.specs.Sentences.{sentence}
use Rattle.mk_sentences.specs.Advice.{advice}
use Rattle.mk_sentences.specs.Adding.{added_lines, lines_of}
use Rattle.mk_sentences.specs.Listing.{left_out, who_are}

-- The name at whose line a group of this kind is shown: the first of two writers, else the first
-- name of the group.
abbrev pub shown_name_of : Kind → (first : List ℕ) → (who : List (List ℕ)) → List ℕ
shown_name_of TwoWriters first who = first
shown_name_of kind first who = first_name who

-- The name at whose line a group is shown.
abbrev pub shown_name : Topic → (who : List (List ℕ)) → List ℕ
shown_name topic who = shown_name_of topic.kind topic.first who

-- What to do about a group that no line mends, and the names that its sentence leaves out.
abbrev pub to_do : Topic → (who what : List (List ℕ)) → List ℕ
to_do topic who what =
    codes "  do: " ++ (advice topic who what ++ (codes "\n" ++
    (left_out (who_are topic.kind) who ++ left_out (codes "files") what)))

-- The lines to add where they mend the group, else what to do.
abbrev pub repair_text : Topic → (who what : List (List ℕ)) → List ℕ
repair_text topic who what =
    if topic.has_line then added_lines (lines_of topic.kind topic.first who what)
    else to_do topic who what

-- The word of the kind in brackets, and a newline.
abbrev pub word_text : Kind → List ℕ
word_text kind = codes " [" ++ (kind_word kind ++ codes "]\n")

-- The text of a group: the line at which it is shown, its sentence, and what mends it.
abbrev pub group_text : Makefile → Group → List ℕ
group_text m g =
    head m (shown_name g.topic g.who) ++ (sentence g.topic g.who g.what ++
    (word_text g.topic.kind ++ repair_text g.topic g.who g.what))

-- The text of groups, which are those of the claims, and a line with the counts.
abbrev pub groups_text : Makefile → List Claim → List Group → List ℕ
groups_text m claims gs = flat_map (group_text m) gs ++ counts_text (counts_of claims gs)

-- The text of claims: that of each group, in which a race and a stale read of the same recipe and
-- file are one claim, and a line with the counts.
abbrev pub claims_text : Makefile → List Claim → List ℕ
claims_text m claims = groups_text m claims (groups (joined claims))

-- The findings that others hide, in groups after a line that says so, or that there is none to see.
abbrev pub hidden_text : Makefile → List Claim → List ℕ
hidden_text m [] = codes "once these are mended, check again: races and stale reads may show\n"
hidden_text m (c ∷ claims) =
    codes "once these are mended, as far as can be seen now:\n" ++ claims_text m (c ∷ claims)

-- What follows the findings: where one of them hides others, what these claim.
abbrev pub then_text : Makefile → List Finding → List Claim → List ℕ
then_text m findings later = if list_any is_static findings then hidden_text m later else []

-- The text of findings, by all claims.
abbrev pub all_text : Makefile → List Finding → List Claim → List ℕ
all_text m findings claims =
    claims_text m (take (length findings) claims) ++
    then_text m findings (drop (length findings) claims)

-- The text of findings, and of those that they hide.
abbrev pub HasSentences : Subject → (findings hidden : List Finding) → List ℕ → Type 0
HasSentences x findings hidden text =
    (shown : List Claim) × AreShown x (all_claims x findings hidden) shown ×
    (text ≡ all_text x.makefile findings shown)
