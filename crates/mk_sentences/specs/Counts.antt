-- How many findings there are, and how many of them lines mend.
use Rattle.std.specs.Prelude.{ℕ, ◌==◌, Bool, List, [], ◌++◌, codes, filter, length, if◌then◌else◌}
use Rattle.std.specs.Fmt.{decimal}
use Rattle.std.specs.List.{flat_map}
use Rattle.mk_lines.specs.Bytes.{is_byte}
use Rattle.mk_repair.specs.Lines.{line_text}
use Rattle.mk_sentences.specs.Adding.{lines_of}
use Rattle.mk_claims.specs.Claims.{Claim}
use Rattle.mk_claims.specs.Grouping.{Group}
use Rattle.mk_sentences.specs.declared.counts.Counts.{Counts}

-- The text of the lines that mend a group; empty where none does.
abbrev pub offered : Group → List ℕ
offered g =
    if g.topic.has_line
    then flat_map line_text (lines_of g.topic.kind g.topic.first g.who g.what) else []

-- The text of the lines that mend groups.
abbrev pub offered_text : List Group → List ℕ
offered_text groups = flat_map offered groups

-- A line mends the claim.
abbrev pub has_line : Claim → Bool
has_line c = c.topic.has_line

-- How many claims and groups there are, how many lines mend some of them, and how many of the
-- claims.
abbrev pub counts_of : List Claim → List Group → Counts
counts_of claims groups =
    record {
      findings = length claims;
      groups = length groups;
      lines = length (filter (is_byte 10) (offered_text groups));
      mended = length (filter has_line claims);
    }

-- One of two forms of a word, by a number.
abbrev pub by_number : ℕ → (one many : List ℕ) → List ℕ
by_number count one many = if count == 1 then one else many

-- Which of the findings lines mend.
unfoldable pub whom : Counts → List ℕ
whom c =
    if c.mended == c.findings then by_number c.findings (codes "it") (codes "all of them")
    else decimal c.mended ++ codes " of them"

-- That no line mends the findings.
unfoldable pub no_mending : Counts → List ℕ
no_mending c = codes "no line mends " ++ by_number c.findings (codes "it") (codes "them")

-- How many lines there are, and which of the findings they mend.
unfoldable pub some_mending : Counts → List ℕ
some_mending c =
    decimal c.lines ++
    (by_number c.lines (codes " line mends ") (codes " lines mend ") ++ whom c)

-- What lines mend.
unfoldable pub mending : Counts → List ℕ
mending c = if c.lines == 0 then no_mending c else some_mending c

-- The line with the counts.
abbrev pub counts_text : Counts → List ℕ
counts_text c =
    decimal c.findings ++
    (by_number c.findings (codes " finding in ") (codes " findings in ") ++ (decimal c.groups ++
    (by_number c.groups (codes " group; ") (codes " groups; ") ++ (mending c ++ codes "\n"))))
