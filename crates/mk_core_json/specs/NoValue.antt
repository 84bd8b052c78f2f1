-- The JSON value of a no.
use Rattle.std.specs.Prelude.{ℕ, false, List, [], ◌∷◌, ◌++◌, codes, drop, length, map, take}
use Rattle.serde_json.specs.Data.{Data, number, string, unsigned}
use Rattle.serde_json.specs.View.{items_of}
use Rattle.serde_json.specs.Written.{compact_text, items_text}
use Rattle.mk_find.specs.declared.finding.Finding.{Finding}
use Rattle.mk_json.specs.Kinds.{array_of, object_of}
use Rattle.mk_read.specs.Reading.{Makefile}
use Rattle.mk_claims.specs.Claims.{Claim}
use Rattle.mk_sentences.specs.Counts.{counts_of}
use Rattle.mk_claims.specs.Grouping.{Group, groups, rows}
use Rattle.mk_claims.specs.Joining.{joined, joined_claim}
use Rattle.mk_sentences.specs.declared.counts.Counts.{Counts}
use Rattle.mk_core_json.specs.FindingValue.{finding_values}
use Rattle.mk_core_json.specs.GroupValue.{group_value}
use Rattle.mk_claims.specs.Numbering.{group_number}

-- How many findings, groups and lines to add there are, and how many of the findings these mend.
abbrev pub counts_value : Counts → Data
counts_value c =
    object_of ((codes "findings", number (unsigned c.findings)) ∷
    (codes "groups", number (unsigned c.groups)) ∷
    (codes "lines", number (unsigned c.lines)) ∷
    (codes "mended", number (unsigned c.mended)) ∷ [])

-- The groups, as JSON values.
abbrev pub groups_values : Makefile → List Group → List Data
groups_values m gs = map (group_value m) gs

-- The numbers of the groups to which the claims belong, counted from 1 on.
abbrev pub group_numbers : List Claim → List ℕ
group_numbers claims =
    map (λ c. group_number (rows (joined claims)) (groups (joined claims)) (joined_claim claims c))
    claims

-- The counts, the findings and the groups of their claims, as they stand in the text of a no.
abbrev pub found_text : Makefile → List Finding → List Claim → List ℕ
found_text m found claims =
    let gs = groups (joined claims) in
    compact_text (counts_value (counts_of claims gs)) ++ (codes ",\"findings\":[" ++
    (items_text false (items_of (finding_values 1 found (group_numbers claims))) ++
    (codes ",\"format\":1,\"groups\":[" ++
    items_text false (items_of (groups_values m gs)))))

-- The answer no: the counts; the findings, numbered from 1 on; the groups of what they claim; and
-- the groups of what the other claims say, which can be seen only once these are mended.
abbrev pub no_value : Makefile → List Finding → List Claim → Data
no_value m found claims =
    let now = take (length found) claims in
    let later = drop (length found) claims in
    let gs = groups (joined now) in
    object_of ((codes "answer", string (codes "no")) ∷
    (codes "counts", counts_value (counts_of now gs)) ∷
    (codes "findings", array_of (finding_values 1 found (group_numbers now))) ∷
    (codes "format", number (unsigned 1)) ∷
    (codes "groups", array_of (groups_values m gs)) ∷
    (codes "later", array_of (groups_values m (groups (joined later)))) ∷ [])
