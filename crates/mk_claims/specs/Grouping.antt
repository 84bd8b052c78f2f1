-- Claims in groups.
use Rattle.std.specs.Prelude.{ℕ, Bool, ◌&&◌, List, map}
use Rattle.std.specs.Str.{bytes_eq}
use Rattle.mk_repair.specs.Gathering.{gathered}
use Rattle.mk_repair.specs.Lines.{names_eq}
use Rattle.mk_claims.specs.Topics.{Topic, topic_eq}
use Rattle.mk_claims.specs.Claims.{Claim}

-- A topic and the name that claims are about.
pub record RowKey : Type 0 where
  pub topic : Topic
  pub who : List ℕ

-- A topic and a list of files.
pub record GroupKey : Type 0 where
  pub topic : Topic
  pub what : List (List ℕ)

-- Whether two keys of rows are equal.
abbrev pub row_key_eq : RowKey → RowKey → Bool
row_key_eq k l = topic_eq k.topic l.topic && bytes_eq k.who l.who

-- Whether two keys of groups are equal.
abbrev pub group_key_eq : GroupKey → GroupKey → Bool
group_key_eq k l = topic_eq k.topic l.topic && names_eq k.what l.what

-- The row that a claim belongs to, and its file.
abbrev pub row_pair : Claim → RowKey × List ℕ
row_pair c = (record { topic = c.topic; who = c.who }, c.what)

-- For each topic and name the files of its claims, in the order of the claims.
abbrev pub rows : List Claim → List (RowKey × List (List ℕ))
rows claims = gathered row_key_eq (map row_pair claims)

-- The group that a row belongs to, and its name.
abbrev pub group_pair : RowKey × List (List ℕ) → GroupKey × List ℕ
group_pair row = (record { topic = row.0.topic; what = row.1 }, row.0.who)

-- Names with the same topic and the same list of files.
pub record Group : Type 0 where
  pub topic : Topic
  pub what : List (List ℕ)
  pub who : List (List ℕ)

-- The group of a key with its names.
abbrev pub group_of : GroupKey × List (List ℕ) → Group
group_of entry = record { topic = entry.0.topic; what = entry.0.what; who = entry.1 }

-- The groups of claims, in the order of their first claims.
abbrev pub groups : List Claim → List Group
groups claims = map group_of (gathered group_key_eq (map group_pair (rows claims)))
