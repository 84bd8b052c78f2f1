-- The number of the group to which a claim belongs.
use Rattle.std.specs.Prelude.{ℕ, ◌+◌, Bool, ◌&&◌, List, position, unwrap_or}
use Rattle.std.specs.Map.{lookup}
use Rattle.std.specs.Option.{option_map, option_map_or}
use Rattle.mk_repair.specs.Lines.{names_eq}
use Rattle.mk_claims.specs.Claims.{Claim}
use Rattle.mk_claims.specs.Grouping.{Group, RowKey, row_key_eq, row_pair}
use Rattle.mk_claims.specs.Topics.{Topic, topic_eq}

-- The group has this topic and these files.
abbrev pub is_of : Topic → (files : List (List ℕ)) → Group → Bool
is_of topic files g = topic_eq topic g.topic && names_eq files g.what

-- The number of the first group with this topic and these files, counted from 1 on; 0 where there
-- is none.
abbrev pub number_with : List Group → Topic → (files : List (List ℕ)) → ℕ
number_with groups topic files =
    unwrap_or (option_map (λ place. place + 1) (position (is_of topic files) groups)) 0

-- The number of the group of a row.
abbrev pub row_number : List Group → RowKey × List (List ℕ) → ℕ
row_number groups row = number_with groups row.0.topic row.1

-- The number of the group with a claim's topic and with the files of its row; 0 where there is
-- none.
abbrev pub group_number : (rows : List (RowKey × List (List ℕ))) → List Group → Claim → ℕ
group_number rows groups c =
    option_map_or (number_with groups c.topic) (lookup (row_key_eq (row_pair c).0) rows) 0
