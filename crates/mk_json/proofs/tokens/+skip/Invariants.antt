use Rattle.std.proofs.Common.{◌*◌, ◌+◌, List, length}
use Rattle.serde_json.specs.Data.{Data, Members}
use Rattle.mk_json.specs.Tokens.{ItemsRead, MembersRead}
use Rattle.mk_json.proofs.tokens.+skip.Given as goal

abbrev pub decreases-skip_rest : goal.decreases-skip_rest
decreases-skip_rest l = 3 * l.depth

abbrev pub decreases-skip_value : goal.decreases-skip_value
decreases-skip_value l = 3 * l.depth + 1

abbrev pub decreases-skip_items : goal.decreases-skip_items
decreases-skip_items l = 3 * l.depth + 2

abbrev pub decreases-skip_members : goal.decreases-skip_members
decreases-skip_members l = 3 * l.depth + 2

-- some values were read
abbrev pub invariant-skip_items-items : goal.invariant-skip_items-items
invariant-skip_items-items l = (values : List Data) × ItemsRead l.depth l.initial.reader values l.reader

abbrev pub decreases-skip_items-items : goal.decreases-skip_items-items
decreases-skip_items-items l = length l.reader

-- some members were read
abbrev pub invariant-skip_members-members : goal.invariant-skip_members-members
invariant-skip_members-members l = (members : Members) × MembersRead l.depth l.initial.reader members l.reader

abbrev pub decreases-skip_members-members : goal.decreases-skip_members-members
decreases-skip_members-members l = length l.reader
