use Rattle.std.proofs.Common.{◌≡◌, ◌++◌, false, drop, map, string_bytes}
use Rattle.serde_json.specs.View.{items_of}
use Rattle.serde_json.specs.Written.{items_text}
use Rattle.mk_claims.specs.Grouping.{group_of}
use Rattle.mk_claims.specs.Tables.{groups_view}
use Rattle.mk_core_json.specs.GroupValue.{group_value}
use Rattle.mk_core_json.proofs.group.push_groups.Given as goal

-- the text so far, with that of the groups that are left
abbrev pub invariant-loop-place : goal.invariant-loop-place
invariant-loop-place l =
    string_bytes l.out ++ items_text l.later (items_of (map (group_value l.places) (map group_of (groups_view (drop l.place l.groups.entries)))))
    ≡ string_bytes l.fn.out ++ items_text false (items_of (map (group_value l.places) (map group_of (groups_view l.groups.entries))))
