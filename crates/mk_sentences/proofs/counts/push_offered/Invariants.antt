use Rattle.std.proofs.Common.{◌≡◌, ◌++◌, drop, map, string_bytes}
use Rattle.mk_sentences.specs.Counts.{offered_text}
use Rattle.mk_claims.specs.Grouping.{group_of}
use Rattle.mk_claims.specs.Tables.{groups_view}
use Rattle.mk_sentences.proofs.counts.push_offered.Given as goal

-- the text so far, with that of the groups that are left
abbrev pub invariant-loop-place : goal.invariant-loop-place
invariant-loop-place l =
    string_bytes l.out ++ offered_text (map group_of (groups_view (drop l.place l.groups.entries)))
    ≡ string_bytes l.fn.out ++ offered_text (map group_of (groups_view l.groups.entries))
