use Rattle.std.proofs.Common.{◌≡◌, ◌++◌, drop, string_bytes}
use Rattle.std.specs.List.{flat_map}
use Rattle.mk_repair.specs.Lines.{line_text, lines_between}
use Rattle.mk_repair.specs.Rows.{groups_view}
use Rattle.mk_repair.proofs.lines.push_groups.Given as goal

-- the text so far, with the lines of the groups that are left
abbrev pub invariant-loop-place : goal.invariant-loop-place
invariant-loop-place l =
    string_bytes l.out ++ flat_map (λ group. flat_map line_text (lines_between group.1 group.0)) (groups_view (drop l.place l.groups.entries))
    ≡ string_bytes l.fn.out ++ flat_map (λ group. flat_map line_text (lines_between group.1 group.0)) (groups_view l.groups.entries)
