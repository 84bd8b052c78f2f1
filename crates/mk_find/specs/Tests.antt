-- Tests of a node, by its entry.
use Rattle.std.specs.Prelude.{Bool, not, ◌&&◌, is_none}
use Rattle.mk_subject.specs.NodeRow.{NodeRow}

-- Whether it has a recipe without a record.
abbrev pub lacks_record : NodeRow → Bool
lacks_record e = e.node.recipe && is_none e.recorded

-- Whether it has a recipe whose commands vary.
abbrev pub has_varying : NodeRow → Bool
has_varying e = e.node.recipe && e.commands.varying

-- Whether it has a recipe whose commands don't vary and differ from those of its record.
abbrev pub has_other_commands : NodeRow → Bool
has_other_commands e =
    e.node.recipe && (not e.commands.varying && e.others)
