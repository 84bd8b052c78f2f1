-- Groups of findings, as the code of this crate holds them.
use Rattle.mk_repair.specs.Rows.{names_view}
use Rattle.mk_claims.specs.Grouping.{Group}
use Rattle.mk_claims.specs.Topics.{topic_view}
use Rattle.mk_core_json.specs.declared.group.Group as borrowed

-- The group of borrowed names.
abbrev pub group_view : borrowed.Group → Group
group_view g =
    record {
      topic = topic_view g.topic.now;
      what = names_view g.what.now;
      who = names_view g.who.now;
    }
