use Rattle.mk_foot.specs.ReaderParts.{AreLists}
use Rattle.mk_foot.proofs.Members.{put_lists}
use Rattle.mk_foot.proofs.lists.with_list.Goals as goal

pub returns : goal.returns
returns c = λ members value was given.
    let lists : AreLists c.in_ok-lists.lists.entries members = rw c.in_ok-lists.was at was in
    rw (c.in_ok-insert.ensures.entries, ← c.in_ok-name.ensures.ok) (put_lists c.in_ok-name.name c.args.names value c.in_ok-lists.lists.entries members given lists)
