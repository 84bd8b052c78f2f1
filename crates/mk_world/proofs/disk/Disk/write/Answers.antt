use Rattle.std.proofs.Common.{◌≡◌, ◌+◌, true, Some, ap, ◌∙◌}
use Rattle.std.proofs.lemmas.Bool.{OnTrue_at}
use Rattle.mk_lines.specs.Names.{has_name}
use Rattle.mk_build.specs.World.{changed}
use Rattle.mk_world.specs.Tables.{look}
use Rattle.mk_world.proofs.Disks.{written_is}
use Rattle.mk_world.proofs.disk.Disk.write.Goals as goal

pub returns-clause-disk : goal.returns-clause-disk
returns-clause-disk c =
    let there : c.set.result ≡ true = c.set.ensures.there ∙ (ap (λ d. has_name d.names c.args.file.now) c.self.view_is ∙ c.requires.name) in
    let is : look c.self.inside.names c.set.new.values.items ≡ changed (look c.self.inside.names c.self.inside.files.items) c.args.file.now (Some (record { content = c.args.content; stamp = c.self.inside.clock + 1 })) = OnTrue_at there c.set.ensures.noted in
    rw (← c.self.view_is) (written_is (record { names = c.self.inside.names; files = c.self.inside.files.items; clock = c.self.inside.clock; known = c.self.inside.known }) c.set.new.values.items c.args.file.now c.args.content is)
