use Rattle.std.proofs.Common.{◌≡◌, true, None, ap, ◌∙◌}
use Rattle.std.proofs.lemmas.Bool.{OnTrue_at}
use Rattle.mk_lines.specs.Names.{has_name}
use Rattle.mk_build.specs.World.{changed}
use Rattle.mk_world.specs.Tables.{look}
use Rattle.mk_world.proofs.Disks.{removed_is}
use Rattle.mk_world.proofs.disk.Disk.remove.Goals as goal

pub returns-clause-disk : goal.returns-clause-disk
returns-clause-disk c =
    let there : c.clear.result ≡ true = c.clear.ensures.there ∙ (ap (λ d. has_name d.names c.args.file.now) c.self.view_is ∙ c.requires) in
    let is : look c.self.inside.names c.clear.new.values.items ≡ changed (look c.self.inside.names c.self.inside.files.items) c.args.file.now None = OnTrue_at there c.clear.ensures.noted in
    rw (← c.self.view_is) (removed_is (record { names = c.self.inside.names; files = c.self.inside.files.items; clock = c.self.inside.clock; known = c.self.inside.known }) c.clear.new.values.items c.args.file.now is)
