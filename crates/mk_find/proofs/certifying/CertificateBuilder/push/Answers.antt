-- All along the path are nodes.
use Rattle.std.proofs.Common.{◌<◌, ℕ, List, length, sym, subst}
use Rattle.mk_graph.specs.Membership.{Has}
use Rattle.mk_find.proofs.AddingEntries.{nodes_low}
use Rattle.mk_find.proofs.Noting.{reader_is_node}
use Rattle.mk_find.proofs.certifying.CertificateBuilder.push.Goals as goal

pub name_all-requires : goal.name_all-requires
name_all-requires c =
    let x = c.args.read.now.subject.now in
    let f = c.args.read.now.file.file in
    let t = c.args.read.now.row.now.number in
    let low = reader_is_node x t f c.requires.read.read in
    subst (λ (l : List ℕ). (n : ℕ) → Has l n → n < length x.graph.nodes) (sym c.deref.ensures.value) (nodes_low x f t c.args.path.now.nodes.items c.args.path.now.finish low c.requires.first)
