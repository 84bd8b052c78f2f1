-- Who writes a file stands among its writers.
use Rattle.mk_graph.specs.Graph.{prerequisites}
use Rattle.mk_subject.specs.NodeRow.{writers_of}
use Rattle.mk_subject.specs.Subject.{name_of}
use Rattle.std.proofs.Common.{refl}
use Rattle.mk_lemmas.proofs.Members.{Has-flat_map, Has-from_flat_map}
use Rattle.mk_subject.proofs.CarriedNodes.{listed}
use Rattle.mk_subject.proofs.laws.carried_exactly.Goals as goal

pub returns : goal.returns
returns c = λ x is t o.
    let reaches = c.serial_reaches_each_once.ensures in (
      λ h. let (p, stands, within) = Has-from_flat_map (λ k. writers_of x (name_of x k)) (prerequisites x.graph t) o h in (p, stands, (listed x is reaches (name_of x p) (writers_of x (name_of x p)) refl o).0 within),
      λ (p, stands, wrote). Has-flat_map (λ k. writers_of x (name_of x k)) (prerequisites x.graph t) p o stands ((listed x is reaches (name_of x p) (writers_of x (name_of x p)) refl o).1 wrote),
    )
