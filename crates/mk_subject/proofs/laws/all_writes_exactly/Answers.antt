-- A writer has a recipe, so it stands in the serial order.
use Rattle.mk_lemmas.proofs.Members.{Has-flat_map, Has-from_flat_map}
use Rattle.mk_graph.specs.Serial.{serial_order}
use Rattle.mk_subject.specs.Subject.{writes_of}
use Rattle.mk_subject.proofs.InOrder.{writer_in_order}
use Rattle.mk_subject.proofs.laws.all_writes_exactly.Goals as goal

pub returns : goal.returns
returns c = λ x is f. (λ h. let (t, stands, wrote) = Has-from_flat_map (writes_of x) (serial_order x.graph) f h in (t, wrote), λ (t, wrote). Has-flat_map (writes_of x) (serial_order x.graph) t f (writer_in_order x is c.serial_reaches_each_once.ensures t f wrote) wrote)
