use Rattle.std.proofs.Common.{List, length}
use Rattle.serde_json.specs.Data.{Data}
use Rattle.mk_json.specs.Tokens.{ItemsRead}
use Rattle.mk_cert_text.specs.Reading.{name_in}
use Rattle.mk_cert_text.specs.Steps.{Gives, each}
use Rattle.mk_cert_text.proofs.fields.read_list.Given as goal

-- the names of the values so far
abbrev pub invariant-items : goal.invariant-items
invariant-items l = (values : List Data) × ItemsRead l.depth l.initial.reader values l.reader × Gives (λ all. all) l.names (each (name_in l.key) values)

abbrev pub decreases-items : goal.decreases-items
decreases-items l = length l.reader
