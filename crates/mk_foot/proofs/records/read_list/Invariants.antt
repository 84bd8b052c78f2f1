use Rattle.std.proofs.Common.{List, length}
use Rattle.serde_json.specs.Data.{Data}
use Rattle.mk_json.specs.Tokens.{ItemsRead}
use Rattle.mk_foot.specs.FootprintFile.{entry_in}
use Rattle.mk_foot.specs.Steps.{Gives, each}
use Rattle.mk_foot.proofs.records.read_list.Given as goal

-- what the values so far give
abbrev pub invariant-items : goal.invariant-items
invariant-items l = (values : List Data) × ItemsRead l.depth l.initial.reader values l.reader × Gives (λ all. all.items) l.entries (each (entry_in l.format) values)

abbrev pub decreases-items : goal.decreases-items
decreases-items l = length l.reader
