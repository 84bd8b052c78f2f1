use Rattle.std.proofs.Common.{List, length}
use Rattle.serde_json.specs.Data.{Data}
use Rattle.mk_json.specs.Tokens.{ItemsRead}
use Rattle.mk_foot.specs.ReaderParts.{text_of, GivesTexts}
use Rattle.mk_foot.specs.Steps.{each}
use Rattle.mk_foot.proofs.fields.read_list.Given as goal

-- the texts of the values so far
abbrev pub invariant-items : goal.invariant-items
invariant-items l = (values : List Data) × ItemsRead l.depth l.initial.reader values l.reader × GivesTexts l.texts (each (text_of l.key) values)

abbrev pub decreases-items : goal.decreases-items
decreases-items l = length l.reader
