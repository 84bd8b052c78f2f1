-- How keys are spelled.
use Rattle.std.specs.Prelude.{ℕ, List, codes}
use Rattle.mk_foot.specs.declared.key.Key.{Key}
use Rattle.mk_foot.specs.declared.key.Key.TheVariants.{Top, Format, Fixed, Sources, Records, Target, Commands, Reads, Writes, Shared, Lists, Groups, Goals, Unknown}

abbrev pub spelling : Key → List ℕ
spelling Top = codes "top"
spelling Format = codes "format"
spelling Fixed = codes "fixed"
spelling Sources = codes "sources"
spelling Records = codes "records"
spelling Target = codes "target"
spelling Commands = codes "commands"
spelling Reads = codes "reads"
spelling Writes = codes "writes"
spelling Shared = codes "shared"
spelling Lists = codes "lists"
spelling Groups = codes "groups"
spelling Goals = codes "goals"
spelling Unknown = codes "unknown"
