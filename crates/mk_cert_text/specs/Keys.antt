-- How keys are spelled.
use Rattle.std.specs.Prelude.{ℕ, List, codes}
use Rattle.mk_cert_text.specs.declared.key.Key.{Key}
use Rattle.mk_cert_text.specs.declared.key.Key.TheVariants.{Top, Format, Goals, Ways, End, File, Path, Recipe, Unknown}

abbrev pub spelling : Key → List ℕ
spelling Top = codes "top"
spelling Format = codes "format"
spelling Goals = codes "goals"
spelling Ways = codes "ways"
spelling End = codes "end"
spelling File = codes "file"
spelling Path = codes "path"
spelling Recipe = codes "recipe"
spelling Unknown = codes "unknown"
