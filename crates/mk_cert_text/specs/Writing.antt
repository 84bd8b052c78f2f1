-- The JSON value of a certificate, with its keys in the order of their bytes.
use Rattle.std.specs.Prelude.{ℕ, List, [], ◌∷◌, map, codes}
use Rattle.serde_json.specs.Data.{Data, number, string, unsigned}
use Rattle.mk_json.specs.Kinds.{array_of, object_of}
use Rattle.mk_cert_text.specs.Certificate.{Way, Certificate}
use Rattle.mk_cert_text.specs.Words.{finish_word}

-- the JSON array of names
abbrev pub names_value : List (List ℕ) → Data
names_value names = array_of (map string names)

-- the JSON object of a way
abbrev pub way_value : Way → Data
way_value way =
    object_of ((codes "end", string (finish_word way.finish)) ∷ (codes "file", string way.file) ∷
    (codes "path", names_value way.path) ∷ (codes "recipe", string way.recipe) ∷ [])

-- the JSON object of a certificate
abbrev pub value_of : Certificate → Data
value_of certificate =
    object_of ((codes "format", number (unsigned 1)) ∷
    (codes "goals", names_value certificate.goals) ∷
    (codes "ways", array_of (map way_value certificate.ways)) ∷ [])
