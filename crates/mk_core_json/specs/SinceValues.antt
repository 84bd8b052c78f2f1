-- The JSON values of the answers of `since`.
use Rattle.std.specs.Prelude.{ℕ, List, [], ◌∷◌, ◌++◌, codes, map}
use Rattle.serde_json.specs.Data.{Data, number, string, unsigned}
use Rattle.mk_cert_text.specs.Writing.{names_value}
use Rattle.mk_find.specs.Text.{text}
use Rattle.mk_find.specs.declared.finding.Finding.{Finding}
use Rattle.mk_json.specs.Kinds.{array_of, object_of}
use Rattle.mk_core_json.specs.FindingValue.{kind_of, names_of}

-- The answer with the files to remove.
abbrev pub named_value : List (List ℕ) → Data
named_value files =
    object_of ((codes "answer", string (codes "yes")) ∷
    (codes "files", names_value files) ∷
    (codes "format", number (unsigned 1)) ∷ [])

-- A finding as `check` prints it, with its kind and its names.
abbrev pub told_value : Finding → Data
told_value found =
    object_of ((codes "kind", string (kind_of found)) ∷
    (codes "names", names_value (names_of found)) ∷
    (codes "text", string (codes "no " ++ text found)) ∷ [])

-- The answer with the findings of a build, which is `new` or `old`.
abbrev pub told_values : List ℕ → List Finding → Data
told_values build found =
    object_of ((codes "answer", string (codes "no")) ∷
    (codes "build", string build) ∷
    (codes "findings", array_of (map told_value found)) ∷
    (codes "format", number (unsigned 1)) ∷ [])
