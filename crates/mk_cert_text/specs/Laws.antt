-- Laws of certificates.
use Rattle.std.specs.Prelude.{◌≡◌, ◌↔◌, ℕ, true, List, [], ◌∷◌, ◌++◌, codes, pos, None, Some, Ok, Err}
use Rattle.std.specs.List.{list_all, flat_map}
use Rattle.mk_lines.specs.Paths.{is_plain_path}
use Rattle.serde_json.specs.Written.{compact_text}
use Rattle.serde_json.specs.Data.{Data}
use Rattle.mk_json.specs.Kinds.{elements_at, has_only, integer_at, text_at, texts_at}
use Rattle.mk_json.specs.Reading.{json_of}
use Rattle.mk_cert_text.specs.declared.fault.CertTextFault.TheVariants.{NotJson}
use Rattle.mk_cert_text.specs.Certificate.{Way, Certificate}
use Rattle.mk_cert_text.specs.Reading.{certificate_in, certificate_from}
use Rattle.mk_cert_text.specs.Words.{finish_word}
use Rattle.mk_cert_text.specs.Writing.{value_of}

-- all names in a way
abbrev pub names_of_way : Way → List (List ℕ)
names_of_way way = way.recipe ∷ way.file ∷ way.path

-- all names in a certificate
abbrev pub names_of : Certificate → List (List ℕ)
names_of certificate = certificate.goals ++ flat_map names_of_way certificate.ways

-- a JSON object represents a way: it has the parts of the way under their keys, in any order, and
-- no other key
pub record RepresentsWay (entry : Data) (way : Way) : Type 0 where
  pub finish : text_at (codes "end") entry ≡ Some (finish_word way.finish)
  pub file : text_at (codes "file") entry ≡ Some way.file
  pub path : texts_at (codes "path") entry ≡ Some way.path
  pub recipe : text_at (codes "recipe") entry ≡ Some way.recipe
  pub only :
      has_only (codes "end" ∷ codes "file" ∷ codes "path" ∷ codes "recipe" ∷ []) entry ≡ true

-- these JSON values represent these ways, in order
abbrev pub RepresentWays : List Data → List Way → Type 0
RepresentWays [] [] = Unit {0}
RepresentWays [] (way ∷ ways) = ⊥
RepresentWays (entry ∷ entries) [] = ⊥
RepresentWays (entry ∷ entries) (way ∷ ways) = RepresentsWay entry way × RepresentWays entries ways

-- a JSON object represents a certificate: it has its parts under their keys, in any order, and no
-- other key
pub record Represents (value : Data) (certificate : Certificate) : Type 0 where
  pub format : integer_at (codes "format") value ≡ Some (pos 1)
  pub goals : texts_at (codes "goals") value ≡ Some certificate.goals
  pub entries : List Data
  pub ways : elements_at (codes "ways") value ≡ Some entries
  pub said : RepresentWays entries certificate.ways
  pub only : has_only (codes "format" ∷ codes "goals" ∷ codes "ways" ∷ []) value ≡ true

-- A value is read as a certificate exactly if it represents it and all names are plain paths.
abbrev pub ReadsWhatIsRepresented : Type 0
ReadsWhatIsRepresented =
    (value : Data) (certificate : Certificate) → (certificate_in value ≡ Ok certificate) ↔
    (Represents value certificate × (list_all is_plain_path (names_of certificate) ≡ true))

-- The value of a certificate is read as that certificate, in whatever order its ways are.
abbrev pub ValueIsReadBack : Type 0
ValueIsReadBack =
    (certificate : Certificate) → list_all is_plain_path (names_of certificate) ≡ true →
    certificate_in (value_of certificate) ≡ Ok certificate

-- The text of a certificate is read as that certificate.
abbrev pub TextIsReadBack : Type 0
TextIsReadBack =
    (certificate : Certificate) → list_all is_plain_path (names_of certificate) ≡ true →
    certificate_from (compact_text (value_of certificate)) ≡ Ok certificate

-- All names of a certificate that was read are plain paths, so it can be written and read again.
abbrev pub NamesReadArePlain : Type 0
NamesReadArePlain =
    (bytes : List ℕ) (certificate : Certificate) → certificate_from bytes ≡ Ok certificate →
    list_all is_plain_path (names_of certificate) ≡ true

-- The answer is `NotJson` (71) exactly if the bytes have no JSON value.
abbrev pub OnlyTextWithoutValueIsNoJson : Type 0
OnlyTextWithoutValueIsNoJson =
    (bytes : List ℕ) → (certificate_from bytes ≡ Err NotJson) ↔ (json_of bytes ≡ None)
