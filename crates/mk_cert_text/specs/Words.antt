-- The words for the ends of ways.
use Rattle.std.specs.Prelude.{ℕ, List, codes, Option, Some, None, if◌then◌else◌}
use Rattle.std.specs.Str.{bytes_eq}
use Rattle.mk_cert_text.specs.declared.certificate.Finish.{Finish}
use Rattle.mk_cert_text.specs.declared.certificate.Finish.TheVariants.{Written, Source, Always}

-- the word for an end
abbrev pub finish_word : Finish → List ℕ
finish_word Written = codes "written"
finish_word Source = codes "source"
finish_word Always = codes "always"

-- the end that a word stands for
abbrev pub finish_of : List ℕ → Option Finish
finish_of word =
    if bytes_eq word (codes "written") then Some Written else
    (if bytes_eq word (codes "source") then Some Source else
    (if bytes_eq word (codes "always") then Some Always else None))
