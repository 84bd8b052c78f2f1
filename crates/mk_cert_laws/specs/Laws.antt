-- Laws about accepted certificates, and about the texts of certificates.
use Rattle.std.specs.Prelude.{◌≡◌, ℕ, true, List, [], ◌∷◌, ◌++◌, map, Ok}
use Rattle.std.specs.List.{list_all}
use Rattle.mk_lines.specs.Paths.{is_plain_path}
use Rattle.serde_json.specs.Written.{compact_text}
use Rattle.mk_graph.specs.Graph.{Graph, IsGraph}
use Rattle.mk_build.specs.Setting.{FileName, Setting}
use Rattle.mk_build.specs.Steps.{Step, IsLegal, disk_after}
use Rattle.mk_build.specs.World.{Disk, Idle, IsStartDisk}
use Rattle.mk_subject.specs.Subject.{IsRecipe, Subject, IsSubject, name_of}
use Rattle.mk_cert.specs.Verdict.{Verifies}
use Rattle.mk_cert_text.specs.Certificate.{Certificate}
use Rattle.mk_cert_text.specs.Laws.{names_of}
use Rattle.mk_cert_text.specs.Reading.{certificate_from}
use Rattle.mk_cert_text.specs.Writing.{value_of}
use Rattle.mk_cert_laws.specs.Covered.{IsCovered}
use Rattle.mk_cert_laws.specs.Disks.{IsKnown, IsOn, IsSelectedAnew, PartsAreSelectedAnew}

-- If a certificate is accepted, each recipe of the graph is covered.
abbrev pub RecipesAreCovered : Type 0
RecipesAreCovered =
    (x : Subject) (c : Certificate) → IsGraph x.graph → IsSubject x → Verifies x c (Ok tt) →
    (t : ℕ) → IsRecipe x t → IsCovered x t

-- On each disk that a trace from a start disk leaves, each file is given or written by a recipe of
-- the graph.
abbrev pub FilesAreKnown : Type 0
FilesAreKnown =
    (g : Graph) (s : Setting) (d : Disk) (steps : List Step) → IsStartDisk s d →
    IsLegal g s (Idle d) steps → (f : FileName) → IsOn (disk_after g s d steps) f → IsKnown g s f

-- If a certificate is accepted, each make of its goals or of some of them selects the graph that
-- was judged or a part of it.
abbrev pub AcceptedIsSelectedAnew : Type 0
AcceptedIsSelectedAnew =
    (x : Subject) (c : Certificate) → IsGraph x.graph → IsSubject x → Verifies x c (Ok tt) →
    IsSelectedAnew x (map (name_of x) x.graph.goals) x.graph ×
    PartsAreSelectedAnew x (map (name_of x) x.graph.goals)

-- The text of a certificate with a newline behind it is read as that certificate.
abbrev pub LineIsReadBack : Type 0
LineIsReadBack =
    (certificate : Certificate) → list_all is_plain_path (names_of certificate) ≡ true →
    certificate_from (compact_text (value_of certificate) ++ 10 ∷ []) ≡ Ok certificate
