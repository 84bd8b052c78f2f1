-- Laws about first paths and the certificates that have them.
use Rattle.std.specs.Prelude.{◌≡◌, ℕ, suc, ◌≤◌, List, length}
use Rattle.mk_cert_text.specs.declared.certificate.Finish.{Finish}
use Rattle.mk_cert_text.specs.Certificate.{Way, Certificate}
use Rattle.mk_graph.specs.Graph.{IsGraph}
use Rattle.mk_subject.specs.Subject.{Subject}
use Rattle.mk_subject.specs.Reads.{Read}
use Rattle.mk_find.specs.FirstPaths.{IsPathOver, IsFirstPath}
use Rattle.mk_find.specs.Certifying.{IsEntryFor, IsCertificate, HasShortestWays}

-- From a recipe to a file there is at most one first path, with one finish.
abbrev pub FirstPathIsOne : Type 0
FirstPathIsOne =
    (x : Subject) (f : List ℕ) (t : ℕ) (way other : List ℕ) (finish other_finish : Finish) →
    IsFirstPath x f t way finish → IsFirstPath x f t other other_finish →
    (way ≡ other) × (finish ≡ other_finish)

-- No path to the file is shorter than the first path.
abbrev pub FirstPathIsShortest : Type 0
FirstPathIsShortest =
    (x : Subject) (f : List ℕ) (t : ℕ) (way : List ℕ) (finish : Finish) →
    IsFirstPath x f t way finish →
    (others : List ℕ) (other_finish : Finish) → IsPathOver x f other_finish t others →
    length way ≤ length others

-- At most one certificate meets `IsCertificate`.
abbrev pub CertificateIsOne : Type 0
CertificateIsOne =
    (x : Subject) (one other : Certificate) → IsCertificate x one → IsCertificate x other →
    one ≡ other

-- No path for a read is shorter than that of its entry, which begins with the recipe.
abbrev pub EntriesAreShortest : Type 0
EntriesAreShortest =
    (x : Subject) (r : Read) (w : Way) → IsEntryFor x r w →
    (others : List ℕ) (finish : Finish) →
    IsPathOver x r.file finish r.recipe others →
    length w.path ≤ suc (length others)

-- No way is shorter than the certificate's.
abbrev pub CertificateIsShortest : Type 0
CertificateIsShortest =
    (x : Subject) (c : Certificate) → IsGraph x.graph → IsCertificate x c → HasShortestWays x c
