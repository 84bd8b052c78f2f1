-- Laws of what is named.
use Rattle.std.specs.Prelude.{List}
use Rattle.mk_graph.specs.Graph.{IsGraph}
use Rattle.mk_build.specs.Setting.{FileName}
use Rattle.mk_subject.specs.NodeRow.{NodeRow, AreRows}
use Rattle.mk_subject.specs.Subject.{Subject, IsSubject}
use Rattle.mk_find.specs.Findings.{AreFindings}
use Rattle.mk_find.specs.declared.finding.Finding.{Finding}
use Rattle.mk_since.specs.Doubts.{AreDoubted, HasNoStatic}
use Rattle.mk_since.specs.Named.{AreNamedBy, AreNamedWithout}
use Rattle.mk_since.specs.Parts.{doubted_among}
use Rattle.mk_since.specs.Past.{past_of}

-- What is named from what is kept of the old build are the files to remove.
abbrev pub NamedAreNamed : Type 0
NamedAreNamed =
    (doubted : List FileName) (x y : Subject) → IsGraph x.graph → IsGraph y.graph →
    (names : List FileName) → AreNamedBy (past_of doubted x) y names →
    AreNamedWithout doubted x y names

-- If there is no static finding, the targets that are found among the rows of a build are those of
-- its doubted recipes.
abbrev pub DoubtsAreThese : Type 0
DoubtsAreThese =
    (x : Subject) (found : List Finding) (entries : List NodeRow) → IsGraph x.graph →
    IsSubject x → HasNoStatic x → AreFindings x found → AreRows x entries →
    AreDoubted x (doubted_among found entries)
