-- What each finding says, as groups gather it.
use Rattle.std.specs.Prelude.{ℕ, Bool, true, false, not, ◌&&◌, List, [], Option, None, Some, is_some, if◌then◌else◌}
use Rattle.std.specs.Str.{bytes_eq}
use Rattle.mk_lines.specs.Names.{number_of}
use Rattle.mk_foot.specs.Setting.{record_for}
use Rattle.mk_graph.specs.Graph.{node}
use Rattle.mk_subject.specs.FileInfo.{all_names}
use Rattle.mk_subject.specs.Subject.{Subject}
use Rattle.mk_find.specs.declared.finding.Finding.{Finding}
use Rattle.mk_find.specs.declared.finding.Finding.TheVariants as finding
use Rattle.mk_repair.specs.FindingWords.{needs_directly, word_of}
use Rattle.mk_repair.specs.Makers.{Makers, makers_of, no_maker, one_maker, two_makers}
use Rattle.mk_repair.specs.Word.{Word, needs, phony}
use Rattle.mk_claims.specs.Topics.{Topic, topic_view}
use Rattle.mk_claims.specs.declared.topic.Kind.{Kind}
use Rattle.mk_claims.specs.declared.topic.Kind.TheVariants as kind
use Rattle.mk_claims.specs.declared.claim.Claim as borrowed

-- What a finding says: a topic, the name that it is about, and the file that it is about, which is
-- empty where the kind has none.
pub record Claim : Type 0 where
  pub topic : Topic
  pub who : List ℕ
  pub what : List ℕ

-- The claim that a borrowed claim stands for.
abbrev pub claim_view : borrowed.Claim → Claim
claim_view c = record { topic = topic_view c.topic; who = c.who.now; what = c.what.now }

-- A claim whose topic has no names.
abbrev pub about : Kind → (has_line : Bool) → (who what : List ℕ) → Claim
about kind has_line who what = record {
  topic = record { kind = kind; has_line = has_line; first = []; second = []; cycle = [] };
  who = who;
  what = what;
}

-- A claim whose topic has two names, and that no line of the makefile mends.
abbrev pub between : Kind → (first second who what : List ℕ) → Claim
between kind first second who what = record {
  topic = record { kind = kind; has_line = false; first = first; second = second; cycle = [] };
  who = who;
  what = what;
}

-- A line of the makefile mends the finding.
abbrev pub is_repaired : Subject → Finding → Bool
is_repaired x f = is_some (word_of x f)

-- The claim that a recipe reads a file, by the word that the finding gives. Where the prerequisite
-- that is missing isn't the file, it is a name of the topic.
abbrev pub read_claim : (direct indirect : Kind) → (recipe file : List ℕ) → Option Word → Claim
read_claim direct indirect recipe file None = about direct false recipe file
read_claim direct indirect recipe file (Some (phony target)) = about direct false recipe file
read_claim direct indirect recipe file (Some (needs target prerequisite)) =
    if bytes_eq prerequisite file then about direct true recipe file
    else (record {
      topic = record {
        kind = indirect;
        has_line = true;
        first = prerequisite;
        second = [];
        cycle = [];
      };
      who = recipe;
      what = file;
    })

-- The claim that a recipe reads an unknown file that no line lets it need, by what may make the
-- file: where there are two targets, these are names of the topic.
abbrev pub unmade_claim : (recipe file : List ℕ) → Makers → Claim
unmade_claim recipe file no_maker = about kind.UnknownRead false recipe file
unmade_claim recipe file (one_maker name) = about kind.UnknownRead false recipe file
unmade_claim recipe file (two_makers first second) =
    between kind.UnknownRead first second recipe file

-- The goals reach the name, and it has a recipe without a record.
abbrev pub lacks_record : Subject → List ℕ → Bool
lacks_record x name =
    (node x.graph (number_of (all_names x) name)).recipe &&
    not (is_some (record_for x.setting.records name))

-- The claim that a recipe reads an unknown file that no line lets it need: by whether the file has
-- a recipe without a record, and else by what may make it.
abbrev pub unwritten_claim : (recipe file : List ℕ) → (lacks : Bool) → Makers → Claim
unwritten_claim recipe file lacks makers =
    if lacks then about kind.UnrecordedRead false recipe file else unmade_claim recipe file makers

-- The claim that a recipe reads an unknown file, by the word that the finding gives, whether the
-- file has a recipe without a record, and what may make it. A prerequisite that a line adds is a
-- name of the topic.
abbrev pub unknown_claim : (recipe file : List ℕ) → Option Word → (lacks : Bool) → Makers → Claim
unknown_claim recipe file None lacks makers = unwritten_claim recipe file lacks makers
unknown_claim recipe file (Some (phony target)) lacks makers =
    unwritten_claim recipe file lacks makers
unknown_claim recipe file (Some (needs target prerequisite)) lacks makers = record {
  topic = record {
    kind = kind.UnreachedRead;
    has_line = true;
    first = prerequisite;
    second = [];
    cycle = [];
  };
  who = recipe;
  what = file;
}

-- The claim of a finding.
abbrev pub claim_of : Subject → Finding → Claim
claim_of x (finding.NoRecord recipe) = about kind.NoRecord false recipe []
claim_of x (finding.OtherCommands recipe) = about kind.OtherCommands false recipe []
claim_of x (finding.VaryingCommands recipe) = about kind.VaryingCommands false recipe []
claim_of x (finding.NoTarget recipe) =
    about kind.NoTarget (is_repaired x (finding.NoTarget recipe)) recipe []
claim_of x (finding.TwoWriters first second file) =
    between kind.TwoWriters first second file []
claim_of x (finding.GivenWritten recipe file) = about kind.GivenWritten false recipe file
claim_of x (finding.OwnRead recipe file) = about kind.OwnRead false recipe file
claim_of x (finding.UnknownRead recipe file) =
    unknown_claim recipe file (word_of x (finding.UnknownRead recipe file)) (lacks_record x file)
    (makers_of x file)
claim_of x (finding.Loose name writer) =
    if needs_directly x writer name then about kind.OwnPrerequisite false name writer
    else about kind.Loose (is_repaired x (finding.Loose name writer)) name writer
claim_of x (finding.Race recipe writer file) =
    read_claim kind.Race kind.OutputRace recipe file (word_of x (finding.Race recipe writer file))
claim_of x (finding.Stale recipe file) =
    read_claim kind.Stale kind.OutputStale recipe file (word_of x (finding.Stale recipe file))
claim_of x (finding.Selection name chosen) = between kind.Selection name chosen name chosen
