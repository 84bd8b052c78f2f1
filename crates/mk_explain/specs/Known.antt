-- The findings and the faults that are explained.
use Rattle.std.specs.Prelude.{ℕ, List, [], ◌∷◌, codes}

-- The first words of the findings.
abbrev pub finding_words : List (List ℕ)
finding_words =
    codes "record" ∷
    codes "commands" ∷
    codes "varying" ∷
    codes "target" ∷
    codes "writers" ∷
    codes "given" ∷
    codes "own" ∷
    codes "unknown" ∷
    codes "loose" ∷
    codes "race" ∷
    codes "stale" ∷
    codes "selection" ∷ []

-- The faults, each with its number and its name. Where faults share a number, the first one stands
-- for all.
abbrev pub fault_names : List (ℕ × List ℕ)
fault_names =
    (1, codes "NulByte") ∷
    (2, codes "LineTooLong") ∷
    (3, codes "TooManyLines") ∷
    (11, codes "BadMacroName") ∷
    (12, codes "Recursive") ∷
    (13, codes "Unclosed") ∷
    (14, codes "TooManyReferences") ∷
    (15, codes "ValueTooLong") ∷
    (16, codes "LoneDollar") ∷
    (17, codes "MemberMacro") ∷
    (21, codes "ShellAssign") ∷
    (22, codes "ColonAssign") ∷
    (23, codes "DoubleColon") ∷
    (24, codes "TargetMacro") ∷
    (25, codes "NotALine") ∷
    (26, codes "StrayCommand") ∷
    (27, codes "BadName") ∷
    (27, codes "BadGoal") ∷
    (27, codes "BadMakefileName") ∷
    (28, codes "ArchiveMember") ∷
    (28, codes "GoalIsMember") ∷
    (29, codes "UnknownSpecial") ∷
    (30, codes "SpecialShape") ∷
    (31, codes "TwoRecipes") ∷
    (32, codes "IncludeMissing") ∷
    (33, codes "IncludeDepth") ∷
    (34, codes "IncludeEmpty") ∷
    (35, codes "ReadFailed") ∷
    (35, codes "FileReadFailed") ∷
    (36, codes "TooManyFiles") ∷
    (37, codes "NoMakefile") ∷
    (38, codes "NoFile") ∷
    (41, codes "NoRule") ∷
    (42, codes "Cycle") ∷
    (43, codes "TooManyNodes") ∷
    (44, codes "NoGoal") ∷
    (45, codes "InferencePrerequisites") ∷
    (51, codes "NotJson") ∷
    (52, codes "Shape") ∷
    (53, codes "OtherFormat") ∷
    (54, codes "TwoRecords") ∷
    (55, codes "BadFootprintName") ∷
    (56, codes "SourceIsFixed") ∷
    (57, codes "NoGroup") ∷
    (58, codes "NoList") ∷
    (59, codes "ClockSpent") ∷
    (60, codes "OtherOutcome") ∷
    (61, codes "NoMake") ∷
    (62, codes "MakeRuns") ∷
    (63, codes "NotReady") ∷
    (64, codes "NoJobFree") ∷
    (65, codes "OutOfDate") ∷
    (66, codes "NotRunning") ∷
    (67, codes "NotInFootprint") ∷
    (68, codes "NotAllDone") ∷
    (69, codes "PlanLine") ∷
    (69, codes "BadPlanLine") ∷
    (70, codes "NotEditable") ∷
    (77, codes "NotAGoal") ∷
    (78, codes "NotLeftToRun") ∷
    (71, codes "CertificateNotJson") ∷
    (72, codes "CertificateShape") ∷
    (73, codes "OtherGoals") ∷
    (74, codes "NoWay") ∷
    (75, codes "BadWay") ∷
    (76, codes "Static") ∷ []

-- The other words that answers begin with.
abbrev pub term_words : List (List ℕ)
term_words = codes "yes" ∷ codes "way" ∷ codes "cycle" ∷ codes "tried" ∷ []
