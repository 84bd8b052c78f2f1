-- The printed text of a verdict.
use Rattle.std.specs.Prelude.{ℕ, List, ◌∷◌, ◌++◌, codes}
use Rattle.std.specs.List.{flat_map}
use Rattle.std.specs.Fmt.{decimal}
use Rattle.mk_find.specs.Text.{text}
use Rattle.mk_find.specs.declared.finding.Finding.{Finding}
use Rattle.mk_world_plan.specs.PlanText.{names_text}
use Rattle.mk_cert_text.specs.Certificate.{Way}
use Rattle.mk_cert_text.specs.Words.{finish_word}
use Rattle.mk_core_text.specs.declared.verdict.Verdict.{Verdict}
use Rattle.mk_core_text.specs.declared.verdict.Verdict.TheVariants.{Yes, No}

-- `yes N recipes M reads`, with a newline.
abbrev pub yes_line : ℕ → ℕ → List ℕ
yes_line recipes reads =
    codes "yes " ++ (decimal recipes ++ (codes " recipes " ++ (decimal reads ++ codes " reads\n")))

-- `way RECIPE FILE FINISH PATH..`, with a newline.
abbrev pub way_line : Way → List ℕ
way_line w =
    codes "way " ++ (w.recipe ++ 32 ∷ (w.file ++ 32 ∷ (finish_word w.finish ++
    (names_text w.path ++ codes "\n"))))

-- A line for each way.
abbrev pub ways_text : List Way → List ℕ
ways_text ways = flat_map way_line ways

-- `no` and the finding, with a newline.
abbrev pub finding_line : Finding → List ℕ
finding_line found = codes "no " ++ (text found ++ codes "\n")

-- A line for each finding.
abbrev pub findings_text : List Finding → List ℕ
findings_text found = flat_map finding_line found

-- The text of a verdict: for a yes its numbers and its ways, for a no its findings.
abbrev pub verdict_text : Verdict → List ℕ
verdict_text (Yes certificate recipes reads) = yes_line recipes reads ++ ways_text certificate.ways
verdict_text (No found) = findings_text found
