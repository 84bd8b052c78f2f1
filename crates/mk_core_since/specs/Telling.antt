-- Findings of a build, and their sentences where these are asked for.
use Rattle.std.specs.Prelude.{◌≡◌, ℕ, Bool, true, false, List, []}
use Rattle.mk_find.specs.Findings.{AreFindings}
use Rattle.mk_find.specs.declared.finding.Finding.{Finding}
use Rattle.mk_subject.specs.Subject.{Subject}
use Rattle.mk_core_sentences.specs.InWordsAnswer.{Tells}

-- The text has the sentences of the findings in words, and is empty else.
abbrev pub TellsIf : (words : Bool) → Subject → List Finding → List ℕ → Type 0
TellsIf true x found text = Tells x found text
TellsIf false x found text = text ≡ []

-- These are the findings of the build, at least one, and this is their text, in words or not.
abbrev pub AreTold : (words : Bool) → Subject → List Finding → List ℕ → Type 0
AreTold words x found text =
    (¬ (found ≡ [])) × AreFindings x found × TellsIf words x found text
