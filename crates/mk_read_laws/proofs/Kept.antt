-- What holds of every state of a reading.
use Rattle.std.proofs.Common.{ℕ, zero, suc, Bool, true, false, cond, List, [], ◌∷◌, ◌++◌, codes, length, Option, None, Some, Result, Ok, Err}
use Rattle.std.specs.Prelude.{nat_le}
use Rattle.mk_lines.specs.Comments.{uncomment}
use Rattle.mk_lines.specs.Lines.{Line, logical_lines}
use Rattle.mk_read.specs.declared.fault.Place.{Place}
use Rattle.mk_read.specs.declared.fault.ReadFault.{ReadFault}
use Rattle.mk_read.specs.declared.fault.ReadFault.TheVariants.{NoMakefile}
use Rattle.mk_read.specs.Kinds.{Kind, IncludeLine, AssignmentLine, RuleLine, Comment, Include, Assignment, Rule, kind_of}
use Rattle.mk_read.specs.Names.{names_in, is_empty}
use Rattle.mk_read.specs.State.{State, Read, nothing_read, parted}
use Rattle.mk_read.specs.Rules.{command_line, assignment, rule}
use Rattle.mk_read.specs.Reading.{Reader, Text, Deeper, fails, found, one_file, files, include, plain_line, with_line, with_lines, with_text, reading, default_text, after_default, text_or, own_text, from_named}
use Rattle.mk_read.specs.Steps.{◌>>=◌, in_file, of_kind}

-- where a state results, it has the property
abbrev pub Holds : (State → Type 0) → Result State ReadFault → Type 0
Holds P (Ok state) = P state
Holds P (Err fault) = Unit {0}

pub holds_step : {A : Type 0} (P : State → Type 0) (r : Result A ReadFault) (f : A → Result State ReadFault) → ((x : A) → Holds P (f x)) → Holds P (r >>= f)
holds_step P (Ok x) f h = h x
holds_step P (Err fault) f h = tt

pub holds_then : (P : State → Type 0) (r : Result State ReadFault) (f : State → Result State ReadFault) → Holds P r → ((state : State) → P state → Holds P (f state)) → Holds P (r >>= f)
holds_then P (Ok state) f p h = h state p
holds_then P (Err fault) f p h = tt

pub holds_if : (P : State → Type 0) (b : Bool) (r s : Result State ReadFault) → Holds P r → Holds P s → Holds P (cond b r s)
holds_if P true r s p q = p
holds_if P false r s p q = q

-- Each line but an include line keeps the property, and so does what stands between texts. It may
-- be that the property is kept by the makefile's texts alone, and not by the default text.
pub record IsKept (P : State → Type 0) (Allows : Bool → Type 0) : Type 0 where
  pub own : Allows false
  pub by_assignment : (place : Place) (state : State) (line : AssignmentLine) → P state → Holds P (assignment place state line)
  pub by_rule : (default : Bool) (place : Place) (state : State) (line : RuleLine) → Allows default → P state → Holds P (rule default place state line)
  pub by_command : (place : Place) (text : List ℕ) (state : State) → P state → Holds P (command_line place text state.read.earlier state.read.owner >>= λ (read : Read). Ok (record state { read = read }))
  pub by_parting : (state : State) → P state → P (parted state)
  pub by_texts : (state : State) (texts : List (List ℕ)) → P state → P (record state { texts = texts })
  pub by_missing : (state : State) (missing : List (List ℕ)) → P state → P (record state { missing = missing })

module _ (P : State → Type 0) (Allows : Bool → Type 0) (kept : IsKept P Allows) (reader : Reader) where
  abbrev pub KeepsTexts : (List ℕ → List ℕ → State → Result State ReadFault) → Type 0
  KeepsTexts read = (name bytes : List ℕ) (state : State) → P state → Holds P (read name bytes state)

  abbrev pub KeepsDeeper : Deeper → Type 0
  KeepsDeeper None = Unit {0}
  KeepsDeeper (Some read) = KeepsTexts read

  by_found : (read : List ℕ → List ℕ → State → Result State ReadFault) → KeepsTexts read → (place : Place) (optional : Bool) (state : State) (name : List ℕ) (text : Option (List ℕ)) → P state → Holds P (found read place optional state name text)
  by_found read keeps place true state name None p = kept.by_missing state _ p
  by_found read keeps place false state name None p = tt
  by_found read keeps place optional state name (Some text) p = holds_then P (read name text (record state { texts = state.texts ++ name ∷ [] })) (λ after. Ok (parted after)) (keeps name text _ (kept.by_texts state _ p)) kept.by_parting

  by_file : (read : List ℕ → List ℕ → State → Result State ReadFault) → KeepsTexts read → (place : Place) (optional : Bool) (state : State) (name : List ℕ) → P state → Holds P (one_file reader read place optional state name)
  unfolding one_file
  by_file read keeps place optional state name p = holds_if P (nat_le 1024 (length state.texts)) _ _ tt (holds_if P (fails reader state) _ _ tt (by_found read keeps place optional state name (reader.text name) p))

  by_files : (read : List ℕ → List ℕ → State → Result State ReadFault) → KeepsTexts read → (place : Place) (optional : Bool) (names : List (List ℕ)) (state : State) → P state → Holds P (files reader read place optional names state)
  unfolding files
  by_files read keeps place optional [] state p = p
  by_files read keeps place optional (name ∷ names) state p = holds_then P (one_file reader read place optional state name) _ (by_file read keeps place optional state name p) (by_files read keeps place optional names)

  by_include : (deeper : Deeper) → KeepsDeeper deeper → (place : Place) (state : State) (line : IncludeLine) → P state → Holds P (include reader deeper place state line)
  by_include None keeps place state line p = tt
  by_include (Some read) keeps place state line p = holds_step P (names_in place state.table line.names) _ (λ names. holds_if P (is_empty names) _ _ tt (by_files read keeps place line.optional names (parted state) (kept.by_parting state p)))

  by_plain : (deeper : Deeper) → KeepsDeeper deeper → (default : Bool) → Allows default → (place : Place) (state : State) (line : Kind) → P state → Holds P (plain_line reader deeper default place state line)
  by_plain deeper keeps default allows place state Comment p = p
  by_plain deeper keeps default allows place state (Include line) p = by_include deeper keeps place state line p
  by_plain deeper keeps default allows place state (Assignment line) p = kept.by_assignment place state line p
  by_plain deeper keeps default allows place state (Rule line) p = kept.by_rule default place state line allows p

  by_line : (deeper : Deeper) → KeepsDeeper deeper → (text : Text) → Allows text.default → (state : State) (line : Line) → P state → Holds P (with_line reader deeper text state line)
  unfolding with_line
  by_line deeper keeps text allows state line p = holds_if P line.command _ _ (kept.by_command _ line.text state p) (holds_step P (of_kind _ (kind_of (uncomment line.text))) _ (λ kind. by_plain deeper keeps text.default allows _ state kind p))

  pub by_lines : (deeper : Deeper) → KeepsDeeper deeper → (text : Text) → Allows text.default → (lines : List Line) (state : State) → P state → Holds P (with_lines reader deeper text lines state)
  unfolding with_lines
  by_lines deeper keeps text allows [] state p = p
  by_lines deeper keeps text allows (line ∷ lines) state p = holds_then P (with_line reader deeper text state line) _ (by_line deeper keeps text allows state line p) (by_lines deeper keeps text allows lines)

  by_text : (deeper : Deeper) → KeepsDeeper deeper → (text : Text) → Allows text.default → (bytes : List ℕ) (state : State) → P state → Holds P (with_text reader deeper text bytes state)
  by_text deeper keeps text allows bytes state p = holds_step P (in_file text.file (logical_lines bytes)) _ (λ lines. by_lines deeper keeps text allows lines state p)

  pub by_reading : (levels : ℕ) → KeepsTexts (reading levels reader)
  unfolding reading
  by_reading zero name bytes state p = by_text None tt _ kept.own bytes state p
  by_reading (suc levels) name bytes state p = by_text (Some (reading levels reader)) (by_reading levels) _ kept.own bytes state p

  pub by_default : (defaults : Bool) → Allows true → P nothing_read → Holds P (after_default reader defaults)
  unfolding after_default
  by_default true allows p = by_text None tt _ allows default_text nothing_read p
  by_default false allows p = p

  by_text_or : (state : State) (name : List ℕ) (other : Result State ReadFault) (text : Option (List ℕ)) → P state → Holds P other → Holds P (text_or reader state name other text)
  by_text_or state name other None p q = q
  by_text_or state name other (Some bytes) p q = by_reading 16 name bytes _ (kept.by_texts (parted state) _ (kept.by_parting state p))

  by_own : (state : State) (name : List ℕ) (other : Result State ReadFault) → P state → Holds P other → Holds P (own_text reader state name other)
  unfolding own_text
  by_own state name other p q = holds_if P (fails reader state) _ _ tt (by_text_or state name other (reader.text name) p q)

  pub by_named : (state : State) (file : Option (List ℕ)) → P state → Holds P (from_named reader state file)
  unfolding from_named
  by_named state (Some name) p = by_own state name (Err (NoMakefile (Some name))) p tt
  by_named state None p = by_own state (codes "makefile") _ p (by_own (record state { missing = codes "makefile" ∷ [] }) (codes "Makefile") (Err (NoMakefile None)) (kept.by_missing state _ p) tt)
