-- Rule lines and include lines, recognized by two definitions.
use Rattle.std.proofs.Common.{◌≡◌, ℕ, ◌+◌, suc, Bool, true, false, not, ◌&&◌, ◌||◌, cond, eqb, List, [], ◌∷◌, length, get_or, take, drop, Option, Some, None, Result, Ok, Err, refl, sym, ap, subst, ◌∙◌, inl, inr, ◌⊎◌, arith}
use Rattle.std.specs.Prelude.{codes}
use Rattle.std.specs.List.{before_first, after_first, prefix_len}
use Rattle.std.specs.Option.{option_map}
use Rattle.std.specs.Str.{bytes_eq}
use Rattle.std.proofs.lemmas.Bool.Decides.{nat_tests}
use Rattle.std.proofs.lemmas.Bool.{both_ways, and_parts, not-true}
use Rattle.mk_read.proofs.RuleBytes.{by_parts-rule_line}
use Rattle.mk_lines.specs.Bytes.{is_blank, trimmed, begins_with}
use Rattle.mk_lines.specs.References.{first_from, first_outside}
use Rattle.mk_lines.specs.RuleLines.{begins_with_rule_colon, is_decisive, is_include, is_rule_colon_at, is_rule_line}
use Rattle.mk_read.specs.declared.fault.KindFault.{KindFault}
use Rattle.mk_read.specs.declared.fault.KindFault.TheVariants.{ShellAssign, ColonAssign, DoubleColon, TargetMacro, NotALine}
use Rattle.mk_macros.specs.Substitution.{ends_with, without_end}
use Rattle.mk_macros.specs.Definitions.{without_blanks}
use Rattle.mk_macros.specs.declared.op.Op.TheVariants.{Delay, Now, Double, IfUnset, Append}
use Rattle.mk_read.specs.Kinds.{Kind, AssignmentLine, IncludeLine, RuleLine, Assignment, Comment, Include, Rule, assignment_line, by_byte, by_parts, by_word, include_line, is_end_of_words, kind_of, of_trimmed, rule_line, with_targets, words_and_command}
use Rattle.mk_read.specs.Laws.{IncludeLinesAreOfOneKind, IsOfRule, RuleLinesAreOfOneKind}

abbrev Bytes : Type 0
Bytes = List ℕ

-- ---- blanks that lead a line

blank_is : (b : ℕ) → is_blank b ≡ true → (b ≡ 32) ⊎ (b ≡ 9)
blank_is b h = grind (arith, nat_tests, h)

blank_skipped : (b : ℕ) (text : Bytes) → is_blank b ≡ true → first_outside is_decisive (b ∷ text) ≡ option_map suc (first_outside is_decisive text)
unfolding first_from
blank_skipped b text h = elim (blank_is b h) [
  | inl e ↦ subst (λ b. first_outside is_decisive (b ∷ text) ≡ option_map suc (first_outside is_decisive text)) (sym e) refl
  | inr e ↦ subst (λ b. first_outside is_decisive (b ∷ text) ≡ option_map suc (first_outside is_decisive text)) (sym e) refl
]

colon_behind : (b : ℕ) (text : Bytes) (at : Option ℕ) → is_rule_colon_at (b ∷ text) (option_map suc at) ≡ is_rule_colon_at text at
colon_behind b text None = refl
colon_behind b text (Some at) = refl

-- the colon of a line and of what stands behind its leading blanks
trimmed_colon : (text : Bytes) → is_rule_colon_at text (first_outside is_decisive text) ≡ is_rule_colon_at (trimmed text) (first_outside is_decisive (trimmed text))
trimmed_colon [] = refl
trimmed_colon (b ∷ text) = at (is_blank b) refl (trimmed_colon text)
  where
    at : (blank : Bool) → is_blank b ≡ blank → is_rule_colon_at text (first_outside is_decisive text) ≡ is_rule_colon_at (trimmed text) (first_outside is_decisive (trimmed text))
        → is_rule_colon_at (b ∷ text) (first_outside is_decisive (b ∷ text)) ≡ is_rule_colon_at (drop (cond (is_blank b) (1 + prefix_len is_blank text) 0) (b ∷ text)) (first_outside is_decisive (drop (cond (is_blank b) (1 + prefix_len is_blank text) 0) (b ∷ text)))
    at true e more =
        let one : 1 + prefix_len is_blank text ≡ suc (prefix_len is_blank text) = omega arith in
        rw (e, one) (ap (is_rule_colon_at (b ∷ text)) (blank_skipped b text e) ∙ (colon_behind b text (first_outside is_decisive text) ∙ more))
    at false e more = rw e refl

-- ---- what stands behind a colon

sized : (none : Bool) (line : RuleLine) → IsOfRule (cond none (Err NotALine) (Ok (Rule line)))
sized true line = tt
sized false line = tt

ended : (equals : Bool) (line : RuleLine) → IsOfRule (with_targets (cond equals (Err TargetMacro) (Ok line)))
ended true line = tt
ended false line = sized (eqb (length line.targets) 0) line

words_are : (targets rest : Bytes) (at : Option ℕ) → IsOfRule (with_targets (words_and_command targets rest at))
words_are targets rest None = sized (eqb (length targets) 0) _
words_are targets rest (Some at) = ended (eqb (get_or rest at 0) 61) _

by_rule_line : (before from : Bytes) → begins_with_rule_colon from ≡ true → by_parts before from ≡ rule_line before (drop 1 from)
by_rule_line before [] h = absurd (both_ways false refl h)
by_rule_line before (b ∷ []) h =
    let colon : b ≡ 58 = grind (arith, nat_tests, h) in
    subst (λ b. by_parts before (b ∷ []) ≡ rule_line before []) (sym colon) refl
by_rule_line before (b ∷ c ∷ text) h =
    let colon : b ≡ 58 = grind (arith, nat_tests, h) in
    let not_colon : c ≡ 58 → ⊥ = λ e. grind (arith, nat_tests, h, e) in
    let not_equals : c ≡ 61 → ⊥ = λ e. grind (arith, nat_tests, h, e) in
    by_parts-rule_line before (b ∷ c ∷ text) (omega arith) colon not_colon not_equals

by_byte_rule : (line : Bytes) (at : Option ℕ) → is_rule_colon_at line at ≡ true → IsOfRule (by_byte line at)
by_byte_rule line None h = absurd (both_ways false refl h)
by_byte_rule line (Some at) h =
    subst IsOfRule (sym (by_rule_line (take at line) (drop at line) h)) (words_are (take at line) (drop 1 (drop at line)) (first_outside is_end_of_words (drop 1 (drop at line))))

-- ---- which parts make a rule line

abbrev IsRule : Result Kind KindFault → Type 0
IsRule (Ok (Rule line)) = Unit {0}
IsRule kind = ⊥

abbrev IsIncluding : Result Kind KindFault → Type 0
IsIncluding (Ok (Include line)) = Unit {0}
IsIncluding kind = ⊥

module _ (P : Result Kind KindFault → Type 0) (refused : (fault : KindFault) → P (Err fault)) (assigns : (line : AssignmentLine) → P (Ok (Assignment line))) where
  assign : (p q r : Bool) (x y z : AssignmentLine) → P (cond p (Err ShellAssign) (cond q (Ok (Assignment x)) (cond r (Ok (Assignment y)) (Ok (Assignment z)))))
  assign true q r x y z = refused ShellAssign
  assign false true r x y z = assigns x
  assign false false true x y z = assigns y
  assign false false false x y z = assigns z

  by_assignment : (before value : Bytes) → P (assignment_line before value)
  by_assignment before value =
      assign (ends_with (codes "!") before) (ends_with (codes "?") before) (ends_with (codes "+") before)
      (record { name = without_blanks (without_end 1 before); op = IfUnset; value = trimmed value }) (record { name = without_blanks (without_end 1 before); op = Append; value = trimmed value }) (record { name = without_blanks before; op = Delay; value = trimmed value })

  choose : (p q r s t u : Bool) (a d : Result Kind KindFault) (x y : AssignmentLine) → P a → P d
      → P (cond p a (cond q (Ok (Assignment x)) (cond r (Ok (Assignment y)) (cond s (Err ColonAssign) (cond t (Err DoubleColon) (cond u d (Err NotALine)))))))
  choose true q r s t u a d x y first last = first
  choose false true r s t u a d x y first last = assigns x
  choose false false true s t u a d x y first last = assigns y
  choose false false false true t u a d x y first last = refused ColonAssign
  choose false false false false true u a d x y first last = refused DoubleColon
  choose false false false false false true a d x y first last = last
  choose false false false false false false a d x y first last = refused NotALine

  by_no_colon : (before from : Bytes) → P (rule_line before (drop 1 from)) → P (by_parts before from)
  by_no_colon before from rule =
      choose (begins_with (codes "=") from) (begins_with (codes ":::=") from) (begins_with (codes "::=") from) (begins_with (codes ":=") from) (begins_with (codes "::") from) (begins_with (codes ":") from)
      (assignment_line before (drop 1 from)) (rule_line before (drop 1 from)) (record { name = without_blanks before; op = Double; value = trimmed (drop 4 from) }) (record { name = without_blanks before; op = Now; value = trimmed (drop 3 from) })
      (by_assignment before (drop 1 from)) rule

never_includes : (before rest : Bytes) → (r : Result Kind KindFault) → IsOfRule r → IsIncluding r → ⊥
never_includes before rest (Ok (Rule line)) h i = i
never_includes before rest (Ok (Include line)) h i = h
never_includes before rest (Ok (Assignment line)) h i = i
never_includes before rest (Ok Comment) h i = i
never_includes before rest (Err fault) h i = i

parts_include_nothing : (before from : Bytes) → IsIncluding (by_parts before from) → ⊥
parts_include_nothing before from =
    by_no_colon (λ r. IsIncluding r → ⊥) (λ fault i. i) (λ line i. i) before from (never_includes before from (rule_line before (drop 1 from)) (words_are before (drop 1 from) (first_outside is_end_of_words (drop 1 from))))

-- of the tests in their order only the last one passes
only_last : (p q r s t u : Bool) (a d : Result Kind KindFault) (x y : Kind) → (IsRule a → ⊥) → (IsRule (Ok x) → ⊥) → (IsRule (Ok y) → ⊥)
    → IsRule (cond p a (cond q (Ok x) (cond r (Ok y) (cond s (Err ColonAssign) (cond t (Err DoubleColon) (cond u d (Err NotALine))))))) → (s ≡ false) × ((t ≡ false) × (u ≡ true))
only_last true q r s t u a d x y na nx ny h = absurd (na h)
only_last false true r s t u a d x y na nx ny h = absurd (nx h)
only_last false false true s t u a d x y na nx ny h = absurd (ny h)
only_last false false false true t u a d x y na nx ny h = absurd h
only_last false false false false true u a d x y na nx ny h = absurd h
only_last false false false false false false a d x y na nx ny h = absurd h
only_last false false false false false true a d x y na nx ny h = (refl, (refl, refl))

alone : (x y z : Bool) → (x && true) ≡ true → (x && (y && true)) ≡ false → (x && (z && true)) ≡ false → (x && (not y && not z)) ≡ true
alone true false false h k l = refl
alone true true z h k l = absurd (both_ways true k refl)
alone true false true h k l = absurd (both_ways true l refl)
alone false y z h k l = absurd (both_ways false refl h)

colon_alone : (from : Bytes) → begins_with (codes ":=") from ≡ false → begins_with (codes "::") from ≡ false → begins_with (codes ":") from ≡ true → begins_with_rule_colon from ≡ true
colon_alone [] h k l = absurd (both_ways false refl l)
colon_alone (b ∷ []) h k l = l
colon_alone (b ∷ c ∷ text) h k l = alone (eqb b 58) (eqb c 58) (eqb c 61) l k h

parts_rule : (before from : Bytes) → IsRule (by_parts before from) → begins_with_rule_colon from ≡ true
parts_rule before from h =
    let last = only_last (begins_with (codes "=") from) (begins_with (codes ":::=") from)
    (begins_with (codes "::=") from) (begins_with (codes ":=") from) (begins_with (codes "::") from)
    (begins_with (codes ":") from) (assignment_line before (drop 1 from)) (rule_line before (drop 1 from))
    (Assignment (record { name = without_blanks before; op = Double; value = trimmed (drop 4 from) }))
    (Assignment (record { name = without_blanks before; op = Now; value = trimmed (drop 3 from) }))
    (by_assignment (λ r. IsRule r → ⊥) (λ fault i. i) (λ line i. i) before (drop 1 from)) (λ i. i)
    (λ i. i) h in
    colon_alone from last.0 last.1.0 last.1.1

-- ---- lines without leading blanks

-- the first word of a line
abbrev is_plain_include : Bytes → Bool
is_plain_include line = bytes_eq (before_first is_blank line) (codes "include")

abbrev is_optional_include : Bytes → Bool
is_optional_include line = bytes_eq (before_first is_blank line) (codes "-include")

abbrev includes : Bytes → Bool
includes line = is_plain_include line || is_optional_include line

none_included : (p q : Bool) (x y : IncludeLine) → (p || q) ≡ false → cond p (Some x) (cond q (Some y) None) ≡ None
none_included false false x y h = refl
none_included true q x y h = absurd (both_ways true h refl)
none_included false true x y h = absurd (both_ways true h refl)

-- a line that isn't empty goes by its first word
by_words : (b : ℕ) (rest : Bytes) → of_trimmed (b ∷ rest) ≡ by_word (b ∷ rest) (include_line (b ∷ rest))
by_words b rest = let some : eqb (suc (length rest)) 0 ≡ false = grind (arith, nat_tests) in rw some refl

rule_of : (line : Bytes) → includes line ≡ false → is_rule_colon_at line (first_outside is_decisive line) ≡ true → IsOfRule (of_trimmed line)
unfolding first_from
rule_of [] h k = absurd (both_ways false refl k)
rule_of (b ∷ rest) h k =
    subst IsOfRule (sym (by_words b rest)) (subst (λ found. IsOfRule (by_word (b ∷ rest) found))
    (sym (none_included (is_plain_include (b ∷ rest)) (is_optional_include (b ∷ rest))
    (record { optional = false; names = after_first is_blank (b ∷ rest) })
    (record { optional = true; names = after_first is_blank (b ∷ rest) }) h))
    (by_byte_rule (b ∷ rest) (first_outside is_decisive (b ∷ rest)) k))

-- a line that is a rule line by its kind
back_by_byte : (line : Bytes) (at : Option ℕ) → IsRule (by_byte line at) → is_rule_colon_at line at ≡ true
back_by_byte line None h = absurd h
back_by_byte line (Some at) h = parts_rule (take at line) (drop at line) h

back_by_word : (line : Bytes) (p q : Bool) (x y : IncludeLine) → IsRule (by_word line (cond p (Some x) (cond q (Some y) None))) → ((p || q) ≡ false) × (is_rule_colon_at line (first_outside is_decisive line) ≡ true)
back_by_word line true q x y h = absurd h
back_by_word line false true x y h = absurd h
back_by_word line false false x y h = (refl, back_by_byte line (first_outside is_decisive line) h)

rule_back : (line : Bytes) → IsRule (of_trimmed line) → (includes line ≡ false) × (is_rule_colon_at line (first_outside is_decisive line) ≡ true)
rule_back [] h = absurd h
rule_back (b ∷ rest) h = back_by_word (b ∷ rest) (is_plain_include (b ∷ rest)) (is_optional_include (b ∷ rest)) (record { optional = false; names = after_first is_blank (b ∷ rest) }) (record { optional = true; names = after_first is_blank (b ∷ rest) }) (subst IsRule (by_words b rest) h)

-- ---- the laws

told : (text : Bytes) → is_rule_line text ≡ true → IsOfRule (kind_of text)
unfolding is_rule_line kind_of
told text h =
    let parts = and_parts (not (is_include text)) (is_rule_colon_at text (first_outside is_decisive text)) h in
    rule_of (trimmed text) (not-true _ parts.0) (sym (trimmed_colon text) ∙ parts.1)

told_back : (text : Bytes) → IsRule (kind_of text) → is_rule_line text ≡ true
unfolding is_rule_line kind_of
told_back text h =
    let parts = rule_back (trimmed text) h in
    let colon : is_rule_colon_at text (first_outside is_decisive text) ≡ true = trimmed_colon text ∙ parts.1 in
    let none : is_include text ≡ false = parts.0 in
    rw (none, colon) refl

pub rule_lines : RuleLinesAreOfOneKind
rule_lines text = (told text, λ line e. told_back text (subst IsRule (sym e) tt))

included : (line : Bytes) (p q : Bool) (x y : IncludeLine) → (p || q) ≡ true → (found : IncludeLine) × (by_word line (cond p (Some x) (cond q (Some y) None)) ≡ Ok (Include found))
included line true q x y h = (x, refl)
included line false true x y h = (y, refl)
included line false false x y h = absurd (both_ways false refl h)

include_of : (line : Bytes) → includes line ≡ true → (found : IncludeLine) × (of_trimmed line ≡ Ok (Include found))
include_of [] h = absurd (both_ways false refl h)
include_of (b ∷ rest) h = let found = included (b ∷ rest) (is_plain_include (b ∷ rest))
    (is_optional_include (b ∷ rest)) (record { optional = false; names = after_first is_blank (b ∷ rest) })
    (record { optional = true; names = after_first is_blank (b ∷ rest) }) h in
    (found.0, by_words b rest ∙ found.1)

bytes_include_nothing : (line : Bytes) (at : Option ℕ) → IsIncluding (by_byte line at) → ⊥
bytes_include_nothing line None h = h
bytes_include_nothing line (Some at) h = parts_include_nothing (take at line) (drop at line) h

included_back : (line : Bytes) (p q : Bool) (x y : IncludeLine) → IsIncluding (by_word line (cond p (Some x) (cond q (Some y) None))) → (p || q) ≡ true
included_back line true q x y h = refl
included_back line false true x y h = refl
included_back line false false x y h = absurd (bytes_include_nothing line (first_outside is_decisive line) h)

include_back : (line : Bytes) → IsIncluding (of_trimmed line) → includes line ≡ true
include_back [] h = absurd h
include_back (b ∷ rest) h = included_back (b ∷ rest) (is_plain_include (b ∷ rest)) (is_optional_include (b ∷ rest)) (record { optional = false; names = after_first is_blank (b ∷ rest) }) (record { optional = true; names = after_first is_blank (b ∷ rest) }) (subst IsIncluding (by_words b rest) h)

pub include_lines : IncludeLinesAreOfOneKind
unfolding kind_of
include_lines text = (include_of (trimmed text), λ found. include_back (trimmed text) (subst IsIncluding (sym found.1) tt))
