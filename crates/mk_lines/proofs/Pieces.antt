-- Texts split at newlines, and split texts whose first piece loses its front.
use Rattle.std.proofs.Common.{◌≡◌, ℕ, suc, ◌+◌, ◌<◌, ◌≤◌, Bool, true, false, cond, eqb, List, [], ◌∷◌, ◌++◌, length, drop, Option, None, Some, refl, sym, ap, ◌∙◌, subst, arith}
use Rattle.std.specs.Prelude.{MatchOption, IfSome, is_some}
use Rattle.std.specs.Borrow.{Bor}
use Rattle.std.specs.Option.{option_map}
use Rattle.std.specs.List.{slice_split, onto_first, prefix_len}
use Rattle.std.proofs.lemmas.Bool.{eqb-true, ne_eqb}
use Rattle.std.proofs.lemmas.List.{length-drop}
use Rattle.std.proofs.lemmas.List.Splits.{length-slice_split, slice_split-cons_yes, slice_split-cons_no}
use Rattle.mk_lines.specs.Bytes.{is_byte, is_blank, trimmed, parts_left}
use Rattle.mk_lines.specs.Lines.{Line, is_command, without_tab, without_last_byte, plain_text, command_text, plain_of, command_of, text_of, joined}

-- the pieces of a text
abbrev pub pieces : List ℕ → List (List ℕ)
pieces text = slice_split (is_byte 10) text

-- the same with another first piece
abbrev pub on_first : (List ℕ → List ℕ) → List (List ℕ) → List (List ℕ)
on_first f [] = []
on_first f (x ∷ xs) = f x ∷ xs

pub length-on_first : (f : List ℕ → List ℕ) (xs : List (List ℕ)) → length (on_first f xs) ≡ length xs
length-on_first f [] = refl
length-on_first f (x ∷ xs) = refl

pub some_piece : (text : List ℕ) → 0 < length (pieces text)
some_piece text = omega (arith, length-slice_split (is_byte 10) text)

-- blanks that lead a text
pub trimmed_blank : (b : ℕ) (text : List ℕ) → is_blank b ≡ true → trimmed (b ∷ text) ≡ trimmed text
trimmed_blank b text e = ap (λ t. drop (cond t (1 + prefix_len is_blank text) 0) (b ∷ text)) e ∙ ap (λ n. drop n (b ∷ text)) (let s : 1 + prefix_len is_blank text ≡ suc (prefix_len is_blank text) = omega arith in s)

pub trimmed_other : (b : ℕ) (text : List ℕ) → is_blank b ≡ false → trimmed (b ∷ text) ≡ b ∷ text
trimmed_other b text e = ap (λ t. drop (cond t (1 + prefix_len is_blank text) 0) (b ∷ text)) e

newline_is_no_blank : (b : ℕ) → is_blank b ≡ true → is_byte 10 b ≡ false
newline_is_no_blank b e = ne_eqb b 10 (λ ten. absurd (let f : is_blank 10 ≡ true = subst (λ x. is_blank x ≡ true) ten e in cc))

trimmed_first : (b : ℕ) (xs : List (List ℕ)) → is_blank b ≡ true → 0 < length xs → on_first trimmed (onto_first b xs) ≡ on_first trimmed xs
trimmed_first b [] e lt = absurd (omega arith)
trimmed_first b (x ∷ xs) e lt = ap (λ y. y ∷ xs) (trimmed_blank b x e)

kept_first : (b : ℕ) (xs : List (List ℕ)) → is_blank b ≡ false → on_first trimmed (onto_first b xs) ≡ onto_first b xs
kept_first b [] e = ap (λ y. y ∷ []) (trimmed_other b [] e)
kept_first b (x ∷ xs) e = ap (λ y. y ∷ xs) (trimmed_other b x e)

trimmed_untouched : (t : Bool) (b : ℕ) (text : List ℕ) → is_blank b ≡ false → is_byte 10 b ≡ t → on_first trimmed (pieces (b ∷ text)) ≡ pieces (b ∷ text)
trimmed_untouched true b text e t = ap (on_first trimmed) (slice_split-cons_yes (is_byte 10) b text t) ∙ sym (slice_split-cons_yes (is_byte 10) b text t)
trimmed_untouched false b text e t = ap (on_first trimmed) (slice_split-cons_no (is_byte 10) b text t) ∙ (kept_first b (pieces text) e ∙ sym (slice_split-cons_no (is_byte 10) b text t))

trimmed_step : (t : Bool) (b : ℕ) (text : List ℕ) → is_blank b ≡ t → pieces (trimmed text) ≡ on_first trimmed (pieces text) → pieces (trimmed (b ∷ text)) ≡ on_first trimmed (pieces (b ∷ text))
trimmed_step true b text e h =
    ap pieces (trimmed_blank b text e) ∙ (h ∙ (sym (trimmed_first b (pieces text) e (some_piece text)) ∙ ap (on_first trimmed) (sym (slice_split-cons_no (is_byte 10) b text (newline_is_no_blank b e)))))
trimmed_step false b text e h = ap pieces (trimmed_other b text e) ∙ sym (trimmed_untouched (is_byte 10 b) b text e refl)

pub pieces-trimmed : (text : List ℕ) → pieces (trimmed text) ≡ on_first trimmed (pieces text)
pieces-trimmed [] = refl
pieces-trimmed (b ∷ text) = trimmed_step (is_blank b) b text refl (pieces-trimmed text)

-- a tab that leads a text
tab_first : (xs : List (List ℕ)) → 0 < length xs → on_first without_tab (onto_first 9 xs) ≡ xs
tab_first [] lt = absurd (omega arith)
tab_first (x ∷ xs) lt = refl

no_tab : (b : ℕ) (text : List ℕ) → eqb b 9 ≡ false → without_tab (b ∷ text) ≡ b ∷ text
no_tab b text e = ap (λ t. cond t text (b ∷ text)) e

no_tab_first : (b : ℕ) (xs : List (List ℕ)) → eqb b 9 ≡ false → on_first without_tab (onto_first b xs) ≡ onto_first b xs
no_tab_first b [] e = ap (λ y. y ∷ []) (no_tab b [] e)
no_tab_first b (x ∷ xs) e = ap (λ y. y ∷ xs) (no_tab b x e)

tab_untouched : (t : Bool) (b : ℕ) (text : List ℕ) → eqb b 9 ≡ false → is_byte 10 b ≡ t → on_first without_tab (pieces (b ∷ text)) ≡ pieces (b ∷ text)
tab_untouched true b text e t = ap (on_first without_tab) (slice_split-cons_yes (is_byte 10) b text t) ∙ sym (slice_split-cons_yes (is_byte 10) b text t)
tab_untouched false b text e t = ap (on_first without_tab) (slice_split-cons_no (is_byte 10) b text t) ∙ (no_tab_first b (pieces text) e ∙ sym (slice_split-cons_no (is_byte 10) b text t))

tab_step : (t : Bool) (b : ℕ) (text : List ℕ) → eqb b 9 ≡ t → pieces (without_tab (b ∷ text)) ≡ on_first without_tab (pieces (b ∷ text))
tab_step true b text e = subst (λ x. pieces (without_tab (x ∷ text)) ≡ on_first without_tab (pieces (x ∷ text))) (sym (eqb-true b 9 e)) (sym (tab_first (pieces text) (some_piece text)))
tab_step false b text e = ap pieces (no_tab b text e) ∙ sym (tab_untouched (is_byte 10 b) b text e refl)

pub pieces-without_tab : (text : List ℕ) → pieces (without_tab text) ≡ on_first without_tab (pieces text)
pieces-without_tab [] = refl
pieces-without_tab (b ∷ text) = tab_step (eqb b 9) b text refl

-- pieces joined, one piece further
plain_next : (piece : List ℕ) (xs : List (List ℕ)) → 0 < length xs → plain_of (piece ∷ xs) ≡ without_last_byte piece ++ 32 ∷ plain_of (on_first trimmed xs)
unfolding plain_text
plain_next piece [] lt = absurd (omega arith)
plain_next piece (x ∷ xs) lt = refl

pub plain_step : (piece after : List ℕ) → plain_of (piece ∷ pieces after) ≡ without_last_byte piece ++ 32 ∷ plain_of (pieces (trimmed after))
plain_step piece after = plain_next piece (pieces after) (some_piece after) ∙ ap (λ xs. without_last_byte piece ++ 32 ∷ plain_of xs) (sym (pieces-trimmed after))

pub plain_end : (piece : List ℕ) → plain_of (piece ∷ []) ≡ piece
unfolding plain_text
plain_end piece = refl

command_next : (piece : List ℕ) (xs : List (List ℕ)) → 0 < length xs → command_of (piece ∷ xs) ≡ piece ++ 10 ∷ command_of (on_first without_tab xs)
unfolding command_text
command_next piece [] lt = absurd (omega arith)
command_next piece (x ∷ xs) lt = refl

pub command_step : (piece after : List ℕ) → command_of (piece ∷ pieces after) ≡ piece ++ 10 ∷ command_of (pieces (without_tab after))
command_step piece after = command_next piece (pieces after) (some_piece after) ∙ ap (λ xs. piece ++ 10 ∷ command_of xs) (sym (pieces-without_tab after))

pub command_end : (piece : List ℕ) → command_of (piece ∷ []) ≡ piece
unfolding command_text
command_end piece = refl

text_end : (command : Bool) (piece : List ℕ) → text_of command (piece ∷ []) ≡ piece
text_end true piece = command_end piece
text_end false piece = plain_end piece

-- a text that is one piece, and one that isn't
pub one_piece : (text piece : List ℕ) (o : Option (Bor (List ℕ))) → MatchOption o (piece ≡ text) (λ rest. text ≡ piece ++ 10 ∷ rest.now) → pieces text ≡ piece ∷ parts_left 10 (option_map (λ r. r.now) o) → is_some o ≡ false → pieces text ≡ text ∷ []
one_piece text piece None w e t = e ∙ ap (λ x. x ∷ []) w
one_piece text piece (Some rest) w e t = absurd cc

pub text_of_one : (command : Bool) (text : List ℕ) → pieces text ≡ text ∷ [] → text ≡ text_of command (pieces text)
text_of_one command text e = sym (ap (text_of command) e ∙ text_end command text)

pub more_pieces : (text piece : List ℕ) (o : Option (Bor (List ℕ))) → pieces text ≡ piece ∷ parts_left 10 (option_map (λ r. r.now) o) → is_some o ≡ true → eqb (length (pieces text)) 1 ≡ false
more_pieces text piece None e t = absurd cc
more_pieces text piece (Some rest) e t = ne_eqb (length (pieces text)) 1 (λ one. absurd (let n = ap length e in omega (arith, n, some_piece rest.now)))

-- a line from its run
tab_line : (first : ℕ) (xs : List (List ℕ)) → 0 < length xs → joined first (onto_first 9 xs) ≡ record { first = first; command = true; text = command_of xs }
tab_line first [] lt = absurd (omega arith)
tab_line first (x ∷ xs) lt = refl

plain_first : (first b : ℕ) (xs : List (List ℕ)) → eqb b 9 ≡ false → joined first (onto_first b xs) ≡ record { first = first; command = false; text = plain_of (onto_first b xs) }
plain_first first b [] e = ap (λ t. cond t (record { first = first; command = true; text = command_text [] [] }) (record { first = first; command = false; text = plain_text (b ∷ []) [] })) e
plain_first first b (x ∷ xs) e = ap (λ t. cond t (record { first = first; command = true; text = command_text x xs }) (record { first = first; command = false; text = plain_text (b ∷ x) xs })) e

plain_line : (t : Bool) (first b : ℕ) (text : List ℕ) → eqb b 9 ≡ false → is_byte 10 b ≡ t → joined first (pieces (b ∷ text)) ≡ record { first = first; command = false; text = plain_of (pieces (b ∷ text)) }
plain_line true first b text e t = ap (joined first) (slice_split-cons_yes (is_byte 10) b text t) ∙ ap (λ xs. record { first = first; command = false; text = plain_of xs }) (sym (slice_split-cons_yes (is_byte 10) b text t))
plain_line false first b text e t = ap (joined first) (slice_split-cons_no (is_byte 10) b text t) ∙ (plain_first first b (pieces text) e ∙ ap (λ xs. record { first = first; command = false; text = plain_of xs }) (sym (slice_split-cons_no (is_byte 10) b text t)))

-- what the code makes of a run
abbrev pub made : ℕ → List ℕ → Line
made first run = record { first = first; command = is_command run; text = text_of (is_command run) (pieces (without_tab run)) }

line_step : (t : Bool) (first b : ℕ) (text : List ℕ) → eqb b 9 ≡ t → joined first (pieces (b ∷ text)) ≡ made first (b ∷ text)
line_step true first b text e = subst (λ x. joined first (pieces (x ∷ text)) ≡ made first (x ∷ text)) (sym (eqb-true b 9 e)) (tab_line first (pieces text) (some_piece text))
line_step false first b text e = plain_line (is_byte 10 b) first b text e refl ∙ sym (ap (λ t. let line : Line = record { first = first; command = t; text = text_of t (pieces (cond t text (b ∷ text))) } in line) e)

pub line_made : (first : ℕ) (run : List ℕ) → joined first (pieces run) ≡ made first run
line_made first [] = refl
line_made first (b ∷ text) = line_step (eqb b 9) first b text refl

-- what a split leaves
pub next_left : (piece : List ℕ) (o : Option (Bor (List ℕ))) (after : Bor (List ℕ)) (xs : List (List ℕ)) → xs ≡ piece ∷ parts_left 10 (option_map (λ r. r.now) o) → o ≡ Some after → xs ≡ piece ∷ pieces after.now
next_left piece o after xs e s = e ∙ ap (λ (p : Option (Bor (List ℕ))). piece ∷ parts_left 10 (option_map (λ r. r.now) p)) s

pub one_left : (piece : List ℕ) (o : Option (Bor (List ℕ))) (xs : List (List ℕ)) → xs ≡ piece ∷ parts_left 10 (option_map (λ r. r.now) o) → o ≡ None → xs ≡ piece ∷ []
one_left piece o xs e s = e ∙ ap (λ (p : Option (Bor (List ℕ))). piece ∷ parts_left 10 (option_map (λ r. r.now) p)) s

tab_shorter : (t : Bool) (text : List ℕ) → length (cond t (drop 1 text) text) ≤ length text
tab_shorter true text = omega (arith, length-drop 1 text)
tab_shorter false text = omega arith

pub without_tab_shorter : (text : List ℕ) → length (without_tab text) ≤ length text
without_tab_shorter text = tab_shorter (is_command text) text

pub whole_tab : (run : List ℕ) → length (pieces (without_tab run)) ≡ length (pieces run)
whole_tab run = ap length (pieces-without_tab run) ∙ length-on_first without_tab (pieces run)

pub some_shorter : (n : ℕ) (o : Option (Bor (List ℕ))) (after : Bor (List ℕ)) → IfSome o (λ rest. length rest.now < n) → o ≡ Some after → length after.now < n
some_shorter n None after h s = absurd cc
some_shorter n (Some rest) after h s = subst (λ (r : Option (Bor (List ℕ))). IfSome r (λ rest. length rest.now < n)) s h

-- the text around a split
pub some_whole : (text piece : List ℕ) (o : Option (Bor (List ℕ))) (after : Bor (List ℕ)) → MatchOption o (piece ≡ text) (λ rest. text ≡ piece ++ 10 ∷ rest.now) → o ≡ Some after → text ≡ piece ++ 10 ∷ after.now
some_whole text piece None after w s = absurd cc
some_whole text piece (Some rest) after w s = subst (λ (r : Option (Bor (List ℕ))). MatchOption r (piece ≡ text) (λ rest. text ≡ piece ++ 10 ∷ rest.now)) s w
