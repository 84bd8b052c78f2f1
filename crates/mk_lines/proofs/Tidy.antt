-- Paths that pass the fast test have the shape of a path.
use Rattle.std.proofs.Common.{◌≡◌, ℕ, Bool, true, false, not, ◌&&◌, ◌||◌, ◌==◌, cond, List, [], ◌∷◌, ◌<◌, ◌≤◌, length, get_or, drop, refl, sym, ap, ◌∙◌, true≢false, arith}
use Rattle.std.specs.List.{slice_split, onto_first, list_all}
use Rattle.std.proofs.lemmas.Bool.{ne_eqb, lt-ltb, and_parts, not-true, or_parts}
use Rattle.std.proofs.lemmas.List.{drop_all, take_rest}
use Rattle.mk_lines.proofs.Hashes.{behind_first}
use Rattle.mk_lines.specs.Bytes.{is_byte}
use Rattle.mk_lines.specs.Paths.{is_visible, is_proper, are_components}
use Rattle.mk_lines.proofs.Components.{absolute}

-- a byte that may follow another one
abbrev pub follows : ℕ → ℕ → Bool
follows before b = is_visible b && not (before == 47 && (b == 47 || b == 46))

-- what is left behind a byte is tidy
abbrev pub tidy_from : ℕ → List ℕ → Bool
tidy_from before [] = not (before == 47)
tidy_from before (b ∷ bs) = follows before b && tidy_from b bs

-- the bytes are visible
seen : (before : ℕ) (bs : List ℕ) → tidy_from before bs ≡ true → list_all is_visible bs ≡ true
seen before [] e = refl
seen before (b ∷ bs) e =
    let h = and_parts (follows before b) (tidy_from b bs) e in
    let v = and_parts (is_visible b) _ h.0 in
    rw v.0 (seen b bs h.1)

-- all parts but the first are proper
abbrev rest_proper : List (List ℕ) → Bool
rest_proper [] = true
rest_proper (part ∷ parts) = list_all is_proper parts

rest_onto : (b : ℕ) (parts : List (List ℕ)) → rest_proper (onto_first b parts) ≡ rest_proper parts
rest_onto b [] = refl
rest_onto b (part ∷ parts) = refl

some_bytes : (b : ℕ) (bs : List ℕ) → (length (b ∷ bs) == 0) ≡ false
some_bytes b bs = ne_eqb (length (b ∷ bs)) 0 (λ z. absurd (omega (arith, z)))

no_dot : (b : ℕ) (bs : List ℕ) → (b == 46) ≡ false → is_proper (b ∷ bs) ≡ true
no_dot b bs e = rw (some_bytes b bs, e) refl

proper_onto : (b : ℕ) (parts : List (List ℕ)) → (b == 46) ≡ false → rest_proper parts ≡ true → list_all is_proper (onto_first b parts) ≡ true
proper_onto b [] e h = rw (no_dot b [] e) refl
proper_onto b (part ∷ parts) e h = rw (no_dot b part e) h

abbrev parts : List ℕ → List (List ℕ)
parts bs = slice_split (is_byte 47) bs

-- what is known of the parts behind a slash, and behind another byte
abbrev Behind : ℕ → List ℕ → Type 0
Behind before bs = ((before == 47) ≡ true → list_all is_proper (parts bs) ≡ true) × ((before == 47) ≡ false → rest_proper (parts bs) ≡ true)

next_part : (b : ℕ) (bs : List ℕ) (slash : Bool) → (b == 47) ≡ slash → Behind b bs → rest_proper (cond slash ([] ∷ parts bs) (onto_first b (parts bs))) ≡ true
next_part b bs true at h = h.0 at
next_part b bs false at h = rest_onto b (parts bs) ∙ h.1 at

-- the first byte of a part behind a slash
first_part : (before b : ℕ) (bs : List ℕ) → (before == 47) ≡ true → not (before == 47 && (b == 47 || b == 46)) ≡ true → Behind b bs → list_all is_proper (parts (b ∷ bs)) ≡ true
first_part before b bs at turns h =
    let n = or_parts (b == 47) (b == 46) (not-true _ (sym (ap (λ t. not (t && (b == 47 || b == 46))) at) ∙ turns)) in
    let split : parts (b ∷ bs) ≡ onto_first b (parts bs) = rw n.0 refl in
    ap (list_all is_proper) split ∙ proper_onto b (parts bs) n.1 (h.1 n.0)

behind : (before : ℕ) (bs : List ℕ) → tidy_from before bs ≡ true → Behind before bs
behind before [] e = (λ at. absurd (true≢false (sym e ∙ ap not at)), λ at. refl)
behind before (b ∷ bs) e =
    let h = and_parts (follows before b) (tidy_from b bs) e in
    let v = and_parts (is_visible b) _ h.0 in
    let left : Behind b bs = behind b bs h.1 in
    (λ at. first_part before b bs at v.1 left, λ at. next_part b bs (b == 47) refl left)

-- a first byte that is no dot
goes_on : (b : ℕ) (ps : List (List ℕ)) → (b == 46) ≡ false → rest_proper ps ≡ true → are_components (onto_first b ps) ≡ true
goes_on b [] e h = rw (some_bytes b [], e) refl
goes_on b (part ∷ ps) e h = rw (some_bytes b part, e) h

whole : (b : ℕ) (bs : List ℕ) (slash : Bool) → (b == 47) ≡ slash → (b == 46) ≡ false → tidy_from b bs ≡ true → are_components (parts (b ∷ bs)) ≡ true
whole b bs true at dot e =
    let split : parts (b ∷ bs) ≡ [] ∷ parts bs = rw at refl in
    absolute (b ∷ bs) bs split ∙ (behind b bs e).0 at
whole b bs false at dot e =
    let split : parts (b ∷ bs) ≡ onto_first b (parts bs) = rw at refl in
    ap are_components split ∙ goes_on b (parts bs) dot ((behind b bs e).1 at)

-- a name whose bytes have all been looked at
of_bytes : (b : ℕ) (bs : List ℕ) → (is_visible b && not (b == 46)) ≡ true → tidy_from b bs ≡ true → (list_all is_visible (b ∷ bs) ≡ true) × (are_components (parts (b ∷ bs)) ≡ true)
of_bytes b bs first e =
    let h = and_parts (is_visible b) (not (b == 46)) first in
    (rw h.0 (seen b bs e), whole b bs (b == 47) refl (not-true (b == 46) h.1) e)

-- a first byte that passes the test
first_is : (b : ℕ) → 32 < b → ¬ (b ≡ 127) → ¬ (b ≡ 46) → (is_visible b && not (b == 46)) ≡ true
first_is b low del dot = rw (lt-ltb 32 b low, ne_eqb b 127 del, ne_eqb b 46 dot) refl

pub tidy_ends : (name : List ℕ) (before i : ℕ) → 1 ≤ length name → 32 < get_or name 0 0 → ¬ (get_or name 0 0 ≡ 127) → ¬ (get_or name 0 0 ≡ 46)
    → tidy_from before (drop i (behind_first name)) ≡ tidy_from (get_or name 0 0) (behind_first name)
    → length (behind_first name) ≤ i → not (before == 47) ≡ true → (list_all is_visible name ≡ true) × (are_components (slice_split (is_byte 47) name) ≡ true)
tidy_ends [] before i some low del dot so_far le last = absurd (omega arith)
tidy_ends (b ∷ bs) before i some low del dot so_far le last =
    let held : tidy_from before (drop i (behind_first (b ∷ bs))) ≡ true = rw (drop_all i (behind_first (b ∷ bs)) le) last in
    of_bytes b bs (first_is b low del dot) (sym (ap (tidy_from b) (take_rest (b ∷ bs) 1)) ∙ (sym so_far ∙ held))
