-- Texts without `$`.
use Rattle.std.proofs.Common.{◌≡◌, ℕ, Bool, true, false, ◌+◌, ◌-◌, cond, eqb, inl, inr, ◌<◌, ◌≤◌, List, [], ◌∷◌, ◌++◌, length, Ok, Err, sym, ap, append_assoc, ◌∙◌, zero-le, arith}
use Rattle.std.proofs.lemmas.List.{append-nil, length-append}
use Rattle.std.proofs.lemmas.List.Folds.{list_any-append}
use Rattle.std.proofs.Math.Bool.{or-true, or-false}
use Rattle.std.proofs.lemmas.Bool.{cases_Bool, eqb-true}
use Rattle.std.specs.List.{list_any}
use Rattle.mk_lines.specs.Bytes.{is_byte}
use Rattle.mk_macros.specs.declared.fault.MacroFault.TheVariants.{ValueTooLong}
use Rattle.mk_macros.specs.Forms.{IsPlain, forms}
use Rattle.mk_macros.specs.Expansion.{Expanded, Scope, Deeper, given, in_order, expanded}
use Rattle.mk_macros.specs.Appending.{below}
use Rattle.mk_macros.specs.Definitions.{doubled}
use Rattle.mk_macros.specs.Laws.{in_front}
use Rattle.mk_macros.proofs.InOrder.{longer, run_done, run_over, form_done, byte_done, within_fits, in_order_nil, expanded_is}
use Rattle.mk_macros.proofs.Splits.{stays_low, behind_more}

start : ℕ → Expanded
start references = record { text = []; references = references; varying = false }

pub plain_stays : (levels : ℕ) (scope : Scope) (going : List (List ℕ)) (references : ℕ) (text : List ℕ) → IsPlain text → length text ≤ 1048576
    → expanded levels scope going references text ≡ Ok (record { text = text; references = references; varying = false })
unfolding start
plain_stays levels scope going references text plain le =
    expanded_is levels scope going references text
    ∙ (ap (λ t. in_order (given scope (below levels scope) going) (start references) (forms t)) (sym (append-nil text))
    ∙ (run_done scope (below levels scope) going (start references) text [] plain (omega arith)
    ∙ in_order_nil (given scope (below levels scope) going) (record { text = text; references = references; varying = false })))

pub plain_over : (levels : ℕ) (scope : Scope) (going : List (List ℕ)) (references : ℕ) (text : List ℕ) → IsPlain text → 1048576 < length text
    → expanded levels scope going references text ≡ Err ValueTooLong
unfolding start
plain_over levels scope going references text plain lt =
    expanded_is levels scope going references text
    ∙ (ap (λ t. in_order (given scope (below levels scope) going) (start references) (forms t)) (sym (append-nil text))
    ∙ run_over scope (below levels scope) going (start references) text [] plain zero-le (omega arith))

-- a text with a `$`
pub has_dollar : (text run behind : List ℕ) → text ≡ run ++ 36 ∷ behind → list_any (is_byte 36) text ≡ true
has_dollar text run behind e = ap (list_any (is_byte 36)) e ∙ (list_any-append (is_byte 36) run (36 ∷ behind) ∙ or-true (list_any (is_byte 36) run))

-- what a text without `$` puts in front
pub plain_in_front : (levels : ℕ) (scope : Scope) (going : List (List ℕ)) (references : ℕ) (text other : List ℕ) (found : Expanded) → IsPlain text
    → expanded levels scope going references other ≡ Ok found → length text + length found.text ≤ 1048576
    → expanded levels scope going references (text ++ other) ≡ Ok (in_front text found)
unfolding start
plain_in_front levels scope going references text other found plain e h =
    let begun : in_order (given scope (below levels scope) going) (start references) (forms other) ≡ Ok found = sym (expanded_is levels scope going references other) ∙ e in
    expanded_is levels scope going references (text ++ other)
    ∙ (run_done scope (below levels scope) going (start references) text other plain (omega arith)
    ∙ (ap (λ t. in_order (given scope (below levels scope) going) (record (start references) { text = t }) (forms other)) (sym (append-nil text))
    ∙ behind_more (given scope (below levels scope) going) text (start references) found (forms other) h begun))

-- a value is at most 1,048,576 bytes
pub expanded_low : (levels : ℕ) (scope : Scope) (going : List (List ℕ)) (references : ℕ) (text : List ℕ) (found : Expanded) → expanded levels scope going references text ≡ Ok found → length found.text ≤ 1048576
unfolding start
expanded_low levels scope going references text found e =
    stays_low (given scope (below levels scope) going) (start references) found (forms text) zero-le (sym (expanded_is levels scope going references text) ∙ e)

module _ (scope : Scope) (deeper : Deeper) (going : List (List ℕ)) where
  -- `$$` gives a `$`
  two_done : (before : Expanded) (text : List ℕ) → length before.text + 1 ≤ 1048576 → in_order (given scope deeper going) before (forms (36 ∷ 36 ∷ text)) ≡ in_order (given scope deeper going) (longer before (36 ∷ [])) (forms text)
  two_done before text h =
      let one : Expanded = record { text = 36 ∷ []; references = before.references; varying = false } in
      let room : 1 ≤ 1048576 - length before.text = omega arith in
      (form_done (given scope deeper going) before one (36 ∷ text) (omega arith) (within_fits (1048576 - length before.text) one room)).0
      ∙ ap (λ (v : Bool). in_order (given scope deeper going) (record { text = before.text ++ 36 ∷ []; references = before.references; varying = v }) (forms text)) (or-false before.varying)

  pub doubled_done : (before : Expanded) (text : List ℕ) → length before.text + length text ≤ 1048576 → in_order (given scope deeper going) before (forms (doubled text)) ≡ Ok (longer before text)
  doubled_done before [] h = in_order_nil (given scope deeper going) before ∙ ap (λ t. Ok (record before { text = t })) (sym (append-nil before.text))
  doubled_done before (b ∷ text) h =
      let low : length before.text + 1 ≤ 1048576 = omega arith in
      let next : length (longer before (b ∷ [])).text + length text ≤ 1048576 = omega (arith, length-append before.text (b ∷ [])) in
      let rest = doubled_done (longer before (b ∷ [])) text next in
      let joins : longer (longer before (b ∷ [])) text ≡ longer before (b ∷ text) = ap (λ t. record before { text = t }) (append_assoc before.text (b ∷ []) text) in
      elim (cases_Bool (eqb b 36)) [
        | inl t ↦
            let is : b ≡ 36 = eqb-true b 36 t in
            ap (λ (c : Bool). in_order (given scope deeper going) before (forms (cond c (36 ∷ 36 ∷ []) (b ∷ []) ++ doubled text))) t
            ∙ (two_done before (doubled text) low
            ∙ (ap (λ n. in_order (given scope deeper going) (longer before (n ∷ [])) (forms (doubled text))) (sym is)
            ∙ (rest ∙ ap (λ (v : Expanded). Ok v) joins)))
        | inr f ↦
            ap (λ (c : Bool). in_order (given scope deeper going) before (forms (cond c (36 ∷ 36 ∷ []) (b ∷ []) ++ doubled text))) f
            ∙ (byte_done scope deeper going before b (doubled text) f low
            ∙ (rest ∙ ap (λ (v : Expanded). Ok v) joins))
      ]

-- what `:::=` stored
pub doubled_back : (levels : ℕ) (scope : Scope) (text : List ℕ) → length text ≤ 1048576 → expanded levels scope [] 0 (doubled text) ≡ Ok (record { text = text; references = 0; varying = false })
unfolding start
doubled_back levels scope text h =
    expanded_is levels scope [] 0 (doubled text) ∙ doubled_done scope (below levels scope) [] (start 0) text (omega arith)
