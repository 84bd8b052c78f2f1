-- Forms in order, each appended to the values before it.
use Rattle.std.proofs.Common.{◌≡◌, ℕ, zero, suc, ◌+◌, ◌-◌, ◌<◌, ◌≤◌, Bool, true, false, eqb, ltb, ◌||◌, List, [], ◌∷◌, ◌++◌, length, Result, Ok, Err, refl, sym, ap, subst, ◌∙◌, inl, inr, arith, append_assoc, length-append}
use Rattle.std.proofs.Math.Bool.{or-false}
use Rattle.std.proofs.lemmas.Bool.{cases_Bool, cases_lt, cond-true, cond-false, le-ltb, lt-ltb, ltb-false}
use Rattle.std.proofs.lemmas.Bool.Decides.{nat_tests}
use Rattle.std.proofs.lemmas.List.{append-nil}
use Rattle.std.specs.List.{list_any}
use Rattle.mk_lines.specs.Bytes.{is_byte}
use Rattle.mk_macros.specs.declared.fault.MacroFault.{MacroFault}
use Rattle.mk_macros.specs.declared.fault.MacroFault.TheVariants.{ValueTooLong}
use Rattle.mk_macros.specs.Forms.{Form, Byte, IsPlain, forms, dollar_form}
use Rattle.mk_macros.specs.Expansion.{Expanded, Scope, Deeper, given, fitting, joined, in_order, expanded}
use Rattle.mk_macros.specs.Appending.{below, within}
use Rattle.mk_macros.specs.Steps.{◌>>=◌}
use Rattle.mk_macros.proofs.FormLists.{forms_nil, forms_byte, forms_dollar}

-- a value fits
pub fits : (value : Expanded) → length value.text ≤ 1048576 → fitting value ≡ Ok value
fits value h = cond-false (ltb 1048576 (length value.text)) (Err ValueTooLong) (Ok value) (le-ltb 1048576 (length value.text) h)

pub fits_not : (value : Expanded) → 1048576 < length value.text → fitting value ≡ Err ValueTooLong
fits_not value h = cond-true (ltb 1048576 (length value.text)) (Err ValueTooLong) (Ok value) (lt-ltb 1048576 (length value.text) h)

pub within_fits : (room : ℕ) (value : Expanded) → length value.text ≤ room → within room value ≡ Ok value
within_fits room value h = cond-false (ltb room (length value.text)) (Err ValueTooLong) (Ok value) (le-ltb room (length value.text) h)

pub within_not : (room : ℕ) (value : Expanded) → room < length value.text → within room value ≡ Err ValueTooLong
within_not room value h = cond-true (ltb room (length value.text)) (Err ValueTooLong) (Ok value) (lt-ltb room (length value.text) h)

-- what was within a room is what it was, and there was room for it
pub within_ok : (room : ℕ) (value found : Expanded) → within room value ≡ Ok found → (value ≡ found) × (length value.text ≤ room)
within_ok room value found e =
    elim (cases_Bool (ltb room (length value.text))) [
      | inl t ↦ absurd (err_is_not_ok (sym (cond-true (ltb room (length value.text)) (Err ValueTooLong) (Ok value) t) ∙ e))
      | inr f ↦ (ok_same (sym (cond-false (ltb room (length value.text)) (Err ValueTooLong) (Ok value) f) ∙ e), ltb-false room (length value.text) f)
    ]
  where
    err_is_not_ok : {A : Type 0} {fault : MacroFault} {x : A} → Err fault ≡ Ok x → ⊥
    err_is_not_ok e = cc

    ok_same : {x y : Expanded} → ◌≡◌ {A = Result Expanded MacroFault} (Ok x) (Ok y) → x ≡ y
    ok_same e = cc

pub within_err : (room : ℕ) (value : Expanded) (fault : MacroFault) → within room value ≡ Err fault → (room < length value.text) × (fault ≡ ValueTooLong)
within_err room value fault e =
    elim (cases_Bool (ltb room (length value.text))) [
      | inl t ↦ (is_over room (length value.text) t, fault_same (sym (cond-true (ltb room (length value.text)) (Err ValueTooLong) (Ok value) t) ∙ e))
      | inr f ↦ absurd (ok_is_not_err (sym (cond-false (ltb room (length value.text)) (Err ValueTooLong) (Ok value) f) ∙ e))
    ]
  where
    is_over : (m n : ℕ) → ltb m n ≡ true → m < n
    is_over m n e = grind (arith, nat_tests)

    ok_is_not_err : {fault : MacroFault} {x : Expanded} → Ok x ≡ Err fault → ⊥
    ok_is_not_err e = cc

    fault_same : {x y : MacroFault} → ◌≡◌ {A = Result Expanded MacroFault} (Err x) (Err y) → y ≡ x
    fault_same e = cc

abbrev pub Gives : Type 0
Gives = ℕ → Form → Result Expanded MacroFault

-- the end of the text
pub in_order_nil : (gives : Gives) (before : Expanded) → in_order gives before (forms []) ≡ Ok before
unfolding in_order
in_order_nil gives before = ap (in_order gives before) forms_nil

-- what follows a form, from what the form gives
abbrev pub follow : (gives : Gives) (before : Expanded) (rest : List Form) → Result Expanded MacroFault → Result Expanded MacroFault
follow gives before rest given = given >>= (λ after. fitting (joined before after) >>= (λ whole. in_order gives whole rest))

pub in_order_cons : (gives : Gives) (before : Expanded) (form : Form) (rest : List Form) → in_order gives before (form ∷ rest) ≡ follow gives before rest (gives before.references form)
unfolding in_order
in_order_cons gives before form rest = refl

pub follow_ok : (gives : Gives) (before after : Expanded) (rest : List Form) → length before.text + length after.text ≤ 1048576 → follow gives before rest (Ok after) ≡ in_order gives (joined before after) rest
follow_ok gives before after rest h =
    let le : length (joined before after).text ≤ 1048576 = omega (arith, length-append before.text after.text) in
    ap (λ (r : Result Expanded MacroFault). r >>= (λ whole. in_order gives whole rest)) (fits (joined before after) le)

follow_over : (gives : Gives) (before after : Expanded) (rest : List Form) → 1048576 < length before.text + length after.text → follow gives before rest (Ok after) ≡ Err ValueTooLong
follow_over gives before after rest h =
    let lt : 1048576 < length (joined before after).text = omega (arith, length-append before.text after.text) in
    ap (λ (r : Result Expanded MacroFault). r >>= (λ whole. in_order gives whole rest)) (fits_not (joined before after) lt)

follow_err : (gives : Gives) (before : Expanded) (rest : List Form) (fault : MacroFault) → follow gives before rest (Err fault) ≡ Err fault
follow_err gives before rest fault = refl

-- a form that gives a value for which there is room
follow_within : (gives : Gives) (before after : Expanded) (rest : List Form) (r : Result Expanded MacroFault) → length before.text ≤ 1048576
    → (r >>= within (1048576 - length before.text)) ≡ Ok after → (follow gives before rest r ≡ in_order gives (joined before after) rest) × (length before.text + length after.text ≤ 1048576)
follow_within gives before after rest (Err fault) h e = cc
follow_within gives before after rest (Ok value) h e =
    let w = within_ok (1048576 - length before.text) value after e in
    let le : length before.text + length value.text ≤ 1048576 = omega (arith, w.1) in
    subst (λ v. (follow gives before rest (Ok value) ≡ in_order gives (joined before v) rest) × (length before.text + length v.text ≤ 1048576)) w.0 (follow_ok gives before value rest le, le)

-- a form that gives a fault, or a value for which there is none
follow_fault : (gives : Gives) (before : Expanded) (rest : List Form) (r : Result Expanded MacroFault) (fault : MacroFault) → length before.text ≤ 1048576
    → (r >>= within (1048576 - length before.text)) ≡ Err fault → follow gives before rest r ≡ Err fault
follow_fault gives before rest (Err other) fault h e = follow_err gives before rest other ∙ e
follow_fault gives before rest (Ok value) fault h e =
    let w = within_err (1048576 - length before.text) value fault e in
    follow_over gives before value rest (omega (arith, w.0)) ∙ ap (λ (f : MacroFault). Err f) (sym w.1)

-- a form behind a `$`
pub form_done : (gives : Gives) (before after : Expanded) (behind : List ℕ) → length before.text ≤ 1048576
    → (gives before.references (dollar_form behind).0 >>= within (1048576 - length before.text)) ≡ Ok after
    → (in_order gives before (forms (36 ∷ behind)) ≡ in_order gives (joined before after) (forms (dollar_form behind).1)) × (length before.text + length after.text ≤ 1048576)
form_done gives before after behind h e =
    let f = follow_within gives before after (forms (dollar_form behind).1) (gives before.references (dollar_form behind).0) h e in
    (ap (in_order gives before) (forms_dollar behind) ∙ (in_order_cons gives before (dollar_form behind).0 (forms (dollar_form behind).1) ∙ f.0), f.1)

pub form_failed : (gives : Gives) (before : Expanded) (behind : List ℕ) (fault : MacroFault) → length before.text ≤ 1048576
    → (gives before.references (dollar_form behind).0 >>= within (1048576 - length before.text)) ≡ Err fault
    → in_order gives before (forms (36 ∷ behind)) ≡ Err fault
form_failed gives before behind fault h e =
    ap (in_order gives before) (forms_dollar behind) ∙ (in_order_cons gives before (dollar_form behind).0 (forms (dollar_form behind).1) ∙ follow_fault gives before (forms (dollar_form behind).1) (gives before.references (dollar_form behind).0) fault h e)

-- a value with more text behind it
abbrev pub longer : Expanded → List ℕ → Expanded
longer value more = record value { text = value.text ++ more }

module _ (scope : Scope) (deeper : Deeper) (going : List (List ℕ)) where
  byte_joined : (before : Expanded) (b : ℕ) → joined before (record { text = b ∷ []; references = before.references; varying = false }) ≡ longer before (b ∷ [])
  byte_joined before b = ap (λ (v : Bool). record { text = before.text ++ b ∷ []; references = before.references; varying = v }) (or-false before.varying)

  byte_order : (before : Expanded) (b : ℕ) (text : List ℕ) → eqb b 36 ≡ false → in_order (given scope deeper going) before (forms (b ∷ text)) ≡ follow (given scope deeper going) before (forms text) (Ok (record { text = b ∷ []; references = before.references; varying = false }))
  byte_order before b text e = ap (in_order (given scope deeper going) before) (forms_byte b text e) ∙ in_order_cons (given scope deeper going) before (Byte b) (forms text)

  pub byte_done : (before : Expanded) (b : ℕ) (text : List ℕ) → eqb b 36 ≡ false → length before.text + 1 ≤ 1048576 → in_order (given scope deeper going) before (forms (b ∷ text)) ≡ in_order (given scope deeper going) (longer before (b ∷ [])) (forms text)
  byte_done before b text e h =
      byte_order before b text e ∙ (follow_ok (given scope deeper going) before (record { text = b ∷ []; references = before.references; varying = false }) (forms text) h
      ∙ ap (λ (v : Expanded). in_order (given scope deeper going) v (forms text)) (byte_joined before b))

  byte_over : (before : Expanded) (b : ℕ) (text : List ℕ) → eqb b 36 ≡ false → 1048576 < length before.text + 1 → in_order (given scope deeper going) before (forms (b ∷ text)) ≡ Err ValueTooLong
  byte_over before b text e h =
      byte_order before b text e ∙ follow_over (given scope deeper going) before (record { text = b ∷ []; references = before.references; varying = false }) (forms text) h

  -- plain bytes, for which there is room
  pub run_done : (before : Expanded) (run behind : List ℕ) → IsPlain run → length before.text + length run ≤ 1048576 → in_order (given scope deeper going) before (forms (run ++ behind)) ≡ in_order (given scope deeper going) (longer before run) (forms behind)
  run_done before [] behind plain h = ap (λ (t : List ℕ). in_order (given scope deeper going) (record before { text = t }) (forms behind)) (sym (append-nil before.text))
  run_done before (b ∷ run) behind plain h =
      let split = or_apart (eqb b 36) (list_any (is_byte 36) run) plain in
      let more : length (longer before (b ∷ [])).text + length run ≤ 1048576 = omega (arith, length-append before.text (b ∷ [])) in
      byte_done before b (run ++ behind) split.0 (omega arith) ∙ (run_done (longer before (b ∷ [])) run behind split.1 more
      ∙ ap (λ (t : List ℕ). in_order (given scope deeper going) (record before { text = t }) (forms behind)) (append_assoc before.text (b ∷ []) run))
    where
      or_apart : (x y : Bool) → (x || y) ≡ false → (x ≡ false) × (y ≡ false)
      or_apart true y e = cc
      or_apart false y e = (refl, e)

  -- plain bytes, for which there is none
  pub run_over : (before : Expanded) (run behind : List ℕ) → IsPlain run → length before.text ≤ 1048576 → 1048576 < length before.text + length run → in_order (given scope deeper going) before (forms (run ++ behind)) ≡ Err ValueTooLong
  run_over before [] behind plain low h = absurd (omega arith)
  run_over before (b ∷ run) behind plain low h =
      let split = or_apart (eqb b 36) (list_any (is_byte 36) run) plain in
      let more : 1048576 < length (longer before (b ∷ [])).text + length run = omega (arith, length-append before.text (b ∷ [])) in
      elim (cases_lt 1048576 (length before.text + 1)) [
        | inl gt ↦ byte_over before b (run ++ behind) split.0 gt
        | inr le ↦
            let low2 : length (longer before (b ∷ [])).text ≤ 1048576 = omega (arith, length-append before.text (b ∷ [])) in
            byte_done before b (run ++ behind) split.0 le ∙ run_over (longer before (b ∷ [])) run behind split.1 low2 more
      ]
    where
      or_apart : (x y : Bool) → (x || y) ≡ false → (x ≡ false) × (y ≡ false)
      or_apart true y e = cc
      or_apart false y e = (refl, e)

-- the forms of a text, from the start
pub expanded_is : (deep : ℕ) (scope : Scope) (going : List (List ℕ)) (references : ℕ) (text : List ℕ)
    → expanded deep scope going references text ≡ in_order (given scope (below deep scope) going) (record { text = []; references = references; varying = false }) (forms text)
unfolding expanded
expanded_is zero scope going references text = refl
expanded_is (suc deep) scope going references text = refl
