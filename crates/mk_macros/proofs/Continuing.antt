-- A text that is expanded into a buffer, form by form.
use Rattle.std.proofs.Common.{◌≡◌, ◌⊎◌, ℕ, false, ◌+◌, ◌-◌, ◌<◌, ◌≤◌, List, [], ◌∷◌, ◌++◌, ◌||◌, length, Bor, Option, None, Some, Result, Ok, Err, sym, ap, subst, ◌∙◌, inl, inr, arith, append_assoc, length-append}
use Rattle.std.proofs.lemmas.List.{append-nil}
use Rattle.mk_macros.specs.declared.fault.MacroFault.{MacroFault}
use Rattle.mk_macros.specs.declared.fault.MacroFault.TheVariants.{ValueTooLong, Memory}
use Rattle.mk_macros.specs.declared.appending.Used.{Used}
use Rattle.mk_macros.specs.Forms.{IsCut, IsPlain, forms, dollar_form}
use Rattle.mk_macros.specs.Views.{texts_of}
use Rattle.mk_macros.specs.Expansion.{Expanded, Scope, Deeper, given, joined, in_order, expanded}
use Rattle.mk_macros.specs.Appending.{Appends, below, form_within}
use Rattle.mk_macros.proofs.InOrder.{run_done, run_over, form_done, form_failed, in_order_nil, expanded_is}

-- how a text was cut
pub cut_none : (text run : List ℕ) (o : Option (Bor (List ℕ))) → o ≡ None → IsCut text run (texts_of o) → (text ≡ run) × IsPlain run
cut_none text run o e h = subst (λ o. IsCut text run (texts_of o)) e h

pub cut_some : (text run : List ℕ) (o : Option (Bor (List ℕ))) (b : Bor (List ℕ)) → o ≡ Some b → IsCut text run (texts_of o) → (text ≡ run ++ 36 ∷ b.now) × IsPlain run
cut_some text run o b e h = subst (λ o. IsCut text run (texts_of o)) e h

-- a run at the end of the text, or a run followed by a form
pub last_run : (text run : List ℕ) → text ≡ run → text ≡ run ++ []
last_run text run e = e ∙ sym (append-nil run)

pub over_cut : (text run : List ℕ) (o : Option (Bor (List ℕ))) → IsCut text run (texts_of o) → (behind : List ℕ) × (text ≡ run ++ behind) × IsPlain run
over_cut text run None h = ([], last_run text run h.0, h.1)
over_cut text run (Some b) h = (36 ∷ b.now, h.0, h.1)

-- what an expansion gave so far
abbrev pub so_far : Used → List ℕ → Expanded
so_far used done = record { text = done; references = used.references; varying = used.varying }

-- What stands behind the old bytes of a buffer is at most 1,048,576 bytes, and with what the rest
-- of a text gives behind it, it is the whole.
abbrev pub Continues : Scope → Deeper → List (List ℕ) → List ℕ → List ℕ → Used → List ℕ → Result Expanded MacroFault → Type 0
Continues scope deeper going old into used rest whole =
    (done : List ℕ) × (into ≡ old ++ done) × (length done ≤ 1048576) × (in_order (given scope deeper going) (so_far used done) (forms rest) ≡ whole)

pub continues_first : (deep : ℕ) (scope : Scope) (going : List (List ℕ)) (references : ℕ) (old text : List ℕ)
    → Continues scope (below deep scope) going old old (record { references = references; varying = false }) text (expanded deep scope going references text)
continues_first deep scope going references old text = ([], sym (append-nil old), omega arith, sym (expanded_is deep scope going references text))

module _ (scope : Scope) (deeper : Deeper) (going : List (List ℕ)) (old into : List ℕ) (used : Used) (rest : List ℕ) (whole : Result Expanded MacroFault) (so : Continues scope deeper going old into used rest whole) where
  gap : length into - length old ≡ length so.0
  gap = omega (arith, ap length so.1, length-append old so.0)

  -- a run of plain bytes, for which there was room
  pub after_run : (run behind after : List ℕ) → rest ≡ run ++ behind → IsPlain run → length run ≤ 1048576 - (length into - length old) → after ≡ into ++ run → Continues scope deeper going old after used behind whole
  after_run run behind after cut plain room grown =
      let g = gap in
      let fits : length so.0 + length run ≤ 1048576 = omega (arith, so.2) in (
        so.0 ++ run,
        grown ∙ (ap (λ t. t ++ run) so.1 ∙ append_assoc old so.0 run),
        omega (arith, length-append so.0 run),
        sym (run_done scope deeper going (so_far used so.0) run behind plain fits) ∙ (ap (λ t. in_order (given scope deeper going) (so_far used so.0) (forms t)) (sym cut) ∙ so.3),
      )

  -- one for which there was none
  pub over_run : (run behind : List ℕ) → rest ≡ run ++ behind → IsPlain run → 1048576 - (length into - length old) < length run → whole ≡ Err ValueTooLong
  over_run run behind cut plain room =
      let g = gap in
      let over : 1048576 < length so.0 + length run = omega (arith, so.2) in
      sym so.3 ∙ (ap (λ t. in_order (given scope deeper going) (so_far used so.0) (forms t)) cut ∙ run_over scope deeper going (so_far used so.0) run behind plain so.2 over)

  -- the end of the text
  pub finished : rest ≡ [] → Appends old into (Ok used) whole
  finished none = (so.0, so.1, sym so.3 ∙ (ap (λ t. in_order (given scope deeper going) (so_far used so.0) (forms t)) none ∙ in_order_nil (given scope deeper going) (so_far used so.0)))

  -- a form behind a `$`, for which there was room
  pub after_form : (behind left after : List ℕ) (room : ℕ) (used_then : Used) → rest ≡ 36 ∷ behind → room ≡ 1048576 - (length into - length old)
      → Appends into after (Ok used_then) (form_within scope deeper going used.references room (dollar_form behind).0) → left ≡ (dollar_form behind).1
      → Continues scope deeper going old after (record { references = used_then.references; varying = used.varying || used_then.varying }) left whole
  after_form behind left after room used_then cut space appended leaves =
      let g = gap in
      let r : room ≡ 1048576 - length so.0 = omega (arith, space, g) in
      let fits = subst (λ n. form_within scope deeper going used.references n (dollar_form behind).0 ≡ Ok (so_far used_then appended.0)) r appended.2 in
      let done = form_done (given scope deeper going) (so_far used so.0) (so_far used_then appended.0) behind so.2 fits in (
        so.0 ++ appended.0,
        appended.1 ∙ (ap (λ t. t ++ appended.0) so.1 ∙ append_assoc old so.0 appended.0),
        omega (arith, length-append so.0 appended.0, done.1),
        ap (λ t. in_order (given scope deeper going) (joined (so_far used so.0) (so_far used_then appended.0)) (forms t)) leaves
            ∙ (sym done.0 ∙ (ap (λ t. in_order (given scope deeper going) (so_far used so.0) (forms t)) (sym cut) ∙ so.3)),
      )

  -- a form that gives a fault, or a value for which there was none
  pub fault_form : (behind : List ℕ) (room : ℕ) (fault : MacroFault) → rest ≡ 36 ∷ behind → room ≡ 1048576 - (length into - length old)
      → form_within scope deeper going used.references room (dollar_form behind).0 ≡ Err fault → whole ≡ Err fault
  fault_form behind room fault cut space fails =
      let g = gap in
      let r : room ≡ 1048576 - length so.0 = omega (arith, space, g) in
      let not = subst (λ n. form_within scope deeper going used.references n (dollar_form behind).0 ≡ Err fault) r fails in
      sym so.3 ∙ (ap (λ t. in_order (given scope deeper going) (so_far used so.0) (forms t)) cut ∙ form_failed (given scope deeper going) (so_far used so.0) behind fault so.2 not)

  -- a run that failed
  pub failed_run : (o : Option (Bor (List ℕ))) (run : List ℕ) (room : ℕ) (fault : MacroFault) → IsCut rest run (texts_of o) → room ≡ 1048576 - (length into - length old)
      → (fault ≡ Memory) ⊎ ((fault ≡ ValueTooLong) × (room < length run)) → (fault ≡ Memory) ⊎ (whole ≡ Err fault)
  failed_run o run room fault cut space (inl e) = inl e
  failed_run o run room fault cut space (inr e) =
      let c = over_cut rest run o cut in
      inr (over_run run c.0 c.1 c.2 (omega (arith, space, e.1)) ∙ ap (λ (f : MacroFault). Err f) (sym e.0))

  -- a form that failed
  pub failed_form : (behind : List ℕ) (room : ℕ) (fault : MacroFault) → rest ≡ 36 ∷ behind → room ≡ 1048576 - (length into - length old)
      → (fault ≡ Memory) ⊎ (form_within scope deeper going used.references room (dollar_form behind).0 ≡ Err fault) → (fault ≡ Memory) ⊎ (whole ≡ Err fault)
  failed_form behind room fault cut space (inl e) = inl e
  failed_form behind room fault cut space (inr e) = inr (fault_form behind room fault cut space e)
