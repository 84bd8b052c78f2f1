use Rattle.std.proofs.Common.{◌≡◌, ◌<◌, ◌∙◌, ◌++◌, ◌∷◌, [], ℕ, List, String, Vec, Global, Option, true, length, map, take, ap, sym, subst, string_bytes, arith}
use Rattle.std.proofs.lemmas.Result.{err_from_is_err_and}
use Rattle.std.specs.Option.{is_some, option_map, option_or}
use Rattle.mk_read.specs.Files.{text_at}
use Rattle.mk_core_repair.specs.Amending.{IsCutTo}
use Rattle.mk_core_repair.proofs.Readings.{cut_again, cut_found, cut_missing, has_text, one_more, read_fails_among, text_added, texts_by}
use Rattle.mk_core_repair.proofs.known_files.read_texts.Goals.{in-Some+in_ok-add_text, in_default}
use Rattle.mk_core_repair.proofs.known_files.read_texts.Goals as goal

pub loop-name-preserved-then-contains_key : goal.loop-name-preserved-then-contains_key
loop-name-preserved-then-contains_key g c =
    let names = c.args.names.now in
    let i = c.loop-name.name-index in
    let name = c.name-item.result in
    let texts = texts_by c.loop-name.texts.entries in
    let lt : i < length names = omega arith in
    let known = subst (λ (n : List ℕ). is_some (text_at texts n) ≡ true) c.as_str.ensures.value (has_text c.loop-name.texts c.as_str.result.now c.if-contains_key.ensures) in
    record {
      keeps = c.loop-name.invariant.keeps;
      noted = c.loop-name.invariant.noted;
      cut = λ told fits.
          subst (λ (l : List (List ℕ)). IsCutTo l told texts) (one_more names i name lt c.name-item.is)
          (cut_again (map string_bytes (take i names)) told texts (c.loop-name.invariant.cut told fits) (string_bytes name) known);
    }

pub returns-in_err-text-clause-fault : goal.returns-in_err-text-clause-fault
returns-in_err-text-clause-fault g c =
    let p = err_from_is_err_and c.from_residual.result c.from_residual.ensures.1 in
    let lt : c.loop-name.name-index < length c.args.names.now = omega arith in
    rw (p.1, p.2) (read_fails_among c.args.names.now c.loop-name.name-index c.name-item.result _ c.in_err-text.field-0.0 lt c.name-item.is c.as_str-in-loop-name.ensures.value c.in_err-text.ensures.fault)

pub loop-name-preserved : goal.loop-name-preserved
loop-name-preserved g c =
    let names = c.args.names.now in
    let i = c.loop-name.name-index in
    let name = c.name-item.result in
    let before = map string_bytes (take i names) in
    let old = c.loop-name.texts in
    let lt : i < length names = omega arith in
    record {
      keeps = λ told fits. c.loop-name.invariant.keeps told (c.in_ok-text.ensures.keeps told fits);
      noted = c.in_ok-text.ensures.noted ∙ c.loop-name.invariant.noted;
      cut = λ told fits.
          let cut = c.loop-name.invariant.cut told (c.in_ok-text.ensures.keeps told fits) in
          let text = c.in_ok-text.ensures.text told fits ∙ ap (text_at told) c.as_str-in-loop-name.ensures.value in
          subst (λ (l : List (List ℕ)). IsCutTo l told (texts_by c.match-branch-2.texts.entries)) (one_more names i name lt c.name-item.is)
          (elim c.match-branch-2.branch [
            | in-Some+in_ok-add_text w ↦
                (let found = ap (λ (o : Option (Vec ℕ Global)). option_map (λ t. t.items) o) (sym w.in-Some.is) ∙ text in
                let new = w.add_text.new.files in
                let added = subst (λ (n : List ℕ). (q : List ℕ) → text_at (texts_by new.entries) q ≡ option_or (text_at (texts_by old.entries) q) (text_at ((n, w.in-Some.text.items) ∷ []) q)) w.as_str-in-Some.ensures.value
                (λ q. text_added old new w.as_str-in-Some.result.now w.in-Some.text q (w.in_ok-add_text.ensures q)) in
                subst (λ (t : List (String Global × Vec ℕ Global)). IsCutTo (before ++ string_bytes name ∷ []) told (texts_by t)) (sym (ap (λ m. m.entries) w.texts-is))
                (cut_found before told (texts_by old.entries) cut (string_bytes name) w.in-Some.text.items (texts_by new.entries) found added))
            | in_default w ↦
                (let none = ap (λ (o : Option (Vec ℕ Global)). option_map (λ t. t.items) o) (sym w.in_default.is) ∙ text in
                subst (λ (t : List (String Global × Vec ℕ Global)). IsCutTo (before ++ string_bytes name ∷ []) told (texts_by t)) (sym (ap (λ m. m.entries) w.texts-is))
                (cut_missing before told (texts_by old.entries) cut (string_bytes name) none))
          ]);
    }
