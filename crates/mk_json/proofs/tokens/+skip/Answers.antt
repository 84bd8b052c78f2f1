use Rattle.std.proofs.Common.{◌≡◌, ℕ, List, Bor, option_map, inl, inr, ◌∷◌, [], None, Some, sym, ap, ap₂, ◌∙◌, arith}
use Rattle.std.specs.Prelude.{◌⊎◌, ⊤}
use Rattle.std.specs.Prelude as prelude
use Rattle.json.specs.Token.{Token}
use Rattle.json.specs.Json.{after_end_array, read_key}
use Rattle.json.specs.Reads.{token_of}
use Rattle.json.proofs.Grammar.{read_key-shorter}
use Rattle.json.specs.declared.token.Token.{Token as Code}
use Rattle.json.specs.declared.token.Token.TheVariants.{EndObject, EndArray, Key, String, Bool, Null, Bad}
use Rattle.serde_json.specs.Data.{Num, Data, number, no_members}
use Rattle.serde_json.specs.View.{number_view}
use Rattle.mk_json.specs.Tokens.{next_value}
use Rattle.mk_json.proofs.Turns.{shorter, items_next, items_end, items_fail, members_begin, members_next, members_end, members_fail, key_fails, not_deeper_array, not_deeper_object, string_first, boolean_first, null_first, number_first, no_value_first, refused, refused_items, refused_members, array_read, object_read}
use Rattle.mk_json.proofs.tokens.+skip.Goals as goal

pub skip_items-items-smaller : goal.skip_items-items-smaller
skip_items-items-smaller t c =
    let going : (after_end_array c.items.reader ≡ None) × (c.take_end_array.new.self ≡ c.items.reader) = grind arith in
    let done = c.in_ok-skip_value.ensures in
    let less = shorter c.args.depth c.take_end_array.new.self c.skip_value.new.reader done.0 done.1 in
    rw (← going.1) less

pub skip_items-items-preserved : goal.skip_items-items-preserved
skip_items-items-preserved t c =
    let going : (after_end_array c.items.reader ≡ None) × (c.take_end_array.new.self ≡ c.items.reader) = grind arith in
    let done = c.in_ok-skip_value.ensures in
    let l = c.items in
    let passed : next_value c.args.depth l.reader ≡ Some (done.0, c.skip_value.new.reader) = rw (← going.1) done.1 in
    (_, items_next c.args.depth c.args.reader.now l.invariant.0 l.reader c.skip_value.new.reader done.0 l.invariant.1 going.0 passed)

pub skip_items-returns-in_err-skip_value : goal.skip_items-returns-in_err-skip_value
skip_items-returns-in_err-skip_value t c =
    let going : (after_end_array c.items.reader ≡ None) × (c.take_end_array.new.self ≡ c.items.reader) = grind arith in
    let l = c.items in
    let none : next_value c.args.depth l.reader ≡ None = rw (← going.1) c.in_err-skip_value.ensures in
    refused_items _ _ _ _ _ c.from_residual.ensures.0 (items_fail c.args.depth c.args.reader.now l.invariant.0 l.reader l.invariant.1 going.0 none)

pub skip_items-returns : goal.skip_items-returns
skip_items-returns t c =
    let l = c.items in
    (l.invariant.0, items_end c.args.depth c.args.reader.now l.invariant.0 l.reader c.take_end_array.new.self l.invariant.1 (grind arith), tt)

pub skip_members-members-init : goal.skip_members-members-init
skip_members-members-init t c = (no_members, members_begin c.args.depth c.args.reader.now)

pub skip_members-members-smaller : goal.skip_members-members-smaller
skip_members-members-smaller t c =
    let named : read_key c.members.reader ≡ Some (Some c.in-Some.field-0.now, c.next_key.new.self) = grind arith in
    let less = read_key-shorter c.members.reader (Some c.in-Some.field-0.now) c.next_key.new.self named in
    let done = c.in_ok-skip_value.ensures in
    let lesser = shorter c.args.depth c.next_key.new.self c.skip_value.new.reader done.0 done.1 in
    omega arith

pub skip_members-members-preserved : goal.skip_members-members-preserved
skip_members-members-preserved t c =
    let l = c.members in
    let named : read_key l.reader ≡ Some (Some c.in-Some.field-0.now, c.next_key.new.self) = grind arith in
    let done = c.in_ok-skip_value.ensures in
    (_, members_next c.args.depth c.args.reader.now l.invariant.0 c.in-Some.field-0.now done.0 l.reader c.next_key.new.self c.skip_value.new.reader l.invariant.1 named done.1)

pub skip_members-returns : goal.skip_members-returns
skip_members-returns t c =
    let l = c.members in
    (l.invariant.0, members_end c.args.depth c.args.reader.now l.invariant.0 l.reader c.next_key.new.self l.invariant.1 (grind arith), tt)

pub skip_rest-returns-then-depth-eq0 : goal.skip_rest-returns-then-depth-eq0
skip_rest-returns-then-depth-eq0 t c =
    let none : c.args.depth ≡ 0 = omega arith in
    ap₂ next_value none (ap (λ k. token_of k ∷ c.args.reader.now) c.in-BeginArray.is) ∙ not_deeper_array c.args.reader.now

pub skip_rest-returns-then-depth-eq0-2 : goal.skip_rest-returns-then-depth-eq0-2
skip_rest-returns-then-depth-eq0-2 t c =
    let none : c.args.depth ≡ 0 = omega arith in
    ap₂ next_value none (ap (λ k. token_of k ∷ c.args.reader.now) c.in-BeginObject.is) ∙ not_deeper_object c.args.reader.now

pub skip_members-returns-in_err-next_key : goal.skip_members-returns-in_err-next_key
skip_members-returns-in_err-next_key t c =
    let l = c.members in
    refused_members _ _ _ _ _ c.from_residual.ensures.0 (key_fails c.args.depth c.args.reader.now l.invariant.0 l.reader l.invariant.1 c.in_err-next_key.ensures.value)

pub skip_members-returns-in_err-skip_value : goal.skip_members-returns-in_err-skip_value
skip_members-returns-in_err-skip_value t c =
    let l = c.members in
    let named : read_key l.reader ≡ Some (Some c.in-Some.field-0.now, c.next_key.new.self) = grind arith in
    refused_members _ _ _ _ _ c.from_residual-in_err-skip_value.ensures.0 (members_fail c.args.depth c.args.reader.now l.invariant.0 c.in-Some.field-0.now l.reader c.next_key.new.self l.invariant.1 named c.in_err-skip_value.ensures)

one_token : (depth : ℕ) (token : Code) (ts : List Token) → ((s : Bor (List ℕ)) × (token ≡ String s)) ⊎ (((b : prelude.Bool) × (token ≡ Bool b)) ⊎ (token ≡ Null)) → (d : Data) × (next_value depth (token_of token ∷ ts) ≡ Some (d, ts)) × ⊤
one_token depth token ts (inl p) = rw p.1 (_, string_first depth p.0.now ts, tt)
one_token depth token ts (inr (inl p)) = rw p.1 (_, boolean_first depth p.0 ts, tt)
one_token depth token ts (inr (inr e)) = rw e (_, null_first depth ts, tt)

begins_none : (depth : ℕ) (token : Code) (ts : List Token) → (token ≡ EndObject) ⊎ ((token ≡ EndArray) ⊎ (((s : Bor (List ℕ)) × (token ≡ Key s)) ⊎ (token ≡ Bad))) → next_value depth (token_of token ∷ ts) ≡ None
begins_none depth token ts (inl e) = rw e (no_value_first depth ts).1
begins_none depth token ts (inr (inl e)) = rw e (no_value_first depth ts).2
begins_none depth token ts (inr (inr (inl p))) = rw p.1 ((no_value_first depth ts).3 p.0.now)
begins_none depth token ts (inr (inr (inr e))) = rw e (no_value_first depth ts).4

pub skip_rest-returns-in-String : goal.skip_rest-returns-in-String
skip_rest-returns-in-String t c = one_token c.args.depth c.args.token c.args.reader.now c.in-String.is

pub skip_rest-returns-in-EndObject : goal.skip_rest-returns-in-EndObject
skip_rest-returns-in-EndObject t c = begins_none c.args.depth c.args.token c.args.reader.now c.in-EndObject.is

pub skip_rest-returns-in-Some : goal.skip_rest-returns-in-Some
skip_rest-returns-in-Some t c =
    let n = number_view c.in-Some.field-0 in
    let found : next_value c.args.depth (Token.number c.in-Number.text.now ∷ c.args.reader.now) ≡ Some (number n, c.args.reader.now) = number_first c.args.depth c.in-Number.text.now c.args.reader.now ∙ ap (option_map (λ (m : Num). (number m, c.args.reader.now))) (sym c.in-Some.ensures) in
    (number n, ap (λ k. next_value c.args.depth (token_of k ∷ c.args.reader.now)) c.in-Number.is ∙ found, tt)

pub skip_rest-returns-in-None : goal.skip_rest-returns-in-None
skip_rest-returns-in-None t c =
    let found : next_value c.args.depth (Token.number c.in-Number.text.now ∷ c.args.reader.now) ≡ None = number_first c.args.depth c.in-Number.text.now c.args.reader.now ∙ ap (option_map (λ (m : Num). (number m, c.args.reader.now))) (sym c.in-None.ensures) in
    ap (λ k. next_value c.args.depth (token_of k ∷ c.args.reader.now)) c.in-Number.is ∙ found

pub skip_rest-returns-else-depth-eq0 : goal.skip_rest-returns-else-depth-eq0
skip_rest-returns-else-depth-eq0 t c = rw c.in-BeginArray.is (array_read c.args.depth c.args.reader.now c.skip_items.new.reader c.skip_items.result (omega arith) c.skip_items.ensures)

pub skip_rest-returns-else-depth-eq0-2 : goal.skip_rest-returns-else-depth-eq0-2
skip_rest-returns-else-depth-eq0-2 t c = rw c.in-BeginObject.is (object_read c.args.depth c.args.reader.now c.skip_members.new.reader c.skip_members.result (omega arith) c.skip_members.ensures)

pub skip_value-returns-in_err-token : goal.skip_value-returns-in_err-token
skip_value-returns-in_err-token t c =
    let empty : c.args.reader.now ≡ [] = grind arith in
    refused _ _ _ _ _ c.from_residual.ensures.0 (ap (next_value c.args.depth) empty ∙ (no_value_first c.args.depth []).0)
