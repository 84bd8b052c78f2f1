-- The text of steps is read as their orders.
use Rattle.std.proofs.Common.{◌≡◌, ℕ, ◌+◌, ◌<◌, ◌≤◌, ◌^◌, Bool, true, false, cond, not, ◌&&◌, ◌||◌, List, [], ◌∷◌, ◌++◌, All, IsAscii, length, map, codes, nat_lt, nat_le, find, filter_map, decimal, Option, Some, None, Ok, option_map, option_and_then, refl, sym, ap, ◌∙◌, subst, arith, append_assoc, inl, inr, is_none}
use Rattle.std.specs.List.{slice_split, list_all, enumerate_from, cons_option}
use Rattle.std.specs.Str.{is_utf8}
use Rattle.std.specs.Str.Parse.{digits_value}
use Rattle.std.specs.Char.{is_ascii_digit}
use Rattle.std.proofs.lemmas.Bool.{and_from, cond-true, cond-false, lt-ltb, le-leb, le-ltb}
use Rattle.std.proofs.lemmas.List.Splits.{slice_split_at}
use Rattle.std.proofs.lemmas.List.Elements.{All-append, All-cons, All-nil}
use Rattle.std.proofs.lemmas.Fmt.{decimal_is_IsNumeral, decimal_nonempty}
use Rattle.std.proofs.lemmas.Str.{IsUtf8-from_ascii, is_utf8-from_IsUtf8}
use Rattle.mk_lemmas.proofs.Texts.{IsAscii-from_list_all}
use Rattle.mk_world_plan.proofs.PlanTexts.{front_stays, parts_there}
use Rattle.mk_lines.specs.Bytes.{is_byte}
use Rattle.mk_graph.specs.Membership.{Has}
use Rattle.mk_graph.specs.Graph.{Graph}
use Rattle.mk_build.specs.Setting.{FileName}
use Rattle.mk_world.specs.NamedStep.{Step, Edit, Make, Begin, Look, Put, End, Break, Pass, Stop, EndMake}
use Rattle.mk_world.specs.declared.plan.PlanCommand.{PlanCommand}
use Rattle.mk_world.specs.declared.plan.PlanCommand.TheVariants as order
use Rattle.mk_world_plan.specs.PlanReading as plans
use Rattle.mk_world_plan.specs.PlanReading.{lines_of, without_empty_last, is_passed_over, is_bad, parse_words, parse_number, is_number, parse_jobs, jobs_among, max_jobs, max_lines, unless_bad, numbered_lines}
use Rattle.mk_world_plan.specs.PlanText.{are_all_named, goals_text, names_text, is_idle, make_line, pass_line, break_line, step_text, plan_text}
use Rattle.mk_world_plan.specs.Spelling.{is_of_word, IsWellSpelled}
use Rattle.mk_world_plan.specs.PlanLaws.{IsReadable, named_goals, command_of_step, plan_line, WrittenTextIsRead}
use Rattle.mk_world_plan.proofs.Spelling.{AreSpelled, joined, words_joined, joined_names, decimal_spelled, decimal_digits, no_newline}

-- the line before a newline is cut off
line_cut : (line rest : List ℕ) → All (λ b. is_byte 10 b ≡ false) line → lines_of (line ++ 10 ∷ rest) ≡ line ∷ lines_of rest
line_cut line rest none = ap without_empty_last (slice_split_at (is_byte 10) line 10 rest none refl) ∙ front_stays line (slice_split (is_byte 10) rest) (parts_there rest)

-- The line is read as this order.
record IsLineOf (line : List ℕ) (o : PlanCommand) : Type 0 where
  no_newline : All (λ b. is_byte 10 b ≡ false) line
  not_passed : is_passed_over line ≡ false
  read : plans.parse_line line ≡ Some o

-- what is written of a step: nothing, or the line of its order and a newline
abbrev Writes : List ℕ → Option PlanCommand → Type 0
Writes text None = text ≡ []
Writes text (Some o) = (line : List ℕ) × IsLineOf line o × (text ≡ line ++ 10 ∷ [])

-- Lines, numbered on from n, are read as these orders.
record ReadFrom (n : ℕ) (ls : List (List ℕ)) (os : List PlanCommand) : Type 0 where
  bad : find is_bad (enumerate_from n ls) ≡ None
  plan : filter_map plans.planned (enumerate_from n ls) ≡ map plan_line (enumerate_from n os)

not_bad : (n : ℕ) (line : List ℕ) (o : PlanCommand) → IsLineOf line o → n ≤ max_lines → is_bad (n, line) ≡ false
not_bad n line o is few = at (nat_lt max_lines n) (is_passed_over line) (plans.parse_line line) (le-ltb max_lines n few) is.not_passed is.read
  where
    at : (a b : Bool) (r : Option PlanCommand) → a ≡ false → b ≡ false → r ≡ Some o → (a || (not b && is_none r)) ≡ false
    at a b None h k e = absurd cc
    at true b (Some p) h k e = absurd cc
    at false true (Some p) h k e = absurd cc
    at false false (Some p) h k e = refl

line_planned : (n : ℕ) (line : List ℕ) (o : PlanCommand) → IsLineOf line o → plans.planned (n, line) ≡ Some (plan_line (n, o))
line_planned n line o is = cond-false (is_passed_over line) None (option_map (λ p. plan_line (n, p)) (plans.parse_line line)) is.not_passed ∙ ap (option_map (λ p. plan_line (n, p))) is.read

taken : (n : ℕ) (line : List ℕ) (ls : List (List ℕ)) (o : PlanCommand) (os : List PlanCommand) → IsLineOf line o → n ≤ max_lines → ReadFrom (n + 1) ls os → ReadFrom n (line ∷ ls) (o ∷ os)
taken n line ls o os is few rest = record {
  bad = cond-false (is_bad (n, line)) (Some (n, line)) (find is_bad (enumerate_from (n + 1) ls)) (not_bad n line o is few) ∙ rest.bad;
  plan = ap (λ p. cons_option p (filter_map plans.planned (enumerate_from (n + 1) ls))) (line_planned n line o is) ∙ ap (λ ps. plan_line (n, o) ∷ ps) rest.plan;
}

one : (n : ℕ) (text rest : List ℕ) (o : Option PlanCommand) (os : List PlanCommand) → Writes text o
    → n + length (lines_of (text ++ rest)) ≤ max_lines + 1
    → ((m : ℕ) → m + length (lines_of rest) ≤ max_lines + 1 → ReadFrom m (lines_of rest) os)
    → ReadFrom n (lines_of (text ++ rest)) (cons_option o os)
one n text rest None os w bound ih = subst (λ t. ReadFrom n (lines_of (t ++ rest)) os) (sym w) (ih n (subst (λ t. n + length (lines_of (t ++ rest)) ≤ max_lines + 1) w bound))
one n text rest (Some o) os w bound ih =
    let cut : lines_of (text ++ rest) ≡ w.0 ∷ lines_of rest = ap (λ t. lines_of (t ++ rest)) w.2 ∙ (ap lines_of (append_assoc w.0 (10 ∷ []) rest) ∙ line_cut w.0 rest w.1.no_newline) in
    let many : n + length (w.0 ∷ lines_of rest) ≤ max_lines + 1 = subst (λ ls. n + length ls ≤ max_lines + 1) cut bound in
    subst (λ ls. ReadFrom n ls (o ∷ os)) (sym cut) (taken n w.0 (lines_of rest) o os w.1 (omega arith) (ih (n + 1) (omega arith)))

read_steps : (g : Graph) (steps : List Step) → ((step : Step) → Has steps step → Writes (step_text g step) (command_of_step g step)) → (n : ℕ) → n + length (lines_of (plan_text g steps)) ≤ max_lines + 1 → ReadFrom n (lines_of (plan_text g steps)) (filter_map (command_of_step g) steps)
read_steps g [] writes n bound = record { bad = refl; plan = refl }
read_steps g (step ∷ steps) writes n bound =
    one n (step_text g step) (plan_text g steps) (command_of_step g step) (filter_map (command_of_step g) steps) (writes step (inl refl)) bound (read_steps g steps (λ other h. writes other (inr h)))

-- the lines of words

all_utf8 : (ws : List (List ℕ)) → AreSpelled ws → list_all is_utf8 ws ≡ true
all_utf8 [] spelled = refl
all_utf8 (w ∷ ws) spelled = and_from (is_utf8 w) (list_all is_utf8 ws) spelled.0.utf8 (all_utf8 ws spelled.1)

order_joined : (ws : List (List ℕ)) → AreSpelled ws → plans.parse_line (joined ws) ≡ parse_words ws
order_joined ws spelled =
    ap (λ us. cond (list_all is_utf8 us) (parse_words us) None) (words_joined ws spelled) ∙ cond-true (list_all is_utf8 ws) (parse_words ws) None (all_utf8 ws spelled)

no_newline_joined : (ws : List (List ℕ)) → AreSpelled ws → All (λ b. is_byte 10 b ≡ false) (joined ws)
no_newline_joined [] spelled = All-nil (λ b. is_byte 10 b ≡ false)
no_newline_joined (w ∷ []) spelled = no_newline w spelled.0
no_newline_joined (w ∷ v ∷ ws) spelled =
    All-append (λ b. is_byte 10 b ≡ false) w (32 ∷ joined (v ∷ ws)) (no_newline w spelled.0) (All-cons (λ b. is_byte 10 b ≡ false) 32 (joined (v ∷ ws)) refl (no_newline_joined (v ∷ ws) spelled.1))

line_of_words : (ws : List (List ℕ)) (o : PlanCommand) → AreSpelled ws → is_passed_over (joined ws) ≡ false → parse_words ws ≡ Some o → IsLineOf (joined ws) o
line_of_words ws o spelled not_passed by = record { no_newline = no_newline_joined ws spelled; not_passed = not_passed; read = order_joined ws spelled ∙ by }

-- numbers

number_read : (n : ℕ) → n < 2 ^ 64 → parse_number (decimal n) ≡ Some n
number_read n small =
    let value = (decimal_is_IsNumeral n small).1 in
    let number : is_number (decimal n) ≡ true = and_from (list_all is_ascii_digit (decimal n)) _
    (decimal_digits n small) (and_from (nat_lt 0 (length (decimal n)))
    (nat_lt (digits_value 10 (decimal n)) (2 ^ 64)) (lt-ltb 0 (length (decimal n))
    (decimal_nonempty n small)) (ap (λ v. nat_lt v (2 ^ 64)) value ∙ lt-ltb n (2 ^ 64) small)) in
    cond-true (is_number (decimal n)) (Some (digits_value 10 (decimal n))) None number ∙ ap (λ v. Some v) value

jobs_read : (n : ℕ) → 1 ≤ n → n ≤ max_jobs → parse_jobs (decimal n) ≡ Some n
jobs_read n some few =
    ap (option_and_then jobs_among) (number_read n (omega arith)) ∙ cond-true (nat_le 1 n && nat_le n max_jobs) (Some n) None (and_from (nat_le 1 n) (nat_le n max_jobs) (le-leb 1 n some) (le-leb n max_jobs few))

-- first words are well spelled
keyword_spelled : (w : List ℕ) → 0 < length w → IsAscii w → list_all is_of_word w ≡ true → IsWellSpelled w
keyword_spelled w some ascii one = record { not_empty = some; utf8 = is_utf8-from_IsUtf8 w (IsUtf8-from_ascii w ascii); one_word = one }

make_spelled : IsWellSpelled (codes "make")
make_spelled = keyword_spelled (codes "make") (omega arith) (IsAscii-from_list_all (codes "make") refl) refl

edit_spelled : IsWellSpelled (codes "edit")
edit_spelled = keyword_spelled (codes "edit") (omega arith) (IsAscii-from_list_all (codes "edit") refl) refl

begin_spelled : IsWellSpelled (codes "begin")
begin_spelled = keyword_spelled (codes "begin") (omega arith) (IsAscii-from_list_all (codes "begin") refl) refl

look_spelled : IsWellSpelled (codes "look")
look_spelled = keyword_spelled (codes "look") (omega arith) (IsAscii-from_list_all (codes "look") refl) refl

put_spelled : IsWellSpelled (codes "put")
put_spelled = keyword_spelled (codes "put") (omega arith) (IsAscii-from_list_all (codes "put") refl) refl

done_spelled : IsWellSpelled (codes "done")
done_spelled = keyword_spelled (codes "done") (omega arith) (IsAscii-from_list_all (codes "done") refl) refl

break_spelled : IsWellSpelled (codes "break")
break_spelled = keyword_spelled (codes "break") (omega arith) (IsAscii-from_list_all (codes "break") refl) refl

removed_spelled : IsWellSpelled (codes "removed")
removed_spelled = keyword_spelled (codes "removed") (omega arith) (IsAscii-from_list_all (codes "removed") refl) refl

pass_spelled : IsWellSpelled (codes "pass")
pass_spelled = keyword_spelled (codes "pass") (omega arith) (IsAscii-from_list_all (codes "pass") refl) refl

stop_spelled : IsWellSpelled (codes "stop")
stop_spelled = keyword_spelled (codes "stop") (omega arith) (IsAscii-from_list_all (codes "stop") refl) refl

end_spelled : IsWellSpelled (codes "end")
end_spelled = keyword_spelled (codes "end") (omega arith) (IsAscii-from_list_all (codes "end") refl) refl

-- the lines of steps

all_spelled : (ws : List FileName) → ((w : FileName) → Has ws w → IsWellSpelled w) → AreSpelled ws
all_spelled [] h = tt
all_spelled (w ∷ ws) h = (h w (inl refl), all_spelled ws (λ v k. h v (inr k)))

named_spelled : (g : Graph) (goals : List FileName) → ((w : FileName) → Has goals w → IsWellSpelled w) → AreSpelled (named_goals g goals)
named_spelled g goals h = at (are_all_named g goals)
  where
    at : (b : Bool) → AreSpelled (cond b [] goals)
    at true = tt
    at false = all_spelled goals h

named_text : (g : Graph) (goals : List FileName) → goals_text g goals ≡ names_text (named_goals g goals)
named_text g goals = at (are_all_named g goals)
  where
    at : (b : Bool) → cond b [] (names_text goals) ≡ names_text (cond b [] goals)
    at true = refl
    at false = refl

edit_writes : (f : FileName) (c : ℕ) → IsWellSpelled f → c < 2 ^ 64 → Writes (codes "edit " ++ (f ++ 32 ∷ (decimal c ++ codes "\n"))) (Some (order.Edit f (Some c)))
edit_writes f c spelled small =
    let ws = codes "edit" ∷ f ∷ decimal c ∷ [] in
    let o = order.Edit f (Some c) in
    let by : parse_words ws ≡ Some o = ap (λ n. option_map (λ k. order.Edit f k) (option_map (λ k. Some k) n)) (number_read c small) in
    (joined ws, line_of_words ws o (edit_spelled, (spelled, (decimal_spelled c small, tt))) refl by, simp append_assoc)

make_writes : (g : Graph) (jobs : ℕ) (goals : List FileName) → 1 ≤ jobs → jobs ≤ max_jobs → ((w : FileName) → Has goals w → IsWellSpelled w) → Writes (make_line g jobs goals) (Some (order.Make jobs (named_goals g goals)))
make_writes g jobs goals some few spelled =
    let named = named_goals g goals in
    let ws = codes "make" ∷ decimal jobs ∷ named in
    let o = order.Make jobs named in
    let by : parse_words ws ≡ Some o = ap (option_map (λ n. order.Make n named)) (jobs_read jobs some few) in
    let text : make_line g jobs goals ≡ joined ws ++ 10 ∷ [] = ap
    (λ t. codes "make " ++ (decimal jobs ++ (t ++ codes "\n"))) (named_text g goals)
    ∙ (ap (λ t. codes "make " ++ t) (sym (append_assoc (decimal jobs) (names_text named) (10 ∷ [])))
    ∙ ap (λ t. codes "make " ++ (t ++ 10 ∷ [])) (sym (joined_names (decimal jobs) named))) in
    (joined ws, line_of_words ws o (make_spelled, (decimal_spelled jobs (omega arith), named_spelled g goals spelled)) refl by, text)

begin_writes : (t : FileName) → IsWellSpelled t → Writes (codes "begin " ++ (t ++ codes "\n")) (Some (order.Begin t))
begin_writes t spelled =
    let ws = codes "begin" ∷ t ∷ [] in
    (joined ws, line_of_words ws (order.Begin t) (begin_spelled, (spelled, tt)) refl refl, refl)

done_writes : (t : FileName) → IsWellSpelled t → Writes (codes "done " ++ (t ++ codes "\n")) (Some (order.Done t))
done_writes t spelled =
    let ws = codes "done" ∷ t ∷ [] in
    (joined ws, line_of_words ws (order.Done t) (done_spelled, (spelled, tt)) refl refl, refl)

break_writes : (removed : Bool) (t : FileName) → IsWellSpelled t → Writes (break_line t removed) (Some (order.Break t removed))
break_writes true t spelled =
    let ws = codes "break" ∷ t ∷ codes "removed" ∷ [] in
    (joined ws, line_of_words ws (order.Break t true) (break_spelled, (spelled, (removed_spelled, tt))) refl refl, simp append_assoc)
break_writes false t spelled =
    let ws = codes "break" ∷ t ∷ [] in
    (joined ws, line_of_words ws (order.Break t false) (break_spelled, (spelled, tt)) refl refl, refl)

look_writes : (t f : FileName) → IsWellSpelled t → IsWellSpelled f → Writes (codes "look " ++ (t ++ 32 ∷ (f ++ codes "\n"))) (Some (order.Look t f))
look_writes t f node file =
    let ws = codes "look" ∷ t ∷ f ∷ [] in
    (joined ws, line_of_words ws (order.Look t f) (look_spelled, (node, (file, tt))) refl refl, simp append_assoc)

put_writes : (t f : FileName) (c : ℕ) → IsWellSpelled t → IsWellSpelled f → c < 2 ^ 64 → Writes (codes "put " ++ (t ++ 32 ∷ (f ++ 32 ∷ (decimal c ++ codes "\n")))) (Some (order.Put t f (Some c)))
put_writes t f c node file small =
    let ws = codes "put" ∷ t ∷ f ∷ decimal c ∷ [] in
    let o = order.Put t f (Some c) in
    let by : parse_words ws ≡ Some o = ap (λ n. option_map (λ k. order.Put t f k) (option_map (λ k. Some k) n)) (number_read c small) in
    (joined ws, line_of_words ws o (put_spelled, (node, (file, (decimal_spelled c small, tt)))) refl by, simp append_assoc)

pass_writes : (idle : Bool) (t : FileName) → IsWellSpelled t → Writes (pass_line idle t) (cond idle None (Some (order.Pass t)))
pass_writes true t spelled = refl
pass_writes false t spelled =
    let ws = codes "pass" ∷ t ∷ [] in
    (joined ws, line_of_words ws (order.Pass t) (pass_spelled, (spelled, tt)) refl refl, refl)

stop_writes : Writes (codes "stop\n") (Some order.Stop)
stop_writes = (codes "stop", line_of_words (codes "stop" ∷ []) order.Stop (stop_spelled, tt) refl refl, refl)

end_writes : Writes (codes "end\n") (Some order.End)
end_writes = (codes "end", line_of_words (codes "end" ∷ []) order.End (end_spelled, tt) refl refl, refl)

step_writes : (g : Graph) (step : Step) → IsReadable step → Writes (step_text g step) (command_of_step g step)
step_writes g (Edit f c) readable = edit_writes f c readable.0 readable.1
step_writes g (Make jobs goals) readable = make_writes g jobs goals readable.0 readable.1 readable.2
step_writes g (Begin t) readable = begin_writes t readable
step_writes g (Look t f) readable = look_writes t f readable.0 readable.1
step_writes g (Put t f c) readable = put_writes t f c readable.0 readable.1 readable.2
step_writes g (End t) readable = done_writes t readable
step_writes g (Break t removed) readable = break_writes removed t readable
step_writes g (Pass t) readable = pass_writes (is_idle g t) t readable
step_writes g Stop readable = stop_writes
step_writes g EndMake readable = end_writes

pub text_read : WrittenTextIsRead
text_read g steps readable few =
    let bound : 1 + length (lines_of (plan_text g steps)) ≤ max_lines + 1 = omega (arith, few) in
    let read = read_steps g steps (λ step h. step_writes g step (readable step h)) 1 bound in
    ap (λ e. unless_bad e (filter_map plans.planned (numbered_lines (plan_text g steps)))) read.bad ∙ ap (λ ps. Ok ps) read.plan
