-- Blocks give their rule lines.
use Rattle.std.proofs.Common.{◌≡◌, ℕ, zero, suc, Bool, true, false, not, ◌||◌, cond, List, [], ◌∷◌, ◌++◌, Option, None, Some, Result, Ok, Err, inl, inr, refl, sym, ap, subst, ◌∙◌, append_assoc, append-nil}
use Rattle.std.specs.Prelude.{◌==◌, codes, filter, length, map}
use Rattle.std.specs.List.{list_all, list_any}
use Rattle.std.specs.Option.{option_map}
use Rattle.std.proofs.lemmas.Bool.{cases_Bool, and_parts, or_parts, not-true}
use Rattle.mk_read_laws.proofs.OneLine.{bind_ok}
use Rattle.mk_lines.specs.Bytes.{trimmed}
use Rattle.mk_lines.specs.Comments.{uncomment}
use Rattle.mk_lines.specs.Lines.{Line}
use Rattle.mk_macros.specs.Definitions.{defined, without_blanks}
use Rattle.mk_macros.specs.Expansion.{expansion}
use Rattle.mk_read.specs.declared.fault.KindFault.{KindFault}
use Rattle.mk_read.specs.declared.fault.Place.{Place}
use Rattle.mk_read.specs.declared.fault.ReadFault.{ReadFault}
use Rattle.mk_read.specs.declared.fault.ReadFault.TheVariants.{StrayCommand}
use Rattle.mk_read.specs.declared.special.Special.{Special}
use Rattle.mk_read.specs.declared.special.Special.TheVariants.{Suffixes, Phony, NotParallel, Wordless, Unread}
use Rattle.mk_read.specs.BlockLaws.{BlocksGiveTheirRules, IsBlock, begins_anew, block_rule, commands_among, is_behind, own, place_of, with_all}
use Rattle.mk_read.specs.Following.{below}
use Rattle.mk_read.specs.Kinds.{Kind, AssignmentLine, RuleLine, kind_of}
use Rattle.mk_read.specs.Names.{names_in, has_name, is_empty}
use Rattle.mk_read.specs.PlaceLaws.{is_comment_line}
use Rattle.mk_read.specs.Reading.{Reader, Deeper, plain_line, with_line, with_lines}
use Rattle.mk_read.specs.Rules.{commands_behind, has_some, taken, unless_taken, with_command, commanded, assignment, is_comment, command_line, special_words, special_rule, new_rule, by_special, by_names, by_targets, rule}
use Rattle.mk_read.specs.Special.{is_suffix, is_unknown_special, special_among}
use Rattle.mk_read.specs.State.{Command, RuleRead, Owner, Nobody, Last, SpecialTarget, PassedOver, Read, State, last_rule, rules_of, owned, parted}
use Rattle.mk_read.specs.Steps.{◌>>=◌, at_place, of_kind}
use Rattle.mk_read_laws.proofs.Kept.{Holds, IsKept, KeepsDeeper, by_lines, by_reading, holds_if, holds_step}
use Rattle.mk_read_laws.proofs.Parting.{comment_kept, parted_line, with_both}

-- ---- results

-- a test that leads to a fault didn't hold
not_refused : {A : Type 0} (b : Bool) (fault : ReadFault) (r : Result A ReadFault) (y : A) → cond b (Err fault) r ≡ Ok y → r ≡ Ok y
not_refused true fault r y h = absurd cc
not_refused false fault r y h = h

-- the value of a result
same_value : {A : Type 0} (x y : A) → ◌≡◌ {A = Result A ReadFault} (Ok x) (Ok y) → x ≡ y
same_value x y h = cc

-- ---- the rule line, and its command lines

-- the state whose last rule line is this one
abbrev owning : State → List RuleRead → RuleRead → State
owning state earlier last = record state { read = record { earlier = earlier; owner = Last last } }

unless_gives : (o : Option (List ℕ)) (last : RuleRead) (earlier : List RuleRead) (read : Read) → unless_taken o last earlier ≡ Ok read → read ≡ record { earlier = earlier; owner = Last last }
unless_gives None last earlier read h = sym (same_value _ read h)
unless_gives (Some target) last earlier read h = absurd cc

new_gives : (last : RuleRead) (old read : Read) → new_rule last old ≡ Ok read → read ≡ record { earlier = rules_of old; owner = Last last }
unfolding new_rule
new_gives last old read h = at (has_some last.commands) h
  where
    at : (b : Bool) → cond b (unless_taken (taken (rules_of old) last) last (rules_of old)) (Ok (owned (Last last) old)) ≡ Ok read → read ≡ record { earlier = rules_of old; owner = Last last }
    at true k = unless_gives (taken (rules_of old) last) last (rules_of old) read k
    at false k = sym (same_value _ read k)

-- a command more
command_gives : (place : Place) (text : List ℕ) (earlier : List RuleRead) (last : RuleRead) (read : Read) → command_line place text earlier (Last last) ≡ Ok read → read ≡ record { earlier = earlier; owner = Last (commanded last (record { text = trimmed text; place = place })) }
unfolding command_line
command_gives place text earlier last read h = at (has_some last.commands) h
  where
    more : RuleRead
    more = commanded last (record { text = trimmed text; place = place })

    at : (b : Bool) → cond b (Ok (record { earlier = earlier; owner = Last more })) (unless_taken (taken earlier last) more earlier) ≡ Ok read → read ≡ record { earlier = earlier; owner = Last more }
    at true k = sym (same_value _ read k)
    at false k = unless_gives (taken earlier last) more earlier read k

with_next : (o : Option (List Command)) (command : Command) (commands : List Command) → with_all (Some (with_command o command)) commands ≡ with_all o (command ∷ commands)
with_next None command commands = refl
with_next (Some first) command commands = ap (λ (cs : List Command). Some cs) (append_assoc first (command ∷ []) commands)

with_none : (o : Option (List Command)) → with_all o [] ≡ o
with_none None = refl
with_none (Some first) = ap (λ (cs : List Command). Some cs) (append-nil first)

-- the rule line with these commands behind its own
abbrev grown : RuleRead → List Command → RuleRead
grown last commands = record last { commands = with_all last.commands commands }

module _ (reader : Reader) (deeper : Deeper) (file : List ℕ) where
  -- a command line behind the rule line
  command_read : (state : State) (earlier : List RuleRead) (last : RuleRead) (line : Line) (next : State) → line.command ≡ true → with_line reader deeper (own file) (owning state earlier last) line ≡ Ok next
      → next ≡ owning state earlier (commanded last (record { text = trimmed line.text; place = place_of file line }))
  unfolding with_line
  command_read state earlier last line next is h =
      let step = subst (λ (b : Bool). cond b (command_line (place_of file line) line.text earlier (Last last)
      >>= λ (read : Read). Ok (record state { read = read }))
      (of_kind (place_of file line) (kind_of (uncomment line.text)) >>= plain_line reader deeper false
      (place_of file line) (owning state earlier last)) ≡ Ok next) is h in
      let r = bind_ok (command_line (place_of file line) line.text earlier (Last last)) _ next step in
      sym (same_value _ next r.2) ∙ ap (λ (read : Read). record state { read = read }) (command_gives (place_of file line) line.text earlier last r.0 r.1)

  -- the command lines and comments behind the rule line
  behind_read : (state : State) (earlier : List RuleRead) (last : RuleRead) (behind : List Line) (next : State) → list_all is_behind behind ≡ true → with_lines reader deeper (own file) behind (owning state earlier last) ≡ Ok next
      → next ≡ owning state earlier (grown last (commands_among file behind))
  unfolding with_lines
  behind_read state earlier last [] next each h = sym (same_value _ next h) ∙ ap (λ (cs : Option (List Command)). owning state earlier (record last { commands = cs })) (sym (with_none last.commands))
  behind_read state earlier last (line ∷ behind) next each h =
      let parts = and_parts (is_behind line) (list_all is_behind behind) each in
      let r = bind_ok (with_line reader deeper (own file) (owning state earlier last) line) (with_lines reader deeper (own file) behind) next h in
      elim (cases_Bool line.command) [
        | inl t ↦ (
            let command : Command = record { text = trimmed line.text; place = place_of file line } in
            let now = command_read state earlier last line r.0 t r.1 in
            let rest = behind_read state earlier (commanded last command) behind next parts.1 (ap (with_lines reader deeper (own file) behind) (sym now) ∙ r.2) in
            rest ∙ (ap (λ (cs : Option (List Command)). owning state earlier (record last { commands = cs })) (with_next last.commands command (commands_among file behind))
            ∙ ap (λ (cs : List Command). owning state earlier (grown last cs)) (sym (kept line behind true t))))
        | inr f ↦ (
            let comment : is_comment_line line ≡ true = sym (ap (λ b. b || is_comment_line line) f) ∙ parts.0 in
            let same : owning state earlier last ≡ r.0 = same_value _ r.0 (sym (comment_kept reader deeper (own file) (owning state earlier last) line comment) ∙ r.1) in
            behind_read state earlier last behind next parts.1 (ap (with_lines reader deeper (own file) behind) same ∙ r.2)
            ∙ ap (λ (cs : List Command). owning state earlier (grown last cs)) (sym (kept line behind false f)))
      ]
    where
      kept : (line : Line) (behind : List Line) (b : Bool) → line.command ≡ b → commands_among file (line ∷ behind) ≡ cond b (record { text = trimmed line.text; place = place_of file line } ∷ commands_among file behind) (commands_among file behind)
      kept line behind true t = ap (λ b. map (λ (l : Line). record { text = trimmed l.text; place = place_of file l }) (cond b (line ∷ filter (λ (l : Line). l.command) behind) (filter (λ (l : Line). l.command) behind))) t
      kept line behind false f = ap (λ b. map (λ (l : Line). record { text = trimmed l.text; place = place_of file l }) (cond b (line ∷ filter (λ (l : Line). l.command) behind) (filter (λ (l : Line). l.command) behind))) f

  -- the rule line itself
  head_read : (state : State) (head : Line) (behind after : List Line) (line : RuleLine) (targets words : List (List ℕ)) (next : State) → IsBlock file state head behind after line targets words → with_line reader deeper (own file) state head ≡ Ok next
      → next ≡ owning state (rules_of state.read) (block_rule file head [] line targets words)
  unfolding with_line rule by_names
  head_read state head behind after line targets words next b h =
      let place = place_of file head in
      let made : RuleRead = record { targets = targets; words = words; commands = option_map (commands_behind place) line.command; place = place; default = false } in
      let plain = subst (λ (c : Bool). cond c (command_line place head.text state.read.earlier state.read.owner >>= λ (read : Read). Ok (record state { read = read })) (of_kind place (kind_of (uncomment head.text)) >>= plain_line reader deeper false place state) ≡ Ok next) b.plain h in
      let kind = subst (λ (k : Result Kind KindFault). (of_kind place k >>= plain_line reader deeper false place state) ≡ Ok next) b.kind plain in
      let named = subst (λ (r : Result (List (List ℕ)) ReadFault). (r >>= by_targets false place state line) ≡ Ok next) b.names kind in
      let some = subst (λ (c : Bool). cond c (Ok (record state { read = owned PassedOver state.read })) (names_in place state.table line.words >>= by_names false place state targets line.command) ≡ Ok next) b.some named in
      let worded = subst (λ (r : Result (List (List ℕ)) ReadFault). (r >>= by_names false place state targets line.command) ≡ Ok next) b.prerequisites some in
      let known = not_refused (list_any is_unknown_special targets) _ (by_special false place state targets words line.command (special_among targets)) next worded in
      let ordinary = subst (λ (o : Option Special). by_special false place state targets words line.command o ≡ Ok next) b.none_special known in
      let r = bind_ok (new_rule made state.read) (λ read. Ok (record state { read = read })) next ordinary in
      sym (same_value _ next r.2) ∙ (ap (λ (read : Read). record state { read = read }) (new_gives made state.read r.0 r.1)
      ∙ ap (λ (cs : Option (List Command)). owning state (rules_of state.read) (record made { commands = cs })) (sym (with_none made.commands)))

-- ---- rule lines that stand stay

-- these rule lines stand before the one that command lines belong to
abbrev StandFirst : List RuleRead → State → Type 0
StandFirst front state = (more : List RuleRead) × (state.read.earlier ≡ front ++ more)

module _ (front : List RuleRead) where
  stand_owned : (state : State) → StandFirst front state → (more : List RuleRead) × (rules_of state.read ≡ front ++ more)
  stand_owned state (more, is) = (more ++ last_rule state.read.owner, ap (λ (rules : List RuleRead). rules ++ last_rule state.read.owner) is ∙ append_assoc front more (last_rule state.read.owner))

  stand_assignment : (place : Place) (state : State) (line : AssignmentLine) → StandFirst front state → Holds (StandFirst front) (assignment place state line)
  unfolding assignment
  stand_assignment place state line first =
      holds_step (StandFirst front) (at_place place (expansion state.table None line.name)) _ (λ name. holds_step (StandFirst front) (at_place place (defined state.table (without_blanks name.text) line.op line.value)) _ (λ table. stand_owned state first))

  stand_words : (place : Place) (state : State) (words : List (List ℕ)) (special : Special) → StandFirst front state → Holds (StandFirst front) (special_words place state words special)
  stand_words place state words Suffixes first = holds_if (StandFirst front) (list_all is_suffix words) _ _ first tt
  stand_words place state words Phony first = first
  stand_words place state words NotParallel first = holds_if (StandFirst front) (is_empty words) _ _ first tt
  stand_words place state words Wordless first = holds_if (StandFirst front) (is_empty words) _ _ first tt
  stand_words place state words Unread first = first

  stand_special : (place : Place) (state : State) (targets words : List (List ℕ)) (commands : Bool) (special : Special) → StandFirst front state → Holds (StandFirst front) (special_rule place state targets words commands special)
  unfolding special_rule
  stand_special place state targets words commands special first =
      holds_if (StandFirst front) (not (length targets == 1) || (commands || has_name words (codes ".WAIT"))) _ _ tt (stand_words place (record state { read = owned SpecialTarget state.read }) words special (stand_owned state first))

  stand_unless : (o : Option (List ℕ)) (last : RuleRead) (state : State) (earlier : List RuleRead) → (more : List RuleRead) × (earlier ≡ front ++ more) → Holds (StandFirst front) (unless_taken o last earlier >>= λ read. Ok (record state { read = read }))
  stand_unless None last state earlier first = first
  stand_unless (Some target) last state earlier first = tt

  stand_new : (last : RuleRead) (state : State) → StandFirst front state → Holds (StandFirst front) (new_rule last state.read >>= λ read. Ok (record state { read = read }))
  unfolding new_rule
  stand_new last state first = at (has_some last.commands)
    where
      at : (b : Bool) → Holds (StandFirst front) (cond b (unless_taken (taken (rules_of state.read) last) last (rules_of state.read)) (Ok (owned (Last last) state.read)) >>= λ read. Ok (record state { read = read }))
      at true = stand_unless (taken (rules_of state.read) last) last state (rules_of state.read) (stand_owned state first)
      at false = stand_owned state first

  module _ (default : Bool) (place : Place) (state : State) (first : StandFirst front state) where
    stand_specials : (targets words : List (List ℕ)) (command : Option (List ℕ)) (special : Option Special) → Holds (StandFirst front) (by_special default place state targets words command special)
    stand_specials targets words command (Some special) = stand_special place state targets words (has_some command) special first
    stand_specials targets words command None = stand_new _ state first

    stand_names : (targets : List (List ℕ)) (command : Option (List ℕ)) (words : List (List ℕ)) → Holds (StandFirst front) (by_names default place state targets command words)
    unfolding by_names
    stand_names targets command words = holds_if (StandFirst front) (list_any is_unknown_special targets) _ _ tt (stand_specials targets words command (special_among targets))

    stand_targets : (line : RuleLine) (targets : List (List ℕ)) → Holds (StandFirst front) (by_targets default place state line targets)
    stand_targets line targets =
        holds_if (StandFirst front) (is_empty targets) _ _ (stand_owned state first) (holds_step (StandFirst front) (names_in place state.table line.words) _ (λ words. stand_names targets line.command words))

    stand_rule : (line : RuleLine) → Holds (StandFirst front) (rule default place state line)
    unfolding rule
    stand_rule line = holds_step (StandFirst front) (names_in place state.table line.targets) _ (λ targets. stand_targets line targets)

  stand_command : (place : Place) (text : List ℕ) (state : State) (earlier : List RuleRead) (owner : Owner) → (more : List RuleRead) × (earlier ≡ front ++ more) → Holds (StandFirst front) (command_line place text earlier owner >>= λ (read : Read). Ok (record state { read = read }))
  unfolding command_line
  stand_command place text state earlier Nobody first = at (is_comment text)
    where
      at : (b : Bool) → Holds (StandFirst front) (cond b (Ok (record { earlier = earlier; owner = Nobody })) (Err (StrayCommand place)) >>= λ (read : Read). Ok (record state { read = read }))
      at true = first
      at false = tt
  stand_command place text state earlier SpecialTarget first = tt
  stand_command place text state earlier PassedOver first = first
  stand_command place text state earlier (Last last) first = at (has_some last.commands)
    where
      more : RuleRead
      more = commanded last (record { text = trimmed text; place = place })

      at : (b : Bool) → Holds (StandFirst front) (cond b (Ok (record { earlier = earlier; owner = Last more })) (unless_taken (taken earlier last) more earlier) >>= λ (read : Read). Ok (record state { read = read }))
      at true = first
      at false = stand_unless (taken earlier last) more state earlier first

  they_stand : IsKept (StandFirst front) (λ default. Unit {0})
  they_stand = record {
    own = tt;
    by_assignment = stand_assignment;
    by_rule = λ default place state line any first. stand_rule default place state first line;
    by_command = λ place text state first. stand_command place text state state.read.earlier state.read.owner first;
    by_parting = stand_owned;
    by_texts = λ state texts first. first;
    by_missing = λ state missing first. first;
  }

  keeps_below : (reader : Reader) (levels : ℕ) → KeepsDeeper (StandFirst front) (λ default. Unit {0}) they_stand reader (below levels reader)
  keeps_below reader zero = tt
  keeps_below reader (suc levels) = by_reading (StandFirst front) (λ default. Unit {0}) they_stand reader levels

-- what follows a block leaves it as it is
module _ (reader : Reader) (levels : ℕ) (file : List ℕ) (state : State) (earlier : List RuleRead) (last : RuleRead) where
  abbrev Gives : State → Type 0
  Gives end = (more : List RuleRead) × (rules_of end.read ≡ earlier ++ last ∷ more)

  after_read : (after : List Line) (end : State) → begins_anew after ≡ true → with_lines reader (below levels reader) (own file) after (owning state earlier last) ≡ Ok end → Gives end
  unfolding with_lines
  after_read [] end anew h = ([], ap (λ (s : State). rules_of s.read) (sym (same_value _ end h)))
  after_read (line ∷ after) end anew h =
      let parts = or_parts line.command (is_comment_line line) (not-true (is_behind line) anew) in
      let front = earlier ++ last ∷ [] in
      let here = owning state earlier last in
      let deeper = below levels reader in
      let same = ap (λ (r : Result State ReadFault). r >>= with_lines reader deeper (own file) after) (parted_line reader deeper (own file) here line parts.0 parts.1) in
      let all : Holds (StandFirst front) (with_lines reader deeper (own file) (line ∷ after) (parted here)) =
      by_lines (StandFirst front) (λ default. Unit {0}) (they_stand front) reader deeper
      (keeps_below front reader levels) (own file) tt (line ∷ after) (parted here)
      ([], sym (append-nil front)) in
      let stands = stand_owned front end (subst (Holds (StandFirst front)) (same ∙ h) all) in
      (stands.0, stands.1 ∙ append_assoc earlier (last ∷ []) stands.0)

pub blocks_give_their_rules : BlocksGiveTheirRules
unfolding with_lines
blocks_give_their_rules reader levels file before behind after head start middle end line targets words first b h =
    let deeper = below levels reader in
    let rest = sym (with_both reader deeper (own file) before (head ∷ (behind ++ after)) start ∙ ap (λ (r : Result State ReadFault). r >>= with_lines reader deeper (own file) (head ∷ (behind ++ after))) first) ∙ h in
    let r = bind_ok (with_line reader deeper (own file) middle head) (with_lines reader deeper (own file) (behind ++ after)) end rest in
    let made = block_rule file head [] line targets words in
    let own_line = head_read reader deeper file middle head behind after line targets words r.0 b r.1 in
    let both = sym (with_both reader deeper (own file) behind after r.0) ∙ r.2 in
    let s = bind_ok (with_lines reader deeper (own file) behind r.0) (with_lines reader deeper (own file) after) end both in
    let its = behind_read reader deeper file middle (rules_of middle.read) made behind s.0 b.each (ap (with_lines reader deeper (own file) behind) (sym own_line) ∙ s.1) in
    let last = grown made (commands_among file behind) in
    let same : last ≡ block_rule file head behind line targets words = ap (λ (cs : Option (List Command)). record made { commands = cs }) (ap (λ (o : Option (List Command)). with_all o (commands_among file behind)) (with_none _)) in
    let gives = after_read reader levels file middle (rules_of middle.read) last after end b.ends (ap (with_lines reader deeper (own file) after) (sym its) ∙ s.2) in
    (gives.0, gives.1 ∙ ap (λ (x : RuleRead). rules_of middle.read ++ x ∷ gives.0) same)
