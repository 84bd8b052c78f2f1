-- What makes a name, from what its inference rule gives it.
use Rattle.std.proofs.Common.{◌≡◌, ℕ, List, ◌++◌, Option, Some, None, refl, ap, ◌∙◌}
use Rattle.std.specs.Option.{option_map}
use Rattle.mk_read.specs.Reading.{Makefile}
use Rattle.mk_read.specs.State.{Command, RuleRead}
use Rattle.mk_infer.specs.Inference.{choice, chosen_commands, chosen_suffix, commands_by, ending, stem}
use Rattle.mk_infer.specs.Choosing.{Chosen, ResolvedRule, chosen_by, resolved_rule}
use Rattle.mk_infer.specs.Table.{lines_of}
use Rattle.mk_infer.specs.Targets.{own_commands, rules_for}
use Rattle.mk_infer.specs.There.{Exists}

module _ (m : Makefile) (e : Exists) (name : List ℕ) where
  abbrev own : List RuleRead
  own = lines_of (rules_for m name) name

  abbrev made : Option (List ℕ) → ResolvedRule
  made suffix = record { choice = option_map (λ s. stem m name ++ s) suffix; commands = commands_by m name suffix; rules = own }

  the_name : Option Chosen → Option (List ℕ)
  the_name None = None
  the_name (Some chosen) = Some chosen.name

  the_commands : Option Chosen → Option (List Command)
  the_commands None = None
  the_commands (Some chosen) = chosen.commands

  -- a rule was chosen
  pub by_rule : (chosen : Chosen) → Some chosen ≡ option_map (chosen_by m (stem m name) (ending m name)) (chosen_suffix m e name) → ◌≡◌ {A = ResolvedRule} (record { choice = Some chosen.name; commands = chosen.commands; rules = own }) (resolved_rule m e name)
  unfolding choice chosen_commands the_name the_commands
  by_rule chosen h = by (chosen_suffix m e name) h
    where
      by : (suffix : Option (List ℕ)) → Some chosen ≡ option_map (chosen_by m (stem m name) (ending m name)) suffix → ◌≡◌ {A = ResolvedRule} (record { choice = Some chosen.name; commands = chosen.commands; rules = own }) (made suffix)
      by None k = absurd cc
      by (Some s) k =
          ap (λ (x : Option (List ℕ)). let r : ResolvedRule = record { choice = x; commands = chosen.commands; rules = own } in r) (ap the_name k)
          ∙ ap (λ (x : Option (List Command)). let r : ResolvedRule = record { choice = Some (stem m name ++ s); commands = x; rules = own } in r) (ap the_commands k)

  -- none was
  pub by_itself : None ≡ option_map (chosen_by m (stem m name) (ending m name)) (chosen_suffix m e name) → ◌≡◌ {A = ResolvedRule} (record { choice = None; commands = own_commands m name; rules = own }) (resolved_rule m e name)
  unfolding choice chosen_commands
  by_itself h = by (chosen_suffix m e name) h
    where
      by : (suffix : Option (List ℕ)) → None ≡ option_map (chosen_by m (stem m name) (ending m name)) suffix → ◌≡◌ {A = ResolvedRule} (record { choice = None; commands = own_commands m name; rules = own }) (made suffix)
      by None k = refl
      by (Some s) k = absurd cc
