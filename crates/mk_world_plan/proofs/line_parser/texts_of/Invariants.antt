use Rattle.std.proofs.Common.{◌≡◌, true, map, take}
use Rattle.std.specs.List.{list_all}
use Rattle.std.specs.Str.{is_utf8}
use Rattle.mk_world_plan.proofs.line_parser.texts_of.Given as goal

-- the texts so far are the words so far, each of them UTF-8
abbrev pub invariant-loop-word : goal.invariant-loop-word
invariant-loop-word l = record {
  texts : map (λ text. text.now) l.texts.items ≡ map (λ word. word.now) (take l.word-index l.words);
  utf8 : list_all is_utf8 (map (λ word. word.now) (take l.word-index l.words)) ≡ true;
}
