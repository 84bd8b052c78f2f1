use Rattle.mk_infer.proofs.NameSets.{inserted}
use Rattle.mk_infer.proofs.suffix_set.SuffixSet.insert.Goals as goal

pub returns : goal.returns
returns c = inserted c.self.inside.suffixes.keys c.args.suffix c.args.self.now c.insert.new.self.keys c.in_ok-insert.ensures.keys c.self.view_is
