-- Each next step is allowed, whichever of the two takes it.
use Rattle.mk_build.proofs.Overlap.{overlap_is_legal}
use Rattle.mk_build.proofs.build_laws.recipes_overlap.Goals as goal

pub returns : goal.returns
returns c = λ g s d jobs goals ns before start free part turns makes a b differ a_recipe b_recipe a_may b_may
    puts_a puts_b a_many b_many room between together. overlap_is_legal g s d jobs goals ns before start free
    part turns makes a b differ a_recipe b_recipe a_may b_may puts_a puts_b a_many b_many room between
    together
