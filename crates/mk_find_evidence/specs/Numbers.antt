-- The numbers in steps are small enough for 64 bits.
use Rattle.std.specs.Prelude.{◌≡◌, ◌<◌, ◌^◌, List}
use Rattle.mk_graph.specs.Membership.{Has}
use Rattle.mk_world.specs.NamedStep.{Step, Edit, Make, Put}

-- A make has one job, and a content is below 2 to the 64th.
abbrev pub HasSmallNumbers : Step → Type 0
HasSmallNumbers (Edit f c) = c < 2 ^ 64
HasSmallNumbers (Make jobs goals) = jobs ≡ 1
HasSmallNumbers (Put t f c) = c < 2 ^ 64
HasSmallNumbers other = Unit {0}

-- Each of the steps has small numbers.
abbrev pub HaveSmallNumbers : List Step → Type 0
HaveSmallNumbers steps = (step : Step) → Has steps step → HasSmallNumbers step
