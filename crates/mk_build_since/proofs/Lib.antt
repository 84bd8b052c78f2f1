mod Deciding
mod Made
mod Walking
pub mod WayDeciding
mod Carrying
mod Unchanged
mod OneNode
mod NewRecipe
mod OtherCommands
mod ReadText
mod OtherWrites
mod OtherReads
mod Race
mod Adding
