pub mod AddedTexts
pub mod FirstRules
pub mod RuleTables
pub mod Joined
pub mod MendedClaims
pub mod Fronts
