pub mod InWordsAnswer
pub mod NotRead
pub mod RefusedLine
