pub mod Lexes
pub mod LineCut
pub mod LineText
pub mod Rise
pub mod JunosGiven
pub mod JunosWords
pub mod JunosLaw
pub mod RplReach
pub mod RplLexes
pub mod RplWritten
pub mod PlainWords
mod RplExamples
pub mod JunosRise
pub mod RplRise
mod JunosExamples
mod Examples
