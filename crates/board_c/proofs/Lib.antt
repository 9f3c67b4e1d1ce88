mod MemberSums
pub mod RollWords
mod MemberCases
mod CountCases
pub mod Values
pub mod Fields
pub mod ReplyFacts
pub mod HandleFacts
mod RegisterCases
mod KindFacts
mod LimitFacts
mod RoomCases
mod TextFacts
mod RunCases
mod ListFacts
mod LineFacts
mod PlaceFacts
mod PlainFacts
mod ItemFacts
mod InputFacts
mod ShownCases
mod ScriptCases
