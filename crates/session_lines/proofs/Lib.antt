pub mod AcceptedLaws
pub mod Commas
pub mod OneInput
pub mod RepeatLaws
pub mod ReplyLaws
pub mod Served
pub mod SessionOutputs
pub mod TellLaws
