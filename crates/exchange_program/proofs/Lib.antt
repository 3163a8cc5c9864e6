pub mod AnsweredLive
pub mod KeptLive
pub mod ModeOutputs
pub mod Served
