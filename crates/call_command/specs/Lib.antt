pub mod Call
pub mod ReplyLine
