pub mod FaultText
pub mod LineEnd
pub mod Requests
