pub mod Ends
pub mod Executions
pub mod Files
pub mod Kept
pub mod Packets
