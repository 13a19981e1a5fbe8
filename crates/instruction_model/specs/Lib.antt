pub mod InstructionWord
pub mod Reading
pub mod Word
