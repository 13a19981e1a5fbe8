pub mod Doors
pub mod LinksInMemory
