pub mod Lru
mod Absent
