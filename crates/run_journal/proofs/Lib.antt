pub mod Debts
pub mod Lists
pub mod Verdicts
