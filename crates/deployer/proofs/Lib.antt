pub mod Deployed
pub mod Going
pub mod Handed
pub mod Hosted
pub mod Stacked
