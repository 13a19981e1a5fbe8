mod Above
mod Layering
mod Parting
mod Requesting
mod Starting
