mod Apart
mod Openable
mod Shelves
mod Slots
mod Stacked
