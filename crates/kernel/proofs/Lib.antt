pub mod Apart
pub mod Backwards
pub mod Behind
pub mod Calling
pub mod Creations
pub mod Last
pub mod Dropped
pub mod Lookups
pub mod Rising
pub mod Starting
pub mod Supplying
pub mod Targets
pub mod Upcoming
pub mod Waiting
pub mod Shown
mod Following
pub mod Sendings
mod Calls
mod Rooms
mod Taken
mod Picked
mod Wanted
mod Begun
