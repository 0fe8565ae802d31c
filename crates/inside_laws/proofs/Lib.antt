mod Lists
mod Ordered
mod Ending
mod Laid
mod Joined
mod Found
mod Lacking
