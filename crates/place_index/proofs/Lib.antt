mod Lists
mod LastNames
mod Places
