mod Numbers
mod Grouped
