mod Counting
mod Wrapped
