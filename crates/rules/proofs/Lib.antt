mod Bounded
mod Outcomes
mod Reading
mod Starting
