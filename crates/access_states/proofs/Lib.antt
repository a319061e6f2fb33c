mod Crowd
mod Taken
