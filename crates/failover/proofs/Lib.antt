mod Down
mod Kept
mod Chosen
