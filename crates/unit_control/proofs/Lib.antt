pub mod Changes
pub mod GroupsLaws
pub mod Places
pub mod Saves
pub mod WorkLoss
pub mod Works
