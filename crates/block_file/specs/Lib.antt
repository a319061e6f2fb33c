pub mod Cut
pub mod CutLaws
pub mod Disk
pub mod DiskLaws
pub mod Failures
pub mod Fuse
pub mod Moment
pub mod OpenFuse
