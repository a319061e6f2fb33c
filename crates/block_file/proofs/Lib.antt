pub mod FailureLaws
pub mod MomentLaws
pub mod ReadBack
