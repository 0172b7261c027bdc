pub mod Covering
pub mod Sending
pub mod DeferralMeaning
pub mod Stepping
pub mod DeferralLaws
