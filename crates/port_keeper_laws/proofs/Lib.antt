pub mod Holding
pub mod Sending
pub mod KeeperMeaning
pub mod KeeperLaws
