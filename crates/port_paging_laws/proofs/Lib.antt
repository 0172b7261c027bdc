pub mod Storing
pub mod Sending
pub mod PagingMeaning
pub mod PagingLaws
