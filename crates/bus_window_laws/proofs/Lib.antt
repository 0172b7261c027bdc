pub mod WindowMeaning
