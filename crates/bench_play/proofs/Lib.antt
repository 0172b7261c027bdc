mod Telling
mod Dues
mod Auditing
