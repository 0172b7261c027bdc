mod Cutting
mod Digiting
mod Folding
mod Listing
mod Naming
