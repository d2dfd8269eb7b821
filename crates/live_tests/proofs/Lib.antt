pub mod Firing
