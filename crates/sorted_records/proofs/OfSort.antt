pub mod Arranged
pub mod Sorting
pub mod Order
pub mod Alike
pub mod Starts
