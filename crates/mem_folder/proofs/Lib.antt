mod Common
pub mod Durable
pub mod Filled
pub mod Holding
pub mod Laying
pub mod Losing
pub mod Noting
pub mod Numbers
pub mod Seeing
pub mod Steps
pub mod Turning
mod Walks
