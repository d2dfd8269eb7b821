pub mod Responsible
