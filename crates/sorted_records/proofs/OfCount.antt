pub mod CountLaw
