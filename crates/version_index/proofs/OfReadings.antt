pub mod KeptReadings
pub mod KeptHomes
pub mod MostGarbage
pub mod GarbageNow
