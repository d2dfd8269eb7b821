pub mod RetireParts
