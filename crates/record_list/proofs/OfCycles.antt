pub mod SccCompleting
pub mod SccPartial
