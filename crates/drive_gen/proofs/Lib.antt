mod Common
pub mod DrawLemmas
pub mod FrequentLines
pub mod HexLemmas
pub mod LineJoins
pub mod WorkLemmas
pub mod WorkParts
pub mod SizeLemmas
pub mod TallyLemmas
pub mod TextLemmas
pub mod Texts
