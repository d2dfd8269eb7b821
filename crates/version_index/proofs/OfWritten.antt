pub mod CountedPages
