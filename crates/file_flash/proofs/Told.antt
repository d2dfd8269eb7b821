-- What holds of the file that is told before a call, and of that after it.
use Rattle.file_flash.proofs.Common.{Option, Some, None, IfSome, FileState, BothTell}

pub carry : (P Q : FileState → Type 0) (R : FileState → FileState → Type 0) (old new : Option FileState) →
    BothTell R old new →
    IfSome old P → ((a b : FileState) → R a b → P a → Q b) → IfSome new Q
carry P Q R None None told p step = tt
carry P Q R (Some a) (Some b) told p step = step a b told p
carry P Q R None (Some b) told p step = absurd told
carry P Q R (Some a) None told p step = absurd told

-- and of one file
pub weaken : (P Q : FileState → Type 0) (file : Option FileState) → IfSome file P →
    ((a : FileState) → P a → Q a) → IfSome file Q
weaken P Q None p step = tt
weaken P Q (Some a) p step = step a p

pub weaken_both : (P Q R : FileState → Type 0) (file : Option FileState) → IfSome file P → IfSome file Q →
    ((a : FileState) → P a → Q a → R a) → IfSome file R
weaken_both P Q R None p q step = tt
weaken_both P Q R (Some a) p q step = step a p q

pub carry_both : (P P' Q : FileState → Type 0) (R : FileState → FileState → Type 0) (old new : Option FileState) →
    BothTell R old new →
    IfSome old P → IfSome old P' → ((a b : FileState) → R a b → P a → P' a → Q b) → IfSome new Q
carry_both P P' Q R None None told p p' step = tt
carry_both P P' Q R (Some a) (Some b) told p p' step = step a b told p p'
carry_both P P' Q R None (Some b) told p p' step = absurd told
carry_both P P' Q R (Some a) None told p p' step = absurd told
