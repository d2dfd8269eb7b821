-- What a loss leaves of a slot, by how far the file is.
use Rattle.file_flash.proofs.Common.{◌≡◌, ℕ, ◌<◌, List, [], ◌∷◌, length, get_or, Contains, sym, subst, FileState, values_at, LeavesBytes}
use Rattle.list_lemmas.proofs.Membership.{Contains-one}

-- what a loss leaves of a byte with one value
pub left_one : (file : FileState) (left : List ℕ) (at value : ℕ) → LeavesBytes file left → at < length left →
    values_at file at ≡ value ∷ [] → get_or left at 0 ≡ value
left_one file left at value l within one =
    sym (Contains-one value (get_or left at 0) (subst (λ values. Contains values (get_or left at 0)) one
    (l.each at within)))
