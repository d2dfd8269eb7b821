-- Pages in ascending order.
use Rattle.std.specs.Prelude.{ℕ, nat_lt, ◌==◌, List, [], ◌∷◌, if◌then◌else◌}

-- with one page more, where it is not there
abbrev pub with_page : ℕ → List ℕ → List ℕ
with_page page [] = page ∷ []
with_page page (q ∷ qs) =
    if nat_lt page q then page ∷ q ∷ qs
    else if page == q then q ∷ qs else q ∷ with_page page qs
