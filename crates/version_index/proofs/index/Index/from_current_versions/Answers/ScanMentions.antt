-- What the records of a sorted list mention.
use Rattle.version_index.proofs.Common.{◌≡◌, ℕ, List, [], ◌∷◌, map, refl, ap₂, Found, Sorts}
use Rattle.record_list.specs.Records.{mention, mention_at}
use Rattle.sorted_records.proofs.OfSort.Alike.{greatest_alike}

-- records in the order of their names mention pages as before
pub mentions_sorted : (list sorted : List Found) → Sorts list sorted → (pages : List ℕ) →
    map (mention sorted) pages ≡ map (mention list) pages
mentions_sorted list sorted is [] = refl
mentions_sorted list sorted is (page ∷ pages) =
    ap₂ (λ x xs. x ∷ xs) (greatest_alike list sorted is (mention_at page)) (mentions_sorted list sorted is pages)
