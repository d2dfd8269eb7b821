-- The array that is known of an image whose current versions are known.
use Rattle.collector.proofs.Common.{◌≡◌, ℕ, ◌<◌, List, Option, map, sym, ap, ◌∙◌, range_with_len, Protocol, Contents, Written, value_at, written_in, array_in, IndexState, current_of, page_known, array_known}
use Rattle.list_lemmas.proofs.Ranges.{same_range}
use Rattle.record_list.specs.Written.{page_at}
use Rattle.judged_records.specs.Images.{current_in}

at_version : List Written → ℕ → ℕ → Option (List ℕ)
at_version list page version = value_at list (record { page = page; version = version })

-- the array of an image whose current versions are those of the tables
pub array_is_known : (p : Protocol) (n : IndexState) (image : List Contents) → n.config.protocol ≡ p →
    ((page : ℕ) → page < n.config.logical → current_in p n.config.logical image page ≡ current_of n page) →
    array_in p n.config.logical image ≡ array_known n image
unfolding array_in array_known current_in at_version
array_is_known p n image rule current =
    same_range (page_at p (written_in p image) n.config.logical) (page_known n image) n.config.logical
    (λ page within. ap (at_version (written_in p image) page) (current page within)
    ∙ ap (λ q. at_version (written_in q image) page (current_of n page)) (sym rule))

-- tables with the same current versions know the same array of an image, or of two whose current records say the same
pub same_known : (n n' : IndexState) (image image' : List Contents) → n'.config ≡ n.config →
    ((page : ℕ) → page < n.config.logical → page_known n' image' page ≡ page_known n image page) →
    array_known n' image' ≡ array_known n image
unfolding array_known
same_known n n' image image' config same =
    ap (λ l. map (page_known n' image') (range_with_len 0 l)) (ap (λ c. c.logical) config)
    ∙ same_range (page_known n' image') (page_known n image) n.config.logical same
