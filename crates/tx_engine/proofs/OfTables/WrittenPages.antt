-- The pages of a device that are not blank are those whose current record does not discard them.
use Rattle.tx_engine.proofs.Common.{◌≡◌, ℕ, ◌<◌, ◌==◌, ◌&&◌, ◌||◌, Bool, true, false, not, List, [], ◌∷◌, get_or, Option, None, Some, is_some, count_by, refl, sym, ap, ap₂, ◌∙◌, inl, inr, arith, eq-eqb, ne_eqb, option_and_then, range_with_len, option_map, cases_Bool, cases_eq, cond-true, cond-false, Protocol, Link, Rec, FlashState, Contents, cur, is_present, value_at, value_of, array_in, written_in, records_in, found_in, IndexState, current_of, current_name_of, discarded_of, noted_present, BlocksState, Unsure, known_image, page_known, array_known, Matches}
use Rattle.std.proofs.Common.{find}
use Rattle.std.proofs.lemmas.Bool.{or_left}
use Rattle.record_list.specs.Records.{has_name}
use Rattle.record_list.specs.Verdict.{record_named}
use Rattle.record_list.specs.Written.{Written, page_at, records_of, text_of}
use Rattle.judged_records.specs.Notes.{notes_of}
use Rattle.judged_records.proofs.OfNotes.NotedFacts.{noted_positive}
use Rattle.judged_records.proofs.OfLaws.NotedImages.{found_in_notes}
use Rattle.version_index.specs.Written.{written_of}
use Rattle.version_index.proofs.OfWritten.CountedPages.{count_map, count_range}
use Rattle.tx_engine.specs.Read.{is_written}
use Rattle.tx_engine.proofs.OfDevice.Arrays.{at_page}
use Rattle.tx_engine.proofs.OfDevice.OtherFlash.{known_at}

-- a text is of a page that is not blank where it does not discard it
has_value : (list : List Written) (name : Link) →
    is_some (value_at list name) ≡ (is_present (records_of list) name
    && not (record_named (records_of list) name).discard)
has_value [] name = refl
has_value (w ∷ ws) name = elim (cases_Bool (has_name name w.rec)) [
  | inl here ↦
      ap (λ o. is_some (option_and_then value_of (option_map text_of o)))
      (cond-true (has_name name w.rec) (Some w) (find (λ v. has_name name v.rec) ws) here)
      ∙ some_value w.rec.discard w.bytes
      ∙ sym (ap₂ (λ (b : Bool) (r : Rec). b && not r.discard)
      (or_left (has_name name w.rec) (is_present (records_of ws) name) here)
      (cond-true (has_name name w.rec) w.rec (record_named (records_of ws) name) here))
  | inr other ↦
      ap (λ o. is_some (option_and_then value_of (option_map text_of o)))
      (cond-false (has_name name w.rec) (Some w) (find (λ v. has_name name v.rec) ws) other)
      ∙ has_value ws name
      ∙ sym (ap₂ (λ (b : Bool) (r : Rec). b && not r.discard) (ap (λ b. b || is_present (records_of ws) name) other)
      (cond-false (has_name name w.rec) w.rec (record_named (records_of ws) name) other))
]
  where
    some_value : (discard : Bool) (bytes : List ℕ) →
        is_some (value_of (record { discard = discard; bytes = bytes })) ≡ not discard
    some_value true bytes = refl
    some_value false bytes = refl

image_page : (p : Protocol) (logical : ℕ) (image : List Contents) (page : ℕ) → page < logical →
    get_or (array_in p logical image) page None ≡ page_at p (written_in p image) logical page
unfolding array_in
image_page p logical image page within = at_page (page_at p (written_in p image) logical) logical page None within

module _ (p : Protocol) (s : FlashState) (n : IndexState) (t : BlocksState) (u : Unsure) (m : Matches s n t u)
    (rule : n.config.protocol ≡ p)
    (notes : notes_of p (known_image n t.spare u s.image) ≡ n.notes)
    (array : array_in p n.config.logical (known_image n t.spare u s.image) ≡ array_known n s.image) where
  abbrev known : List Contents
  known = known_image n t.spare u s.image

  same_records : records_in p known ≡ found_in n.notes
  same_records = sym (found_in_notes p known) ∙ ap found_in notes

  current_known : (page : ℕ) → cur p (records_in p known) n.config.logical page ≡ current_of n page
  unfolding current_of
  current_known page =
      ap (λ l. cur p l n.config.logical page) same_records
      ∙ ap (λ q. cur q (found_in n.notes) n.config.logical page) (sym rule)

  page_is : (page : ℕ) → page < n.config.logical → page_known n s.image page
      ≡ value_at (written_in p known) (current_name_of n page)
  page_is page within =
      sym (known_at n s.image page within)
      ∙ ap (λ pages. get_or pages page None) (sym array)
      ∙ image_page p n.config.logical known page within
      ∙ ap (λ v. value_at (written_in p known) (record { page = page; version = v })) (current_known page)

  has_page : (page : ℕ) → page < n.config.logical →
      is_some (page_known n s.image page) ≡ (is_present (found_in n.notes) (current_name_of n page)
      && not (discarded_of n page))
  unfolding discarded_of
  has_page page within =
      ap is_some (page_is page within) ∙ has_value (written_in p known) (current_name_of n page)
      ∙ ap (λ l. is_present l (current_name_of n page) && not (record_named l (current_name_of n page)).discard)
      same_records

  there : (page : ℕ) → is_present (found_in n.notes) (current_name_of n page) ≡ not (current_of n page == 0)
  there page = elim (cases_eq (current_of n page) 0) [
    | inl none ↦ noted_positive n.config.protocol n m.noted (current_name_of n page) none
        ∙ sym (ap not (eq-eqb (current_of n page) 0 none))
    | inr some ↦ elim (noted_present n.config.protocol n m.noted page) [
      | inl none ↦ absurd (some none)
      | inr here ↦ here ∙ sym (ap not (ne_eqb (current_of n page) 0 some))
    ]
  ]

  pub page_written : (page : ℕ) → page < n.config.logical → is_some (page_known n s.image page) ≡ is_written n page
  page_written page within = has_page page within ∙ ap (λ b. b && not (discarded_of n page)) (there page)

  -- a page that its record discards is blank
  pub discard_known : (page : ℕ) → page < n.config.logical → discarded_of n page ≡ true →
      page_known n s.image page ≡ None
  discard_known page within discards =
      is_nothing (page_known n s.image page)
      (page_written page within ∙ ap (λ d. not (current_of n page == 0) && not d) discards
      ∙ and_never (not (current_of n page == 0)))
    where
      is_nothing : (o : Option (List ℕ)) → is_some o ≡ false → o ≡ None
      is_nothing None none = refl
      is_nothing (Some bytes) none = cc

      and_never : (b : Bool) → (b && false) ≡ false
      and_never true = refl
      and_never false = refl

  -- as many pages are known as are not blank
  pub written_known : count_by is_some (array_known n s.image) ≡ written_of n
  unfolding array_known written_of
  written_known =
      count_map is_some (page_known n s.image) (range_with_len 0 n.config.logical)
      ∙ count_range (λ page. is_some (page_known n s.image page)) (is_written n) 0 n.config.logical
      (λ page low high. page_written page (omega arith))
