-- The notes of slots that were scanned, made from how they read and from the list of their records.
use Rattle.judged_records.proofs.Common.{◌≡◌, ℕ, zero, suc, ◌+◌, ◌<◌, ◌≤◌, List, [], ◌∷◌, ◌++◌, ◌⊎◌, inl, inr, length, get_or, take, drop, map, Option, None, refl, sym, ap, ◌∙◌, arith, cons_option, length-map, take_more, length-take-le, Rec, Seen, Found, nothing, Note, Blank, Damaged, Holds, seen_as, found_at, found_in}
use Rattle.std.proofs.lemmas.List.{drop_all, nil_from_length, append-nil, append_assoc, length-drop, drop_more, map_push, take_all}
use Rattle.flash_model.specs.declared.flash.Seen.TheVariants as seen
use Rattle.judged_records.specs.Notes.{complete_at, complete_slots}
use Rattle.judged_records.proofs.OfNotes.BaseTables.{given}
use Rattle.judged_records.proofs.OfNotes.FoundIn.{found_in_nil, found_in_push}

abbrev pub numbered_complete : ℕ × Seen → Option ℕ
numbered_complete (slot, how) = complete_at slot how

abbrev pub slots : List Found → List ℕ
slots list = map (λ f. f.slot.0) list

-- this many slots have their notes, which took the first records of the list
pub record IsScannedTo (all : List Seen) (list : List Found) (i next : ℕ) (notes : List Note) : Type 0 where
  pub reads : map seen_as notes ≡ take i all
  pub rest : slots (drop next list) ≡ given numbered_complete i (drop i all)
  pub found : found_in notes ++ drop next list ≡ list

pub scan_start : (all : List Seen) (list : List Found) → slots list ≡ complete_slots all → IsScannedTo all list 0 0 []
scan_start all list complete = record { reads = refl; rest = complete; found = ap (λ l. l ++ list) found_in_nil }

-- as many notes as slots
scan_length : (all : List Seen) (list : List Found) (i next : ℕ) (notes : List Note) → i ≤ length all →
    IsScannedTo all list i next notes → length notes ≡ i
scan_length all list i next notes within s =
    sym (length-map notes seen_as) ∙ ap length s.reads ∙ length-take-le i all within

module _ (all : List Seen) (list : List Found) (i next : ℕ) (notes : List Note) (within : i < length all)
    (s : IsScannedTo all list i next notes) where
  rest_at : slots (drop next list) ≡ cons_option (complete_at i (get_or all i seen.Blank))
      (given numbered_complete (i + 1) (drop (i + 1) all))
  rest_at = s.rest ∙ ap (given numbered_complete i) (drop_more all i seen.Blank within)

  reads_more : (note : Note) → seen_as note ≡ get_or all i seen.Blank →
      map seen_as (notes ++ note ∷ []) ≡ take (i + 1) all
  reads_more note e = map_push seen_as notes note ∙ ap (λ l. l ++ seen_as note ∷ []) s.reads
      ∙ ap (λ x. take i all ++ x ∷ []) e ∙
      sym (take_more all i seen.Blank within)

  found_more : (note : Note) → found_in (notes ++ note ∷ []) ≡ found_in notes ++ cons_option (found_at i note) []
  found_more note = found_in_push notes note ∙ ap (λ k. found_in notes ++ cons_option (found_at k note) [])
      (scan_length all list i next notes (omega arith) s)

  -- a slot that does not read complete takes no record
  pub scan_without : (note : Note) → seen_as note ≡ get_or all i seen.Blank →
      complete_at i (get_or all i seen.Blank) ≡ None → found_at i note ≡ None →
      IsScannedTo all list (i + 1) next (notes ++ note ∷ [])
  scan_without note reads not_complete none = record {
    reads = reads_more note reads;
    rest = rest_at ∙ ap (λ o. cons_option o (given numbered_complete (i + 1) (drop (i + 1) all))) not_complete;
    found = ap (λ l. l ++ drop next list) (found_more note ∙ ap (λ o. found_in notes ++ cons_option o []) none
        ∙ append-nil (found_in notes)) ∙ s.found;
  }

  -- a slot that reads complete has a record in the list
  pub scan_within : get_or all i seen.Blank ≡ seen.Complete → next < length list
  scan_within e =
      let long = ap length (rest_at
      ∙ ap (λ how. cons_option (complete_at i how) (given numbered_complete (i + 1) (drop (i + 1) all))) e) in
      let here = length-map (drop next list) (λ f. f.slot.0) in
      let left = length-drop next list in
      let some : length (slots (drop next list)) ≡ suc (length (given numbered_complete (i + 1) (drop (i + 1) all))) =
      long in
      omega arith

  -- and takes it
  pub scan_with : (d : Found) → get_or all i seen.Blank ≡ seen.Complete →
      IsScannedTo all list (i + 1) (next + 1) (notes ++ Holds (get_or list next d).rec ∷ [])
  scan_with d e =
      let f = get_or list next d in
      let more = drop_more list next d (scan_within e) in
      let order : f.slot.0 ∷ slots (drop (next + 1) list) ≡ i ∷ given numbered_complete (i + 1) (drop (i + 1) all) =
      sym (ap slots more) ∙ rest_at
      ∙ ap (λ how. cons_option (complete_at i how) (given numbered_complete (i + 1) (drop (i + 1) all))) e in
      let at : f.slot.0 ≡ i = ap (λ l. get_or l 0 0) order in
      let same : record { slot = record { 0 = i }; rec = f.rec } ≡ f = ap (λ k. the_found k f.rec) (sym at) in
      record {
        reads = reads_more (Holds f.rec) (sym e);
        rest = ap (drop 1) order;
        found = ap (λ l. l ++ drop (next + 1) list) (found_more (Holds f.rec) ∙ ap (λ g. found_in notes ++ g ∷ []) same)
            ∙ append_assoc (found_in notes) (f ∷ []) (drop (next + 1) list)
            ∙ ap (λ l. found_in notes ++ l) (sym more) ∙ s.found;
      }
    where
      the_found : ℕ → Rec → Found
      the_found k rec = record { slot = record { 0 = k }; rec = rec }

-- once all slots have their notes, these read as the slots and hold all records
pub scan_end : (all : List Seen) (list : List Found) (i next : ℕ) (notes : List Note) →
    IsScannedTo all list i next notes → length all ≤ i →
    (map seen_as notes ≡ all) × (found_in notes ≡ list)
scan_end all list i next notes s past =
    let left : slots (drop next list) ≡ [] = s.rest ∙ ap (given numbered_complete i) (drop_all i all past) in
    let none : drop next list ≡ [] = nil_from_length (drop next list) (sym (length-map (drop next list) (λ f. f.slot.0))
    ∙ ap length left) in (
      s.reads ∙ take_all i all past,
      sym (append-nil (found_in notes))
          ∙ ap (λ l. found_in notes ++ l) (sym none) ∙ s.found,
    )

cases_Seen : (how : Seen) → (how ≡ seen.Blank) ⊎ ((how ≡ seen.Damaged) ⊎ (how ≡ seen.Complete))
cases_Seen seen.Blank = inl refl
cases_Seen seen.Damaged = inr (inl refl)
cases_Seen seen.Complete = inr (inr refl)

-- slots that were scanned can be noted
notes_from : (all : List Seen) (list : List Found) (n i next : ℕ) (notes : List Note) → n + i ≡ length all →
    IsScannedTo all list i next notes
    → (its : List Note) × (map seen_as its ≡ all) × (found_in its ≡ list)
notes_from all list zero i next notes sum s = let ends = scan_end all list i next notes s (omega arith) in
    (notes, ends.0, ends.1)
notes_from all list (suc n) i next notes sum s = elim (cases_Seen (get_or all i seen.Blank)) [
  | inl e ↦ notes_from all list n (i + 1) next (notes ++ Blank ∷ []) (omega arith)
      (scan_without all list i next notes (omega arith) s Blank (sym e) (ap (complete_at i) e) refl)
  | inr (inl e) ↦ notes_from all list n (i + 1) next (notes ++ Damaged ∷ []) (omega arith)
      (scan_without all list i next notes (omega arith) s Damaged (sym e) (ap (complete_at i) e) refl)
  | inr (inr e) ↦ notes_from all list n (i + 1) (next + 1) (notes ++ Holds (get_or list next nothing).rec
      ∷ []) (omega arith)
      (scan_with all list i next notes (omega arith) s nothing e)
]

pub scanned_notes : (all : List Seen) (list : List Found) → slots list ≡ complete_slots all → (its : List Note)
    × (map seen_as its ≡ all) ×
    (found_in its ≡ list)
scanned_notes all list complete = notes_from all list (length all) 0 0 [] (omega arith) (scan_start all list complete)
