-- How the file follows programs: slots are due, and then wait; and how it follows a flush.
use Rattle.live_flash.proofs.Common.{◌≡◌, ◌≢◌, ℕ, ◌<◌, ◌==◌, ◌||◌, Bool, true, false, List, [], ◌∷◌, ◌++◌, length, get_or, Contains, refl, sym, ap, subst, ◌∙◌, inl, inr, arith, Shape, Slot, Contents, blank, slot_at, IsImage, FileState, Syncs, slots_in, slot_bytes, live_bytes, IsOpened, slot_values, Holds, LeavesEither, IsTurning, Follows, LosesOnly}
use Rattle.std.proofs.lemmas.Bool.{cases_Bool, cases_eq, eq-eqb, ne_eqb, both_ways, or_cases, or_left, or_right}
use Rattle.file_flash.proofs.Loading.{in_append, in_right}
use Rattle.file_flash.proofs.Programming.{Starts}
use Rattle.live_flash.proofs.Turning.{held_same, turning_same, held_synced, turned, as_held}
use Rattle.live_flash.proofs.Losing.{lose_all, follows_slot, either_loses}

-- ---- which slots wait, and which are due

neither : (a b : Bool) → (a || b) ≡ false → (a ≡ false) × (b ≡ false)
neither false b e = (refl, e)
neither true b e = absurd (cc)

front_there : (at : Slot) (due : List Slot) (k : ℕ) → at.0 ≢ k → slots_in due k ≡ false → slots_in (at ∷ due) k ≡ false
front_there at due k there none = ap (λ b. b || slots_in due k) (ne_eqb at.0 k there) ∙ none

pub front_here : (at : Slot) (due : List Slot) → slots_in (at ∷ due) at.0 ≡ true
front_here at due = or_left (at.0 == at.0) (slots_in due at.0) (eq-eqb at.0 at.0 refl)

pub in_left : (xs ys : List Slot) (k : ℕ) → slots_in xs k ≡ true → slots_in (xs ++ ys) k ≡ true
in_left xs ys k e = in_append xs ys k ∙ or_left (slots_in xs k) (slots_in ys k) e

middle_there : (waiting due : List Slot) (at : Slot) (k : ℕ) → at.0 ≢ k → slots_in (waiting ++ due) k ≡ false →
    slots_in (waiting ++ at ∷ due) k ≡ false
middle_there waiting due at k there none =
    let parts = neither (slots_in waiting k) (slots_in due k) (sym (in_append waiting due k) ∙ none) in
    in_append waiting (at ∷ due) k ∙ ap (λ b. b || slots_in (at ∷ due) k) parts.0 ∙ front_there at due k there parts.1

-- the same slots in other lists
pub follows_as : (shape : Shape) (image : List Contents) (waiting due waits dues : List Slot) (file : FileState) →
    ((k : ℕ) → slots_in waits k ≡ slots_in waiting k) → ((k : ℕ) → slots_in dues k ≡ slots_in due k) →
    Follows shape image waiting due file → Follows shape image waits dues file
follows_as shape image waiting due waits dues file same_waits same_dues f = record {
  keeps = λ k inside none done. f.keeps k inside (sym (same_dues k) ∙ none) (sym (same_waits k) ∙ done);
  waits = λ k inside none wait. f.waits k inside (sym (same_dues k) ∙ none) (sym (same_waits k) ∙ wait);
  due = λ k inside here. f.due k inside (sym (same_dues k) ∙ here);
}

-- ---- slots of the file are written

module _ (shape : Shape) (image : List Contents) (waiting run due : List Slot) (file file' : FileState)
    (others : (k j : ℕ) → slots_in run k ≡ false → j < slot_bytes shape.page_bytes →
    slot_values shape file' k j ≡ slot_values shape file k j)
    (f : Follows shape image waiting (run ++ due) file) where
  both_none : (k : ℕ) → slots_in run k ≡ false → slots_in due k ≡ false → slots_in (run ++ due) k ≡ false
  both_none k apart none = in_append run due k ∙ ap (λ b. b || slots_in due k) apart ∙ none

  -- the slots that are due but for these
  still_due : (k : ℕ) → k < length image → slots_in run k ≡ false → slots_in due k ≡ true → Holds shape blank file' k
  still_due k inside apart here = held_same shape blank file k (f.due k inside (in_right run due k here)) file'
      (λ j within. others k j apart within)

  still_waits : (k : ℕ) → k < length image → slots_in run k ≡ false → slots_in due k ≡ false →
      slots_in waiting k ≡ true → IsTurning shape blank (slot_at image k) file' k
  still_waits k inside apart none wait = turning_same shape blank (slot_at image k) file file' k
      (λ j within. others k j apart within) (f.waits k inside (both_none k apart none) wait)

  still_keeps : (k : ℕ) → k < length image → slots_in run k ≡ false → slots_in due k ≡ false →
      slots_in waiting k ≡ false → Holds shape (slot_at image k) file' k
  still_keeps k inside apart none done = held_same shape (slot_at image k) file k
      (f.keeps k inside (both_none k apart none) done) file' (λ j within. others k j apart within)

  -- where they are written they wait
  pub run_waits : ((k : ℕ) → slots_in run k ≡ true → slots_in due k ≡ false) →
      ((k : ℕ) → k < length image → slots_in run k ≡ true → IsTurning shape blank (slot_at image k) file' k) →
      Follows shape image (waiting ++ run) due file'
  run_waits apart turns = record {
    keeps = λ k inside none done.
        let parts = neither (slots_in waiting k) (slots_in run k) (sym (in_append waiting run k) ∙ done) in
        still_keeps k inside parts.1 none parts.0;
    waits = λ k inside none wait. elim (cases_Bool (slots_in run k)) [
      | inl here ↦ turns k inside here
      | inr not ↦ elim (or_cases (slots_in waiting k) (slots_in run k) (sym (in_append waiting run k) ∙ wait)) [
        | inl old ↦ still_waits k inside not none old
        | inr here ↦ turns k inside here
      ]
    ];
    due = λ k inside here. elim (cases_Bool (slots_in run k)) [
      | inl is ↦ absurd (both_ways (slots_in due k) (apart k is) here)
      | inr not ↦ still_due k inside not here
    ];
  }

  -- where they may be written a loss leaves of each what it holds or nothing
  pub run_loses : (slots : List Slot) → IsImage shape image → length file'.values ≡ live_bytes shape →
      ((k : ℕ) → k < length image → slots_in run k ≡ true → LeavesEither shape blank (slot_at image k) file' k) →
      ((k : ℕ) → slots_in waiting k ≡ true → slots_in slots k ≡ true) →
      ((k : ℕ) → slots_in (run ++ due) k ≡ true → slots_in slots k ≡ true) → LosesOnly shape image slots file'
  run_loses slots is long either waits dues = lose_all shape image slots file' is long
      (λ k inside. elim (cases_Bool (slots_in run k)) [
        | inl here ↦ either_loses shape (slot_at image k) (slots_in slots k) file' k
            (dues k (in_left run due k here)) (either k inside here)
        | inr not ↦ (λ left l. follows_slot shape image waiting (run ++ due) slots file k inside f (waits k) (dues k)
            left (record {
              long = l.long;
              each = λ j within. subst (λ values. Contains values (get_or left j 0)) (others k j not within)
                  (l.each j within);
            }))
      ])

-- ---- a slot that is blank still is not due

pub skip_follows : (shape : Shape) (image : List Contents) (waiting due : List Slot) (at : Slot) (file : FileState) →
    slot_at image at.0 ≡ blank → Follows shape image [] (waiting ++ at ∷ due) file →
    Follows shape image [] (waiting ++ due) file
skip_follows shape image waiting due at file empty f = record {
  keeps = λ k inside none done. elim (cases_eq at.0 k) [
    | inl here ↦ as_held shape blank (slot_at image k) file k
        (sym (subst (λ i. slot_at image i ≡ blank) here empty))
        (f.due k inside (subst (λ i. slots_in (waiting ++ at ∷ due) i ≡ true) here
        (in_right waiting (at ∷ due) at.0 (front_here at due))))
    | inr there ↦ f.keeps k inside (middle_there waiting due at k there none) done
  ];
  waits = λ k inside none wait. absurd (both_ways false refl wait);
  due = λ k inside here. f.due k inside
      (elim (or_cases (slots_in waiting k) (slots_in due k) (sym (in_append waiting due k) ∙ here)) [
        | inl wait ↦ in_left waiting (at ∷ due) k wait
        | inr more ↦ in_right waiting (at ∷ due) k (or_right (at.0 == k) (slots_in due k) more)
      ]);
}

-- ---- programs in memory, of slots that were blank, which are due then

pub starts_follow : (shape : Shape) (old new : List Contents) (waiting due : List Slot) (file : FileState) →
    Starts old new due → Follows shape old [] waiting file → Follows shape new [] (waiting ++ due) file
starts_follow shape old new waiting due file st f = record {
  keeps = λ k inside none done.
      let parts = neither (slots_in waiting k) (slots_in due k) (sym (in_append waiting due k) ∙ none) in
      as_held shape (slot_at old k) (slot_at new k) file k (sym (st.elsewhere k parts.1))
      (f.keeps k (omega (arith, st.lengths, inside)) parts.0 refl);
  waits = λ k inside none wait. absurd (both_ways false refl wait);
  due = λ k inside here.
      let low : k < length old = omega (arith, st.lengths, inside) in
      elim (cases_Bool (slots_in waiting k)) [
        | inl wait ↦ f.due k low wait
        | inr not ↦ elim (or_cases (slots_in waiting k) (slots_in due k) (sym (in_append waiting due k) ∙ here)) [
          | inl wait ↦ f.due k low wait
          | inr fresh ↦ as_held shape (slot_at old k) blank file k (st.empty k fresh) (f.keeps k low not refl)
        ]
      ];
}

-- ---- a flush

pub flushed : (shape : Shape) (image : List Contents) (waiting : List Slot) (file file' : FileState) →
    IsOpened shape file → Syncs file file' → Follows shape image waiting [] file → Follows shape image [] [] file'
flushed shape image waiting file file' o s f = record {
  keeps = λ k inside none done. elim (cases_Bool (slots_in waiting k)) [
    | inl wait ↦ turned shape blank (slot_at image k) file file' k o s (f.waits k inside refl wait)
    | inr done' ↦ held_synced shape (slot_at image k) file k (f.keeps k inside refl done') file' o s
  ];
  waits = λ k inside none wait. absurd (both_ways false refl wait);
  due = λ k inside here. absurd (both_ways false refl here);
}
