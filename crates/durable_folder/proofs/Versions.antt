-- What the calls of a save in place make of the versions of a file.
use Rattle.durable_folder.proofs.Common.{◌≡◌, inl, inr, ℕ, ◌+◌, ◌<◌, ◌≤◌, max, List, [], ◌∷◌, length, take, drop, Result, Ok, Err, sym, ap, ◌∙◌, arith, ext_get_or, cases_lt, Error, MayHold, byte_at, newest, Written, Synced, AfterOk, OneSuch, MayTear, AllTorn, WholeOrTorn, IsCleared, IsHeadless}
use Rattle.std.proofs.Common.{◌-◌}
use Rattle.std.proofs.Math.ListN.{get_or-eq_default}
use Rattle.std.proofs.lemmas.List.{get_or-take, get_or-drop, length-drop}
use Rattle.durable_folder.specs.Calls.{Overlaid, Resized, Versions, Lengthened}
use Rattle.durable_folder.specs.InPlace.{IsHead}
use Rattle.durable_folder.proofs.Blocks.{holds_one, all_torn, cleared_holds, finished_holds}

-- whatever a write answers, no more is left than after one that was answered Ok
pub no_more : (old : List (List ℕ)) (bytes : List ℕ) (result : Result (Unit {0}) Error) (new : List (List ℕ)) →
    Versions old bytes result new →
    (c : List ℕ) → MayHold new c → MayHold (bytes ∷ old) c
no_more old bytes (Ok done) new is c h = rw is at h
no_more old bytes (Err error) new is c h = is c h

-- zeros over the first block
zeros_cleared : (zeros old z : List ℕ) → length zeros ≡ 64 → ((i : ℕ) → byte_at zeros i ≡ 0) →
    Overlaid 0 zeros old z → IsCleared z
zeros_cleared zeros old z size all over = record {
  size = let grown : length z ≡ max (length old) (0 + length zeros) = over.size (omega arith) in omega arith;
  zeros = λ i below. let here : byte_at z (0 + i) ≡ byte_at zeros i = over.within i (omega arith) in
      ap (λ j. byte_at z j) (omega arith) ∙ here ∙ all
      i;
}

pub zeros_written : (zeros : List ℕ) → length zeros ≡ 64 → ((i : ℕ) → byte_at zeros i ≡ 0) →
    (old : List (List ℕ)) (result : Result (Unit {0}) Error) (new : List (List ℕ)) →
    Written 0 zeros result old new → MayTear old new
zeros_written zeros size all old result new w c h =
    let z = w.0 in
    let over : Overlaid 0 zeros (newest [] old) z = w.1 in
    let clear = zeros_cleared zeros (newest [] old) z size all over in
    let grown : length z ≡ max (length (newest [] old)) (0 + length zeros) = over.size (omega arith) in
    cleared_holds c z old (clear.zeros 0 (omega arith)) (omega arith) (omega arith)
    (λ i above. over.behind i (omega arith))
    (no_more old z result new w.2 c h)

pub zeros_synced : (zeros : List ℕ) → length zeros ≡ 64 → ((i : ℕ) → byte_at zeros i ≡ 0) →
    (old mid : List (List ℕ)) (result : Result (Unit {0}) Error) (new : List (List ℕ)) →
    Written 0 zeros (Ok tt) old mid → Synced mid result new → MayTear old new × AfterOk result (OneSuch IsCleared new)
zeros_synced zeros size all old mid (Ok done) new w s =
    let clear = zeros_cleared zeros (newest [] old) w.0 size all w.1 in
    let one : new ≡ w.0 ∷ [] = s ∙ ap (λ vs. newest [] vs ∷ []) w.2 in (
      λ c h. let held : MayHold (w.0 ∷ []) c = rw one at h in
          inr (all_torn c (w.0 ∷ []) (clear.zeros 0 (omega arith), tt) held),
      (w.0, one, clear),
    )
zeros_synced zeros size all old mid (Err error) new w s =
    (λ c h. zeros_written zeros size all old (Ok tt) mid w c (s c h), tt)

-- the rest behind a clear block
rest_first : (b rest w : List ℕ) (head : ℕ) → IsCleared b → head ≤ 64 → (head < 64 → length rest ≡ 0) →
    Overlaid head rest b w → byte_at w 0 ≡ 0
rest_first b rest w head clear short none over = elim (cases_lt 0 head) [
  | inl some ↦ over.before 0 some ∙ clear.zeros 0 (omega arith)
  | inr no_head ↦ over.behind 0 (omega (arith, none (omega arith))) ∙ clear.zeros 0 (omega arith)
]

-- what is shorter, or the same, begins with a zero too
shorter_first : (size : ℕ) (w r : List ℕ) → byte_at w 0 ≡ 0 → Resized size w r → byte_at r 0 ≡ 0
shorter_first size w r zero_first sized = elim (cases_lt 0 size) [
  | inl some ↦ sized.bytes 0 some ∙ zero_first
  | inr empty ↦ let none : length r ≤ 0 = omega (arith, sized.whole) in get_or-eq_default r 0 none
]

pub rest_written : (head : ℕ) (rest : List ℕ) → head ≤ 64 → (head < 64 → length rest ≡ 0) →
    (old : List (List ℕ)) (result : Result (Unit {0}) Error) (new : List (List ℕ)) →
    OneSuch IsCleared old → Written head rest result old new → AllTorn new
rest_written head rest short none old result new one w c h =
    let over : Overlaid head rest one.0 w.0 = rw one.1 at w.1 in
    let held : MayHold (w.0 ∷ one.0 ∷ []) c = rw one.1 at (no_more old w.0 result new w.2 c h) in
    all_torn c (w.0 ∷ one.0 ∷ []) (
      rest_first one.0 rest w.0 head one.2 short none over,
      (one.2.zeros 0 (omega arith), tt),
    ) held

pub rest_sized : (head : ℕ) (rest : List ℕ) → head ≤ 64 → (head < 64 → length rest ≡ 0) →
    (old mid : List (List ℕ)) (size : ℕ) (result : Result (Unit {0}) Error) (new : List (List ℕ)) →
    OneSuch IsCleared old → Written head rest (Ok tt) old mid → Lengthened size result mid new → AllTorn new
rest_sized head rest short none old mid size result new one w r c h =
    let over : Overlaid head rest one.0 w.0 = rw one.1 at w.1 in
    let is : mid ≡ w.0 ∷ one.0 ∷ [] = rw one.1 at w.2 in
    let sized : Resized size w.0 r.0 = rw is at r.1 in
    let held : MayHold (r.0 ∷ w.0 ∷ one.0 ∷ []) c = rw is at (no_more mid r.0 result new r.2 c h) in
    let first = rest_first one.0 rest w.0 head one.2 short none over in
    all_torn c (r.0 ∷ w.0 ∷ one.0 ∷ []) (
      shorter_first size w.0 r.0 first sized,
      (first, (one.2.zeros 0 (omega arith), tt)),
    ) held

-- all but the head is there
rest_there : (head : ℕ) (bytes rest b w r : List ℕ) → IsHead head bytes → rest ≡ drop head bytes → IsCleared b →
    Overlaid head rest b w →
    Resized (head + length rest) w r → IsHeadless head bytes r
rest_there head bytes rest b w r is_head is_rest clear over sized =
    let size : length rest ≡ length bytes - head = ap length is_rest ∙ length-drop head bytes in
    let whole : head + length rest ≡ length bytes = omega arith in
    record {
      size = sized.whole ∙ whole;
      zeros = λ i below. sized.bytes i (omega arith) ∙ over.before i below ∙ clear.zeros i (omega arith);
      behind = λ i above. elim (cases_lt i (length bytes)) [
        | inl within ↦
            let at : head + (i - head) ≡ i = omega arith in
            sized.bytes i (omega arith) ∙ ap (λ j. byte_at w j) (sym at) ∙ over.within (i - head) (omega arith)
            ∙ ap (λ bs. byte_at bs (i - head)) is_rest ∙ get_or-drop head bytes (i - head) 0
            ∙ ap (λ j. byte_at bytes j) at
        | inr past ↦ get_or-eq_default r 0 (omega (arith, sized.whole)) ∙ sym (get_or-eq_default bytes 0 past)
      ];
    }

pub rest_synced : (head : ℕ) (bytes rest : List ℕ) → IsHead head bytes → rest ≡ drop head bytes →
    (old mid more : List (List ℕ)) (result : Result (Unit {0}) Error) (new : List (List ℕ)) →
    OneSuch IsCleared old → Written head rest (Ok tt) old mid → Lengthened (head + length rest) (Ok tt) mid more →
    Synced more result new →
    AllTorn new × AfterOk result (OneSuch (IsHeadless head bytes) new)
rest_synced head bytes rest is_head is_rest old mid more (Ok done) new one w r s =
    let over : Overlaid head rest one.0 w.0 = rw one.1 at w.1 in
    let is : mid ≡ w.0 ∷ one.0 ∷ [] = rw one.1 at w.2 in
    let sized : Resized (head + length rest) w.0 r.0 = rw is at r.1 in
    let only : new ≡ r.0 ∷ [] = s ∙ ap (λ vs. newest [] vs ∷ []) r.2 in
    let size : length rest ≡ length bytes - head = ap length is_rest ∙ length-drop head bytes in
    let first = rest_first one.0 rest w.0 head one.2 (omega arith) (λ below. omega arith) over in (
      λ c h. let held : MayHold (r.0 ∷ []) c = rw only at h in
          all_torn c (r.0 ∷ []) (shorter_first (head + length rest) w.0 r.0 first sized, tt)
          held,
      (r.0, only, rest_there head bytes rest one.0 w.0 r.0 is_head is_rest one.2 over sized),
    )
rest_synced head bytes rest is_head is_rest old mid more (Err error) new one w r s =
    let size : length rest ≡ length bytes - head = ap length is_rest ∙ length-drop head bytes in (
      λ c h. rest_sized head rest (omega arith) (λ below. omega arith) old mid (head + length rest) (Ok tt) more one w r
          c (s c h),
      tt,
    )

-- with its head the file is these bytes
head_there : (bytes head z w : List ℕ) → IsHead (length head) bytes → head ≡ take (length head) bytes →
    IsHeadless (length head) bytes z →
    Overlaid 0 head z w → w ≡ bytes
head_there bytes head z w is_head is_front less over =
    let grown : length w ≡ max (length z) (0 + length head) = over.size (omega arith) in
    ext_get_or 0 w bytes (omega (arith, less.size)) (λ i below. elim (cases_lt i (length head)) [
      | inl within ↦
          ap (λ j. byte_at w j) (omega arith) ∙ over.within i within ∙ ap (λ bs. byte_at bs i) is_front
          ∙ get_or-take (length head) bytes i 0 within
      | inr above ↦ over.behind i (omega arith) ∙ less.behind i above
    ])

headless_first : (head : ℕ) (bytes z : List ℕ) → IsHead head bytes → IsHeadless head bytes z → byte_at z 0 ≡ 0
headless_first head bytes z is_head less = elim (cases_lt 0 head) [
  | inl some ↦ less.zeros 0 some
  | inr no_head ↦ get_or-eq_default z 0 (omega (arith, less.size))
]

pub headless_torn : (head : ℕ) (bytes : List ℕ) (old : List (List ℕ)) → IsHead head bytes →
    OneSuch (IsHeadless head bytes) old → AllTorn old
headless_torn head bytes old is_head one c h =
    let held : MayHold (one.0 ∷ []) c = rw one.1 at h in
    all_torn c (one.0 ∷ []) (headless_first head bytes one.0 is_head one.2, tt) held

pub head_written : (bytes head : List ℕ) → IsHead (length head) bytes → head ≡ take (length head) bytes →
    (old : List (List ℕ)) (result : Result (Unit {0}) Error) (new : List (List ℕ)) →
    OneSuch (IsHeadless (length head) bytes) old → Written 0 head result old new → WholeOrTorn bytes new
head_written bytes head is_head is_front old result new one w c h =
    let over : Overlaid 0 head one.0 w.0 = rw one.1 at w.1 in
    let whole : w.0 ≡ bytes = head_there bytes head one.0 w.0 is_head is_front one.2 over in
    let held : MayHold (bytes ∷ one.0 ∷ []) c = rw (one.1, whole) at (no_more old w.0 result new w.2 c h) in
    finished_holds c bytes one.0 (headless_first (length head) bytes one.0 is_head one.2) one.2.size
    (λ i above. one.2.behind i (omega arith)) held

pub head_synced : (bytes head : List ℕ) → IsHead (length head) bytes → head ≡ take (length head) bytes →
    (old mid : List (List ℕ)) (result : Result (Unit {0}) Error) (new : List (List ℕ)) →
    OneSuch (IsHeadless (length head) bytes) old → Written 0 head (Ok tt) old mid → Synced mid result new →
    WholeOrTorn bytes new × AfterOk result (new ≡ bytes ∷ [])
head_synced bytes head is_head is_front old mid (Ok done) new one w s =
    let over : Overlaid 0 head one.0 w.0 = rw one.1 at w.1 in
    let whole : w.0 ≡ bytes = head_there bytes head one.0 w.0 is_head is_front one.2 over in
    let only : new ≡ bytes ∷ [] = s ∙ ap (λ vs. newest [] vs ∷ []) w.2 ∙ ap (λ b. b ∷ []) whole in
    (λ c h. let held : MayHold (bytes ∷ []) c = rw only at h in inl (holds_one bytes c held), only)
head_synced bytes head is_head is_front old mid (Err error) new one w s =
    (λ c h. head_written bytes head is_head is_front old (Ok tt) mid one w c (s c h), tt)

pub cleared_torn : (old : List (List ℕ)) → OneSuch IsCleared old → AllTorn old
cleared_torn old one c h = let held : MayHold (one.0 ∷ []) c = rw one.1 at h in
    all_torn c (one.0 ∷ []) (one.2.zeros 0 (omega arith), tt) held
