-- Law 2 by the lowest record of each name.
use Rattle.scan_recovery.proofs.Common.{◌≡◌, ℕ, ◌<◌, ◌≤◌, Bool, true, List, [], ◌∷◌, length, get_or, find, All, AllPairs, Some, IfSome, refl, sym, ap, ◌∙◌, subst, inl, inr, arith, Contains, false≢true, cases_Bool, cond-true, cond-false, length-map, get_or-map, get_or_default, All-contains, Contains-get_or, all_from, pairs_head, pairs_tail, Protocol, Shape, Contents, slot_at, Found, nothing, name_of, has_name, FindsFirst, Pages, Copies, Links, Present, Loose, Ending, KeepsWritten, has_name_true, has_own_name, written_in, records_in, SlotReads, IsLeastImageBreach, records_scanned, bytes_shown, AgreesWithLowest}
use Rattle.std.proofs.Common.{IsSomeAnd}
use Rattle.std.proofs.lemmas.List.Elements.{All-map}
use Rattle.list_lemmas.proofs.Membership.{Contains-cases, Contains-nil, in_map}
use Rattle.list_lemmas.proofs.Tests.{find_stands}
use Rattle.list_lemmas.proofs.Pairs.{in_order}
use Rattle.flash_model.specs.Calls.{page_of}
use Rattle.record_list.specs.declared.found.Breach.{Breach}
use Rattle.record_list.specs.SoundList.{Law, Counted, number}
use Rattle.record_list.specs.Written.{Written, found_of}
use Rattle.record_list.proofs.OfChanges.WrittenLists.{in_records, ascending_written}
use Rattle.record_list.proofs.OfFacts.Breaches.{earlier_index}
use Rattle.judged_records.specs.Images.{HasPages}
use Rattle.judged_records.proofs.OfLaws.ImageScans.{is_read}

-- some item is found where one passes, and it does not come after it
record FindsBefore (list : List Found) (test : Found → Bool) (f : Found) : Type 0 where
  pub lowest : Found
  pub found : find test list ≡ Some lowest
  pub before : lowest.slot.0 ≤ f.slot.0

finds_before : (list : List Found) (test : Found → Bool) (f : Found) → AllPairs (λ g h. g.slot.0 < h.slot.0) list →
    Contains list f → test f ≡ true →
    FindsBefore list test f
finds_before [] test f up i passes = absurd (Contains-nil f i)
finds_before (g ∷ gs) test f up i passes = elim (cases_Bool (test g)) [
  | inl here ↦ record {
    lowest = g;
    found = cond-true (test g) (Some g) (find test gs) here;
    before = elim (Contains-cases g gs f i) [
      | inl same ↦ (let at : g.slot.0 ≡ f.slot.0 = ap (λ (h : Found). h.slot.0) same in omega arith)
      | inr later ↦ (let less : g.slot.0 < f.slot.0 = pairs_head (λ g h. g.slot.0 < h.slot.0) g gs f up later in
          omega arith)
    ];
  }
  | inr gone ↦
      let rest = finds_before gs test f (pairs_tail (λ g h. g.slot.0 < h.slot.0) g gs up)
      (elim (Contains-cases g gs f i) [
        | inl same ↦ absurd (false≢true (sym gone ∙ ap test same ∙ passes))
        | inr later ↦ later
      ]) passes in
      record {
        lowest = rest.lowest;
        found = cond-false (test g) (Some g) (find test gs) gone ∙ rest.found;
        before = rest.before;
      }
]

-- what stands for a record with bytes where there is none
abbrev pub no_written : Written
no_written = record { slot = nothing.slot; rec = nothing.rec; bytes = [] }

module _ (p : Protocol) (logical n : ℕ) (image : List Contents) where
  abbrev ws : List Written
  ws = written_in p image

  abbrev list : List Found
  list = records_in p image

  abbrev Agrees : Written → Type 0
  Agrees w = AgreesWithLowest n image list (found_of w)

  abbrev KeepsTwo : Written → Type 0
  KeepsTwo w = KeepsWritten p ws logical Copies w

  -- a slot with a record shows its bytes
  shown : (w : Written) → Contains ws w → bytes_shown n image (found_of w) ≡ w.bytes
  shown w i = let r = (is_read p image w i).reads in ap (page_of n) r.is ∙ sym r.page

  lowest : (w : Written) → Contains ws w → FindsBefore list (λ g. has_name (name_of w.rec) g.rec) (found_of w)
  lowest w i = finds_before list (λ g. has_name (name_of w.rec) g.rec) (found_of w) (records_scanned p image).ascending
      (in_records ws w i)
      (has_own_name (name_of w.rec) w.rec refl)

  -- two records of one name that agree with the lowest agree
  agree : (v w : Written) → Contains ws v → Contains ws w → Agrees v → Agrees w → name_of v.rec ≡ name_of w.rec →
      (v.rec ≡ w.rec) × (v.bytes ≡ w.bytes)
  agree v w i j av aw same =
      let low = lowest w j in
      let as_w = subst (λ o. IfSome o (λ g. (g.rec ≡ w.rec)
      × (bytes_shown n image g ≡ bytes_shown n image (found_of w)))) low.found aw in
      let as_v = subst (λ o. IfSome o (λ g. (g.rec ≡ v.rec)
      × (bytes_shown n image g ≡ bytes_shown n image (found_of v))))
      (ap (λ u. find (λ g. has_name u g.rec) list) same ∙ low.found) av in
      (sym as_v.0 ∙ as_w.0, sym (shown v i) ∙ sym as_v.1 ∙ as_w.1 ∙ shown w j)

  -- so law 2 holds of a record where it agrees, and each lower one does
  keeps_two : (w : Written) → Contains ws w → Agrees w → ((v : Written) → Contains ws v → v.slot.0 < w.slot.0 →
      Agrees v) → KeepsTwo w
  keeps_two w j aw below = (
    All-map (λ g. g.slot.0 < w.slot.0 → name_of g.rec ≡ name_of w.rec → g.rec ≡ w.rec) found_of ws
        (all_from (λ v. v.slot.0 < w.slot.0 → name_of v.rec ≡ name_of w.rec → v.rec ≡ w.rec) ws
        (λ v i less same. (agree v w i j (below v i less) aw same).0)),
    all_from (λ v. v.slot.0 < w.slot.0 → name_of v.rec ≡ name_of w.rec → v.bytes ≡ w.bytes) ws
        (λ v i less same. (agree v w i j (below v i less) aw same).1),
  )

  -- and where law 2 holds of a record, it agrees with the lowest of its name
  agrees_where_kept : (w : Written) → Contains ws w → KeepsTwo w → Agrees w
  agrees_where_kept w j kept =
      let low = lowest w j in
      let stands = find_stands (λ g. has_name (name_of w.rec) g.rec) list low.lowest low.found in
      let v = in_map found_of ws low.lowest stands.0 in
      let same : name_of v.0.rec ≡ name_of w.rec = ap (λ (g : Found). name_of g.rec) v.2
      ∙ has_name_true (name_of w.rec) low.lowest.rec stands.1 in
      let at : v.0.slot.0 ≤ w.slot.0 = subst (λ (g : Found). g.slot.0 ≤ w.slot.0) (sym v.2) low.before in
      let parts : (v.0.rec ≡ w.rec) × (v.0.bytes ≡ w.bytes) =
      elim (in_order (λ (x y : Written). x.slot.0 < y.slot.0) ws v.0 w (ascending_written ws (records_scanned p image))
      v.1 j) [
        | inl e ↦ (ap (λ (x : Written). x.rec) e, ap (λ (x : Written). x.bytes) e)
        | inr (inl less) ↦ (
          All-contains (λ g. g.slot.0 < w.slot.0 → name_of g.rec ≡ name_of w.rec → g.rec ≡ w.rec) list (found_of v.0)
              kept.0 (in_records ws v.0 v.1) less same,
          All-contains (λ x. x.slot.0 < w.slot.0 → name_of x.rec ≡ name_of w.rec → x.bytes ≡ w.bytes) ws v.0 kept.1
              v.1 less same,
        )
        | inr (inr more) ↦ absurd (omega arith)
      ] in
      subst (λ o. IfSome o (λ g. (g.rec ≡ w.rec) × (bytes_shown n image g ≡ bytes_shown n image (found_of w))))
      (sym low.found)
      (subst (λ (g : Found). (g.rec ≡ w.rec) × (bytes_shown n image g ≡ bytes_shown n image (found_of w))) v.2
      (parts.0, shown v.0 v.1 ∙ parts.1 ∙ sym (shown w j)))

  pub two_holds : All (AgreesWithLowest n image list) list → All KeepsTwo ws
  two_holds all = all_from KeepsTwo ws (λ w j. keeps_two w j
      (All-contains (AgreesWithLowest n image list) list (found_of w) all (in_records ws w j))
      (λ v i less. All-contains (AgreesWithLowest n image list) list (found_of v) all (in_records ws v i)))

  -- law 1 holds of the records of an image whose slots keep it
  pub pages_hold : All (SlotReads p logical) image → All (KeepsWritten p ws logical Pages) ws
  pages_hold reads = all_from (KeepsWritten p ws logical Pages) ws (λ w j.
      let r = is_read p image w j in
      let here : SlotReads p logical (slot_at image w.slot.0) = reads w.slot.0 _ r.within in
      subst (λ o. IsSomeAnd o (HasPages logical)) r.reads.spells (subst (SlotReads p logical) r.reads.is here))

  laws_before : All (SlotReads p logical) image → (l : Law) → number l < 2 → All (KeepsWritten p ws logical l) ws
  laws_before reads Pages h = pages_hold reads
  laws_before reads Copies h = absurd (omega arith)
  laws_before reads Links h = absurd (omega arith)
  laws_before reads Present h = absurd (omega arith)
  laws_before reads Counted h = absurd (omega arith)
  laws_before reads Loose h = absurd (omega arith)
  laws_before reads Ending h = absurd (omega arith)

  -- the first record that does not agree breaks law 2, which names its slot
  pub two_broken : (shape : Shape) (i : ℕ) (b : Breach) → All (SlotReads p logical) image →
      FindsFirst (AgreesWithLowest n image list) list (Some i) →
      b.law ≡ 2 → b.slot ≡ (get_or list i nothing).slot → IsLeastImageBreach p logical shape image b
  two_broken shape i b reads (inside, fails, before) law slot =
      let long : length list ≡ length ws = length-map ws found_of in
      let within : i < length ws = omega arith in
      let w = get_or ws i no_written in
      let is : get_or list i nothing ≡ found_of w = get_or-map found_of ws i no_written (nothing) within in
      let in_ws : Contains ws w = Contains-get_or ws i no_written within in
      inr (record {
        reads = reads;
        broken = inl (record {
          law = Copies;
          law_number = sym law;
          breaks = (
            i,
            w,
            within,
            get_or_default ws i w no_written within,
            (
              ap (λ (g : Found). g.slot.0) (sym is) ∙ sym (ap (λ s. s.0) slot),
              λ kept. fails nothing (subst (AgreesWithLowest n image list) (sym is) (agrees_where_kept w in_ws kept)),
            ),
          );
          earlier_laws = laws_before reads;
          earlier_slots = all_from (λ v. v.slot.0 < b.slot.0 →
              KeepsTwo v) ws (λ v j below. keeps_two v j (agrees_below v j below)
              (λ u k less. agrees_below u k (omega arith)));
        });
      })
    where
      agrees_below : (v : Written) → Contains ws v → v.slot.0 < b.slot.0 → Agrees v
      agrees_below v j below =
          let f = found_of v in
          let long : length list ≡ length ws = length-map ws found_of in
          let k_inside : j.0 < length list = (let h = j.1 in omega arith) in
          let here : get_or list j.0 f ≡ f = get_or-map found_of ws j.0 v f j.1 ∙ ap found_of j.2 in
          let there : (get_or list i f).slot.0 ≡ b.slot.0 =
          ap (λ (g : Found). g.slot.0) (get_or_default list i f nothing inside) ∙ sym (ap (λ s. s.0) slot) in
          let low : (get_or list j.0 f).slot.0 < (get_or list i f).slot.0 =
          (let at = ap (λ (g : Found). g.slot.0) here in omega arith) in
          subst (AgreesWithLowest n image list) here
          (before j.0 f (earlier_index list j.0 i f (records_scanned p image) k_inside low))

-- the slots of the records are slots of the image
pub records_within : (p : Protocol) (image : List Contents) → All (λ f. f.slot.0 < length image) (records_in p image)
records_within p image =
    All-map (λ f. f.slot.0 < length image) found_of (written_in p image)
    (all_from (λ w. w.slot.0 < length image) (written_in p image) (λ w i. (is_read p image w i).within))
