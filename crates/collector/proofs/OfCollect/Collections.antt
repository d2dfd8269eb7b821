-- Collecting a block: the spare is made blank, what is needed is copied, and the block is erased.
use Rattle.collector.proofs.Common.{◌≡◌, ◌≢◌, ℕ, ◌+◌, ◌-◌, ◌*◌, ◌/◌, ◌<◌, false, List, [], ◌∷◌, ◌++◌, Ok, Err, Result, sym, ap, ◌∙◌, subst, inl, inr, arith, Contains, range_with_len, cases_Bool, both_ways, all_from, from_filter, Contains-nil, shape_of, blocks_of, Protocol, Shape, Broken, FlashState, slot_at, Erases, Moment, Operation, erase, moment_of, CanDo, Does, block_within, same_done, LossLaw, Blank, IndexState, needed_of, erased, BlocksState, Unsure, Matches, IsNextOfSpare, is_blank_block, cleaning, copies, noted_cleaned, needed_slots, CopiesDone, HasUnneeded}
use Rattle.std.proofs.Common.{OnOk}
use Rattle.std.proofs.lemmas.Bool.{cond_both}
use Rattle.std.proofs.lemmas.Nat.{div-mul-add}
use Rattle.list_lemmas.proofs.Membership.{Contains-one}
use Rattle.list_lemmas.proofs.Ranges.{range_bounds}
use Rattle.flash_model.specs.Operations.{WorksIn}
use Rattle.flash_model.specs.Moves.{StayOff}
use Rattle.flash_model.proofs.ImageLemmas.{slot_at-does}
use Rattle.flash_model.proofs.MoveLemmas.{Does-append}
use Rattle.collector.specs.Collecting.{collecting}
use Rattle.collector.proofs.OfCopies.CopyLists.{copies_same}
use Rattle.collector.proofs.OfCopies.Homes.{cleaned_needs}
use Rattle.collector.proofs.OfNotes.NotesLeft.{note_at-in}

module _ (p : Protocol) (loss : LossLaw p) (s0 : FlashState) (n0 : IndexState) (t : BlocksState) (u0 : Unsure)
    (rule : n0.config.protocol ≡ p)
    (m : Matches s0 n0 t u0) where
  below : t.spare < blocks_of (shape_of n0.config)
  below = omega (arith, m.table.spare_within, ap blocks_of m.blocks, ap blocks_of m.shape)

  some : 0 < n0.config.pages_per_block
  some = (let b = m.noted.bounds.shape.pages_least in omega arith)

  -- what is not needed is not needed once the spare is blank
  pub unneeded_cleaned : (n1 : IndexState) (block : ℕ) → n1 ≡ erased n0 t.spare → HasUnneeded n0 block →
      HasUnneeded n1 block
  unneeded_cleaned n1 block is any =
      subst (λ k. HasUnneeded k block) (sym is) (any.0, any.1, any.2, any.3, still)
    where
      still : needed_of (erased n0 t.spare) any.1 ≡ false
      still = elim (cases_Bool (needed_of (erased n0 t.spare) any.1)) [
        | inl needed ↦ absurd (both_ways (needed_of n0 any.1) any.4
            (cleaned_needs n0 m.noted (subst LossLaw (sym rule) loss) t.spare below m.spared m.spare any.1 needed))
        | inr not_needed ↦ not_needed
      ]

  -- the first slot of the blank spare comes next
  pub first_of_spare : (n1 : IndexState) (t1 : BlocksState) → n1 ≡ erased n0 t.spare → t1 ≡ t →
      IsNextOfSpare n1 t1.spare (t1.spare * n1.config.pages_per_block)
  first_of_spare n1 t1 is same =
      subst (λ (k : BlocksState). IsNextOfSpare n1 k.spare (k.spare * n1.config.pages_per_block)) (sym same)
      (subst (λ (k : IndexState). IsNextOfSpare k t.spare (t.spare * k.config.pages_per_block)) (sym is) first)
    where
      first : IsNextOfSpare (erased n0 t.spare) t.spare (t.spare * n0.config.pages_per_block)
      first = record {
        within = (let end = block_within (shape_of n0.config) t.spare below in omega (arith, end, some));
        in_spare = ap (λ k. k / n0.config.pages_per_block)
            (let zero : t.spare * n0.config.pages_per_block ≡ t.spare * n0.config.pages_per_block + 0 = omega arith in
            zero)
            ∙ div-mul-add t.spare n0.config.pages_per_block 0 some;
        blank_on = λ k from before. note_at-in (shape_of n0.config) some n0.notes m.noted.slots t.spare below Blank
            k from before;
      }

  -- once the spare was made blank
  module _ (s1 : FlashState) (n1 : IndexState) (t1 : BlocksState) (block : ℕ) (noted : n1 ≡ erased n0 t.spare)
      (table : t1 ≡ t) (apart : block ≢ t.spare)
      (shape1 : s1.shape ≡ s0.shape) (cleans : Does s0.shape (moment_of s0) (cleaning n0 s0.image t.spare)
      (moment_of s1)) where
    abbrev slots : List ℕ
    slots = needed_slots (noted_cleaned n0 t.spare) block

    -- the slots to be copied hold what they held before
    stay_off : (k : ℕ) → Contains slots k → StayOff s0.shape (k / s0.shape.pages_per_block)
        (cleaning n0 s0.image t.spare)
    stay_off k i =
        let parts = from_filter (needed_of (erased n0 t.spare)) k
        (range_with_len (block * n0.config.pages_per_block) n0.config.pages_per_block) i in
        let place = range_bounds (block * n0.config.pages_per_block) n0.config.pages_per_block k parts.0 in
        let its : k ≡ block * n0.config.pages_per_block + (k - block * n0.config.pages_per_block) =
        omega (arith, place.0) in
        let there : k / s0.shape.pages_per_block ≡ block =
        ap (λ (x : Shape). k / x.pages_per_block) m.shape ∙ ap (λ q. q / n0.config.pages_per_block) its
        ∙ div-mul-add block n0.config.pages_per_block (k - block * n0.config.pages_per_block)
        (omega (arith, place.0, place.1)) in
        cond_both (is_blank_block n0 s0.image t.spare) [] (erase t.spare ∷ [])
        (StayOff s0.shape (k / s0.shape.pages_per_block))
        (λ e. all_from (λ o. WorksIn s0.shape o (k / s0.shape.pages_per_block) →
        ⊥) [] (λ o j. absurd (Contains-nil o j)))
        (λ e. all_from (λ o. WorksIn s0.shape o (k / s0.shape.pages_per_block) → ⊥) (erase t.spare ∷ []) (λ o j q.
        apart (sym there ∙ sym (subst (λ o'. WorksIn s0.shape o' (k / s0.shape.pages_per_block))
        (sym (Contains-one (erase t.spare) o j)) q))))

    pub same_slots : (k : ℕ) → Contains slots k → slot_at s1.image k ≡ slot_at s0.image k
    same_slots k i = slot_at-does s0.shape (moment_of s0) (moment_of s1) (cleaning n0 s0.image t.spare) k m.flash cleans
        (stay_off k i)

    abbrev programs : List ℕ → List Operation
    programs first = copies n0.config.page_bytes s0.image (t.spare * n0.config.pages_per_block) first

    -- the copies of some of them follow on making the spare blank
    pub copies_follow : (first : List ℕ) → ((k : ℕ) → Contains first k → Contains slots k) → (now : Moment) →
        Does s1.shape (moment_of s1) (copies n1.config.page_bytes s1.image (t1.spare * n1.config.pages_per_block) first)
        now →
        Does s0.shape (moment_of s0) (cleaning n0 s0.image t.spare ++ programs first) now
    copies_follow first are now does =
        Does-append s0.shape (moment_of s0) (moment_of s1) now (cleaning n0 s0.image t.spare) (programs first) cleans
        (subst (λ l. Does s0.shape (moment_of s1) l now)
        (copies_same n0.config.page_bytes s1.image s0.image (t.spare * n0.config.pages_per_block) first
        (λ k i. same_slots k (are k i)))
        (subst (λ sh. Does sh (moment_of s1) (copies n0.config.page_bytes s1.image (t.spare * n0.config.pages_per_block)
        first) now) shape1
        (subst (λ (k : IndexState). Does s1.shape (moment_of s1)
        (copies k.config.page_bytes s1.image (t.spare * k.config.pages_per_block) first) now) noted
        (subst (λ (k : BlocksState). Does s1.shape (moment_of s1)
        (copies n1.config.page_bytes s1.image (k.spare * n1.config.pages_per_block) first) now) table
        does))))

    -- the operations of the whole
    module _ (s2 : FlashState) (n2 : IndexState) (used : ℕ) (copied : CopiesDone n1 n2 s1 s2 t1.spare block used) where
      -- all that is needed was copied
      pub all_copied : Does s0.shape (moment_of s0) (cleaning n0 s0.image t.spare ++ programs slots) (moment_of s2)
      all_copied = copies_follow slots (λ k i. i) (moment_of s2)
          (subst (λ (k : IndexState). Does s1.shape (moment_of s1)
          (copies n1.config.page_bytes s1.image (t1.spare * n1.config.pages_per_block) (needed_slots k block))
          (moment_of s2)) noted
          copied.programmed)

      pub collects : (s3 : FlashState) → block < blocks_of (shape_of n0.config) → s2.shape ≡ s0.shape →
          (r : Result (Unit {0}) Broken) → Erases s2 s3 block r →
          OnOk r (Does s0.shape (moment_of s0) (collecting n0 s0.image t.spare block) (moment_of s3))
      collects s3 exists shape2 r erases = by r erases
        where
          can : CanDo s2.shape s2.image (erase block)
          can = omega (arith, exists, ap blocks_of (shape2 ∙ m.shape))

          by : (q : Result (Unit {0}) Broken) → Erases s2 s3 block q → OnOk q
              (Does s0.shape (moment_of s0) (collecting n0 s0.image t.spare block) (moment_of s3))
          by (Err x) e = tt
          by (Ok x) e =
              Does-append s0.shape (moment_of s0) (moment_of s2) (moment_of s3) (cleaning n0 s0.image t.spare
              ++ programs slots) (erase block ∷ []) all_copied
              (subst (λ sh. Does sh (moment_of s2) (erase block ∷ []) (moment_of s3)) shape2 (
                can,
                same_done s2 s3 (erase block) x e,
              ))
