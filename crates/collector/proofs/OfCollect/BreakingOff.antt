-- Where a collection breaks off: from what its calls leave to what is said of the whole.
use Rattle.collector.proofs.Common.{◌≡◌, ◌≢◌, ℕ, ◌+◌, ◌-◌, ◌*◌, ◌<◌, ◌≤◌, true, List, [], ◌∷◌, ◌++◌, length, refl, sym, ap, ◌∙◌, subst, inl, inr, arith, Contains, range_with_len, Contains-first, shape_of, blocks_of, Block, Protocol, Slot, spare_area_of, FlashState, Does, Moment, Torn, BreaksIn, program, erase, moment_of, LossLaw, IndexState, needed_of, erased, BlocksState, Unsure, BreaksOff, cleaning, copies, copied_from, copy_program, needed_slots, CopiesDone, counted_times, Matches, StoreParts}
use Rattle.std.proofs.Common.{filter}
use Rattle.std.proofs.lemmas.List.{append-nil}
use Rattle.std.proofs.lemmas.List.Elements.{Contains-append_left, Contains-append_right}
use Rattle.list_lemmas.proofs.Ranges.{filter_parts}
use Rattle.flash_model.specs.Calls.{page_of}
use Rattle.flash_model.specs.Flash.{counted}
use Rattle.collector.specs.declared.unsure.Unsure.TheVariants as unsure
use Rattle.collector.specs.BreakingOff.{CopiedFirst, CopyBreaksOff, CopiesBreakOff}
use Rattle.collector.proofs.OfCollect.Collections.{same_slots, copies_follow, all_copied}
use Rattle.collector.proofs.OfCopies.CopyingBlocks.{CopiedSoFar, needed_before, its_program, to_at, needed0}
use Rattle.flash_model.proofs.ComingLemmas.{counted_times-then}

-- the next copy broke off
module _ (p : Protocol) (a : StoreParts) (n : IndexState) (s : FlashState) (t : BlocksState) (u : Unsure)
    (first start at used block : ℕ)
    (h : CopiedSoFar p a n s t u first start at used) (low : first ≤ at)
    (block_is : first ≡ block * a.noted.config.pages_per_block)
    (spare_is : start ≡ t.spare * a.noted.config.pages_per_block)
    (high : at < first + a.noted.config.pages_per_block) (apart : block ≢ t.spare)
    (below : block < blocks_of (shape_of a.noted.config))
    (needed : needed_of n at ≡ true) where
  abbrev n0 : IndexState
  n0 = a.noted

  abbrev s0 : FlashState
  s0 = a.flash

  abbrev per : ℕ
  per = n0.config.pages_per_block

  abbrev before : List ℕ
  before = needed_before n0 first at

  abbrev later : List ℕ
  later = filter (needed_of n0) (range_with_len (at + 1) (first + per - at - 1))

  copied_before : (now : Moment) → moment_of s ≡ now → (n' : IndexState) → n' ≡ n →
      CopiedFirst n0 s0 [] t.spare block before (at ∷ later) now n'
  copied_before now is n' stays = record {
    order = ap (λ k. filter (needed_of n0) (range_with_len k per)) (sym block_is)
        ∙ filter_parts (needed_of n0) first (at - first) (first + per - at - 1) per at (omega (arith, low))
        (omega (arith, low, high))
        (needed0 p a n s t u first start at used block h low block_is spare_is high apart below needed);
    done = subst (λ k. Does s0.shape (moment_of s0) (copies n0.config.page_bytes s0.image k before) now) spare_is
        (subst (Does s0.shape (moment_of s0) (copies n0.config.page_bytes s0.image start before)) is h.does);
    noted = stays ∙ h.noted ∙ ap (λ k. copied_from n0 k before) spare_is;
  }

  pub copying_broke : (s' : FlashState) (n' : IndexState) (u' : Unsure) (from to : Slot) → from.0 ≡ at →
      to.0 ≡ start + used → n' ≡ n →
      CopyBreaksOff n s s' from to u' → CopiesBreakOff n0 s0 s' [] t.spare block n' u'
  copying_broke s' n' u' from to from_is to_is stays (inl read) =
      subst (CopiesBreakOff n0 s0 s' [] t.spare block n') (sym read.0) (record {
        first = before;
        from = at;
        later = later;
        copied = copied_before (moment_of s') (sym read.1) n' stays;
        reads = λ live. read.2 (h.keeps.carries.lives ∙ live) ∙ ap counted h.reads ∙ counted_times-then used 1 s0.reads
            ∙ ap (λ k. counted_times (k + 1) s0.reads) h.count;
      })
  copying_broke s' n' u' from to from_is to_is stays (inr torn) =
      let place = to_at p a n s t u first start at used block h low block_is spare_is high apart below in
      subst (CopiesBreakOff n0 s0 s' [] t.spare block n') (sym torn.0) (record {
        first = before;
        later = later;
        between = moment_of s;
        copied = subst (λ k. CopiedFirst n0 s0 [] t.spare block before (k ∷ later) (moment_of s) n') (sym from_is)
            (copied_before (moment_of s) refl n' stays);
        place = to_is ∙ place ∙ ap (λ k. k + length before) spare_is;
        torn = subst (λ o. BreaksIn s0.shape (moment_of s) o (moment_of s'))
            (ap (λ k. copy_program n.config.page_bytes s.image k from.0) to_is
            ∙ ap (copy_program n.config.page_bytes s.image (start + used)) from_is
            ∙ its_program p a n s t u first start at used block h low block_is spare_is high apart below
            ∙ ap (λ k. copy_program n0.config.page_bytes s0.image k at) (sym (to_is ∙ place))
            ∙ ap (copy_program n0.config.page_bytes s0.image to.0) (sym from_is))
            (subst (λ sh. BreaksIn sh (moment_of s) (copy_program n.config.page_bytes s.image to.0 from.0)
            (moment_of s')) h.keeps.carries.shape torn.1);
        reads = torn.2 ∙ ap counted h.reads ∙ counted_times-then used 1 s0.reads
            ∙ ap (λ k. counted_times (k + 1) s0.reads) h.count;
      })

-- a collection of which the spare was made blank
module _ (p : Protocol) (loss : LossLaw p) (s0 : FlashState) (n0 : IndexState) (t : BlocksState) (u0 : Unsure)
    (rule : n0.config.protocol ≡ p)
    (m : Matches s0 n0 t u0)
    (s1 : FlashState) (n1 : IndexState) (t1 : BlocksState) (block : ℕ) (noted : n1 ≡ erased n0 t.spare) (table : t1 ≡ t)
    (apart : block ≢ t.spare)
    (shape1 : s1.shape ≡ s0.shape) (cleans : Does s0.shape (moment_of s0) (cleaning n0 s0.image t.spare) (moment_of s1))
    (unread : s1.reads ≡ s0.reads) where
  -- its copies are those that follow on making the spare blank
  follows : (first rest : List ℕ) (now : Moment) (n2 : IndexState) →
      CopiedFirst n1 s1 [] t1.spare block first rest now n2 →
      CopiedFirst (erased n0 t.spare) s0 (cleaning n0 s0.image t.spare) t.spare block first rest now n2
  follows first rest now n2 c =
      let order : needed_slots (erased n0 t.spare) block ≡ first ++ rest =
      subst (λ (k : IndexState). needed_slots k block ≡ first ++ rest) noted c.order in
      record {
        order = order;
        done = copies_follow p loss s0 n0 t u0 rule m s1 n1 t1 block noted table apart shape1 cleans first
            (λ k i. subst (λ l. Contains l k) (sym order) (Contains-append_left first rest k i)) now c.done;
        noted = subst (λ (k : BlocksState). n2 ≡ copied_from (erased n0 t.spare)
            (k.spare * n0.config.pages_per_block) first) table
            (subst (λ (k : IndexState). n2 ≡ copied_from k (t1.spare * k.config.pages_per_block) first) noted c.noted);
      }

  pub copies_broke : s1.live ≡ s0.live → (s2 : FlashState) (n2 : IndexState) (u2 : Unsure) →
      CopiesBreakOff n1 s1 s2 [] t1.spare block n2 u2 →
      BreaksOff n0 s0 s2 t.spare block n2 u2
  copies_broke lives s2 n2 unsure.Nothing b = record {
    first = b.first;
    from = b.from;
    later = b.later;
    copied = follows b.first (b.from ∷ b.later) (moment_of s2) n2 b.copied;
    reads = λ live. b.reads (lives ∙ live) ∙ ap (counted_times (length b.first + 1)) unread;
  }
  copies_broke lives s2 n2 (unsure.Copy from to) b =
      let copied = follows b.first (from.0 ∷ b.later) b.between n2 b.copied in
      let same = same_slots p loss s0 n0 t u0 rule m s1 n1 t1 block noted table apart shape1 cleans from.0
      (subst (λ l. Contains l from.0) (sym copied.order) (Contains-append_right b.first (from.0 ∷ b.later) from.0
      (Contains-first from.0 b.later))) in
      record {
        first = b.first;
        later = b.later;
        between = b.between;
        copied = copied;
        place = subst (λ (k : BlocksState). to.0 ≡ k.spare * n0.config.pages_per_block + length b.first) table
            (subst (λ (k : IndexState). to.0 ≡ t1.spare * k.config.pages_per_block + length b.first) noted b.place);
        torn = subst (λ sh. BreaksIn sh b.between (copy_program n0.config.page_bytes s0.image to.0 from.0)
            (moment_of s2)) shape1
            (subst (λ c. BreaksIn s1.shape b.between (program to.0 (page_of n0.config.page_bytes c) (spare_area_of c))
            (moment_of s2)) same
            (subst (λ (k : IndexState). BreaksIn s1.shape b.between
            (copy_program k.config.page_bytes s1.image to.0 from.0) (moment_of s2)) noted b.torn));
        reads = b.reads ∙ ap (counted_times (length b.first + 1)) unread;
      }
  copies_broke lives s2 n2 (unsure.Own at rec) b = absurd b
  copies_broke lives s2 n2 unsure.SpareErase b = absurd b
  copies_broke lives s2 n2 (unsure.VictimErase at) b = absurd b

  -- the erase of the block broke off
  module _ (s2 s3 : FlashState) (n2 : IndexState) (used : ℕ) (shape2 : s2.shape ≡ s0.shape)
      (copied : CopiesDone n1 n2 s1 s2 t1.spare block used) (its : Block) (its_is : its.0 ≡ block) (n3 : IndexState)
      (u3 : Unsure) where
    pub victim_broke : Torn s2.shape (moment_of s2) (erase block) (moment_of s3) →
        (s0.live ≡ true → s3.started ≡ counted s2.started) → s3.reads ≡ s2.reads →
        u3 ≡ unsure.VictimErase its → n3 ≡ n2 →
        BreaksOff n0 s0 s3 t.spare block n3 u3
    victim_broke torn started unread_still place stays =
        subst (BreaksOff n0 s0 s3 t.spare block n3) (sym place) (
          its_is,
          record {
            between = moment_of s2;
            copied = record {
              order = sym (append-nil (needed_slots (erased n0 t.spare) block));
              done = all_copied p loss s0 n0 t u0 rule m s1 n1 t1 block noted table apart shape1 cleans s2
                  n2 used copied;
              noted = stays
                  ∙ subst (λ (k : BlocksState). n2 ≡ copied_from (erased n0 t.spare)
                  (k.spare * n0.config.pages_per_block)
                  (needed_slots (erased n0 t.spare) block)) table
                  (subst (λ (k : IndexState). n2 ≡ copied_from k (t1.spare * k.config.pages_per_block)
                  (needed_slots k block)) noted copied.noted);
            };
            torn = subst (λ sh. Torn sh (moment_of s2) (erase block) (moment_of s3)) shape2 torn;
            started = started;
            reads = unread_still ∙ copied.reads ∙ ap (counted_times used) unread
                ∙ ap (λ k. counted_times k s0.reads) (copied.count
                ∙ ap (λ (k : IndexState). length (needed_slots k block)) noted);
          },
        )
