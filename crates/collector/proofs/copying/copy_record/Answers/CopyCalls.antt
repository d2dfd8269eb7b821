-- A copy as two calls: the read of its source, and its program.
use Rattle.collector.proofs.Common.{◌≡◌, ◌≢◌, ℕ, ◌+◌, ◌*◌, ◌/◌, ◌<◌, true, false, if◌then◌else◌, set, List, [], ◌∷◌, Ok, Err, Result, refl, sym, ap, ◌∙◌, subst, inl, inr, arith, is_err, shape_of, slots_of, blocks_of, Protocol, Shape, Slot, Rec, Broken, Seen, FlashState, Contents, blank, damaged, complete, slot_at, Reads, Programs, spare_area_of, BreaksIn, program, moment_of, CanDo, Does, Carries-then, same_moments, same_read, operation_started, FlashMoves-operates, block_within, CopyLaw, Note, Blank, Damaged, Holds, note_at, note_of, rec_of, IndexState, IsNoted, copied, inside_block, BlocksState, CopiesRecord, Matches, IsNextOfSpare, KeepsArray, copy_program, StoreParts, store_parts}
use Rattle.std.specs.Prelude.{IsSome}
use Rattle.flash_model.specs.Flash.{IsWhole, counted}
use Rattle.flash_model.specs.Calls.{Shows, page_of}
use Rattle.flash_model.specs.Operations.{after, CanProgram}
use Rattle.flash_model.specs.Moves.{FlashMoves}
use Rattle.flash_model.proofs.MoveLemmas.{FlashMoves-reads, FlashMoves-then}
use Rattle.record_list.specs.WrittenChanges.{WrittenCopyLaw}
use Rattle.judged_records.proofs.OfChanges.NotedChanges.{copied_noted}
use Rattle.collector.specs.declared.unsure.Unsure.TheVariants as unsure
use Rattle.collector.specs.Calls.{CanCopy}
use Rattle.collector.specs.StoreParts.{IsSure}
use Rattle.collector.proofs.OfNotes.Calm.{noted_as_read}
use Rattle.collector.proofs.OfCollect.Chains.{HasNoNewRecord-nothing}
use Rattle.collector.proofs.OfCollect.CollectedNotes.{copied_no_new}
use Rattle.collector.proofs.OfCopies.CopyNotes.{copy_preserves}
use Rattle.collector.proofs.OfCopies.CopyExits.{blank_noted, copy_done, copy_torn, left_done, left_torn}
use Rattle.collector.proofs.OfNotes.Keeping.{preserves_same, keeps_array_same}
use Rattle.collector.proofs.OfNotes.KeepsLemmas.{keeps_copy, keeps_copy_torn, keeps_unread}
use Rattle.collector.proofs.OfSettle.SettledExits.{matches_still}

-- a slot that is noted with a record is complete
pub record IsComplete (contents : Contents) : Type 0 where
  pub bytes : List ℕ
  pub spare : List ℕ
  pub is : contents ≡ complete bytes spare

holds_complete : (p : Protocol) (contents : Contents) (rec : Rec) → note_of p contents ≡ Holds rec → IsComplete contents
holds_complete p blank rec e = absurd (let k = e in cc)
holds_complete p damaged rec e = absurd (let k = e in cc)
holds_complete p (complete bytes spare) rec e = record { bytes = bytes; spare = spare; is = refl }

-- the record that is noted
record HasNoted (note : Note) : Type 0 where
  pub rec : Rec
  pub is : note ≡ Holds rec

has_noted : (note : Note) → IsSome (rec_of note) → HasNoted note
has_noted Blank h = absurd (let k = h in cc)
has_noted Damaged h = absurd (let k = h in cc)
has_noted (Holds rec) h = record { rec = rec; is = refl }

-- what a read of such a slot gives
shown : (size : ℕ) (contents : Contents) (how : Seen) (bytes spare : List ℕ) → IsComplete contents →
    Shows size contents how bytes spare →
    contents ≡ complete bytes spare
shown size contents how bytes spare c s =
    c.is
    ∙ ap (λ b. complete b c.spare) (sym (s.its_page ∙ ap (page_of size) c.is))
    ∙ ap (λ x. complete bytes x) (sym (s.its_spare_area ∙ ap spare_area_of c.is))

module _ (p : Protocol) (copy : CopyLaw p) (written_copy : WrittenCopyLaw p) (a : StoreParts) (k : IsSure p a)
    (from to : Slot)
    (asked : CanCopy a.noted a.table from.0 to.0)
    (s1 : FlashState) (bytes spare : List ℕ) (how : Seen) (done : Reads a.flash s1 from.0 bytes spare (Ok how)) where
  abbrev s : FlashState
  s = a.flash

  abbrev n : IndexState
  n = a.noted

  abbrev t : BlocksState
  t = a.table

  abbrev some : IsSome (rec_of (note_at n.notes from.0))
  some = asked.source

  abbrev exists : from.0 < slots_of (shape_of n.config)
  exists = asked.exists

  abbrev next : IsNextOfSpare n t.spare to.0
  next = asked.next

  m : Matches s n t unsure.Nothing
  m = subst (Matches s n t) k.nothing k.matches

  shape_same : s1.shape ≡ s.shape
  shape_same = done.carries.shape

  m1 : Matches s1 n t unsure.Nothing
  m1 = matches_still s s1 n t unsure.Nothing shape_same done.image m

  law : CopyLaw n.config.protocol
  law = subst CopyLaw (sym k.rule) copy

  written_law : WrittenCopyLaw n.config.protocol
  written_law = subst WrittenCopyLaw (sym k.rule) written_copy

  noted : HasNoted (note_at n.notes from.0)
  noted = has_noted (note_at n.notes from.0) some

  whole : IsComplete (slot_at s.image from.0)
  whole = holds_complete n.config.protocol (slot_at s.image from.0) noted.rec
      (sym (noted_as_read s n t m from.0 (omega (arith, exists, ap slots_of m.shape))) ∙ noted.is)

  source : slot_at s.image from.0 ≡ complete bytes spare
  source = shown s.shape.page_bytes (slot_at s.image from.0) how bytes spare whole done.done

  source1 : slot_at s1.image from.0 ≡ complete bytes spare
  source1 = ap (λ i. slot_at i from.0) done.image ∙ source

  sizes : IsWhole s1.shape.page_bytes (complete bytes spare)
  sizes = subst (IsWhole s1.shape.page_bytes) source1
      (m1.flash.whole from.0 blank (omega (arith, exists, m1.flash.slots, ap slots_of m1.shape)))

  same_per : s1.shape.pages_per_block ≡ n.config.pages_per_block
  same_per = ap (λ (x : Shape). x.pages_per_block) m1.shape

  below : t.spare < blocks_of (shape_of n.config)
  below = omega (arith, m.table.spare_within, ap blocks_of m.blocks, ap blocks_of m.shape)

  pub can_program : CanProgram s1.shape s1.image to.0
  can_program = record {
    in_range = omega (arith, next.within, ap slots_of m1.shape);
    blank_on = λ k low high.
        let end : k < t.spare * n.config.pages_per_block + n.config.pages_per_block =
        subst (λ b. k < b * n.config.pages_per_block + n.config.pages_per_block) next.in_spare
        (subst (λ q. k < to.0 / q * q + q) same_per (let h = high in omega arith)) in
        blank_noted n.config.protocol (slot_at s1.image k)
        (sym (noted_as_read s1 n t m1 k (omega (
          arith,
          end,
          block_within (shape_of n.config) t.spare below,
          ap slots_of m1.shape,
        ))) ∙ next.blank_on k low end);
  }

  can : CanDo s1.shape s1.image (program to.0 bytes spare)
  can = (can_program, sizes.0, sizes.1)

  was : note_at n.notes to.0 ≡ Blank
  was =
      let some_slots : 0 < n.config.pages_per_block = (let b = m.noted.bounds.shape.pages_least in omega arith) in
      next.blank_on to.0 (omega arith) (inside_block n.config.pages_per_block t.spare to.0 some_slots next.in_spare).1

  to_apart : from.0 ≢ to.0
  to_apart e = (let k : Holds noted.rec ≡ Blank = sym noted.is ∙ ap (note_at n.notes) e ∙ was in cc)

  at_rule : (s2 : FlashState) → KeepsArray n.config.protocol n.config.logical s1.image s2.image →
      KeepsArray p n.config.logical s.image s2.image
  at_rule s2 h = subst (λ q. KeepsArray q n.config.logical s.image s2.image) k.rule
      (subst (λ i. KeepsArray n.config.protocol n.config.logical i s2.image) done.image h)

  moves : (s2 : FlashState) (r : Result (Unit {0}) Broken) → Programs s1 s2 to.0 bytes spare r →
      FlashMoves s s2 (is_err r)
  moves s2 r e = FlashMoves-then s s1 s2 (is_err r) shape_same
      (FlashMoves-reads s s1 from.0 bytes spare (Ok how) false done)
      (FlashMoves-operates s1 s2 (program to.0 bytes spare) r tt can e)

  asks : copy_program n.config.page_bytes s.image to.0 from.0 ≡ program to.0 bytes spare
  asks = ap (λ c. program to.0 (page_of n.config.page_bytes c) (spare_area_of c)) source

  reads_once : (s2 : FlashState) → s2.reads ≡ s1.reads → s2.reads ≡ counted s.reads
  reads_once s2 same = same ∙ done.reads ∙ ap (λ b. if b then counted s.reads else s.reads) done.powered

  noted' : IsNoted n.config.protocol (copied n from.0 to.0)
  noted' = copied_noted n.config.protocol n m.noted law from.0 to.0 some next.within was

  can0 : CanDo s.shape s.image (program to.0 bytes spare)
  can0 = subst (λ i. CanDo s.shape i (program to.0 bytes spare)) done.image
      (subst (λ sh. CanDo sh s1.image (program to.0 bytes spare)) shape_same can)

  pub copy_is_done : (s2 : FlashState) (x : Unit {0}) → Programs s1 s2 to.0 bytes spare (Ok x) →
      CopiesRecord p a (store_parts s2 (copied n from.0 to.0) t a.unsure) from to (Ok tt)
  copy_is_done s2 x e =
      let o = program to.0 bytes spare in
      let now : moment_of s2 ≡ after s.shape (moment_of s) o =
      same_moments (moment_of s2) (after s.shape (moment_of s) o)
      (e.done.image ∙ ap (λ i. set i to.0 (complete bytes spare)) done.image)
      (e.done.programs ∙ ap counted done.programs) (e.done.erases ∙ done.erases)
      (operation_started s1 s2 o (Ok x) e.powered e ∙ ap counted done.started) in
      record {
        keeps = keeps_copy p a (store_parts s2 (copied n from.0 to.0) t a.unsure) k to.0 bytes spare can0 (record {
          matches = subst (Matches s2 (copied n from.0 to.0) t) (sym k.nothing)
              (copy_done s1 s2 n t m1 written_law from to noted.rec bytes spare exists next.within next.in_spare
              noted.is was source1 can e.carries.shape e law
              noted');
          preserves = copy_preserves n m.noted law from.0 to.0 noted.rec noted.is (omega (arith, exists, m.noted.slots))
              (omega (arith, next.within, m.noted.slots)) was noted';
          array = at_rule s2
              (left_done s1 s2 n t m1 written_law from to noted.rec bytes spare exists next.within next.in_spare
              noted.is was source1 can e.carries.shape
              e.done.image).array;
          sure = k.nothing;
          others = λ at rec own. (let q = sym k.nothing ∙ own in cc);
          records = copied_no_new n to.0 (from.0 ∷ []);
        }) (moves s2 (Ok x) e) (Carries-then s s1 s2 false done.carries e.carries) now;
        done = record {
          programmed = subst (λ q. Does s.shape (moment_of s) (q ∷ []) (moment_of s2)) (sym asks) (can0, now);
          reads = reads_once s2 e.reads;
        };
        noted = refl;
        stays = tt;
        broken = tt;
        counts = tt;
      }

  broken_in : (s2 : FlashState) (x : Broken) → Programs s1 s2 to.0 bytes spare (Err x) →
      BreaksIn s.shape (moment_of s) (program to.0 bytes spare) (moment_of s2)
  broken_in s2 x e =
      subst (λ sh. BreaksIn sh (moment_of s) (program to.0 bytes spare) (moment_of s2)) shape_same
      (subst (λ q. BreaksIn s1.shape q (program to.0 bytes spare) (moment_of s2))
      (same_read s s1 from.0 bytes spare (Ok how) done) (
        e.torn,
        operation_started s1 s2 (program to.0 bytes spare) (Err x) (done.carries.lives ∙ done.powered) e,
      ))

  pub copy_breaks : (s2 : FlashState) (x : Broken) → Programs s1 s2 to.0 bytes spare (Err x) →
      CopiesRecord p a (store_parts s2 n t (unsure.Copy from to)) from to (Err x)
  copy_breaks s2 x e = record {
    keeps = keeps_copy_torn p a (store_parts s2 n t (unsure.Copy from to)) k to.0 bytes spare can0 (record {
      matches = copy_torn s1 s2 n t m1 written_law from to noted.rec bytes spare exists next.within next.in_spare
          noted.is was source1 can e.carries.shape x e
          to_apart;
      preserves = preserves_same n;
      array = at_rule s2
          (left_torn s1 s2 n t m1 written_law from to noted.rec bytes spare exists next.within next.in_spare noted.is
          was source1 can e.carries.shape
          e.torn.left.0 e.torn.left.1).array;
      sure = tt;
      others = λ at rec own. (let q = own in cc);
      records = HasNoNewRecord-nothing n;
    }) (moves s2 (Err x) e) (Carries-then s s1 s2 true done.carries e.carries) (broken_in s2 x e);
    done = tt;
    noted = tt;
    stays = refl;
    broken = inr (
      refl,
      subst (λ o. BreaksIn s.shape (moment_of s) o (moment_of s2)) (sym asks) (broken_in s2 x e),
      reads_once s2 e.reads,
    );
    counts = (e.torn.programs ∙ done.programs, e.torn.erases ∙ done.erases);
  }

-- the read of the source failed
pub copy_unread : (p : Protocol) (a : StoreParts) → IsSure p a → (from to : Slot) (s1 : FlashState)
    (bytes spare : List ℕ) (x y : Broken) →
    Reads a.flash s1 from.0 bytes spare (Err x) → CopiesRecord p a (store_parts s1 a.noted a.table a.unsure)
    from to (Err y)
copy_unread p a k from to s1 bytes spare x y e =
    let still = same_read a.flash s1 from.0 bytes spare (Err x) e in
    record {
      keeps = keeps_unread p a (store_parts s1 a.noted a.table a.unsure) k (record {
        matches = matches_still a.flash s1 a.noted a.table a.unsure e.carries.shape e.image k.matches;
        preserves = preserves_same a.noted;
        array = keeps_array_same p a.noted.config.logical a.flash.image s1.image e.image;
        sure = tt;
        others = λ at rec own. (let q = sym k.nothing ∙ own in cc);
        records = HasNoNewRecord-nothing a.noted;
      }) (FlashMoves-reads a.flash s1 from.0 bytes spare (Err x) true e) e.carries still;
      done = tt;
      noted = tt;
      stays = refl;
      broken = inl (
        k.nothing,
        still,
        λ live. e.reads ∙ ap (λ b. if b then counted a.flash.reads
            else a.flash.reads) live,
      );
      counts = (e.programs, e.erases);
    }
