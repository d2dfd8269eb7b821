-- Making the spare blank: where it is blank already, and by an erase.
use Rattle.collector.proofs.Common.{◌≡◌, ℕ, ◌+◌, ◌*◌, ◌<◌, ◌≤◌, true, false, [], ◌∷◌, length, Option, Some, None, Ok, Err, refl, sym, ap, ◌∙◌, subst, inl, inr, arith, option_map_or, cases_lt, cond-true, cond-false, ext_get_or, all_range, shape_of, slots_of, blocks_of, Protocol, Rec, Broken, FlashState, Contents, blank, damaged, complete, slot_at, Erases, moment_of, erase, CanDo, Does, same_done, operation_started, block_within, record_of, LossLaw, WrittenLossLaw, Blank, Damaged, Holds, note_at, note_of, with_block_noted, IndexState, erased, is_blank, block_noted, BlocksState, Unsure, Cleans, Matches, is_blank_slot, is_blank_block, is_noted_blank, cleaning, KeepsArray, KeepsStore, StoreParts, store_parts}
use Rattle.list_lemmas.proofs.Ranges.{range_same}
use Rattle.flash_model.specs.Operations.{after}
use Rattle.collector.specs.declared.unsure.Unsure.TheVariants as unsure
use Rattle.collector.specs.StoreParts.{IsSure}
use Rattle.collector.proofs.OfNotes.Calm.{noted_as_read}
use Rattle.collector.proofs.OfCollect.Chains.{HasNoNewRecord-nothing}
use Rattle.collector.proofs.OfCollect.CollectedNotes.{erased_no_new}
use Rattle.collector.proofs.OfErase.EraseExits.{spare_erased, spare_torn, array_erased, left_torn}
use Rattle.collector.proofs.OfErase.Emptying.{Empties, erases_empties}
use Rattle.collector.proofs.OfNotes.Keeping.{preserves_same}
use Rattle.collector.proofs.OfNotes.KeepsLemmas.{keeps_same, keeps_erase}
use Rattle.collector.proofs.OfNotes.Losing.{preserves, can_be_lost}
use Rattle.collector.proofs.OfNotes.NotesLeft.{note_at-in, note_at-out, length-noted}
use Rattle.collector.proofs.OfClean.BlankNotes.{noted_blank}

-- a slot that is noted as it reads is noted blank exactly where it is
blank_as_noted : (p : Protocol) (contents : Contents) → is_blank (note_of p contents) ≡ is_blank_slot contents
blank_as_noted p blank = refl
blank_as_noted p damaged = refl
blank_as_noted p (complete bytes spare) = never (record_of p spare)
  where
    never : (o : Option Rec) → is_blank (option_map_or Holds o Damaged) ≡ false
    never None = refl
    never (Some rec) = refl

module _ (s : FlashState) (n : IndexState) (t : BlocksState) (u : Unsure) (nothing : u ≡ unsure.Nothing)
    (matches : Matches s n t u) where
  m : Matches s n t unsure.Nothing
  m = subst (Matches s n t) nothing matches

  below : t.spare < blocks_of (shape_of n.config)
  below = omega (arith, m.table.spare_within, ap blocks_of m.blocks, ap blocks_of m.shape)

  fits : t.spare * n.config.pages_per_block + n.config.pages_per_block ≤ slots_of (shape_of n.config)
  fits = block_within (shape_of n.config) t.spare below

  -- the spare reads blank exactly where it is noted so
  pub blank_as_read : is_blank_block n s.image t.spare ≡ is_noted_blank n t.spare
  blank_as_read =
      range_same (λ slot. is_blank_slot (slot_at s.image slot)) (λ slot. is_blank (note_at n.notes slot))
      (t.spare * n.config.pages_per_block)
      n.config.pages_per_block
      (λ k low high.
      sym (ap is_blank (noted_as_read s n t m k (omega (arith, high, fits, ap slots_of m.shape)))
      ∙ blank_as_noted n.config.protocol (slot_at s.image k)))

  -- where it is noted blank nothing is done
  pub cleaned_already : is_noted_blank n t.spare ≡ true →
      Does s.shape (moment_of s) (cleaning n s.image t.spare) (moment_of s)
  cleaned_already e =
      subst (λ l. Does s.shape (moment_of s) l (moment_of s))
      (sym (cond-true (is_blank_block n s.image t.spare) [] (erase t.spare ∷ []) (blank_as_read ∙ e))) refl

  -- and what is noted is what would be noted after an erase
  pub blank_is_erased : is_noted_blank n t.spare ≡ true → n ≡ erased n t.spare
  blank_is_erased e =
      let some : 0 < n.config.pages_per_block = (let b = m.noted.bounds.shape.pages_least in omega arith) in
      let sh = shape_of n.config in
      let notes' = with_block_noted sh n.notes t.spare Blank in
      let each : (k : ℕ) → k < length n.notes → note_at n.notes k ≡ note_at notes' k =
      λ k within. elim (cases_lt k (t.spare * n.config.pages_per_block)) [
        | inl before ↦ sym (note_at-out sh some n.notes m.noted.slots t.spare below Blank k (inl before))
        | inr from ↦ elim (cases_lt k (t.spare * n.config.pages_per_block + n.config.pages_per_block)) [
          | inl to ↦ noted_blank (note_at n.notes k)
              (all_range (λ slot. is_blank (note_at n.notes slot)) (t.spare * n.config.pages_per_block)
              n.config.pages_per_block e k from to)
              ∙ sym (note_at-in sh some n.notes m.noted.slots t.spare below Blank k from to)
          | inr behind ↦ sym (note_at-out sh some n.notes m.noted.slots t.spare below Blank k (inr behind))
        ]
      ] in
      ap (λ notes. record n { notes = notes }) (ext_get_or Blank n.notes notes'
      (sym (length-noted sh some n.notes m.noted.slots t.spare below Blank)) each)

-- the call
module _ (p : Protocol) (loss : LossLaw p) (written_loss : WrittenLossLaw p) (a : StoreParts) (k : IsSure p a) where
  matches : Matches a.flash a.noted a.table unsure.Nothing
  matches = subst (Matches a.flash a.noted a.table) k.nothing k.matches

  spare_below : a.table.spare < blocks_of (shape_of a.noted.config)
  spare_below = omega (arith, matches.table.spare_within, ap blocks_of matches.blocks, ap blocks_of matches.shape)

  law : LossLaw a.noted.config.protocol
  law = subst LossLaw (sym k.rule) loss

  written_law : WrittenLossLaw a.noted.config.protocol
  written_law = subst WrittenLossLaw (sym k.rule) written_loss

  at_rule : (s' : FlashState) → KeepsArray a.noted.config.protocol a.noted.config.logical a.flash.image s'.image →
      KeepsArray p a.noted.config.logical a.flash.image s'.image
  at_rule s' = subst (λ q. KeepsArray q a.noted.config.logical a.flash.image s'.image) k.rule

  -- where the spare is noted blank nothing is done
  pub cleans_blank : is_noted_blank a.noted a.table.spare ≡ true → Cleans p a a (Ok tt)
  cleans_blank blanks = record {
    keeps = keeps_same p a k;
    done = cleaned_already a.flash a.noted a.table a.unsure k.nothing k.matches blanks;
    noted = blank_is_erased a.flash a.noted a.table a.unsure k.nothing k.matches blanks;
    broken = tt;
    torn = tt;
    blocks = refl;
    reads = refl;
    programs = refl;
    erases = omega arith;
  }

  some : 0 < a.noted.config.pages_per_block
  some = (let b = matches.noted.bounds.shape.pages_least in omega arith)

  -- what is kept where the spare was made blank
  pub spare_emptied : (s' : FlashState) → Empties a.flash s' a.table.spare (Ok tt) →
      KeepsStore p a (store_parts s' (erased a.noted a.table.spare) a.table a.unsure) false
  spare_emptied s' done = record {
    matches = subst (Matches s' (erased a.noted a.table.spare) a.table) (sym k.nothing)
        (spare_erased a.flash s' a.noted a.table matches law written_law done
        (block_noted a.noted.config.protocol a.noted matches.noted law a.table.spare Blank refl spare_below
        (can_be_lost a.noted a.table.spare matches.spared)));
    preserves = preserves a.noted matches.noted law a.table.spare spare_below matches.spared Blank refl;
    array = at_rule s' (array_erased a.flash s' a.noted a.table matches law written_law a.table.spare spare_below
        matches.spared done.shape done.done);
    sure = k.nothing;
    others = λ at rec own. (let e = sym k.nothing ∙ own in cc);
    records = erased_no_new a.noted some matches.noted.slots a.table.spare spare_below;
  }

  -- and where that was broken
  pub spare_left : (s' : FlashState) (x : Broken) → Empties a.flash s' a.table.spare (Err x) →
      KeepsStore p a (store_parts s' a.noted a.table unsure.SpareErase) true
  spare_left s' x broken = record {
    matches = spare_torn a.flash s' a.noted a.table matches law written_law x broken;
    preserves = preserves_same a.noted;
    array = at_rule s'
        (left_torn a.flash s' a.noted a.table matches law written_law a.table.spare spare_below matches.spared
        broken.shape broken.torn.0 broken.torn.1).array;
    sure = tt;
    others = λ at rec own. (let e = own in cc);
    records = HasNoNewRecord-nothing a.noted;
  }

  -- else it is erased
  module _ (fail : is_noted_blank a.noted a.table.spare ≡ false) (s' : FlashState) where
    its_cleaning : cleaning a.noted a.flash.image a.table.spare ≡ erase a.table.spare ∷ []
    its_cleaning =
        cond-false (is_blank_block a.noted a.flash.image a.table.spare) [] (erase a.table.spare ∷ [])
        (blank_as_read a.flash a.noted a.table a.unsure k.nothing k.matches ∙ fail)

    can : CanDo a.flash.shape a.flash.image (erase a.table.spare)
    can = omega (arith, spare_below, ap blocks_of matches.shape)

    pub cleans_erased : (x : Unit {0}) → Erases a.flash s' a.table.spare (Ok x) →
        Cleans p a (store_parts s' (erased a.noted a.table.spare) a.table a.unsure)
        (Ok tt)
    cleans_erased x e = record {
      keeps = keeps_erase p a (store_parts s' (erased a.noted a.table.spare) a.table a.unsure) k a.table.spare can
          matches.spared (Ok x) e (spare_emptied s' (erases_empties a.flash s' a.table.spare (Ok tt) e));
      done = subst (λ l. Does a.flash.shape (moment_of a.flash) l (moment_of s')) (sym its_cleaning) (
        can,
        same_done a.flash s' (erase a.table.spare) x e,
      );
      noted = refl;
      broken = tt;
      torn = tt;
      blocks = refl;
      reads = e.reads;
      programs = e.done.programs;
      erases = omega (arith, e.done.erases);
    }

    pub cleans_torn : (x : Broken) → Erases a.flash s' a.table.spare (Err x) →
        Cleans p a (store_parts s' a.noted a.table unsure.SpareErase) (Err x)
    cleans_torn x e = record {
      keeps = keeps_erase p a (store_parts s' a.noted a.table unsure.SpareErase) k a.table.spare can matches.spared
          (Err x) e (spare_left s' x (erases_empties a.flash s' a.table.spare (Err x) e));
      done = tt;
      noted = tt;
      broken = record {
        first = its_cleaning;
        torn = e.torn;
        started = λ on. operation_started a.flash s' (erase a.table.spare) (Err x) on e;
        reads = e.reads;
      };
      torn = (refl, refl);
      blocks = refl;
      reads = e.reads;
      programs = e.torn.programs;
      erases = omega (arith, e.torn.erases);
    }
