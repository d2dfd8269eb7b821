-- The homes of the records of a block are refreshed one slot after the other, and the tables after another spare is
-- chosen.
use Rattle.slot_tables.proofs.Common.{◌≡◌, ◌≢◌, ℕ, ◌+◌, ◌*◌, ◌<◌, ◌≤◌, ◌⊎◌, Bool, inl, inr, Option, Some, List, length, refl, sym, ◌∙◌, ap, arith, IfSome, option_and_then, cases_eq, Holds, TablesState, use_at, number_in, home, is_needed, LiveSlotsState, is_marked, IsRefreshedFrom}
use Rattle.list_lemmas.proofs.Ranges.{range_bounds}
use Rattle.slot_tables.specs.TablesState.{home_in}
use Rattle.slot_tables.specs.BaseTables.{block_refreshed}
use Rattle.slot_tables.proofs.OfLiveSlots.Needing.{home_lies, moved_at, moved_long, moved_or}

-- the slots of a block from the first one up to another are refreshed
pub record AreRefreshed (k : TablesState) (older : Option ℕ) (from upto : ℕ) (old new : LiveSlotsState) : Type 0 where
  pub size : new ≡ record old { needed = new.needed }
  pub slots : length new.needed ≡ length old.needed
  pub homes : (slot number s : ℕ) → from ≤ slot → slot < upto → use_at k.slots slot ≡ Holds number
      → home_in k.shape older k.slots number ≢ home k number
      → (home k number ≡ Some s) ⊎ (home_in k.shape older k.slots number ≡ Some s) →
      is_marked new.needed s ≡ is_needed k s
  pub others : (s : ℕ) → (is_marked new.needed s ≡ is_marked old.needed s) ⊎ (is_marked new.needed s ≡ is_needed k s)

pub none_refreshed : (k : TablesState) (older : Option ℕ) (from : ℕ) (n : LiveSlotsState) →
    AreRefreshed k older from from n n
none_refreshed k older from n = record {
  size = refl;
  slots = refl;
  homes = λ slot number s low high is moved. absurd (omega arith);
  others = λ s. inl refl;
}

module _ (k : TablesState) (older : Option ℕ) (from at : ℕ) (old new : LiveSlotsState)
    (h : AreRefreshed k older from at old new)
    (long : length old.needed ≡ length k.slots) where
  abbrev held : Option ℕ
  held = number_in (use_at k.slots at)

  abbrev before : Option ℕ
  before = option_and_then (home_in k.shape older k.slots) held

  abbrev after : Option ℕ
  after = option_and_then (home k) held

  abbrev second : List Bool
  second = block_refreshed k older new.needed held

  lies : IfSome before (λ s. s < length new.needed)
  lies = rw (h.slots, long) (home_lies (record k { spare = older }) held)

  lies_too : IfSome after (λ s. s < length new.needed)
  lies_too = rw (h.slots, long) (home_lies k held)

  pub more_refreshed : AreRefreshed k older from (at + 1) old (record new { needed = second })
  more_refreshed = record {
    size = ap {A = LiveSlotsState} (λ n. record n { needed = second }) h.size;
    slots = moved_long k new.needed before after ∙ h.slots;
    homes = λ slot number s low high is moved home_is. elim (cases_eq slot at) [
      | inl here ↦
          let its : held ≡ Some number = ap number_in (rw here at is) in
          moved_at k new.needed before after s lies lies_too
          (λ same. absurd (moved (sym (ap (option_and_then (home_in k.shape older k.slots)) its) ∙ same
          ∙ ap (option_and_then (home k)) its)))
          (λ off_old off. absurd (elim home_is [
            | inl e ↦ off (ap (option_and_then (home k)) its ∙ e)
            | inr e ↦ off_old (ap (option_and_then (home_in k.shape older k.slots)) its ∙ e)
          ]))
      | inr other ↦
          moved_at k new.needed before after s lies lies_too
          (λ same. h.homes slot number s low (omega arith) is moved home_is)
          (λ off_old off. h.homes slot number s low (omega arith) is moved home_is)
    ];
    others = λ s. elim (moved_or k new.needed before after s lies lies_too) [
      | inr right ↦ inr right
      | inl same ↦ elim (h.others s) [ inl still ↦ inl (same ∙ still) | inr right ↦ inr (same ∙ right) ]
    ];
  }

pub all_refreshed : (k : TablesState) (older : Option ℕ) (block : ℕ) (old new : LiveSlotsState)
    → AreRefreshed k older (block * k.shape.pages_per_block) (block * k.shape.pages_per_block + k.shape.pages_per_block)
    old new
    → IsRefreshedFrom k older block old new
all_refreshed k older block old new h = record {
  size = h.size;
  slots = h.slots;
  homes = λ s is.
      let inside = range_bounds (block * k.shape.pages_per_block) k.shape.pages_per_block is.slot is.within in
      h.homes is.slot is.number s inside.0 inside.1 is.holds is.moved is.home;
  others = h.others;
}
