-- A slot that is noted as a record reads as it, and so the record can be spelled.
use Rattle.collector.proofs.Common.{◌≡◌, ℕ, ◌<◌, List, Option, Some, None, refl, sym, ap, ◌∙◌, arith, option_map_or, shape_of, slots_of, Protocol, Rec, FlashState, Contents, blank, damaged, complete, slot_at, record_of, CanBeSpelled, Damaged, Holds, note_at, note_of, IndexState, BlocksState, Matches}
use Rattle.page_record.proofs.Spellings.{record_of-some}
use Rattle.collector.specs.declared.unsure.Unsure.TheVariants as unsure
use Rattle.collector.proofs.OfNotes.Calm.{noted_as_read}

-- contents that are noted as a record are complete, and their spare area reads as it
pub record ReadsAs (p : Protocol) (rec : Rec) (contents : Contents) : Type 0 where
  pub bytes : List ℕ
  pub spare : List ℕ
  pub is : contents ≡ complete bytes spare
  pub spells : record_of p spare ≡ Some rec

pub noted_record : (p : Protocol) (rec : Rec) (contents : Contents) → Holds rec ≡ note_of p contents →
    ReadsAs p rec contents
noted_record p rec blank e = cc
noted_record p rec damaged e = cc
noted_record p rec (complete bytes spare) e = record {
  bytes = bytes;
  spare = spare;
  is = refl;
  spells = by_record (record_of p spare) e;
}
  where
    by_record : (o : Option Rec) → Holds rec ≡ option_map_or Holds o Damaged → o ≡ Some rec
    by_record None h = cc
    by_record (Some r) h = ap Some (let same : r ≡ rec = cc in same)

-- where nothing is unsure, each noted record can be spelled
pub calm_spelled : (s : FlashState) (n : IndexState) (t : BlocksState) → Matches s n t unsure.Nothing → (slot : ℕ) →
    slot < slots_of (shape_of n.config) →
    (rec : Rec) → note_at n.notes slot ≡ Holds rec → CanBeSpelled n.config.protocol rec
calm_spelled s n t m slot within rec holds =
    let reads = noted_record n.config.protocol rec (slot_at s.image slot)
    (sym holds ∙ noted_as_read s n t m slot (omega (arith, within, ap slots_of m.shape))) in
    (record_of-some n.config.protocol reads.spare rec reads.spells).0
