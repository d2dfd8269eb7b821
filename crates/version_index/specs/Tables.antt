-- How the tables keep what was noted.
use Rattle.std.specs.Prelude.{◌≡◌, ℕ, length, map, List, Option, Some, None, Bool, false}
use Rattle.std.specs.Option.{option_map_or}
use Rattle.tx_types.specs.Config.{shape_of}
use Rattle.tx_types.specs.declared.config.Config.{Config}
use Rattle.tx_types.specs.declared.config.Protocol.{Protocol}
use Rattle.tx_types.specs.declared.record.Rec.{Rec}
use Rattle.record_list.specs.Records.{name_of}
use Rattle.slot_tables.specs.declared.slots.SlotUse.{SlotUse}
use Rattle.slot_tables.specs.declared.slots.SlotUse.TheVariants as slot
use Rattle.slot_tables.specs.TablesState.{TablesState, use_at}
use Rattle.judged_records.specs.declared.note.Note.{Note}
use Rattle.judged_records.specs.declared.note.Note.TheVariants as note
use Rattle.judged_records.specs.IndexState.{IndexState, IsNoted}
use Rattle.judged_records.specs.DerivedChanges.{derived_of}
use Rattle.judged_records.specs.Numbered.{Numbered, rec_at, number_at, AreDerived}
use Rattle.version_index.specs.Written.{pages_written}
use Rattle.version_index.specs.declared.index.Index.TheInside.{Inside}

-- what is noted of a slot that is used so
abbrev pub note_in : List (Option Rec) → SlotUse → Note
note_in records slot.Blank = note.Blank
note_in records slot.Damaged = note.Damaged
note_in records (slot.Holds number) = option_map_or note.Holds (rec_at records number) note.Damaged

abbrev pub notes_in : TablesState → List Note
notes_in k = map (note_in k.records) k.slots

-- what is noted by tables, for a configuration and the mentions
abbrev pub noted_by : Config → List ℕ → TablesState → IndexState
noted_by its its_mentions k = record {
  config = its;
  notes = notes_in k;
  pins = k.pins;
  spare = k.spare;
  mentions = its_mentions;
  closed = k.closed;
}

abbrev pub noted_of : {R : Type 0} → Inside R → IndexState
noted_of d = noted_by d.config d.mentions.items d.tables

-- the version of the record of a number, 0 where there is none
abbrev pub version_at : TablesState → Option ℕ → ℕ
version_at k number = option_map_or (λ x. option_map_or (λ r. r.version) (rec_at k.records x) 0) number 0

-- whether the record of a number discards its page, which none does where there is none
abbrev pub discard_at : TablesState → Option ℕ → Bool
discard_at k number = option_map_or (λ x. option_map_or (λ r. r.discard) (rec_at k.records x) false) number false

abbrev pub numbered_of : TablesState → Numbered
numbered_of k = record {
  records = k.records;
  current = k.current;
  answerers = k.answerers;
  waits = k.waits;
}

-- Each slot that holds a number holds its record, each record of a number is in some slot, no two numbers
-- have records of one name, and a number without a record has no answerer and does not wait.
pub record AreHeld (k : TablesState) : Type 0 where
  pub held : (at x : ℕ) → use_at k.slots at ≡ slot.Holds x → (r : Rec) × (rec_at k.records x ≡ Some r)
  pub used : (x : ℕ) (r : Rec) → rec_at k.records x ≡ Some r → (at : ℕ) × (use_at k.slots at ≡ slot.Holds x)
  pub once : (x y : ℕ) (r s : Rec) → rec_at k.records x ≡ Some r → rec_at k.records y ≡ Some s →
      name_of r ≡ name_of s → x ≡ y
  pub unused : (x : ℕ) → rec_at k.records x ≡ None →
      (number_at k.answerers x ≡ None) × (number_at k.waits x ≡ None)

-- the tables have what was noted, and what is derived from it
pub record AreIndexed (protocol : Protocol) (its : Config) (its_mentions : List ℕ) (k : TablesState) : Type 0 where
  pub noted : IsNoted protocol (noted_by its its_mentions k)
  pub shape : k.shape ≡ shape_of its
  pub pages : length k.pages ≡ its.logical
  pub held : AreHeld k
  pub judged : AreDerived (numbered_of k) its.logical (derived_of (noted_by its its_mentions k))

-- and the pages that are not blank are counted
pub record IndexInvariant {R : Type 0} (protocol : Protocol) (d : Inside R) : Type 0 where
  pub indexed : AreIndexed protocol d.config d.mentions.items d.tables
  pub written : d.written ≡ pages_written d.tables
