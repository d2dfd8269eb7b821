-- A device as its callers see it, and when it stands for an array.
use Rattle.std.specs.Prelude.{◌≡◌, ◌≢◌, ◌↔◌, ℕ, ◌+◌, ◌<◌, ◌≤◌, ◌==◌, nat_lt, Bool, false, is_none, List, length, map, slice_get, All, AllPairs, Any, Contains, Some}
use Rattle.std.specs.List.{AllZip}
use Rattle.tx_types.specs.Batch.{PageWrite, bytes_in}
use Rattle.tx_types.specs.declared.config.Config.{Config}
use Rattle.tx_types.specs.declared.config.Slot.{Slot}
use Rattle.tx_types.specs.declared.record.Link.{Link}
use Rattle.tx_types.specs.declared.record.Rec.{Rec}
use Rattle.flash_model.specs.Flash.{FlashState, Contents, complete, slot_at}
use Rattle.record_list.specs.Records.{is_present, name_of}
use Rattle.record_list.specs.Transaction.{IsTransaction, InProgress, ShareNoPage}
use Rattle.record_list.specs.Written.{PageText, text_at}
use Rattle.judged_records.specs.Images.{written_in}
use Rattle.judged_records.specs.Notes.{found_in}
use Rattle.judged_records.specs.IndexState.{IndexState, IsNextRecord, current_of, pinned_names}
use Rattle.die_alloc.specs.BlocksState.{BlocksState}
use Rattle.collector.specs.declared.unsure.Unsure.{Unsure}
use Rattle.collector.specs.declared.unsure.Unsure.TheVariants as unsure
use Rattle.collector.specs.Known.{array_known}
use Rattle.collector.specs.Matches.{Matches}
use Rattle.array_machine.specs.ArrayState.{ArrayState, Entry, is_doubted, pending_pages}
use Rattle.array_machine.specs.declared.mark.Mark.{Mark}
use Rattle.array_machine.specs.declared.mark.Mark.TheVariants.{Plain, Doubt, Whole}
use Rattle.array_machine.specs.Submit.{Limits}
use Rattle.open_table.specs.OpenTransactionsState.{Naming, name_at, write_at}

-- A device: its flash, its configuration, the array machine that it stands for, the names of each open transaction in
-- the order of their opening, what is noted of its slots, what is kept of its blocks, and the place whose contents are
-- not known. One that is dropped met a fault that left more of its slots unknown: of its flash and tables nothing more
-- is said.
pub record DeviceState (F : Type 0) : Type 0 where
  pub flash : F
  pub config : Config
  pub machine : ArrayState
  pub namings : List Naming
  pub noted : IndexState
  pub table : BlocksState
  pub unsure : Unsure
  pub dropped : Bool

abbrev pub limits_of : Config → Limits
limits_of c = record { logical = c.logical; pending = c.pending }

-- what the record of a write says of its page, which has so many bytes
abbrev pub text_in : ℕ → PageWrite → PageText
text_in page_bytes w =
    record { discard = is_none w.value; bytes = bytes_in page_bytes w }

-- what a record says of its page with these bytes
abbrev pub text_with : Rec → List ℕ → PageText
text_with rec bytes = record { discard = rec.discard; bytes = bytes }

-- a transaction has a name for each page that it writes, and a page still to write
pub record IsNamed (page_bytes logical : ℕ) (e : Entry) (x : Naming) : Type 0 where
  pub pages : map (λ name. name.page) x.names ≡ map (λ w. w.page) e.writes
  pub within : e.done < length e.writes
  pub whole : All (λ w. length (bytes_in page_bytes w) ≡ page_bytes) e.writes
  pub transaction : IsTransaction logical x.names

-- Of a transaction that is not whole: it is in progress; its first names are noted, as many as were written or one
-- more, and the flash has their texts.
pub record IsUnderWay (image : List Contents) (n : IndexState) (e : Entry) (x : Naming) : Type 0 where
  pub in_progress : InProgress n.config.protocol (found_in n.notes) n.config.logical x.names
  pub least : e.done ≤ x.noted_count
  pub most : x.noted_count ≤ e.done + 1
  pub short : x.noted_count < length x.names
  pub noted : (k : ℕ) → k < length x.names →
      is_present (found_in n.notes) (name_at x k) ≡ nat_lt k x.noted_count
  pub texts : (k : ℕ) → k < x.noted_count →
      text_at (written_in n.config.protocol image) (name_at x k)
      ≡ Some (text_in n.config.page_bytes (write_at e k))

-- what is so of a transaction with this mark: one in doubt was writing its last page, and the names of a whole one are
-- current
abbrev pub IsAsMarked : List Contents → IndexState → Entry → Naming → Mark → Type 0
IsAsMarked image n e x Plain = IsUnderWay image n e x
IsAsMarked image n e x Doubt = IsUnderWay image n e x × (e.done + 1 ≡ length e.writes)
IsAsMarked image n e x Whole = All (λ name. current_of n name.page ≡ name.version) x.names

pub record IsOpenAs (image : List Contents) (n : IndexState) (e : Entry) (x : Naming) : Type 0 where
  pub named : IsNamed n.config.page_bytes n.config.logical e x
  pub marked : IsAsMarked image n e x e.mark

-- The record whose program was broken is the next one of an open transaction, which is in doubt exactly where it is its
-- last. Where the slot is complete it says of the page what the transaction does.
pub record IsOwn (image : List Contents) (n : IndexState) (entries : List Entry) (namings : List Naming)
    (at : Slot) (rec : Rec) : Type 0 where
  pub place : ℕ
  pub entry : Entry
  pub naming : Naming
  pub is_entry : slice_get entries place ≡ Some entry
  pub is_naming : slice_get namings place ≡ Some naming
  pub not_whole : entry.mark ≢ Whole
  pub written : naming.noted_count ≡ entry.done
  pub next : IsNextRecord n rec
  pub its : next.names ≡ naming.names
  pub named : name_of rec ≡ name_at naming entry.done
  pub text : (bytes spare : List ℕ) → slot_at image at.0 ≡ complete bytes spare →
      text_with rec bytes ≡ text_in n.config.page_bytes (write_at entry entry.done)
  pub doubt : is_doubted entry.mark ≡ (entry.done + 1 == length entry.writes)
  pub others : (k : ℕ) (e : Entry) → k ≢ place → slice_get entries k ≡ Some e →
      is_doubted e.mark ≡ false

-- which transaction is in doubt: at most one, whose last page was being programmed
abbrev pub DoubtsAs : List Contents → IndexState → List Entry → List Naming → Unsure → Type 0
DoubtsAs image n entries namings (unsure.Own at rec) = IsOwn image n entries namings at rec
DoubtsAs image n entries namings unsure.Nothing = All (λ e. is_doubted e.mark ≡ false) entries
DoubtsAs image n entries namings (unsure.Copy from to) =
    All (λ e. is_doubted e.mark ≡ false) entries
DoubtsAs image n entries namings unsure.SpareErase = All (λ e. is_doubted e.mark ≡ false) entries
DoubtsAs image n entries namings (unsure.VictimErase block) =
    All (λ e. is_doubted e.mark ≡ false) entries

-- A device stands for its array: its tables match its flash, the array is the one that is known of it, and each open
-- transaction is as it is marked. Their names, and no others, are pinned.
pub record Stands {F : Type 0} (state : F → FlashState) (s : DeviceState F) : Type 0 where
  pub matches : Matches (state s.flash) s.noted s.table s.unsure
  pub config : s.config ≡ s.noted.config
  pub array : s.machine.pages ≡ array_known s.noted (state s.flash).image
  pub each : AllZip (IsOpenAs (state s.flash).image s.noted) s.machine.entries s.namings
  pub doubt : DoubtsAs (state s.flash).image s.noted s.machine.entries s.namings s.unsure
  pub tags : AllPairs (λ a b. a.tag ≢ b.tag) s.machine.entries
  pub apart : AllPairs (λ a b. ShareNoPage a.names b.names) s.namings
  pub few : pending_pages s.machine.entries ≤ s.config.pending
  pub pinned : (name : Link) → Contains (pinned_names s.noted.pins) name ↔
      Any (λ x. Contains x.names name) s.namings
