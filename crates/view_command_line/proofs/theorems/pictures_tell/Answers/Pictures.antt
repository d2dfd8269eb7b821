-- What the picture of an image tells of the image.
use Rattle.std.proofs.Common.{◌≡◌, ◌↔◌, inl, inr, ℕ, Bool, true, false, List, Option, None, Some, Result, Ok, Err, Contains, IsTrue, codes, refl, sym, ap, ◌∙◌}
use Rattle.std.proofs.Common.{subst}
use Rattle.std.proofs.Math.ListN.{get_or-map}
use Rattle.std.proofs.lemmas.Bool.{cases_order}
use Rattle.tx_types.specs.declared.config.Block.{Block}
use Rattle.tx_types.specs.declared.config.Config.{Config}
use Rattle.tx_types.specs.declared.record.Rec.{Rec}
use Rattle.tx_types.specs.Config.{shape_of}
use Rattle.flash_model.specs.Flash.{Contents, Extras, blank}
use Rattle.record_list.specs.declared.found.Breach.{Breach}
use Rattle.record_list.specs.Current.{IsCurrent, IsLoose, IsStale, is_held}
use Rattle.judged_records.specs.Images.{IsLeastImageBreach, IsSoundImage, records_in}
use Rattle.judged_records.specs.Notes.{found_in, note_at, note_of, notes_of}
use Rattle.judged_records.specs.declared.note.Note.TheVariants as note
use Rattle.judged_records.proofs.OfLaws.NotedImages.{found_in_notes}
use Rattle.judged_records.proofs.OfNotes.OneBreach.{breach_one, sound_unbroken}
use Rattle.judged_records.specs.Opening.{IsChosenSpare, IsHighest}
use Rattle.image_file.specs.declared.error.ImageError.{ImageError}
use Rattle.image_file.specs.Rules.{reading}
use Rattle.desk_io.specs.Desk as found
use Rattle.desk_io.specs.Desk.{DeskState, FileFound}
use Rattle.flash_picture.specs.declared.marks.Marks.{Marks}
use Rattle.flash_picture.specs.Cells.{cell_at, cell_of, cell_words}
use Rattle.flash_picture.specs.declared.cell.Cell.{Cell}
use Rattle.flash_picture.specs.Picture.{cells_of}
use Rattle.flash_picture.proofs.Tells.{cell_tells, label_tells, words_tell}
use Rattle.view_command_line.specs.Request.{Request}
use Rattle.view_command_line.specs.Ending.{Ending, AfterLoad, AfterReading, Drawn, IsEnding, IsOpening, Refused, ending_of, marks_of}
use Rattle.flash_picture.specs.Laws.{IsNamed}
use Rattle.view_command_line.specs.Laws.{BareSlotTells, BreachTells, CellSays, HoldsRecord, RowsTell, SlotTells}
use Rattle.view_command_line.specs.declared.words.Form.{Form}
use Rattle.view_command_line.specs.declared.opening.Opening.{Opening}
use Rattle.view_command_line.specs.declared.opening.Opening.TheVariants as opening

-- ---- one block becomes the spare

one_highest : (P : ℕ → Type 0) (blocks a b : ℕ) → IsHighest P blocks a → IsHighest P blocks b → a ≡ b
one_highest P blocks a b h k = elim (cases_order a b) [
  | inl same ↦ same
  | inr (inl less) ↦ absurd (h.none_above b less k.exists k.holds)
  | inr (inr more) ↦ absurd (k.none_above a more h.exists h.holds)
]

one_spare : (its : Config) (image : List Contents) (a b : ℕ) → IsChosenSpare its image a →
    IsChosenSpare its image b → a ≡ b
one_spare its image a b (inl h) (inl k) = one_highest _ _ a b h k
one_spare its image a b (inl h) (inr k) = absurd (k.0 a h.exists h.holds)
one_spare its image a b (inr h) (inl k) = absurd (h.0 b k.exists k.holds)
one_spare its image a b (inr h) (inr k) = one_highest _ _ a b h.1 k.1

-- ---- the marks of a picture are those of an opening

abbrev IsOfOpening : Ending → Type 0
IsOfOpening (Drawn form its image marks) = (opened : Opening) × IsOpening its image opened × (marks ≡ marks_of opened)
IsOfOpening (Refused why) = Unit {0}

opened_so : (form : Form) (unsound : Bool) (its : Config) (image : List Contents) (opened : Opening) →
    IsOpening its image opened →
    IsOfOpening (ending_of form unsound its image opened)
opened_so form unsound its image (opening.Sound block) is = (opening.Sound block, is, refl)
opened_so form true its image (opening.Unsound breach) is = (opening.Unsound breach, is, refl)
opened_so form false its image (opening.Unsound breach) is = tt

read_so : (form : Form) (unsound : Bool) (read : Result (Config × List Contents × Extras) ImageError)
    (ending : Ending) → AfterReading form unsound read ending → IsOfOpening ending
read_so form unsound (Ok read) ending (opened, is, e) =
    subst IsOfOpening (sym e) (opened_so form unsound read.0 read.1 opened is)
read_so form unsound (Err rule) ending e = subst IsOfOpening (sym e) tt

loaded_so : (a : Request) (there : FileFound) (ending : Ending) → AfterLoad a there ending → IsOfOpening ending
loaded_so a found.Missing ending e = subst IsOfOpening (sym e) tt
loaded_so a found.TooLong ending e = subst IsOfOpening (sym e) tt
loaded_so a (found.Bytes bytes) ending h = read_so a.form a.unsound (reading bytes) ending h

drawn_so : (task : Option Request) (desk : DeskState) (ending : Ending) → IsEnding task desk ending → IsOfOpening ending
drawn_so None desk ending e = subst IsOfOpening (sym e) tt
drawn_so (Some a) desk ending (there, finds, h) = loaded_so a there ending h

-- ---- the rows

opening_rows : (its : Config) (image : List Contents) (opened : Opening) → IsOpening its image opened →
    IsSoundImage its.protocol its.logical (shape_of its) image → RowsTell its image (marks_of opened)
opening_rows its image (opening.Sound block) (_, chosen) sound = record {
  spare = block.0;
  chosen = chosen;
  one = λ other k. one_spare its image other block.0 k chosen;
  label = λ other. (
    λ says. subst (λ (n : ℕ). IsChosenSpare its image n)
        (marked other ((label_tells (marks_of (opening.Sound block)) other).0 says)) chosen,
    λ k. (label_tells (marks_of (opening.Sound block)) other).1
        (ap (λ n. Some (record { 0 = n })) (one_spare its image block.0 other chosen k)),
  );
  mark = λ slot says. unnamed slot ((words_tell its (notes_of its.protocol image) (marks_of (opening.Sound block))
      slot).mark.0 says);
}
  where
    unnamed : (slot : ℕ) → IsNamed None slot → ⊥
    unnamed slot (b, none, at) = cc

    marked : (other : ℕ) → Some block ≡ Some (record { 0 = other }) → block.0 ≡ other
    marked other e = ap (λ (o : Option Block). elim o [ Some b ↦ b.0 | None ↦ other ]) e
opening_rows its image (opening.Unsound breach) broken sound =
    absurd (sound_unbroken its.protocol its.logical (shape_of its) image breach sound broken)

pub rows_tell : (task : Option Request) (desk : DeskState) (form : Form) (its : Config) (image : List Contents)
    (marks : Marks) →
    IsEnding task desk (Drawn form its image marks) → IsSoundImage its.protocol its.logical (shape_of its) image →
    RowsTell its image marks
rows_tell task desk form its image marks ending sound =
    let drawn : IsOfOpening (Drawn form its image marks) = drawn_so task desk (Drawn form its image marks) ending in
    subst (λ m. RowsTell its image m) (sym drawn.2) (opening_rows its image drawn.0 drawn.1 sound)

-- ---- a law that is broken

opening_breach : (its : Config) (image : List Contents) (opened : Opening) → IsOpening its image opened →
    (breach : Breach) →
    IsLeastImageBreach its.protocol its.logical (shape_of its) image breach →
    BreachTells its image (marks_of opened) breach
opening_breach its image (opening.Sound block) (sound, chosen) breach broken =
    absurd (sound_unbroken its.protocol its.logical (shape_of its) image breach sound broken)
opening_breach its image (opening.Unsound first) is breach broken =
    let marks = marks_of (opening.Unsound first) in
    let words = words_tell its (notes_of its.protocol image) marks in
    record {
      label = λ block says. no_spare (record { 0 = block }) ((label_tells marks block).0 says);
      mark = λ slot. (
        λ says. (let named = (words slot).mark.0 says in sym slot_is ∙ same_slot named.0 named.1 slot ∙ named.2),
        λ e. (words slot).mark.1 (first, refl, slot_is ∙ e),
      );
      line = ap Some one;
    }
  where
    one : first ≡ breach
    one = breach_one its.protocol its.logical (shape_of its) image first breach is broken

    slot_is : first.slot.0 ≡ breach.slot.0
    slot_is = ap (λ (b : Breach). b.slot.0) one

    same_slot : (b : Breach) → Some first ≡ Some b → (slot : ℕ) → first.slot.0 ≡ b.slot.0
    same_slot b e slot = ap (λ (o : Option Breach). elim o [ Some x ↦ x.slot.0 | None ↦ slot ]) e

    no_spare : (spare : Block) → None ≡ Some spare → ⊥
    no_spare spare e = cc

pub breach_tells : (task : Option Request) (desk : DeskState) (form : Form) (its : Config) (image : List Contents)
    (marks : Marks) (breach : Breach) →
    IsEnding task desk (Drawn form its image marks) → IsLeastImageBreach its.protocol its.logical (shape_of its) image
    breach → BreachTells its image marks breach
breach_tells task desk form its image marks breach ending broken =
    let drawn : IsOfOpening (Drawn form its image marks) = drawn_so task desk (Drawn form its image marks) ending in
    subst (λ m. BreachTells its image m breach) (sym drawn.2) (opening_breach its image drawn.0 drawn.1 breach broken)

-- ---- the cells

-- a slot with a record is noted so
pub noted : (its : Config) (image : List Contents) (slot : ℕ) (r : Rec) → HoldsRecord its image slot r →
    note_at (notes_of its.protocol image) slot ≡ note.Holds r
noted its image slot r holds = get_or-map (note_of its.protocol) image slot blank ∙ holds

-- a slot with a record has the cell of the record
cell_is : (its : Config) (image : List Contents) (slot : ℕ) (r : Rec) → HoldsRecord its image slot r →
    cell_of its.protocol (records_in its.protocol image) its.logical (note.Holds r)
    ≡ cell_at (cells_of its (notes_of its.protocol image)) slot
cell_is its image slot r holds =
    let p = its.protocol in
    let notes = notes_of p image in
    sym (get_or-map (cell_of p (found_in notes) its.logical) notes slot note.Blank
    ∙ ap (cell_of p (found_in notes) its.logical) (noted its image slot r holds)
    ∙ ap (λ list. cell_of p list its.logical (note.Holds r)) (found_in_notes p image))

pub slots_tell : (its : Config) (image : List Contents) (slot : ℕ) (r : Rec) → HoldsRecord its image slot r →
    SlotTells its image slot r
slots_tell its image slot r holds =
    let tells = cell_tells its.protocol (records_in its.protocol image) its.logical r in
    record {
      current = says (codes "current") (IsCurrent its.protocol (records_in its.protocol image) its.logical r)
          tells.current;
      loose = says (codes "loose") (IsLoose its.protocol (records_in its.protocol image) its.logical r) tells.loose;
      stale = says (codes "stale") (IsStale its.protocol (records_in its.protocol image) its.logical r) tells.stale;
      held = says (codes "held") (IsTrue (is_held its.protocol (records_in its.protocol image) its.logical r))
          tells.held;
      discard = says (codes "discard") (IsTrue r.discard) tells.discard;
    }
  where
    says : (word : List ℕ) (P : Type 0) →
        (Contains (cell_words (cell_of its.protocol (records_in its.protocol image) its.logical (note.Holds r))) word
        ↔ P) →
        CellSays its image slot word ↔ P
    says word P tells = subst (λ (cell : Cell). Contains (cell_words cell) word ↔ P)
        (cell_is its image slot r holds) tells

-- ---- the slots without a record

pub bare_tells : (its : Config) (image : List Contents) (slot : ℕ) → BareSlotTells its image slot
bare_tells its image slot =
    let words = words_tell its (notes_of its.protocol image) (record { spare = None; breach = None }) slot in
    let note_is = get_or-map (note_of its.protocol) image slot blank in
    record { blank = λ e. words.blank (note_is ∙ e); damaged = λ e. words.damaged (note_is ∙ e) }
