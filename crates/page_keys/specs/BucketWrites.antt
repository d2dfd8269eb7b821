-- How the buckets of a put are written.
use Rattle.std.specs.Prelude.{◌≡◌, ◌⊎◌, ℕ, ◌+◌, ◌<◌, true, false, List, [], ◌∷◌, map, take, drop, All, Any, Contains}
use Rattle.std.specs.List.{zip}
use Rattle.tx_types.specs.Config.{shape_of}
use Rattle.tx_types.specs.declared.config.Config.{Config}
use Rattle.tx_types.specs.declared.record.Link.{Link}
use Rattle.flash_model.specs.Moves.{Moves}
use Rattle.flash_model.specs.Operations.{Moment}
use Rattle.record_list.specs.Records.{is_present, mention, name_of}
use Rattle.record_list.specs.Transaction.{next_names}
use Rattle.record_list.specs.declared.found.Found.{Found}
use Rattle.judged_records.specs.Images.{records_in}
use Rattle.page_keys.specs.KeyMaps.{pages_of}
use Rattle.page_keys.specs.declared.changes.Change.{Change}

-- a name, and the one that its record links to
abbrev pub Linked : Type 0
Linked = Link × Link

-- each name with the one that follows it, and the last with the first
abbrev pub linked : List Link → List Linked
linked names = zip names (next_names names)

-- a record of the list has the name and the link
abbrev pub HasLinked : List Found → Linked → Type 0
HasLinked list pair = Any (λ f. (name_of f.rec ≡ pair.0) × (f.rec.next ≡ pair.1)) list

-- no record has a name that none had before, but for one of these
abbrev pub AddsNames : Config → Moment → List Link → Moment → Type 0
AddsNames its old names new =
    (name : Link) → is_present (records_in its.protocol new.image) name ≡ true →
    (is_present (records_in its.protocol old.image) name ≡ true) ⊎ Contains names name

-- Records with these names and links are written one after another, in this order: before its turn each is not there,
-- and after it is. From one to the next no record comes with another new name.
abbrev pub WritesInTurn : Config → Moment → List Linked → Moment → Type 0
WritesInTurn its old [] new = new ≡ old
WritesInTurn its old (pair ∷ pairs) new =
    (is_present (records_in its.protocol old.image) pair.0 ≡ false)
    × (mid : Moment) × Moves (shape_of its) old false mid
    × HasLinked (records_in its.protocol mid.image) pair × AddsNames its old (pair.0 ∷ []) mid
    × WritesInTurn its mid pairs new

-- none of these names has a record
abbrev pub AreAbsent : Config → Moment → List Link → Type 0
AreAbsent its m names = All (λ name. is_present (records_in its.protocol m.image) name ≡ false) names

-- The first of these records are written so, this many, and those of the other names are not there. In what comes
-- after, of which the last may be broken, at most the next one is written, and no record comes with another new name.
pub record WritesFirst (its : Config) (names : List Link) (old new : Moment) : Type 0 where
  pub written : ℕ
  pub mid : Moment
  pub turns : WritesInTurn its old (take written (linked names)) mid
  pub due : AreAbsent its mid (drop written names)
  pub moves : Moves (shape_of its) mid true new
  pub next : AddsNames its mid (take 1 (drop written names)) new
  pub later : AreAbsent its new (drop (written + 1) names)

-- Each bucket that a key falls in is written, also where none of its bytes changes, in ascending order of the pages, in
-- one transaction: the record of each links to that of the next one, and the last to the first. Its version is above
-- all that the image mentioned of the page.
pub record WritesBuckets (its : Config) (cs : List Change) (old new : Moment) : Type 0 where
  pub names : List Link
  pub pages : map (λ name. name.page) names ≡ pages_of its.logical cs
  pub above : All (λ name. mention (records_in its.protocol old.image) name.page < name.version) names
  pub turns : WritesInTurn its old (linked names) new

-- Of such writing that breaks off: the first of these buckets are written, the lowest pages, and perhaps the next one.
-- Each other record of the image has the name of one that it had.
pub record BreaksBuckets (its : Config) (cs : List Change) (old new : Moment) : Type 0 where
  pub names : List Link
  pub pages : map (λ name. name.page) names ≡ pages_of its.logical cs
  pub above : All (λ name. mention (records_in its.protocol old.image) name.page < name.version) names
  pub first : WritesFirst its names old new
