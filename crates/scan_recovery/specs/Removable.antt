-- Which blocks hold a record that is current or held and stands nowhere else.
use Rattle.std.specs.Prelude.{◌≡◌, ℕ, ◌<◌, ◌==◌, Bool, false, ◌&&◌, ◌||◌, not, nat_lt, if◌then◌else◌, Option, None, Some, List, length, slice_index_or}
use Rattle.std.specs.Prelude.{position, All}
use Rattle.std.specs.List.{list_any}
use Rattle.tx_types.specs.declared.config.Protocol.{Protocol}
use Rattle.tx_types.specs.declared.config.Protocol.TheVariants.{Scc, Bpcc}
use Rattle.tx_types.specs.declared.config.Shape.{Shape}
use Rattle.tx_types.specs.declared.record.Rec.{Rec}
use Rattle.tx_types.specs.Config.{blocks_of}
use Rattle.record_list.specs.declared.found.Found.{Found}
use Rattle.record_list.specs.Records.{name_of, has_name}
use Rattle.record_list.specs.Current.{cur, is_loose, responsible, is_held}
use Rattle.record_list.specs.Written.{is_outside}
use Rattle.sorted_records.specs.CurrentVersions.{CurrentVersionsState}

-- two records of one name are equal
abbrev pub AreCopies : List Found → Type 0
AreCopies list = All (λ f. All (λ g. name_of g.rec ≡ name_of f.rec → g.rec ≡ f.rec) list) list

-- the place of the first record of the name that is responsible for a loose record; nothing for any other record, and
-- where none is responsible
abbrev pub answerer_by : Protocol → List Found → ℕ → Rec → Option ℕ
answerer_by Scc list logical r = None
answerer_by Bpcc list logical r =
    if is_loose Bpcc list logical r && nat_lt 0 (responsible Bpcc list logical r.next) then
    position
    (λ f. has_name record { page = r.next.page; version = responsible Bpcc list logical r.next } f.rec)
    list
    else None

abbrev pub is_place : ℕ → Option ℕ → Bool
is_place at None = false
is_place at (Some place) = place == at

-- whether this is the place of the first record of a name that is responsible for this record
abbrev pub answers_at : CurrentVersionsState → Found → ℕ → Bool
answers_at j f place = is_place place (answerer_by j.protocol j.list j.logical f.rec)

-- whether a record is current or held
abbrev pub is_counted : CurrentVersionsState → Rec → Bool
is_counted j r =
    (r.version == cur j.protocol j.list j.logical r.page) || is_held j.protocol j.list j.logical r

-- whether a record of this name stands outside the block
abbrev pub stands_outside : CurrentVersionsState → Shape → ℕ → Rec → Bool
stands_outside j shape block r =
    list_any (λ f. is_outside shape block f.slot.0 && has_name (name_of r) f.rec) j.list

-- whether a record is current or held and stands in this block alone
abbrev pub is_fixed : CurrentVersionsState → Shape → Found → ℕ → Bool
is_fixed j shape f block = is_counted j f.rec && not (stands_outside j shape block f.rec)

-- each number is marked where one of the records passes a test with it
pub record AreMarked (count : ℕ) (test : Found → ℕ → Bool) (list : List Found)
    (marks : List Bool) : Type 0 where
  pub size : length marks ≡ count
  pub each : (n : ℕ) (d : Bool) → n < count →
      slice_index_or marks n d ≡ list_any (λ f. test f n) list

abbrev pub AreHeld : CurrentVersionsState → List Found → List Bool → Type 0
AreHeld j list held = AreMarked (length j.list) (answers_at j) list held

abbrev pub AreFixed : CurrentVersionsState → Shape → List Found → List Bool → Type 0
AreFixed j shape list fixed = AreMarked (blocks_of shape) (is_fixed j shape) list fixed
