-- Law 2 as a recovery tries it: each record beside the lowest one of its name.
use Rattle.std.specs.Prelude.{◌≡◌, ℕ, ◌==◌, Bool, false, ◌&&◌, not, nat_le, if◌then◌else◌, List, find, count_by, Option, None, Some, IfSome, take, ◌+◌}
use Rattle.std.specs.Option.{option_map_or}
use Rattle.tx_types.specs.declared.record.Rec.{Rec}
use Rattle.flash_model.specs.Flash.{Contents, slot_at}
use Rattle.flash_model.specs.Calls.{page_of}
use Rattle.record_list.specs.declared.found.Found.{Found}
use Rattle.record_list.specs.Records.{name_of, has_name, is_same}

-- the lowest record of the name that a record has
abbrev pub lowest_of : List Found → Rec → Option Found
lowest_of list rec = find (λ g. has_name (name_of rec) g.rec) list

abbrev pub is_equal : Rec → Rec → Bool
is_equal a b =
    is_same (name_of a) (name_of b) && is_same a.next b.next && (a.back == b.back)
    && (a.count == b.count) && (if a.discard then b.discard else not b.discard)

-- a record's slot shows these bytes
abbrev pub bytes_shown : ℕ → List Contents → Found → List ℕ
bytes_shown page_bytes image f = page_of page_bytes (slot_at image f.slot.0)

-- a record is equal to the lowest one of its name, and so are the bytes of the two slots
abbrev pub AgreesWithLowest : ℕ → List Contents → List Found → Found → Type 0
AgreesWithLowest page_bytes image list f =
    IfSome (lowest_of list f.rec) (λ g.
    (g.rec ≡ f.rec) × (bytes_shown page_bytes image g ≡ bytes_shown page_bytes image f))

-- whether the bytes of a record's slot have to be compared: another slot is the lowest that holds its name, and the two
-- records are equal
abbrev pub is_compared : List Found → Found → Bool
is_compared list f =
    option_map_or (λ g. is_equal g.rec f.rec && not (g.slot.0 == f.slot.0))
    (lowest_of list f.rec) false

-- how many slots are compared with another one
unfoldable pub compared : List Found → ℕ
compared list = count_by (is_compared list) list

-- how many are among those up to this one
unfoldable pub compared_upto : List Found → ℕ → ℕ
compared_upto list top = count_by (λ f. nat_le f.slot.0 top && is_compared list f) list

-- how many are compared until a record was found that breaks law 2, which is the last, or until none was
abbrev pub compared_to : List Found → Option ℕ → ℕ
compared_to list None = compared list
compared_to list (Some at) = count_by (is_compared list) (take (at + 1) list)
