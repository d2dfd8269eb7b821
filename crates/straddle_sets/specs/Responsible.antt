-- The record that is responsible for a loose one.
use Rattle.std.specs.Prelude.{◌≡◌, ℕ, ◌<◌, ◌≤◌, ◌==◌, ◌&&◌, ◌⊎◌, Bool, true, false, nat_le, Option, None, Some, List, position, slice_index_or}
use Rattle.tx_types.specs.declared.record.Link.{Link}
use Rattle.tx_types.specs.declared.record.Rec.{Rec}
use Rattle.tx_types.specs.declared.config.Protocol.TheVariants.{Bpcc}
use Rattle.record_list.specs.declared.found.Found.{Found}
use Rattle.record_list.specs.Records.{nothing}
use Rattle.record_list.specs.Verdict.{straddles}
use Rattle.record_list.specs.Current.{answers_for}

-- the index of the record that is responsible for this one, in its lowest slot; nothing where none is
abbrev pub responsible_index : List Found → ℕ → Rec → Option ℕ
responsible_index list logical r = position (λ f. answers_for Bpcc list logical f.rec r) list

-- whether a record is of the page of a link and straddles its version, and its own is at most the current one
abbrev pub may_answer : Link → ℕ → Rec → Bool
may_answer link current r =
    (r.page == link.page) && straddles r link.version && nat_le r.version current

-- a record does not come before another one: its version is lower, or the same in a slot that is not lower
abbrev pub IsBehind : Found → Found → Type 0
IsBehind f g =
    (f.rec.version < g.rec.version) ⊎ ((f.rec.version ≡ g.rec.version) × (g.slot.0 ≤ f.slot.0))

-- of the first records the one with the greatest version that may answer, in its lowest slot; nothing where none may
abbrev pub FindsAnswer : List Found → Link → ℕ → ℕ → Option ℕ → Type 0
FindsAnswer list link current count None =
    (k : ℕ) → k < count → may_answer link current (slice_index_or list k nothing).rec ≡ false
FindsAnswer list link current count (Some at) =
    (at < count) × (may_answer link current (slice_index_or list at nothing).rec ≡ true)
    × ((k : ℕ) → k < count → may_answer link current (slice_index_or list k nothing).rec ≡ true →
    IsBehind (slice_index_or list k nothing) (slice_index_or list at nothing))
