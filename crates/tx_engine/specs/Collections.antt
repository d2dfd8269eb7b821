-- What a collection did to a flash and its tables, once the place was settled whose contents were not known.
use Rattle.std.specs.Prelude.{◌≡◌, ◌≢◌, ◌⊎◌, ℕ, Bool, true, false, List, All, Any, AllPairs}
use Rattle.tx_types.specs.declared.config.Protocol.{Protocol}
use Rattle.tx_types.specs.declared.record.Rec.{Rec}
use Rattle.record_list.specs.Records.{name_of, newest}
use Rattle.record_list.specs.Current.{IsCurrent, is_held}
use Rattle.judged_records.specs.Images.{records_in}
use Rattle.array_machine.specs.ArrayState.{Entry}
use Rattle.flash_model.specs.Flash.{FlashState, Contents, damaged}
use Rattle.judged_records.specs.IndexState.{IndexState}
use Rattle.die_alloc.specs.BlocksState.{BlocksState}
pub use Rattle.collector.specs.Calls.{CollectsOne, CollectsNothing}
use Rattle.array_machine.specs.declared.answers.Collected.{Collected}
use Rattle.array_machine.specs.declared.answers.Collected.TheVariants.{One, Nothing}

abbrev pub CollectsTables : FlashState → FlashState → IndexState → IndexState → BlocksState → BlocksState →
    Collected → Type 0
CollectsTables old new n n' t t' One = CollectsOne old new n n' t t'
CollectsTables old new n n' t t' Nothing = CollectsNothing old new n n' t t'

-- what a collection answers
abbrev pub answer_of : Bool → Collected
answer_of true = One
answer_of false = Nothing

-- a record is the newest of a page that an open transaction writes
abbrev pub IsNewestOfOpen : Protocol → List Contents → List Entry → Rec → Type 0
IsNewestOfOpen protocol image entries rec =
    Any (λ e. Any (λ w. w.page ≡ rec.page) e.writes) entries
    × (rec.version ≡ newest (records_in protocol image) rec.page)

-- There is nothing to collect on a flash: no slot is damaged, no record stands in two slots, and each record is
-- current, or held, or the newest of a page of an open transaction.
pub record HasNothingToCollect (protocol : Protocol) (logical : ℕ) (image : List Contents)
    (entries : List Entry) : Type 0 where
  pub whole : All (λ contents. contents ≢ damaged) image
  pub once : AllPairs (λ f g. name_of f.rec ≢ name_of g.rec) (records_in protocol image)
  pub wanted : All (λ f. IsCurrent protocol (records_in protocol image) logical f.rec
      ⊎ ((is_held protocol (records_in protocol image) logical f.rec ≡ true)
      ⊎ IsNewestOfOpen protocol image entries f.rec))
      (records_in protocol image)
