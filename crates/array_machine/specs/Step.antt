-- Going on with a transaction, giving it up, and what a power cut leaves of all of them.
use Rattle.std.specs.Prelude.{◌≡◌, ◌≢◌, ◌⊎◌, ℕ, ◌+◌, ◌<◌, Bool, List, [], ◌∷◌, ◌++◌, length, map, Contains, MatchOption, Result, Ok, Err, if◌then◌else◌}
use Rattle.tx_types.specs.Batch.{PageWrite}
use Rattle.array_machine.specs.ArrayState.{ArrayState, Entry, Pages, is_doubted, put, entry_of, without, with_entry}
use Rattle.array_machine.specs.declared.mark.Mark.{Mark}
use Rattle.array_machine.specs.declared.mark.Mark.TheVariants.{Plain, Doubt, Whole}
use Rattle.array_machine.specs.declared.answers.Aborted.{Aborted}
use Rattle.array_machine.specs.declared.answers.Aborted.TheVariants as aborted
use Rattle.array_machine.specs.declared.answers.Progress.{Progress}
use Rattle.array_machine.specs.declared.answers.Progress.TheVariants as progress
use Rattle.array_machine.specs.declared.answers.StepError.{StepError}
use Rattle.array_machine.specs.declared.answers.StepError.TheVariants as failed

-- the mark of a transaction of which it is known whether its last page is there
abbrev pub settled_mark : Bool → Mark → Mark
settled_mark there Plain = Plain
settled_mark there Doubt = if there then Whole else Plain
settled_mark there Whole = Whole

abbrev pub settled_entry : Bool → Entry → Entry
settled_entry there e = record e { mark = settled_mark there e.mark }

-- the writes of the transactions in doubt
abbrev pub doubted : List Entry → List PageWrite
doubted [] = []
doubted (e ∷ es) = if is_doubted e.mark then e.writes ++ doubted es else doubted es

-- A state settles: it becomes known of what is in doubt whether it is there, and where it is, the array takes all
-- its pages. All that are in doubt settle, though a device has at most one, so no rule here needs to count them.
abbrev pub settled : Bool → ArrayState → ArrayState
settled there s = record {
  pages = if there then put s.pages (doubted s.entries) else s.pages;
  entries = map (settled_entry there) s.entries;
}

-- the transaction writes its last page next
abbrev pub IsAtLast : Entry → Type 0
IsAtLast e = e.done + 1 ≡ length e.writes

-- A settled transaction goes on. It writes a page; or it is done, where it is whole, and where it writes its
-- last page, with which the array takes all its pages at once.
abbrev pub GoesOn : ArrayState → ℕ → Entry → Progress → ArrayState → Type 0
GoesOn s tag e (progress.Wrote done all) new =
    (e.mark ≡ Plain) × (e.done + 1 < length e.writes) × (done ≡ e.done + 1)
    × (all ≡ length e.writes)
    × (new ≡ record s { entries = with_entry tag (record e { done = e.done + 1 }) s.entries })
GoesOn s tag e progress.Done new =
    ((e.mark ≡ Whole) × (new ≡ record s { entries = without tag s.entries }))
    ⊎ ((e.mark ≡ Plain) × IsAtLast e
    × (new ≡ record { pages = put s.pages e.writes; entries = without tag s.entries }))

-- A fault leaves the state as before settling, or settled; and a transaction that was writing its last page
-- may then be in doubt.
abbrev pub FaultLeaves : ArrayState → ArrayState → ℕ → Entry → ArrayState → Type 0
FaultLeaves old mid tag e new =
    (new ≡ old) ⊎ ((e.mark ≡ Plain) × ((new ≡ mid)
    ⊎ (IsAtLast e
    × (new ≡ record mid { entries = with_entry tag (record e { mark = Doubt }) mid.entries }))))

abbrev pub StepGives : ArrayState → ArrayState → ℕ → Entry → Result Progress StepError →
    ArrayState → Type 0
StepGives old mid tag e (Ok progress) new = GoesOn mid tag e progress new
StepGives old mid tag e (Err failed.Unknown) new = ⊥
StepGives old mid tag e (Err failed.Fault) new = FaultLeaves old mid tag e new

-- a step of the transaction with a tag, where there is one: the state settles, and the transaction goes on
abbrev pub StepsAs : Bool → ArrayState → ArrayState → ℕ → Result Progress StepError → Type 0
StepsAs there old new tag result =
    MatchOption (entry_of tag old.entries) ((result ≡ Err failed.Unknown) × (new ≡ old))
    (λ e. StepGives old (settled there old) tag (settled_entry there e) result new)

abbrev pub Steps : ArrayState → ArrayState → ℕ → Result Progress StepError → Type 0
Steps old new tag result = (there : Bool) × StepsAs there old new tag result

abbrev pub AbortGives : ArrayState → ArrayState → ℕ → Entry → Result Aborted StepError →
    ArrayState → Type 0
AbortGives old mid tag e (Ok aborted.Gone) new =
    (e.mark ≢ Whole) × (new ≡ record mid { entries = without tag mid.entries })
AbortGives old mid tag e (Ok aborted.Late) new =
    (e.mark ≡ Whole) × (new ≡ record mid { entries = without tag mid.entries })
AbortGives old mid tag e (Err failed.Unknown) new = ⊥
AbortGives old mid tag e (Err failed.Fault) new = new ≡ old

-- the transaction with a tag is given up, where there is one: the state settles, and the transaction goes. It
-- is too late where it turned out to be whole.
abbrev pub AbortsAs : Bool → ArrayState → ArrayState → ℕ → Result Aborted StepError → Type 0
AbortsAs there old new tag result =
    MatchOption (entry_of tag old.entries) ((result ≡ Err failed.Unknown) × (new ≡ old))
    (λ e. AbortGives old (settled there old) tag (settled_entry there e) result new)

abbrev pub Aborts : ArrayState → ArrayState → ℕ → Result Aborted StepError → Type 0
Aborts old new tag result = (there : Bool) × AbortsAs there old new tag result

-- the array as it was, or with the pages of a transaction of this kind
abbrev pub MayTake : Pages → (Entry → Type 0) → Pages → Type 0
MayTake old Q new = (new ≡ old) ⊎ ((e : Entry) × Q e × (new ≡ put old e.writes))

-- What a power cut leaves, where `Q` are the open transactions whose last page may just have been written: no
-- transaction is open. What was in doubt may have been there, and then one of `Q`.
abbrev pub CutLeaves : (Entry → Type 0) → ArrayState → ArrayState → Type 0
CutLeaves Q old new =
    (there : Bool) × MayTake (settled there old).pages (λ e. Contains old.entries e × Q e) new.pages
    × (new.entries ≡ [])
