-- Lists of a few records, and what the definitions say of them.
use Rattle.std.specs.Prelude.{◌≡◌, ℕ, ◌==◌, ◌||◌, Bool, true, false, not, Some, None, List, [], ◌∷◌}
use Rattle.tx_types.specs.declared.record.Link.{Link}
use Rattle.tx_types.specs.declared.config.Shape.{Shape}
use Rattle.tx_types.specs.declared.config.Protocol.TheVariants.{Scc, Bpcc}
use Rattle.record_list.specs.declared.found.Found.{Found}
use Rattle.record_list.specs.declared.found.Why.TheVariants.{Passed, Straddled}
use Rattle.record_list.specs.Verdict.{why}
use Rattle.record_list.specs.Current.{cur, responsible, is_held, must_go}
use Rattle.record_list.specs.SoundList.{LooseIsShown, LooseEnds}
use Rattle.record_list.specs.Changes.{IsWrite, left, KeepsCounted}
use Rattle.record_list.specs.Written.{home, is_needed}
use Rattle.record_list.specs.Losses.{IsSpared}

abbrev pub name : ℕ → ℕ → Link
name page version = record { page = page; version = version }

-- the record P.v -> Q.k b in a slot
abbrev pub found : ℕ → ℕ → ℕ → ℕ → ℕ → ℕ → Found
found slot page version to at back = record {
  slot = record { 0 = slot };
  rec = record { page = page; version = version; next = name to at; back = back; count = 0; discard = false };
}

abbrev pub shape : Shape
shape = record { page_bytes = 16; pages_per_block = 4; blocks_per_die = 4; dies = 2 }

-- an aborted record of page 0, a superseded one of page 1 that straddles its link, and the current one of page 1
abbrev pub straddled : List Found
straddled = found 0 0 1 1 1 0 ∷ found 1 1 2 1 2 0 ∷ found 2 1 3 1 3 2 ∷ []

-- the verdict on page 0, and the current versions
abbrev pub StraddledVerdict : Type 0
StraddledVerdict =
    (why Bpcc straddled 3 0 ≡ Straddled 2) × (why Scc straddled 3 0 ≡ Passed)
    × (cur Bpcc straddled 3 0 ≡ 0) × (cur Bpcc straddled 3 1 ≡ 3) × (cur Bpcc straddled 3 2 ≡ 0)

-- the superseded record is responsible, it alone is held, and its slot is needed; that of the aborted record
-- is needed where this is pinned
abbrev pub StraddledIsHeld : Type 0
StraddledIsHeld =
    (responsible Bpcc straddled 3 (name 1 1) ≡ 2)
    × (is_held Bpcc straddled 3 (found 1 1 2 1 2 0).rec ≡ true)
    × (is_held Bpcc straddled 3 (found 2 1 3 1 3 2).rec ≡ false)
    × (is_needed Bpcc straddled 3 shape (Some 7) [] 1 ≡ true)
    × (is_needed Bpcc straddled 3 shape (Some 7) [] 0 ≡ false)
    × (is_needed Bpcc straddled 3 shape (Some 7) (name 0 1 ∷ []) 0 ≡ true)

-- a record with slots in the blocks 0, 1 and 2
abbrev pub copied : List Found
copied = found 1 0 1 0 1 0 ∷ found 5 0 1 0 1 0 ∷ found 9 0 1 0 1 0 ∷ []

-- its home, by which block is the spare
abbrev pub CopiedHome : Type 0
CopiedHome =
    (home shape (Some 0) copied (name 0 1) ≡ Some 5)
    × (home shape (Some 1) copied (name 0 1) ≡ Some 1)
    × (home shape None copied (name 0 1) ≡ Some 1) × (home shape None copied (name 0 2) ≡ None)

-- a loose record that links below a current version where nothing straddles
abbrev pub unanswered : List Found
unanswered = found 0 0 1 1 2 0 ∷ found 1 0 2 2 9 0 ∷ found 2 1 5 1 5 4 ∷ []

-- it breaks law 6, and no record is held for it
abbrev pub UnansweredBreaks : Type 0
UnansweredBreaks =
    (LooseIsShown Bpcc unanswered 3 (found 0 0 1 1 2 0) → ⊥)
    × (is_held Bpcc unanswered 3 (found 1 0 2 2 9 0).rec ≡ false)
    × (is_held Bpcc unanswered 3 (found 2 1 5 1 5 4).rec ≡ false)

-- two unequal records of one name, of which one straddles the link of a loose record
abbrev pub namesakes : List Found
namesakes = found 0 0 1 1 1 0 ∷ found 1 1 2 1 2 1 ∷ found 2 1 2 1 3 0 ∷ []

-- that one alone is held
abbrev pub NamesakeIsHeld : Type 0
NamesakeIsHeld =
    (responsible Bpcc namesakes 3 (name 1 1) ≡ 2)
    × (is_held Bpcc namesakes 3 (found 1 1 2 1 2 1).rec ≡ false)
    × (is_held Bpcc namesakes 3 (found 2 1 2 1 3 0).rec ≡ true)

-- a loose record whose back version is not the current one
abbrev pub misled : List Found
misled = found 0 0 1 0 1 0 ∷ found 1 0 3 1 5 2 ∷ found 2 0 4 2 5 1 ∷ []

-- it breaks law 6
abbrev pub MisledBreaks : Type 0
MisledBreaks = (cur Bpcc misled 20 0 ≡ 1) × (LooseIsShown Bpcc misled 20 (found 1 0 3 1 5 2) → ⊥)

-- a loose record that links to itself, and one that links to an absent name
abbrev pub closed : List Found
closed = found 0 0 1 0 1 0 ∷ found 1 0 2 0 2 1 ∷ found 2 0 3 1 9 1 ∷ []

-- the one breaks law 7, the other keeps it
abbrev pub ClosedBreaks : Type 0
ClosedBreaks =
    (LooseEnds Bpcc closed 20 (found 1 0 2 0 2 1) → ⊥)
    × LooseEnds Bpcc closed 20 (found 2 0 3 1 9 1)

-- a record that mentions its page at two versions must go before either is passed
abbrev pub TwiceMentioned : Type 0
TwiceMentioned = must_go Scc (found 0 3 3 3 9 0 ∷ []) 20 3 5 (found 0 3 3 3 9 0).rec ≡ true

-- a record of a transaction of two pages
abbrev pub of_two : Found → Found
of_two f = record f { rec = record f.rec { count = 2 } }

-- a record of page 0 with a copy in the next block, and the first of two records of a transaction
abbrev pub begun : List Found
begun = found 0 0 1 0 1 0 ∷ found 4 0 1 0 1 0 ∷ of_two (found 5 1 1 2 1 0) ∷ []

-- the slot of that record alone
abbrev pub first_alone : ℕ → Bool
first_alone slot = slot == 0

-- the copy and the first of the two records may go, but not the record with its copy
abbrev pub CopyMayGo : Type 0
CopyMayGo =
    IsSpared Scc begun 3 shape first_alone
    × (cur Scc begun 3 0 ≡ 1) × (cur Scc (left first_alone begun) 3 0 ≡ 1)
    × (KeepsCounted Scc begun 3 (λ slot. slot == 5) → ⊥)

-- the transaction, and its second record
abbrev pub pair : List Link
pair = name 1 1 ∷ name 2 1 ∷ []

abbrev pub second : Found
second = of_two (found 6 2 1 1 1 0)

-- all slots but that of its first record
abbrev pub without_first : ℕ → Bool
without_first slot = not (slot == 5)

abbrev pub ended : List Found
ended = found 0 0 1 0 1 0 ∷ found 4 0 1 0 1 0 ∷ of_two (found 5 1 1 2 1 0) ∷ second ∷ []

-- the transaction asks for its second record also where the first was lost
abbrev pub AskedAfterLoss : Type 0
AskedAfterLoss =
    IsWrite Scc begun ended 3 pair second
    × IsWrite Scc (left without_first begun) (left without_first ended) 3 pair second

-- with both records it is whole, and with the second alone it is absent, under either protocol
abbrev pub WholeOrAbsent : Type 0
WholeOrAbsent =
    (cur Scc ended 3 1 ≡ 1) × (cur Scc ended 3 2 ≡ 1)
    × (cur Scc (left without_first ended) 3 1 ≡ 0) × (cur Scc (left without_first ended) 3 2 ≡ 0)
    × (cur Bpcc ended 3 1 ≡ 1) × (cur Bpcc ended 3 2 ≡ 1)
    × (cur Bpcc (left without_first ended) 3 1 ≡ 0) × (cur Bpcc (left without_first ended) 3 2 ≡ 0)

-- a whole transaction of three pages, and a later one of page 1
abbrev pub overtaken : List Found
overtaken = found 0 0 1 1 1 0 ∷ found 1 1 1 2 1 0 ∷ found 2 2 1 0 1 0 ∷ found 3 1 2 1 2 1 ∷ []

abbrev pub first_and_last : ℕ → Bool
first_and_last slot = (slot == 0) || (slot == 3)

-- a current record may not go: without the records of pages 1 and 2 the transaction would be torn, since the link of
-- page 0 is passed
abbrev pub TornWithoutCurrent : Type 0
TornWithoutCurrent =
    (cur Scc overtaken 3 0 ≡ 1) × (cur Scc overtaken 3 1 ≡ 2) × (cur Scc overtaken 3 2 ≡ 1)
    × (cur Scc (left first_and_last overtaken) 3 0 ≡ 1)
    × (cur Scc (left first_and_last overtaken) 3 2 ≡ 0)
    × (KeepsCounted Scc overtaken 3 first_and_last → ⊥)
