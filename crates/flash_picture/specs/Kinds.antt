-- What an overview tells slots apart by, and how many slots are so.
use Rattle.std.specs.Prelude.{ℕ, zero, suc, ◌+◌, Bool, true, false, if◌then◌else◌, List, [], ◌∷◌, codes}
use Rattle.flash_picture.specs.declared.cell.Cell.{Cell}
use Rattle.flash_picture.specs.declared.cell.Cell.TheVariants.{Blank, Damaged, Holds}
use Rattle.flash_picture.specs.declared.cell.Rank.{Rank}
use Rattle.flash_picture.specs.declared.cell.Rank.TheVariants.{Current, Loose, Stale}
use Rattle.flash_picture.specs.declared.kind.Kind.{Kind}
use Rattle.flash_picture.specs.declared.kind.Kind.TheVariants as kind
use Rattle.flash_picture.specs.Cells.{cell_at}
use Rattle.flash_picture.specs.Svg.{is_loose_rank}

-- all kinds, in the order of a legend
abbrev pub all_kinds : List Kind
all_kinds =
    kind.Current ∷ kind.Loose ∷ kind.Stale ∷ kind.Damaged ∷ kind.Blank ∷ kind.Held ∷ kind.Discard ∷ []

abbrev pub kind_word : Kind → List ℕ
kind_word kind.Current = codes "current"
kind_word kind.Loose = codes "loose"
kind_word kind.Stale = codes "stale"
kind_word kind.Damaged = codes "damaged"
kind_word kind.Blank = codes "blank"
kind_word kind.Held = codes "held"
kind_word kind.Discard = codes "discard"

-- whether a rank is that of a current record, and whether of one below it
abbrev pub is_current_rank : Rank → Bool
is_current_rank Current = true
is_current_rank Loose = false
is_current_rank Stale = false

abbrev pub is_stale_rank : Rank → Bool
is_stale_rank Current = false
is_stale_rank Loose = false
is_stale_rank Stale = true

-- whether a slot with such a record is of a kind
abbrev pub is_of_record : Kind → Rank → Bool → Bool → Bool
is_of_record kind.Current rank held discard = is_current_rank rank
is_of_record kind.Loose rank held discard = is_loose_rank rank
is_of_record kind.Stale rank held discard = is_stale_rank rank
is_of_record kind.Damaged rank held discard = false
is_of_record kind.Blank rank held discard = false
is_of_record kind.Held rank held discard = held
is_of_record kind.Discard rank held discard = discard

-- whether one that is blank is, and one with nothing that can be read
abbrev pub is_blank : Kind → Bool
is_blank kind.Current = false
is_blank kind.Loose = false
is_blank kind.Stale = false
is_blank kind.Damaged = false
is_blank kind.Blank = true
is_blank kind.Held = false
is_blank kind.Discard = false

abbrev pub is_damaged : Kind → Bool
is_damaged kind.Current = false
is_damaged kind.Loose = false
is_damaged kind.Stale = false
is_damaged kind.Damaged = true
is_damaged kind.Blank = false
is_damaged kind.Held = false
is_damaged kind.Discard = false

-- whether a slot with this cell is of a kind
abbrev pub is_of : Kind → Cell → Bool
is_of kind Blank = is_blank kind
is_of kind Damaged = is_damaged kind
is_of kind (Holds rec rank held) = is_of_record kind rank held rec.discard

abbrev pub one_if : Bool → ℕ
one_if there = if there then 1 else 0

-- how many of this many slots, from the first one on, are of a kind
abbrev pub count_of : List Cell → Kind → ℕ → ℕ → ℕ
count_of cells kind first zero = 0
count_of cells kind first (suc slots) =
    count_of cells kind first slots + one_if (is_of kind (cell_at cells (first + slots)))
