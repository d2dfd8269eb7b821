-- What the four changes do to the array that a list with bytes stands for, from what they keep of its records.
use Rattle.record_list.proofs.Common.{◌≡◌, ℕ, ◌<◌, ◌≤◌, ◌⊎◌, Bool, true, false, List, [], ◌∷◌, All, refl, sym, ap, ◌∙◌, subst, inl, inr, arith, Contains, cases_Bool, cases_lt, cond-true, cond-false, both_ways, All-contains, all_from, from_filter, Contains-first, Contains-rest, Link, Protocol, Found, name_of, has_name, is_present, IsScanned, cur, IsCurrent, is_held, current_name, IsSoundList, IsInserted, IsWrite, SameCurrent, left, KeepsCounted, PartialWriteLaw, CompletingWriteLaw, CopyLaw, LossLaw, Written, found_of, records_of, BytesAgree, is_outside, left_written}
use Rattle.std.proofs.Common.{Some, None}
use Rattle.std.specs.Prelude.{find, option_and_then}
use Rattle.std.specs.Option.{option_map}
use Rattle.std.proofs.lemmas.Bool.{or_from}
use Rattle.list_lemmas.proofs.Ranges.{map_range}
use Rattle.record_list.specs.ArrayChanges.{PartialWriteLeavesArray, CompletingWriteTakesTransaction, CopyLeavesArray, BlockLossLeavesArray}
use Rattle.record_list.specs.Written.{text_of, text_at, value_of, value_at, page_at, array_of}
use Rattle.record_list.proofs.OfFacts.Names.{has_name_true, found_named, present_as}
use Rattle.record_list.proofs.OfFacts.SoundNames.{sound_map}
use Rattle.record_list.proofs.OfLosses.LossCounted.{counted_present}
use Rattle.record_list.proofs.OfChanges.OneMore.{in_inserted, new_in}
use Rattle.record_list.proofs.OfChanges.WrittenLists.{in_records, IsOneText, one_text, bytes_inserted, records_left}
use Rattle.record_list.proofs.OfChanges.WrittenChange.{fresh_bytes, copied, bytes_copied}
use Rattle.record_list.proofs.OfLosses.LossCurrent.{left_scanned}

-- a current version that is not 0 is present
current_present : (p : Protocol) (l : List Found) (n page : ℕ) → IsSoundList p l n → IsScanned l → 0 < cur p l n page →
    is_present l (current_name p l n page) ≡ true
current_present p l n page sound scanned some = counted_present p l n (sound_map p l n sound scanned)
    (current_name p l n page) some (inl refl)

-- a name has the text of one of its records, or has none
pub data HasText (l : List Written) (name : Link) : Type 0 where
  there : (w : Written) → Contains l w → name_of w.rec ≡ name → text_at l name ≡ Some (text_of w) → HasText l name
  nowhere : text_at l name ≡ None → is_present (records_of l) name ≡ false → HasText l name

pub has_text : (l : List Written) (name : Link) → HasText l name
has_text [] name = nowhere refl refl
has_text (v ∷ vs) name = elim (cases_Bool (has_name name v.rec)) [
  | inl named ↦ there v (Contains-first v vs) (has_name_true name v.rec named)
      (ap (option_map text_of) (cond-true (has_name name v.rec) (Some v) (find (λ w. has_name name w.rec) vs) named))
  | inr other ↦
      (let skips : text_at (v ∷ vs) name ≡ text_at vs name =
      ap (option_map text_of) (cond-false (has_name name v.rec) (Some v) (find (λ w. has_name name w.rec) vs) other) in
      elim (has_text vs name) [
        | there w is_in named is ↦ there w (Contains-rest v vs w is_in) named (skips ∙ is)
        | nowhere is absent ↦ nowhere (skips ∙ is)
            (or_from (has_name name v.rec) (is_present (records_of vs) name) other absent)
      ])
]

-- a record in the list, whatever its slot, has the text of its name
pub text_named : (l : List Written) (w : Written) → IsOneText l → Contains l w →
    text_at l (name_of w.rec) ≡ Some (text_of w)
text_named l w text is_in = elim (has_text l (name_of w.rec)) [
  | there v v_in named is ↦ is ∙ ap Some (text.same v w v_in is_in named)
  | nowhere is absent ↦ absurd (both_ways (is_present (records_of l) (name_of w.rec)) absent
      (present_as (records_of l) (found_of w) (name_of w.rec) (in_records l w is_in) refl))
]

-- a present name has some text
pub text_present : (l : List Written) (name : Link) → is_present (records_of l) name ≡ true →
    (w : Written) × Contains l w × (name_of w.rec ≡ name) × (text_at l name ≡ Some (text_of w))
text_present l name h = elim (has_text l name) [
  | there w is_in named is ↦ (w, is_in, named, is)
  | nowhere is absent ↦ absurd (both_ways (is_present (records_of l) name) absent h)
]

pub text_absent : (l : List Written) (name : Link) → is_present (records_of l) name ≡ false → text_at l name ≡ None
text_absent l name h = elim (has_text l name) [
  | there w is_in named is ↦ absurd (both_ways (is_present (records_of l) name) h
      (present_as (records_of l) (found_of w) name (in_records l w is_in) named))
  | nowhere is absent ↦ is
]

-- a name that was present has its text still, with more records
pub text_grows : (l m : List Written) (name : Link) → IsOneText m → ((w : Written) → Contains l w → Contains m w) →
    is_present (records_of l) name ≡ true → text_at m name ≡ text_at l name
text_grows l m name text more h =
    let v = text_present l name h in
    subst (λ n. text_at m n ≡ Some (text_of v.0)) v.2 (text_named m v.0 text (more v.0 v.1)) ∙ sym v.3

-- an array is known by its pages
pub same_array : (p : Protocol) (l m : List Written) (n : ℕ) →
    ((page : ℕ) → page < n → page_at p m n page ≡ page_at p l n page) →
    array_of p m n ≡ array_of p l n
same_array p l m n h = map_range (page_at p m n) (page_at p l n) 0 n (λ i low high. h i (omega arith))

-- version 0 is no record's
zero_absent : (l : List Found) (page : ℕ) → IsScanned l → is_present l (record { page = page; version = 0 }) ≡ false
zero_absent l page scanned = elim (cases_Bool (is_present l (record { page = page; version = 0 }))) [
  | inl h ↦
      (let f = found_named l (record { page = page; version = 0 }) h in
      let low : 1 ≤ f.0.rec.version = (All-contains (λ g. (1 ≤ g.rec.version) × (1 ≤ g.rec.next.version)) l f.0
      scanned.versions f.1).0 in
      let is : f.0.rec.version ≡ 0 = ap (λ (y : Link). y.version) f.2 in
      absurd (omega arith))
  | inr h ↦ h
]

-- a page without a current version is blank
pub blank_page : (p : Protocol) (l : List Written) (n page : ℕ) → IsScanned (records_of l) →
    cur p (records_of l) n page ≡ 0 → page_at p l n page ≡ None
blank_page p l n page scanned none =
    ap (option_and_then value_of) (text_absent l (current_name p (records_of l) n page)
    (subst (λ v. is_present (records_of l) (record { page = page; version = v }) ≡ false) (sym none)
    (zero_absent (records_of l) page scanned)))

-- a page whose current version stays holds what it held: with more records
pub page_grows : (p : Protocol) (l m : List Written) (n page : ℕ) → IsSoundList p (records_of l) n →
    IsScanned (records_of l) → IsScanned (records_of m) →
    IsOneText m → ((w : Written) → Contains l w → Contains m w) →
    cur p (records_of m) n page ≡ cur p (records_of l) n page → page_at p m n page ≡ page_at p l n page
page_grows p l m n page sound scanned scanned' text more same = elim (cases_lt 0 (cur p (records_of l) n page)) [
  | inl some ↦
      ap (λ v. value_at m (record { page = page; version = v })) same
      ∙ ap (option_and_then value_of)
      (text_grows l m (current_name p (records_of l) n page) text more
      (current_present p (records_of l) n page sound scanned some))
  | inr low ↦
      (let none : cur p (records_of l) n page ≡ 0 = omega arith in
      blank_page p m n page scanned' (same ∙ none) ∙ sym (blank_page p l n page scanned none))
]

-- and with fewer records, where the current one has a copy that stays
pub page_left : (p : Protocol) (l m : List Written) (n page : ℕ) → IsSoundList p (records_of l) n →
    IsScanned (records_of l) → IsScanned (records_of m) →
    IsOneText l → ((w : Written) → Contains m w → Contains l w) →
    (0 < cur p (records_of l) n page → is_present (records_of m) (current_name p (records_of l) n page) ≡ true) →
    cur p (records_of m) n page ≡ cur p (records_of l) n page → page_at p m n page ≡ page_at p l n page
page_left p l m n page sound scanned scanned' text fewer stays same = elim (cases_lt 0 (cur p (records_of l) n page)) [
  | inl some ↦
      ap (λ v. value_at m (record { page = page; version = v })) same
      ∙ sym (ap (option_and_then value_of) (text_grows m l (current_name p (records_of l) n page) text fewer
      (stays some)))
  | inr low ↦
      (let none : cur p (records_of l) n page ≡ 0 = omega arith in
      blank_page p m n page scanned' (same ∙ none) ∙ sym (blank_page p l n page scanned none))
]

-- the array stays at a partial write and at a copy
pub array_grows : (p : Protocol) (l m : List Written) (n : ℕ) (w : Written) → IsSoundList p (records_of l) n →
    IsScanned (records_of l) →
    IsScanned (records_of m) →
    IsOneText m → IsInserted l w m → SameCurrent p (records_of l) (records_of m) n → array_of p m n ≡ array_of p l n
array_grows p l m n w sound scanned scanned' text added same =
    same_array p l m n (λ page within.
    page_grows p l m n page sound scanned scanned' text (in_inserted l m w added) (same page within))

-- and at a loss
pub array_left : (p : Protocol) (l : List Written) (n : ℕ) (keep : ℕ → Bool) → IsSoundList p (records_of l) n →
    IsScanned (records_of l) →
    All (BytesAgree l) l → KeepsCounted p (records_of l) n keep →
    SameCurrent p (records_of l) (records_of (left_written keep l)) n →
    array_of p (left_written keep l) n ≡ array_of p l n
array_left p l n keep sound scanned bytes counted same =
    let m = left_written keep l in
    let is : left keep (records_of l) ≡ records_of m = sym (records_left keep l) in
    same_array p l m n (λ page within.
    page_left p l m n page sound scanned (subst IsScanned is (left_scanned keep (records_of l) scanned))
    (one_text p l n sound scanned bytes)
    (λ v c. (from_filter (λ w. keep w.slot.0) v l c).0)
    (λ some.
    let name = current_name p (records_of l) n page in
    let f = found_named (records_of l) name (current_present p (records_of l) n page sound scanned some) in
    let at_page : f.0.rec.page ≡ page = ap (λ (y : Link). y.page) f.2 in
    let version : f.0.rec.version ≡ cur p (records_of l) n page = ap (λ (y : Link). y.version) f.2 in
    let current : f.0.rec.version ≡ cur p (records_of l) n f.0.rec.page = version
    ∙ ap (cur p (records_of l) n) (sym at_page) in
    let kept : is_present (left keep (records_of l)) (name_of f.0.rec) ≡ true =
    All-contains (λ g. IsCurrent p (records_of l) n g.rec ⊎ (is_held p (records_of l) n g.rec ≡ true) →
    is_present (left keep (records_of l)) (name_of g.rec) ≡ true)
    (records_of l) f.0 counted f.1 (inl current) in
    subst (λ fs. is_present fs name ≡ true) is (subst (λ u. is_present (left keep (records_of l)) u ≡ true) f.2 kept))
    (same page within))

-- at a completing write the pages of the transaction hold what its records say, and every other page what it held
pub page_committed : (p : Protocol) (m : List Written) (n : ℕ) (name : Link) →
    cur p (records_of m) n name.page ≡ name.version →
    page_at p m n name.page ≡ value_at m name
page_committed p m n name is = ap (λ v. value_at m (record { page = name.page; version = v })) is

pub text_new : (l m : List Written) (w : Written) → IsOneText m → IsInserted l w m →
    text_at m (name_of w.rec) ≡ Some (text_of w)
text_new l m w text added = text_named m w text (new_in l m w added)

pub text_old : (l m : List Written) (w : Written) (name : Link) → IsOneText m → IsInserted l w m →
    is_present (records_of l) name ≡ true → text_at m name ≡ text_at l name
text_old l m w name text added h = text_grows l m name text (in_inserted l m w added) h

pub page_elsewhere : (p : Protocol) (l m : List Written) (n page : ℕ) (w : Written) → IsSoundList p (records_of l) n →
    IsScanned (records_of l) →
    IsScanned (records_of m) → IsOneText m → IsInserted l w m →
    cur p (records_of m) n page ≡ cur p (records_of l) n page →
    page_at p m n page ≡ page_at p l n page
page_elsewhere p l m n page w sound scanned scanned' text added same =
    page_grows p l m n page sound scanned scanned' text (in_inserted l m w added) same

-- the bytes of the longer list agree, where the new item has a fresh name
bytes_written : (p : Protocol) (l m : List Written) (n : ℕ) (names : List Link) (w : Written) → All (BytesAgree l) l →
    IsInserted l w m →
    IsWrite p (records_of l) (records_of m) n names (found_of w) → All (BytesAgree m) m
bytes_written p l m n names w bytes added write = bytes_inserted l m w added bytes (fresh_bytes l w write.fresh)

-- the four changes, each by its law
pub partial_write_leaves_array : (p : Protocol) → PartialWriteLaw p → PartialWriteLeavesArray p
partial_write_leaves_array p law l m n names w sound bytes added write some =
    let keeps = law (records_of l) (records_of m) n names (found_of w) sound write some in
    array_grows p l m n w sound write.scanned write.scanned'
    (one_text p m n keeps.sound write.scanned' (bytes_written p l m n names w bytes added write)) added
    keeps.same_current

pub completing_write_takes_transaction : (p : Protocol) → CompletingWriteLaw p → CompletingWriteTakesTransaction p
completing_write_takes_transaction p law l m n names w sound bytes added write all =
    let keeps = law (records_of l) (records_of m) n names (found_of w) sound write all in
    let text = one_text p m n keeps.sound write.scanned' (bytes_written p l m n names w bytes added write) in
    let committed : (a : Link) → Contains names a → page_at p m n a.page ≡ value_at m a = λ a i.
    page_committed p m n a (All-contains (λ b. cur p (records_of m) n b.page ≡ b.version) names a keeps.committed i) in
    record {
      last = committed (name_of w.rec) write.named ∙ ap (option_and_then value_of) (text_new l m w text added);
      earlier = all_from (λ a. is_present (records_of l) a ≡ true → page_at p m n a.page ≡ value_at l a) names
          (λ a i there. committed a i ∙ ap (option_and_then value_of) (text_old l m w a text added there));
      elsewhere = λ page within other. page_elsewhere p l m n page w sound write.scanned write.scanned' text added
          (keeps.elsewhere page within other);
    }

pub copy_leaves_array : (p : Protocol) → CopyLaw p → CopyLeavesArray p
copy_leaves_array p law l m n w sound bytes added scanned scanned' source =
    let keeps = law (records_of l) (records_of m) n (found_of w) sound (copied l m w added scanned source scanned') in
    array_grows p l m n w sound scanned scanned'
    (one_text p m n keeps.sound scanned' (bytes_copied l m w added scanned source bytes)) added keeps.same_current

pub block_loss_leaves_array : (p : Protocol) → LossLaw p → BlockLossLeavesArray p
block_loss_leaves_array p law l n shape block sound bytes scanned removable =
    let keep : ℕ → Bool = is_outside shape block in
    let keeps = law (records_of l) n keep sound scanned removable in
    array_left p l n keep sound scanned bytes removable
    (subst (λ fs. SameCurrent p (records_of l) fs n) (sym (records_left keep l)) keeps.same_current)
