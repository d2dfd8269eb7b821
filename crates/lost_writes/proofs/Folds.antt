-- Of several records that were started a loss leaves some: they are added one after the other.
use Rattle.lost_writes.proofs.Common.{◌≡◌, ◌≢◌, ℕ, ◌<◌, ◌⊎◌, Bool, true, false, List, [], ◌∷◌, length, map, set, get_or, AllPairs, Contains, refl, sym, ap, ◌∙◌, subst, inl, inr, arith, cases_eq, length-set, get_or-set_same, get_or-set_other, All-contains, pairs_head, pairs_tail, Contains-first, Contains-rest, Contents, blank, complete, slot_at, records_in, array_in, KeepsCounted, LossLaw, PartialWriteLaw, CompletingWriteLaw, is_outside, blocks_of, Protocol, Shape}
use Rattle.std.proofs.Common.{◌||◌, ◌==◌, eqb-true, ext_get_or}
use Rattle.std.specs.List.{list_any}
use Rattle.std.proofs.lemmas.Bool.{or_cases}
use Rattle.page_record.specs.Spelling.{spelling}
use Rattle.array_machine.specs.ArrayState.{Entry, Pages}
use Rattle.array_machine.specs.Batches.{MayTakeEach}
use Rattle.array_runs.specs.Run.{MayComplete}
use Rattle.judged_records.specs.Images.{IsSoundImage}
use Rattle.lost_writes.specs.Waiting.{IsLeftOf}
use Rattle.lost_writes.specs.Fired.{Fired, with_record, with_records, waits_too, IsFired, AreApart, IsLeftWhole, LostWritesLaw}
use Rattle.lost_writes.proofs.Steps.{Moves, moves, fired_yet}
use Rattle.lost_writes.proofs.Left.{removable, fired_left, is_left_sound}
use Rattle.lost_writes.proofs.Slots.{none_waits}

-- some of the records were added, in their order
abbrev WrittenFrom : Protocol → List Contents → List Fired → List Contents → Type 0
WrittenFrom p image [] left = left ≡ image
WrittenFrom p image (f ∷ fs) left = WrittenFrom p image fs left ⊎ WrittenFrom p (with_record p image f) fs left

-- ---- which of them

-- a list with an item in a place twice
set_back : (xs : List Contents) (at : ℕ) (x : Contents) → at < length xs → get_or xs at blank ≡ x →
    set (set xs at blank) at x ≡ xs
set_back xs at x within is =
    let once = length-set xs at blank in
    ext_get_or blank (set (set xs at blank) at x) xs (length-set (set xs at blank) at x ∙ once)
    (λ i inside. elim (cases_eq i at) [
      | inl same ↦ (
          let within' : at < length (set xs at blank) = omega arith in
          ap (λ j. get_or (set (set xs at blank) at x) j blank) same
          ∙ get_or-set_same (set xs at blank) at x blank within' ∙ sym is
          ∙ ap (λ j. get_or xs j blank) (sym same))
      | inr other ↦ get_or-set_other (set xs at blank) at i x blank other ∙ get_or-set_other xs at i blank blank other
    ])

-- a slot that is blank in an image
record IsFree (image : List Contents) (f : Fired) : Type 0 where
  within : f.at < length image
  free : slot_at image f.at ≡ blank

-- what is left before the records were started, and what of them was added then
record IsParted (p : Protocol) (waits : ℕ → Bool) (image : List Contents) (fs : List Fired) (left : List Contents) :
    Type 0 where
  before : List Contents
  is_left : IsLeftOf waits image before
  from : WrittenFrom p before fs left

or_none : (b : Bool) → (b || false) ≡ true → b ≡ true
or_none true h = refl
or_none false h = h

or_moved : (a b d : Bool) → (a || (b || d)) ≡ true → ((a || b) || d) ≡ true
or_moved true b d h = refl
or_moved false b d h = h

parted_none : (p : Protocol) (waits : ℕ → Bool) (image left : List Contents) →
    IsLeftOf (waits_too waits []) image left → IsParted p waits image [] left
parted_none p waits image left loss = record {
  before = left;
  is_left = record {
    slots = loss.slots;
    each = λ slot within. elim (loss.each slot within) [
      | inl same ↦ inl same
      | inr gone ↦ inr (or_none (waits slot) gone.0, gone.1)
    ];
  };
  from = refl;
}

module _ (p : Protocol) (waits : ℕ → Bool) (image : List Contents) (f : Fired) (fs : List Fired)
    (left : List Contents) (own : IsFree image f) where
  abbrev waits' : ℕ → Bool
  waits' slot = waits slot || (f.at == slot)

  abbrev page : Contents
  page = complete f.bytes (spelling p f.rec)

  -- a slot that is not the record's waited before
  waited : (slot : ℕ) → slot ≢ f.at → waits' slot ≡ true → waits slot ≡ true
  waited slot other h = elim (or_cases (waits slot) (f.at == slot) h) [
    | inl was ↦ was
    | inr same ↦ absurd (other (sym (eqb-true f.at slot same)))
  ]

  -- what is left at the other slots
  elsewhere : (there : List Contents) → IsLeftOf waits' (with_record p image f) there → (slot : ℕ) →
      slot < length image → slot ≢ f.at →
      (slot_at there slot ≡ slot_at image slot) ⊎ ((waits slot ≡ true) × (slot_at there slot ≡ blank))
  elsewhere there loss slot within other =
      let long = length-set image f.at page in
      elim (loss.each slot (omega arith)) [
        | inl same ↦ inl (same ∙ get_or-set_other image f.at slot page blank other)
        | inr gone ↦ inr (waited slot other gone.0, gone.1)
      ]

  -- the record is lost, or it is there
  one_more : IsParted p waits' (with_record p image f) fs left → IsParted p waits image (f ∷ fs) left
  one_more h =
      let long = length-set image f.at page in
      let size = h.is_left.slots in
      let within = own.within in
      elim (h.is_left.each f.at (omega arith)) [
        | inr gone ↦ record {
          before = h.before;
          is_left = record {
            slots = size ∙ long;
            each = λ slot inside. elim (cases_eq slot f.at) [
              | inl same ↦ inl (ap (slot_at h.before) same ∙ gone.1 ∙ sym own.free ∙ ap (slot_at image) (sym same))
              | inr other ↦ elsewhere h.before h.is_left slot inside other
            ];
          };
          from = inl h.from;
        }
        | inl there ↦ (
            let inside_there : f.at < length h.before = omega arith in
            let is : slot_at h.before f.at ≡ page = there ∙ get_or-set_same image f.at page blank own.within in
            record {
              before = set h.before f.at blank;
              is_left = record {
                slots = length-set h.before f.at blank ∙ size ∙ long;
                each = λ slot inside. elim (cases_eq slot f.at) [
                  | inl same ↦ inl (ap (slot_at (set h.before f.at blank)) same
                      ∙ get_or-set_same h.before f.at blank blank inside_there ∙ sym own.free
                      ∙ ap (slot_at image) (sym same))
                  | inr other ↦ subst (λ x. (x ≡ slot_at image slot) ⊎ ((waits slot ≡ true) × (x ≡ blank)))
                      (sym (get_or-set_other h.before f.at slot blank blank other))
                      (elsewhere h.before h.is_left slot inside other)
                ];
              };
              from = inr (subst (λ x. WrittenFrom p x fs left) (sym (set_back h.before f.at page inside_there is))
                  h.from);
            })
      ]

parted : (p : Protocol) (fs : List Fired) (waits : ℕ → Bool) (image left : List Contents) →
    ((f : Fired) → Contains fs f → IsFree image f) → AllPairs AreApart fs →
    IsLeftOf (waits_too waits fs) (with_records p image fs) left → IsParted p waits image fs left
parted p [] waits image left free apart loss = parted_none p waits image left loss
parted p (f ∷ fs) waits image left free apart loss =
    let page = complete f.bytes (spelling p f.rec) in
    one_more p waits image f fs left (free f (Contains-first f fs))
    (parted p fs (λ slot. waits slot || (f.at == slot)) (with_record p image f) left
    (λ g i. let was = free g (Contains-rest f fs g i) in
    let off = (pairs_head AreApart f fs g apart i).slots in
    let long = length-set image f.at page in
    record {
      within = subst (λ n. g.at < n) (sym long) was.within;
      free = get_or-set_other image f.at g.at page blank (λ e. off (sym e)) ∙ was.free;
    })
    (pairs_tail AreApart f fs apart)
    (record {
      slots = loss.slots;
      each = λ slot within. elim (loss.each slot within) [
        | inl same ↦ inl same
        | inr gone ↦ inr (
          or_moved (waits slot) (f.at == slot) (list_any (λ (g : Fired). g.at == slot) fs) gone.0,
          gone.1,
        )
      ];
    }))

-- ---- one after the other

module _ (p : Protocol) (partial : PartialWriteLaw p) (completing : CompletingWriteLaw p) (logical : ℕ) (shape : Shape)
    (Q : Entry → Type 0) (block : ℕ) (exists : block < blocks_of shape) (left : List Contents) where
  all_added : (fs : List Fired) (image : List Contents) → IsSoundImage p logical shape image →
      KeepsCounted p (records_in p image) logical (is_outside shape block) →
      ((f : Fired) → Contains fs f → IsFired p logical shape Q block none_waits image f) → AllPairs AreApart fs →
      WrittenFrom p image fs left → IsLeftWhole p logical shape Q image (map (λ (f : Fired). f.entry) fs) left
  all_added [] image sound still each apart from = record {
    sound = subst (IsSoundImage p logical shape) (sym from) sound;
    array = ap (array_in p logical) from;
  }
  all_added (f ∷ fs) image sound still each apart (inl from) =
      let rest = all_added fs image sound still (λ g i. each g (Contains-rest f fs g i))
      (pairs_tail AreApart f fs apart) from in
      record { sound = rest.sound; array = inl rest.array }
  all_added (f ∷ fs) image sound still each apart (inr from) =
      let is = each f (Contains-first f fs) in
      let k : Moves p logical shape Q block image (with_record p image f) f =
      moves p partial completing logical shape Q block exists image f still is in
      let rest = all_added fs (with_record p image f) k.sound k.removable
      (λ g i. fired_yet p partial completing logical shape Q block exists image f still is g
      (pairs_head AreApart f fs g apart i) (each g (Contains-rest f fs g i)))
      (pairs_tail AreApart f fs apart) from in
      let es = map (λ (g : Fired). g.entry) fs in
      record {
        sound = rest.sound;
        array = elim k.array [
          | inl same ↦ inl (subst (λ pages. MayTakeEach pages Q es (array_in p logical left)) same rest.array)
          | inr took ↦ inr (
            took.0,
            subst (λ pages. MayTakeEach pages Q es (array_in p logical left)) took.1
                rest.array,
          )
        ];
      }

-- the array is that of what was left before
same_array : (Q : Entry → Type 0) (es : List Entry) (a b new : Pages) → a ≡ b → MayTakeEach a Q es new →
    MayTakeEach b Q es new
same_array Q es a b new e h = subst (λ pages. MayTakeEach pages Q es new) e h

pub lost_writes : (p : Protocol) → LossLaw p → PartialWriteLaw p → CompletingWriteLaw p → LostWritesLaw p
lost_writes p loss partial completing logical shape c block waits image fired left u lost =
    let Q = MayComplete c in
    let fired_at : (f : Fired) → Contains fired f → IsFired p logical shape Q block waits image f =
    λ f i. All-contains (IsFired p logical shape Q block waits image) fired f u.each i in
    let part : IsParted p waits image fired left = parted p fired waits image left
    (λ f i. record { within = (fired_at f i).asks.within; free = (fired_at f i).asks.blank }) u.apart lost in
    let kept = is_left_sound p loss logical shape Q block waits image fired u part.before part.is_left in
    let whole = all_added p partial completing logical shape Q block u.exists left fired part.before kept.sound
    (removable p loss logical shape Q block waits image fired u part.before part.is_left)
    (λ f i. fired_left p loss logical shape Q block waits image fired u part.before part.is_left f (fired_at f i))
    u.apart part.from in
    record {
      sound = whole.sound;
      array = same_array Q (map (λ (f : Fired). f.entry) fired) (array_in p logical part.before)
          (array_in p logical image) (array_in p logical left) kept.array whole.array;
    }
