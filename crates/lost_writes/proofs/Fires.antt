-- Of programs that were started together a loss leaves what some outcome of each of them leaves.
use Rattle.lost_writes.proofs.Common.{◌≡◌, ℕ, ◌<◌, ◌⊎◌, List, [], ◌∷◌, length, set, refl, sym, ap, ◌∙◌, subst, inl, inr, arith, cases_eq, cases_lt, length-set, get_or-set_same, get_or-set_other, get_or_past, Contents, blank, damaged, complete, slot_at}
use Rattle.std.proofs.Common.{ext_get_or, suc}
use Rattle.flash_model.specs.declared.outcome.Outcome.{Outcome}
use Rattle.flash_model.specs.declared.outcome.Outcome.TheVariants as outcome
use Rattle.flash_model.specs.Operations.{Load, load_left, left_each}
use Rattle.lost_writes.specs.Room.{is_blank_in}
use Rattle.lost_writes.specs.Waiting.{IsLeftOf}
use Rattle.lost_writes.proofs.Room.{blank_is}

-- an outcome changes one slot at most
load_long : (image : List Contents) (l : Load) (how : Outcome) → length (load_left image l how) ≡ length image
load_long image l outcome.None = refl
load_long image l outcome.All = length-set image l.at (complete l.bytes l.spare_area)
load_long image l outcome.Bad = length-set image l.at damaged

load_off : (image : List Contents) (l : Load) (how : Outcome) (slot : ℕ) → (slot ≡ l.at → ⊥) →
    slot_at (load_left image l how) slot ≡ slot_at image slot
load_off image l outcome.None slot other = refl
load_off image l outcome.All slot other = get_or-set_other image l.at slot (complete l.bytes l.spare_area) blank other
load_off image l outcome.Bad slot other = get_or-set_other image l.at slot damaged blank other

pub each_long : (loads : List Load) (hows : List Outcome) (image : List Contents) →
    length (left_each image loads hows) ≡ length image
each_long [] hows image = refl
each_long (l ∷ loads) [] image = refl
each_long (l ∷ loads) (how ∷ hows) image = each_long loads hows (load_left image l how) ∙ load_long image l how

-- a slot that holds the same before holds the same after it
set_alike : (a b : List Contents) (at slot : ℕ) (c : Contents) → length b ≡ length a →
    slot_at b slot ≡ slot_at a slot → slot_at (set b at c) slot ≡ slot_at (set a at c) slot
set_alike a b at slot c long same = elim (cases_eq slot at) [
  | inr other ↦ get_or-set_other b at slot c blank other ∙ same ∙ sym (get_or-set_other a at slot c blank other)
  | inl here ↦ elim (cases_lt at (length a)) [
    | inl within ↦ (
        let within' : at < length b = omega (arith, within, long) in
        ap (slot_at (set b at c)) here ∙ get_or-set_same b at c blank within'
        ∙ sym (ap (slot_at (set a at c)) here ∙ get_or-set_same a at c blank within))
    | inr past ↦ (
        let long_a = length-set a at c in
        let long_b = length-set b at c in
        get_or_past (set b at c) slot blank (omega (arith, past, long, long_b, here))
        ∙ sym (get_or_past (set a at c) slot blank (omega (arith, past, long_a, here))))
  ]
]

load_alike : (a b : List Contents) (l : Load) (how : Outcome) (slot : ℕ) → length b ≡ length a →
    slot_at b slot ≡ slot_at a slot → slot_at (load_left b l how) slot ≡ slot_at (load_left a l how) slot
load_alike a b l outcome.None slot long same = same
load_alike a b l outcome.All slot long same = set_alike a b l.at slot (complete l.bytes l.spare_area) long same
load_alike a b l outcome.Bad slot long same = set_alike a b l.at slot damaged long same

each_alike : (loads : List Load) (hows : List Outcome) (a b : List Contents) (slot : ℕ) → length b ≡ length a →
    slot_at b slot ≡ slot_at a slot → slot_at (left_each b loads hows) slot ≡ slot_at (left_each a loads hows) slot
each_alike [] hows a b slot long same = same
each_alike (l ∷ loads) [] a b slot long same = same
each_alike (l ∷ loads) (how ∷ hows) a b slot long same =
    each_alike loads hows (load_left a l how) (load_left b l how) slot
    (load_long b l how ∙ long ∙ sym (load_long a l how)) (load_alike a b l how slot long same)

-- a slot is as some outcomes leave it, or blank as it was
abbrev IsBetween : List Contents → List Contents → List Contents → ℕ → Type 0
IsBetween image after left slot =
    (slot_at left slot ≡ slot_at after slot) ⊎ ((slot_at left slot ≡ blank) × (slot_at image slot ≡ blank))

-- so some outcomes leave all of it
pub record IsFireOf (image : List Contents) (loads : List Load) (left : List Contents) : Type 0 where
  pub hows : List Outcome
  pub each : length hows ≡ length loads
  pub is : left ≡ left_each image loads hows

one_more : (image : List Contents) (l : Load) (loads : List Load) (left : List Contents) (how : Outcome) →
    IsFireOf (load_left image l how) loads left → IsFireOf image (l ∷ loads) left
one_more image l loads left how f = record { hows = how ∷ f.hows; each = ap suc f.each; is = f.is }

fire_of : (loads : List Load) (hows : List Outcome) (image left : List Contents) → length hows ≡ length loads →
    length left ≡ length image → ((slot : ℕ) → IsBetween image (left_each image loads hows) left slot) →
    IsFireOf image loads left
fire_of [] [] image left as_many long each = record {
  hows = [];
  each = refl;
  is = ext_get_or blank left image long (λ slot within. elim (each slot) [
    | inl same ↦ same
    | inr both ↦ both.0 ∙ sym both.1
  ]);
}
fire_of [] (how ∷ hows) image left as_many long each = absurd (omega arith)
fire_of (l ∷ loads) [] image left as_many long each = absurd (omega arith)
fire_of (l ∷ loads) (how ∷ hows) image left as_many long each =
    let next = load_left image l how in
    let after = left_each next loads hows in
    elim (each l.at) [
      | inl kept ↦ one_more image l loads left how
          (fire_of loads hows next left (omega arith) (long ∙ sym (load_long image l how)) (λ slot.
          elim (cases_eq slot l.at) [
            | inl here ↦ inl (subst (λ k. slot_at left k ≡ slot_at after k) (sym here) kept)
            | inr other ↦ elim (each slot) [
              | inl same ↦ inl same
              | inr both ↦ inr (both.0, load_off image l how slot other ∙ both.1)
            ]
          ]))
      | inr gone ↦ one_more image l loads left outcome.None
          (fire_of loads hows image left (omega arith) long (λ slot.
          elim (cases_eq slot l.at) [
            | inl here ↦ inr (subst (λ k. (slot_at left k ≡ blank) × (slot_at image k ≡ blank)) (sym here) gone)
            | inr other ↦ elim (each slot) [
              | inl same ↦ inl (same ∙ each_alike loads hows image next slot (load_long image l how)
                  (load_off image l how slot other))
              | inr both ↦ inr both
            ]
          ]))
    ]

-- what a loss leaves of it
pub fire_left : (image : List Contents) (loads : List Load) (hows : List Outcome) (left : List Contents) →
    length hows ≡ length loads → IsLeftOf (is_blank_in image) (left_each image loads hows) left →
    IsFireOf image loads left
fire_left image loads hows left as_many lost =
    let long = each_long loads hows image in
    fire_of loads hows image left as_many (lost.slots ∙ long) (λ slot.
    elim (cases_lt slot (length image)) [
      | inl within ↦ elim (lost.each slot (omega (arith, within, long))) [
        | inl same ↦ inl same
        | inr gone ↦ inr (gone.1, blank_is (slot_at image slot) gone.0)
      ]
      | inr past ↦ (
          let size = lost.slots in
          inl (get_or_past left slot blank (omega (arith, past, long, size))
          ∙ sym (get_or_past (left_each image loads hows) slot blank (omega (arith, past, long)))))
    ])
