-- How the file follows programs: slots are due, and then wait.
use Rattle.file_flash.proofs.Common.{◌≡◌, ◌≢◌, ℕ, ◌+◌, ◌*◌, ◌<◌, ◌==◌, ◌||◌, ◌++◌, Bool, true, false, List, [], ◌∷◌, length, map, Option, Some, None, Result, Ok, Err, OnOk, All, refl, sym, ap, subst, ◌∙◌, inl, inr, arith, Shape, Slot, Contents, blank, damaged, complete, slot_at, IsImage, seen_of, StoreError, slots_in, IsProgrammed, AreProgrammed}
use Rattle.std.proofs.Common.{◌/◌, add-one}
use Rattle.std.specs.Prelude.{filter_map, unwrap_or, if◌then◌else◌}
use Rattle.std.specs.Result.{is_err}
use Rattle.std.proofs.lemmas.Bool.{cases_Bool, cases_eq, eq-eqb, ne_eqb, eqb-true, both_ways, or_left, or_right}
use Rattle.std.proofs.lemmas.List.{length-set}
use Rattle.std.proofs.lemmas.List.Elements.{All-push, All-contains, All-tail, All-head}
use Rattle.std.proofs.lemmas.List.Folds.{list_any-append, Any-from_list_any}
use Rattle.std.proofs.Math.Nat.{suc-mul, lt-div-mul-add}
use Rattle.list_lemmas.proofs.Membership.{in_any, all_from}
use Rattle.tx_types.specs.Config.{IsShape}
use Rattle.flash_model.specs.declared.outcome.Outcome.{Outcome}
use Rattle.flash_model.specs.declared.outcome.Outcome.TheVariants as outcome
use Rattle.flash_model.specs.Operations.{Load, CanProgram, CanLoad, CanDo, program, fire, image_left, load_left, left_each}
use Rattle.flash_model.specs.Firing.{loads_in}
use Rattle.flash_model.specs.Readings.{reads_blank}
use Rattle.flash_model.proofs.FireLemmas.{load_left_is, slot_at-load}
use Rattle.mem_flash.specs.MemFlashState.{MemFlashState}
use Rattle.mem_flash.specs.Breaking.{broken_by, operated, is_idle, started, fired}
use Rattle.mem_flash.specs.Registers.{outcomes_from}
use Rattle.file_flash.specs.FileFlashState.{slots_of_loads, slot_loaded}

-- a slot that is blank does not wait
pub fresh : (image : List Contents) (waiting : List Slot) (k : ℕ) → AreProgrammed image waiting →
    slot_at image k ≡ blank →
    slots_in waiting k ≡ false
fresh image waiting k all empty =
    elim (cases_Bool (slots_in waiting k)) [
      | inr not ↦ not
      | inl wait ↦
          let x = in_any (λ a. (a.0 == k) ≡ true) waiting (Any-from_list_any (λ a. a.0 == k) waiting wait) in
          let is : x.0.0 ≡ k = eqb-true x.0.0 k x.2 in
          absurd ((All-contains (IsProgrammed image) waiting x.0 all x.1).1 (ap (slot_at image) is ∙ empty))
    ]

-- a slot that may be programmed is blank
pub can_blank : (shape : Shape) (image : List Contents) (at : ℕ) → IsShape shape → CanProgram shape image at →
    slot_at image at ≡ blank
can_blank shape image at bounds can =
    let per = shape.pages_per_block in
    let least = bounds.pages_least in
    let e : (at / per + 1) * per ≡ at / per * per + per = ap (λ n. n * per) (add-one (at / per))
    ∙ suc-mul (at / per) per in
    can.blank_on at (omega arith) (subst (λ n. at < n) (sym e) (lt-div-mul-add (omega (arith, least))))

or_false : (d : Bool) → (d || false) ≡ d
or_false true = refl
or_false false = refl

-- one slot more
pub in_pushed : (waiting : List Slot) (at : Slot) (k : ℕ) →
    slots_in (waiting ++ at ∷ []) k ≡ (slots_in waiting k || ((at.0 == k) || false))
in_pushed waiting at k = list_any-append (λ a. a.0 == k) waiting (at ∷ [])

front_here : (at : Slot) (due : List Slot) → slots_in (at ∷ due) at.0 ≡ true
front_here at due = or_left (at.0 == at.0) (slots_in due at.0) (eq-eqb at.0 at.0 refl)

front_apart : (at : Slot) (due : List Slot) (k : ℕ) → slots_in (at ∷ due) k ≡ false → k ≢ at.0
front_apart at due k none is = both_ways (slots_in (at ∷ due) k) none (ap (slots_in (at ∷ due)) is ∙ front_here at due)

-- a slot that reads as blank is blank, and no other is
pub blank_read : (c : Contents) → reads_blank (seen_of c) ≡ true → c ≡ blank
blank_read blank e = refl
blank_read damaged e = absurd cc
blank_read (complete bytes spare_area) e = absurd cc

pub some_read : (c : Contents) → reads_blank (seen_of c) ≡ false → c ≢ blank
some_read c e is = both_ways (reads_blank (seen_of c)) e (ap (λ x. reads_blank (seen_of x)) is)

-- a slot that was programmed waits
pub programmed_more : (image : List Contents) (waiting : List Slot) (at : Slot) → AreProgrammed image waiting →
    at.0 < length image →
    slot_at image at.0 ≢ blank → AreProgrammed image (waiting ++ at ∷ [])
programmed_more image waiting at all low some = All-push (IsProgrammed image) waiting at all (low, some)

-- one program
one_due : (at : Slot) (k : ℕ) → slots_in (at ∷ []) k ≡ true → at.0 ≡ k
one_due at k here = eqb-true at.0 k (sym (or_false (at.0 == k)) ∙ here)

pub program_elsewhere : (shape : Shape) (image : List Contents) (at : Slot) (bytes spare_area : List ℕ)
    (how : Outcome) (k : ℕ) →
    slots_in (at ∷ []) k ≡ false → slot_at (image_left shape image (program at.0 bytes spare_area) how) k
    ≡ slot_at image k
program_elsewhere shape image at bytes spare_area how k none =
    let load : Load = record { at = at.0; bytes = bytes; spare_area = spare_area } in
    ap (λ i. slot_at i k) (sym (load_left_is shape image load how))
    ∙ slot_at-load image load how k (front_apart at [] k none)

pub program_empty : (shape : Shape) (image : List Contents) (at : Slot) (k : ℕ) → IsShape shape →
    CanProgram shape image at.0 →
    slots_in (at ∷ []) k ≡ true → slot_at image k ≡ blank
program_empty shape image at k bounds can here = ap (slot_at image) (sym (one_due at k here))
    ∙ can_blank shape image at.0 bounds can

pub fire_elsewhere : (image : List Contents) (loads : List Load) (hows : List Outcome) (k : ℕ) →
    slots_in (slots_of_loads loads) k ≡ false → slot_at (left_each image loads hows) k ≡ slot_at image k
fire_elsewhere image [] hows k none = refl
fire_elsewhere image (load ∷ loads) [] k none = refl
fire_elsewhere image (load ∷ loads) (how ∷ hows) k none =
    fire_elsewhere _ loads hows k (rest (load.at == k) (slots_in (slots_of_loads loads) k) none)
    ∙ slot_at-load image load how k (front_apart (record { 0 = load.at }) (slots_of_loads loads) k none)
  where
    rest : (a b : Bool) → (a || b) ≡ false → b ≡ false
    rest false b e = e
    rest true b e = absurd cc

pub fire_empty : (shape : Shape) (image : List Contents) (loads : List Load) (k : ℕ) → IsShape shape →
    All (CanLoad shape image) loads →
    slots_in (slots_of_loads loads) k ≡ true → slot_at image k ≡ blank
fire_empty shape image [] k bounds can here = absurd cc
fire_empty shape image (load ∷ loads) k bounds can here =
    elim (cases_eq load.at k) [
      | inl is ↦ ap (slot_at image) (sym is) ∙ can_blank shape image load.at bounds
          (All-head (CanLoad shape image) load loads can).0
      | inr not ↦ fire_empty shape image loads k bounds (All-tail (CanLoad shape image) load loads can)
          (sym (ap (λ b. b || slots_in (slots_of_loads loads) k) (ne_eqb load.at k not)) ∙ here)
    ]

-- the slots that are loaded are those of the programs
pub loaded_slots : (registers : List (Option Load)) → filter_map (λ slot. slot) (map slot_loaded registers)
    ≡ slots_of_loads (loads_in registers)
loaded_slots [] = refl
loaded_slots (None ∷ registers) = loaded_slots registers
loaded_slots (Some load ∷ registers) = ap (λ slots. record { 0 = load.at } ∷ slots) (loaded_slots registers)

pub record Starts (old new : List Contents) (due : List Slot) : Type 0 where
  pub lengths : length new ≡ length old
  pub elsewhere : (k : ℕ) → slots_in due k ≡ false → slot_at new k ≡ slot_at old k
  pub empty : (k : ℕ) → slots_in due k ≡ true → slot_at old k ≡ blank

program_length : (shape : Shape) (image : List Contents) (at : ℕ) (bytes spare_area : List ℕ) (how : Outcome) →
    length (image_left shape image (program at bytes spare_area) how) ≡ length image
program_length shape image at bytes spare_area outcome.None = refl
program_length shape image at bytes spare_area outcome.All = length-set image at (complete bytes spare_area)
program_length shape image at bytes spare_area outcome.Bad = length-set image at damaged

pub program_starts : (s m : MemFlashState) (at : Slot) (bytes spare_area : List ℕ) →
    m ≡ operated s (program at.0 bytes spare_area) →
    IsImage m.shape m.image → CanProgram s.shape s.image at.0 → Starts s.image m.image (at ∷ [])
program_starts s m at bytes spare_area e is can =
    let how = unwrap_or (broken_by s) outcome.All in
    let image : m.image ≡ image_left s.shape s.image (program at.0 bytes spare_area) how =
    ap (λ (x : MemFlashState). x.image) e in
    let bounds : IsShape s.shape = subst IsShape (ap (λ (x : MemFlashState). x.shape) e) is.bounds in
    record {
      lengths = ap length image ∙ program_length s.shape s.image at.0 bytes spare_area how;
      elsewhere = λ k none. ap (λ x. slot_at x k) image
          ∙ program_elsewhere s.shape s.image at bytes spare_area how k none;
      empty = λ k here. program_empty s.shape s.image at k bounds can here;
    }

pub programmed_still : (old new : List Contents) (waiting due : List Slot) → AreProgrammed old waiting →
    Starts old new due →
    AreProgrammed new waiting
programmed_still old new waiting due all st = all_from (IsProgrammed new) waiting (λ x i.
    let was = All-contains (IsProgrammed old) waiting x all i in
    let none : slots_in due x.0 ≡ false = elim (cases_Bool (slots_in due x.0)) [
      | inl here ↦ absurd (was.1 (st.empty x.0 here))
      | inr not ↦ not
    ] in
    (subst (λ n. x.0 < n) (sym st.lengths) was.0, λ e. was.1 (sym (st.elsewhere x.0 none) ∙ e)))

-- what comes after an Ok
pub on_ok : (P : Type 0) (r : Result (Unit {0}) StoreError) → is_err r ≡ false → OnOk r P → P
on_ok P (Ok u) e here = here
on_ok P (Err x) e here = absurd cc

-- the slots that wait or are due
pub in_front : (at : Slot) (waiting : List Slot) (k : ℕ) → slots_in waiting k ≡ true → slots_in (at ∷ waiting) k ≡ true
in_front at waiting k e = or_right (at.0 == k) (slots_in waiting k) e

pub only_front : (at : Slot) (waiting : List Slot) (k : ℕ) → slots_in (at ∷ []) k ≡ true →
    slots_in (at ∷ waiting) k ≡ true
only_front at waiting k e = or_left (at.0 == k) (slots_in waiting k) (sym (or_false (at.0 == k)) ∙ e)

load_length : (image : List Contents) (load : Load) (how : Outcome) → length (load_left image load how) ≡ length image
load_length image load outcome.None = refl
load_length image load outcome.All = length-set image load.at (complete load.bytes load.spare_area)
load_length image load outcome.Bad = length-set image load.at damaged

each_length : (image : List Contents) (loads : List Load) (hows : List Outcome) →
    length (left_each image loads hows) ≡ length image
each_length image [] hows = refl
each_length image (load ∷ loads) [] = refl
each_length image (load ∷ loads) (how ∷ hows) = each_length (load_left image load how) loads hows
    ∙ load_length image load how

left_none : (image : List Contents) (loads : List Load) → left_each image loads [] ≡ image
left_none image [] = refl
left_none image (load ∷ loads) = refl

fired_leaves : (s : MemFlashState) (idle : Bool) →
    (hows : List Outcome) × ((if idle then s else started s).image ≡ left_each s.image (loads_in s.registers) hows)
fired_leaves s true = ([], sym (left_none s.image (loads_in s.registers)))
fired_leaves s false = (outcomes_from (unwrap_or (broken_by s) outcome.All) (length (loads_in s.registers)), refl)

started_shape : (s : MemFlashState) (idle : Bool) → (if idle then s else started s).shape ≡ s.shape
started_shape s true = refl
started_shape s false = refl

started_extras : (s : MemFlashState) (idle : Bool) → (if idle then s else started s).extras ≡ s.extras
started_extras s true = refl
started_extras s false = refl

pub fired_shape : (s m : MemFlashState) → m ≡ fired s → m.shape ≡ s.shape
fired_shape s m e = ap (λ (x : MemFlashState). x.shape) e ∙ started_shape s (is_idle s)

pub fired_extras : (s m : MemFlashState) → m ≡ fired s → m.extras ≡ s.extras
fired_extras s m e = ap (λ (x : MemFlashState). x.extras) e ∙ started_extras s (is_idle s)

pub fire_starts : (s m : MemFlashState) → m ≡ fired s → IsImage m.shape m.image →
    CanDo s.shape s.image (fire (loads_in s.registers)) →
    Starts s.image m.image (slots_of_loads (loads_in s.registers))
fire_starts s m e is can =
    let loads = loads_in s.registers in
    let left = fired_leaves s (is_idle s) in
    let image : m.image ≡ left_each s.image loads left.0 = ap (λ (x : MemFlashState). x.image) e ∙ left.1 in
    let bounds : IsShape s.shape = subst IsShape (fired_shape s m e) is.bounds in
    record {
      lengths = ap length image ∙ each_length s.image loads left.0;
      elsewhere = λ k none. ap (λ x. slot_at x k) image ∙ fire_elsewhere s.image loads left.0 k none;
      empty = λ k here. fire_empty s.shape s.image loads k bounds can.0 here;
    }
