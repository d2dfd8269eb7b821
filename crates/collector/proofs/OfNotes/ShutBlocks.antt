-- Which blocks are shut, by what is noted and by the table of blocks.
use Rattle.collector.proofs.Common.{◌≡◌, ◌≢◌, ℕ, ◌+◌, ◌-◌, ◌*◌, ◌/◌, ◌%◌, ◌<◌, ◌==◌, Bool, true, false, not, ◌||◌, eqb-true, eq-eqb, List, length, set, refl, sym, ap, ap₂, ◌∙◌, subst, inl, inr, arith, if◌then◌else◌, ◌⊎◌, cases_eq, cases_Bool, eqb-false, get_or-set_same, get_or-set_other, shape_of, blocks_of, Shape, Note, Blank, note_at, IndexState, is_blank, with_spare, BlocksState, IsBlocksState, IsFree, HasRoom, BlockUse, block_of_slot, block_state, with_slot, table_with_spare, swapped, open_state, is_shut, IsFilledTo, has_room_not_spare}
use Rattle.std.proofs.lemmas.Nat.{div-mul-add}
use Rattle.tx_types.specs.declared.config.BlockState.TheVariants.{Part, Shut}
use Rattle.judged_records.specs.IndexState.{is_closed, last_slot, is_shut_now}
use Rattle.die_alloc.proofs.Changes.{block_within, use_of-with_slot_same, use_of-with_slot_other}
use Rattle.collector.specs.Matches.{AreShut}
use Rattle.collector.proofs.OfErase.Swap.{slot_in, use_old, use_other}

or_true : (b : Bool) → b || true ≡ true
or_true true = refl
or_true false = refl

-- the last slot of a block lies in it
last_in : (per block : ℕ) → 0 < per → (block * per + (per - 1)) / per ≡ block
last_in per block some = div-mul-add block per (per - 1) (omega arith)

-- a block with room is not shut
room_open : (t : BlocksState) (block : ℕ) → HasRoom t block → is_shut (block_state t block) ≡ false
room_open t block room = elim room [ inl clean ↦ ap is_shut clean | inr part ↦ ap is_shut part ]

-- the old spare is shut where all its slots are used
all_used : (pages used : ℕ) → 0 < pages → used ≡ pages → is_shut (open_state pages used) ≡ true
all_used pages used some all = by (used == 0) refl
  where
    by : (b : Bool) → (used == 0) ≡ b → is_shut (open_state pages used) ≡ true
    by true e = absurd (let none = eqb-true used 0 e in omega (arith, none))
    by false e = rw (e, eq-eqb used pages all) refl

some_left : (pages used : ℕ) → used < pages → is_shut (open_state pages used) ≡ false
some_left pages used less = by (used == 0) refl (used == pages) refl
  where
    by : (b : Bool) → (used == 0) ≡ b → (c : Bool) → (used == pages) ≡ c → is_shut (open_state pages used) ≡ false
    by true e c f = rw e refl
    by false e true f = absurd (let all = eqb-true used pages f in omega (arith, all))
    by false e false f = rw (e, f) refl

module _ (n : IndexState) (t : BlocksState) (h : AreShut n t) (some : 0 < n.config.pages_per_block) where
  abbrev per : ℕ
  per = n.config.pages_per_block

  last_apart : (block at : ℕ) → block ≢ at / per → last_slot n block ≢ at
  last_apart block at apart e = apart (sym (last_in per block some) ∙ ap (λ k. k / per) e)

  -- where its last slot is noted as before
  same_shut : (notes : List Note) (ms : List ℕ) (block : ℕ) →
      note_at notes (last_slot n block) ≡ note_at n.notes (last_slot n block) →
      is_shut_now (record n { notes = notes; mentions = ms }) block ≡ is_shut_now n block
  same_shut notes ms block e = ap (λ note. is_closed n block || not (is_blank note)) e

  -- other notes of the spare
  pub spare_shut : (notes : List Note) → ((slot : ℕ) → slot / per ≢ t.spare →
      note_at notes slot ≡ note_at n.notes slot) → AreShut (record n { notes = notes }) t
  spare_shut notes out = record {
    spare = h.spare;
    others = λ block low apart.
        same_shut notes n.mentions block (out (last_slot n block) (λ e. apart (sym (last_in per block some) ∙ e)))
        ∙ h.others block low apart;
  }

  -- another note of a slot of the spare
  pub copy_shut : (at : ℕ) (note : Note) → at / per ≡ t.spare → AreShut (record n { notes = set n.notes at note }) t
  copy_shut at note in_spare =
      spare_shut (set n.notes at note)
      (λ slot off. get_or-set_other n.notes at slot note Blank (λ e. off (ap (λ k. k / per) e ∙ in_spare)))

  -- a free slot that is used
  module _ (table : IsBlocksState t) (shape : t.shape ≡ shape_of n.config) (at : ℕ) (free : IsFree t at) (note : Note)
      (used : is_blank note ≡ false) (ms : List ℕ) (within : at < length n.notes) where
    same_per : t.shape.pages_per_block ≡ per
    same_per = ap (λ (s : Shape). s.pages_per_block) shape

    abbrev its : ℕ
    its = block_of_slot t.shape at

    its_is : its ≡ at / per
    its_is = ap (λ k. at / k) same_per

    abbrev after : IndexState
    after = record n { notes = set n.notes at note; mentions = ms }

    abbrev pages : ℕ
    pages = t.shape.pages_per_block

    state_now : is_shut (block_state (with_slot t at) its) ≡ is_shut
        (if (at % pages + 1) == pages then Shut else Part)
    state_now = ap is_shut (ap (λ (u : BlockUse). u.state) (use_of-with_slot_same t table at free.within))

    place : its * pages + at % pages ≡ at
    place = slot_in pages its at refl

    its_within : its < blocks_of (shape_of n.config)
    its_within = subst (λ (s : Shape). its < blocks_of s) shape (block_within t table at free.within)

    -- the last slot of the block is used
    filled : at % pages + 1 ≡ pages → is_shut_now after its ≡ true
    filled all =
        let first : its * pages + (pages - 1) ≡ at = omega (arith, place, all) in
        let here : last_slot n its ≡ at = subst (λ k. its * k + (k - 1) ≡ at) same_per first in
        ap (λ k. is_closed n its || not (is_blank (note_at (set n.notes at note) k))) here
        ∙ ap (λ x. is_closed n its || not (is_blank x)) (get_or-set_same n.notes at note Blank within)
        ∙ ap (λ b. is_closed n its || not b) used
        ∙ or_true (is_closed n its)

    -- or stays blank
    unfilled : (at % pages + 1 ≡ pages → ⊥) → is_shut_now after its ≡ false
    unfilled more =
        let other : last_slot n its ≢ at = λ e. (
        let first : its * pages + (pages - 1) ≡ at = subst (λ k. its * k + (k - 1) ≡ at) (sym same_per) e in
        let positive : 0 < pages = subst (λ k. 0 < k) (sym same_per) some in
        more (omega (arith, place, first, positive))) in
        same_shut (set n.notes at note) ms its (get_or-set_other n.notes at (last_slot n its) note Blank other)
        ∙ h.others its its_within (has_room_not_spare t table its (block_within t table at free.within) free.room)
        ∙ room_open t its free.room

    its_now : is_shut_now after its ≡ is_shut (block_state (with_slot t at) its)
    its_now = elim (cases_Bool ((at % pages + 1) == pages)) [
      | inl all ↦
          filled (eqb-true (at % pages + 1) pages all)
          ∙ sym (state_now ∙ ap (λ (b : Bool). is_shut (if b then Shut else Part)) all)
      | inr more ↦
          unfilled (eqb-false (at % pages + 1) pages more)
          ∙ sym (state_now ∙ ap (λ (b : Bool). is_shut (if b then Shut else Part)) more)
    ]

    others_now : (block : ℕ) → block < blocks_of (shape_of n.config) → block ≢ t.spare → block ≢ its →
        is_shut_now after block ≡ is_shut (block_state (with_slot t at) block)
    others_now block low apart other =
        same_shut (set n.notes at note) ms block
        (get_or-set_other n.notes at (last_slot n block) note Blank
        (last_apart block at (λ e. other (e ∙ sym its_is))))
        ∙ h.others block low apart
        ∙ ap is_shut (sym (ap (λ (u : BlockUse). u.state) (use_of-with_slot_other t at block other)))

    pub used_shut : AreShut after (with_slot t at)
    used_shut = record {
      spare = h.spare;
      others = λ block low apart. elim (cases_eq block its) [
        | inl here ↦ subst (λ b. is_shut_now after b ≡ is_shut (block_state (with_slot t at) b)) (sym here) its_now
        | inr other ↦ others_now block low apart other
      ];
    }

  -- another block becomes the spare, whose notes are others
  module _ (table : IsBlocksState t) (shape : t.shape ≡ shape_of n.config) (block : ℕ)
      (below : block < blocks_of (shape_of n.config)) (other : block ≢ t.spare)
      (mid : IsBlocksState (table_with_spare t block)) (taken : IsFilledTo n t.spare)
      (long : length n.closed ≡ blocks_of (shape_of n.config)) (notes : List Note)
      (out : (slot : ℕ) → slot / per ≢ block → note_at notes slot ≡ note_at n.notes slot) where
    abbrev swap : BlocksState
    swap = swapped t block taken.0

    abbrev now : IndexState
    now = with_spare (record n { notes = notes }) block

    below_table : block < blocks_of t.shape
    below_table = subst (λ (s : Shape). block < blocks_of s) (sym shape) below

    as_before : (b : ℕ) → b ≢ block → is_shut_now now b ≡ is_shut_now n b
    as_before b apart =
        ap₂ (λ closed note. closed || not (is_blank note)) (get_or-set_other n.closed block b false false apart)
        (out (last_slot n b) (λ e. apart (sym (last_in per b some) ∙ e)))

    old_noted : is_shut_now n t.spare ≡ not (is_blank (note_at n.notes (last_slot n t.spare)))
    old_noted = ap (λ closed. closed || not (is_blank (note_at n.notes (last_slot n t.spare)))) h.spare

    old_state : is_shut (block_state swap t.spare) ≡ is_shut (open_state per taken.0)
    old_state =
        ap is_shut (ap (λ (u : BlockUse). u.state) (use_old t table block below_table other mid taken.0))
        ∙ ap (λ (s : Shape). is_shut (open_state s.pages_per_block taken.0)) shape

    old_now : is_shut_now now t.spare ≡ is_shut (block_state swap t.spare)
    old_now = as_before t.spare (λ e. other (sym e)) ∙ old_noted ∙ by (cases_eq taken.0 per) ∙ sym old_state
      where
        by : (taken.0 ≡ per) ⊎ (taken.0 ≢ per) →
            not (is_blank (note_at n.notes (last_slot n t.spare))) ≡ is_shut (open_state per taken.0)
        by (inl all) =
            let held = (taken.1).records (per - 1) (omega (arith, all)) in
            ap (λ note. not (is_blank note)) held.1 ∙ sym (all_used per taken.0 some all)
        by (inr more) =
            let fits = (taken.1).within in
            let empty = (taken.1).tail (per - 1) (omega (arith, more, fits)) (omega arith) in
            ap (λ note. not (is_blank note)) empty ∙ sym (some_left per taken.0 (omega (arith, more, fits)))

    pub swapped_shut : AreShut now swap
    swapped_shut = record {
      spare = get_or-set_same n.closed block false false (rw long below);
      others = λ b low apart. elim (cases_eq b t.spare) [
        | inl old ↦ subst (λ x. is_shut_now now x ≡ is_shut (block_state swap x)) (sym old) old_now
        | inr elsewhere ↦
            as_before b apart ∙ h.others b low elsewhere
            ∙ ap is_shut (sym (ap (λ (u : BlockUse). u.state)
            (use_other t table block below_table other mid taken.0 b apart elsewhere)))
      ];
    }
