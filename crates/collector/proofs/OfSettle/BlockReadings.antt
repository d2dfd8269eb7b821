-- Reading the slots of a block, one after another.
use Rattle.collector.proofs.Common.{◌≡◌, ℕ, ◌+◌, ◌-◌, ◌*◌, ◌<◌, ◌≤◌, Bool, true, false, ◌&&◌, if◌then◌else◌, List, Ok, Err, Result, refl, sym, ap, ap₂, ◌∙◌, subst, arith, range_with_len, list_all, FlashState, Contents, blank, damaged, complete, slot_at, Reads, Seen, Broken, Moment, Carries-then, block_within, same_read, shape_of, slots_of, blocks_of, Note, Blank, Damaged, Holds, note_at, IndexState, Looks, counted_times, reads_alike, holds_record, is_blank_slot}
use Rattle.list_lemmas.proofs.Ranges.{range_push}
use Rattle.flash_model.specs.Flash.{counted}
use Rattle.flash_model.specs.Calls.{seen_of}
use Rattle.flash_model.specs.declared.flash.Seen.TheVariants as seen
use Rattle.flash_model.proofs.CallLemmas.{Carries-nothing}
use Rattle.judged_records.specs.Notes.{seen_as}
use Rattle.collector.specs.Looking.{ReadsAtMost}
use Rattle.flash_model.proofs.ComingLemmas.{counted_times-then}
use Rattle.collector.specs.Settling.{ReadsBlock, reads_as}
use Rattle.flash_model.specs.Readings.{reads_blank}

-- none was read
pub looks_none : (s : FlashState) → Looks s s 0 false
looks_none s = record { moment = refl; carries = Carries-nothing s; all = refl; some = tt }

-- one read that was done
pub looks_once : (s s1 : FlashState) (at : ℕ) (bytes spare : List ℕ) (r : Result Seen Broken) (how : Seen) →
    Reads s s1 at bytes spare r → r ≡ Ok how →
    Looks s s1 1 false
looks_once s s1 at bytes spare r how e ok =
    let done : Reads s s1 at bytes spare (Ok how) = subst (Reads s s1 at bytes spare) ok e in
    record {
      moment = same_read s s1 at bytes spare (Ok how) done;
      carries = done.carries;
      all = done.reads ∙ ap (λ b. if b then counted s.reads else s.reads) done.powered;
      some = tt;
    }

one_or_none : (b : Bool) (n m : ℕ) → m ≡ (if b then counted n else n) → ReadsAtMost 1 n m
one_or_none true n m e = (1, omega arith, e)
one_or_none false n m e = (0, omega arith, e)

-- and one that was broken
pub looks_broken : (s s1 : FlashState) (at : ℕ) (bytes spare : List ℕ) (r : Result Seen Broken) (x : Broken) →
    Reads s s1 at bytes spare r → r ≡ Err x →
    Looks s s1 1 true
looks_broken s s1 at bytes spare r x e err =
    let done : Reads s s1 at bytes spare (Err x) = subst (Reads s s1 at bytes spare) err e in
    record {
      moment = same_read s s1 at bytes spare (Err x) done;
      carries = done.carries;
      all = tt;
      some = one_or_none s.live s.reads s1.reads done.reads;
    }

-- reads one after another
looks_then : (a b c : FlashState) (k : ℕ) (broken : Bool) → Looks a b k false → Looks b c 1 broken →
    Looks a c (k + 1) broken
looks_then a b c k true ab bc = record {
  moment = bc.moment ∙ ab.moment;
  carries = Carries-then a b c true ab.carries bc.carries;
  all = tt;
  some = (
    k + bc.some.0,
    omega (arith, bc.some.1),
    bc.some.2 ∙ ap (counted_times bc.some.0) ab.all
        ∙ counted_times-then k bc.some.0 a.reads,
  );
}
looks_then a b c k false ab bc = record {
  moment = bc.moment ∙ ab.moment;
  carries = Carries-then a b c false ab.carries bc.carries;
  all = bc.all ∙ ap (counted_times 1) ab.all ∙ counted_times-then k 1 a.reads;
  some = tt;
}

-- fewer reads than were asked for, of which one was broken
looks_fewer : (a c : FlashState) (k most : ℕ) → k ≤ most → Looks a c k true → Looks a c most true
looks_fewer a c k most le h = record {
  moment = h.moment;
  carries = h.carries;
  all = tt;
  some = (h.some.0, omega (arith, h.some.1, le), h.some.2);
}

-- how a slot reads that holds these contents
pub blank_reads : (contents : Contents) → reads_blank (seen_of contents) ≡ is_blank_slot contents
blank_reads blank = refl
blank_reads damaged = refl
blank_reads (complete bytes spare) = refl

alike : (note : Note) (contents : Contents) → reads_alike (seen_of contents) (seen_as note) ≡ reads_as note contents
alike Blank blank = refl
alike Blank damaged = refl
alike Blank (complete bytes spare) = refl
alike Damaged blank = refl
alike Damaged damaged = refl
alike Damaged (complete bytes spare) = refl
alike (Holds rec) blank = refl
alike (Holds rec) damaged = refl
alike (Holds rec) (complete bytes spare) = refl

abbrev test_noted : IndexState → List Contents → ℕ → Bool
test_noted n image slot = reads_as (note_at n.notes slot) (slot_at image slot)

abbrev test_blank : List Contents → ℕ → Bool
test_blank image slot = is_blank_slot (slot_at image slot)

-- what is known once the slots of a block before this one were read
pub record ReadSoFar (n : IndexState) (old now : FlashState) (first at : ℕ) (as_noted blank : Bool) : Type 0 where
  pub looks : Looks old now (at - first) false
  pub noted : as_noted ≡ list_all (test_noted n old.image) (range_with_len first (at - first))
  pub blanks : blank ≡ list_all (test_blank old.image) (range_with_len first (at - first))

pub read_none : (n : IndexState) (s : FlashState) (first : ℕ) → ReadSoFar n s s first first true true
read_none n s first =
    let none : first - first ≡ 0 = omega arith in
    record {
      looks = subst (λ k. Looks s s k false) (sym none) (looks_none s);
      noted = ap (λ k. list_all (test_noted n s.image) (range_with_len first k)) (sym none);
      blanks = ap (λ k. list_all (test_blank s.image) (range_with_len first k)) (sym none);
    }

module _ (n : IndexState) (old now : FlashState) (first at : ℕ) (x y : Bool) (h : ReadSoFar n old now first at x y)
    (c : FlashState) (bytes spare : List ℕ)
    (r : Result Seen Broken) (reads : Reads now c at bytes spare r) where
  -- a read that is broken ends it
  pub read_broken : (most : ℕ) (e : Broken) → r ≡ Err e → first ≤ at → at < first + most → Looks old c most true
  read_broken most e is low high =
      looks_fewer old c (at - first + 1) most (omega arith)
      (looks_then old now c (at - first) true h.looks (looks_broken now c at bytes spare r e reads is))

  -- and one that is done goes on
  pub read_more : (how : Seen) → r ≡ Ok how → first ≤ at → (e b : Bool) →
      e ≡ reads_alike how (seen_as (note_at n.notes at)) → b ≡ reads_blank how →
      ReadSoFar n old c first (at + 1) (x && e) (y && b)
  read_more how is low e b same none =
      let done : Reads now c at bytes spare (Ok how) = subst (Reads now c at bytes spare) is reads in
      let shows : how ≡ seen_of (slot_at old.image at) = done.done.how_it_reads
      ∙ ap (λ i. seen_of (slot_at i at)) (ap (λ (m : Moment). m.image) h.looks.moment) in
      let here : first + (at - first) ≡ at = omega arith in
      let next : at - first + 1 ≡ at + 1 - first = omega arith in
      let e_is : e ≡ test_noted n old.image (first + (at - first)) =
      same ∙ ap (λ q. reads_alike q (seen_as (note_at n.notes at))) shows
      ∙ alike (note_at n.notes at) (slot_at old.image at)
      ∙ ap (test_noted n old.image) (sym here) in
      let b_is : b ≡ test_blank old.image (first + (at - first)) = none ∙ ap reads_blank shows
      ∙ blank_reads (slot_at old.image at)
      ∙ ap (test_blank old.image) (sym here) in
      record {
        looks = subst (λ k. Looks old c k false) next (looks_then old now c (at - first) false h.looks
            (looks_once now c at bytes spare r how reads is));
        noted = ap₂ (λ p q. p && q) h.noted e_is ∙ sym (range_push (test_noted n old.image) first (at - first))
            ∙ ap (λ k. list_all (test_noted n old.image) (range_with_len first k)) next;
        blanks = ap₂ (λ p q. p && q) h.blanks b_is ∙ sym (range_push (test_blank old.image) first (at - first))
            ∙ ap (λ k. list_all (test_blank old.image) (range_with_len first k)) next;
      }

-- all were read
pub record AllRead (n : IndexState) (old now : FlashState) (block : ℕ) (x y : Bool) : Type 0 where
  pub read : ReadsBlock n old.image block (record { as_noted = x; blank = y })
  pub looks : Looks old now n.config.pages_per_block false

pub read_all : (n : IndexState) (old now : FlashState) (block at : ℕ) (x y : Bool) (pages : ℕ) →
    pages ≡ n.config.pages_per_block → at ≡ block * pages + pages →
    ReadSoFar n old now (block * pages) at x y → AllRead n old now block x y
read_all n old now block at x y pages same =
    subst (λ k. at ≡ block * k + k → ReadSoFar n old now (block * k) at x y → AllRead n old now block x y)
    (sym same) (λ end h.
    let per = n.config.pages_per_block in
    let count : at - block * per ≡ per = omega arith in
    record {
      read = record {
        as_noted = h.noted ∙ ap (λ k. list_all (test_noted n old.image) (range_with_len (block * per) k)) count;
        blank = h.blanks ∙ ap (λ k. list_all (test_blank old.image) (range_with_len (block * per) k)) count;
      };
      looks = subst (λ k. Looks old now k false) count h.looks;
    })

-- a slot of the block is a slot of the flash
pub in_block : (n : IndexState) (block at pages : ℕ) → block < blocks_of (shape_of n.config) →
    pages ≡ n.config.pages_per_block → at < block * pages + pages →
    at < slots_of (shape_of n.config)
in_block n block at pages below same high =
    let within = block_within (shape_of n.config) block below in
    let low : at < block * n.config.pages_per_block + n.config.pages_per_block =
    subst (λ k. at < block * k + k) same high in
    omega (arith, within, low)

-- a slot that is noted as complete holds a record
pub complete_holds : (note : Note) → reads_alike (seen_as note) seen.Complete ≡ holds_record note
complete_holds Blank = refl
complete_holds Damaged = refl
complete_holds (Holds rec) = refl
