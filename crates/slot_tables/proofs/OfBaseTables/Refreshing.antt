-- The tables after a change of what was given, once the homes of the records that it touches are refreshed.
use Rattle.slot_tables.proofs.Common.{◌≡◌, ◌≢◌, ℕ, ◌<◌, ◌⊎◌, Bool, inl, inr, Option, Some, None, List, [], length, get_or, set, refl, sym, ◌∙◌, ap, length-set, IfSome, IsSomeAnd, option_and_then, with_item, cases_eq, cases_lt, get_or-set_same, get_or-set_other, get_or_past, Contains-nil, slots_of, Rec, Inside, BaseTables, TablesState, number_at, record_at, home, copies_of, is_wanted, is_needed, LiveSlotsState, tables_state, refreshed, IsSized, TablesInvariant, AreMarked}
use Rattle.slot_tables.specs.TablesState.{AreVersions}
use Rattle.slot_tables.specs.Versions.{RecordsState, Names}
use Rattle.slot_tables.proofs.OfLiveSlots.Needing.{need_stays, refreshed_at, refreshed_long, home_lies, home_copy, current_wanted, answerer_wanted, pin_wanted, current_pin_wanted}
use Rattle.slot_tables.proofs.OfLiveSlots.Needing.{record_wanted}

-- the home of a number, if there is one
abbrev pub home_at : TablesState → Option ℕ → Option ℕ
home_at k number = option_and_then (home k) number

-- the marks once the homes of two records are refreshed
abbrev pub two_refreshed : TablesState → List Bool → Option ℕ → Option ℕ → List Bool
two_refreshed k needed a b = refreshed k (refreshed k needed (home_at k a)) (home_at k b)

-- they are right where they were so elsewhere
marked_twice : (k k' : TablesState) (n : LiveSlotsState) (a b : Option ℕ) → AreMarked k n →
    length k'.slots ≡ slots_of k.shape → k'.shape ≡ k.shape
    → k'.spare ≡ k.spare → k'.closed ≡ k.closed
    → ((at : ℕ) → (home_at k' a ≡ Some at → ⊥) → (home_at k' b ≡ Some at → ⊥) → is_needed k' at ≡ is_needed k at)
    → AreMarked k' (record n { needed = two_refreshed k' n.needed a b })
marked_twice k k' n a b m slots shape spare closed still = record {
  slots = refreshed_long k' (refreshed k' n.needed (home_at k' a)) (home_at k' b) ∙ long ∙ rw shape refl;
  size = m.size ∙ rw shape refl;
  blocks = m.blocks ∙ rw shape refl;
  spare = m.spare ∙ sym spare;
  closed = m.closed ∙ sym closed;
  needed = λ at.
      refreshed_at k' (refreshed k' n.needed (home_at k' a)) (home_at k' b) at
      (rw (long, ← slots) (home_lies k' b)) (λ off_b.
      refreshed_at k' n.needed (home_at k' a) at (rw (m.slots, ← slots) (home_lies k' a)) (λ off_a.
      m.needed at ∙ sym (still at off_a off_b)));
}
  where
    long : length (refreshed k' n.needed (home_at k' a)) ≡ slots_of k.shape
    long = refreshed_long k' n.needed (home_at k' a) ∙ m.slots

-- where another number is looked at than one that is refreshed
other_number : (k : TablesState) (o : Option ℕ) (number at : ℕ) → (home_at k o ≡ Some at → ⊥) →
    home k number ≡ Some at → o ≡ Some number → ⊥
other_number k o number at off is e = off (ap (option_and_then (home k)) e ∙ is)

-- the need of a slot stays where only what is wanted changes, and its record is none of two
wants_stay : (k k' : TablesState) (at : ℕ) (a b : Option ℕ) → k'.slots ≡ k.slots → k'.shape ≡ k.shape →
    k'.spare ≡ k.spare
    → ((number : ℕ) → (a ≡ Some number → ⊥) → (b ≡ Some number → ⊥) → is_wanted k' number ≡ is_wanted k number)
    → (home_at k' a ≡ Some at → ⊥) → (home_at k' b ≡ Some at → ⊥) → is_needed k' at ≡ is_needed k at
wants_stay k k' at a b slots shape spare still off_a off_b =
    need_stays k k' at (rw slots refl) (λ number is. by number (cases_home number))
  where
    same_home : (number : ℕ) → home k' number ≡ home k number
    same_home number = rw (slots, shape, spare) refl

    cases_home : (number : ℕ) → (home k' number ≡ Some at) ⊎ (home k' number ≡ Some at → ⊥)
    cases_home number = decide (home k' number)
      where
        decide : (o : Option ℕ) → (o ≡ Some at) ⊎ (o ≡ Some at → ⊥)
        decide None = inr (λ e. cc)
        decide (Some x) = elim (cases_eq x at) [
          | inl e ↦ inl (ap Some e)
          | inr other ↦ inr (λ e. other (let same : x ≡ at = cc in same))
        ]

    by : (number : ℕ) → (home k' number ≡ Some at) ⊎ (home k' number ≡ Some at → ⊥)
        → ((home k' number ≡ home k number) × (is_wanted k' number ≡ is_wanted k number)) ⊎ ((home k number ≡ Some at
        → ⊥) × (home k' number ≡ Some at → ⊥))
    by number (inl is) = inl (
      same_home number,
      still number (other_number k' a number at off_a is)
          (other_number k' b number at off_b is),
    )
    by number (inr off) = inr ((λ e. off (same_home number ∙ e)), off)

module _ (t : Inside) (h : TablesInvariant t) where
  abbrev g : BaseTables
  g = t.base

  abbrev k : TablesState
  k = tables_state t.base

  slots_long : length k.slots ≡ slots_of k.shape
  slots_long = h.sized.kept.slots

  -- another page that a record waits for
  pub waits_set : (number : ℕ) (to : Option ℕ)
      → TablesInvariant (record t {
        base = record g { waits = record g.waits { waits = set g.waits.waits number to } };
      })
  waits_set number to = record {
    sized = record {
      kept = record {
        shape = h.sized.kept.shape;
        slots = slots_long;
        records = h.sized.kept.records;
        answerers = h.sized.kept.answerers;
        waits = length-set g.waits.waits number to ∙ h.sized.kept.waits;
        current = h.sized.kept.current;
        pins = h.sized.kept.pins;
        spare = h.sized.kept.spare;
        closed = h.sized.kept.closed;
        held = h.sized.kept.held;
        counts = h.sized.kept.counts;
        versions = h.sized.kept.versions;
      };
      waits_pages = h.sized.waits_pages;
    };
    blanks = record { marks = h.blanks.marks; size = h.blanks.size };
    live = record {
      slots = h.live.slots;
      size = h.live.size;
      blocks = h.live.blocks;
      spare = h.live.spare;
      closed = h.live.closed;
      needed = λ at. h.live.needed at ∙ sym (wants_stay k (tables_state
          (record g { waits = record g.waits { waits = set g.waits.waits number to } })) at None None refl refl refl
          (λ x a b. refl)
          (λ e. cc) (λ e. cc));
    };
  }

  -- another current record of a page
  pub current_set : (page : ℕ) (to : Option ℕ) → page < length g.current → IfSome to (λ x. x < length k.slots)
      → let g' = record g { current = set g.current page to } in
      TablesInvariant (record t {
        base = g';
        live = record t.live { needed = two_refreshed (tables_state g') t.live.needed (number_at g.current page) to };
      })
  current_set page to low within =
      let g' = record g { current = set g.current page to } in
      record {
        sized = record {
          kept = record {
            shape = h.sized.kept.shape;
            slots = slots_long;
            records = h.sized.kept.records;
            answerers = h.sized.kept.answerers;
            waits = h.sized.kept.waits;
            current = length-set g.current page to ∙ h.sized.kept.current;
            pins = h.sized.kept.pins;
            spare = h.sized.kept.spare;
            closed = h.sized.kept.closed;
            held = h.sized.kept.held;
            counts = λ p x e. elim (cases_eq p page) [
              | inl here ↦ in_some to x (sym (get_or-set_same g.current page to None low) ∙ rw here at e) within
              | inr other ↦ h.sized.kept.counts p x (sym (get_or-set_other g.current page p to None other) ∙ e)
            ];
            versions = h.sized.kept.versions;
          };
          waits_pages = h.sized.waits_pages;
        };
        blanks = record { marks = h.blanks.marks; size = h.blanks.size };
        live = marked_twice k (tables_state g') t.live (number_at g.current page) to h.live slots_long refl refl refl
            (λ at off_a off_b. wants_stay k (tables_state g') at (number_at g.current page) to refl refl refl
            (λ number a b. current_wanted k page number to low a b) off_a off_b);
      }
    where
      in_some : (o : Option ℕ) (x : ℕ) → o ≡ Some x → IfSome o (λ y. y < length k.slots) → x < slots_of k.shape
      in_some None x e i = absurd (cc)
      in_some (Some y) x e i = let same : y ≡ x = cc in rw (← same, ← slots_long) i

  -- another answerer of a record
  pub answerer_set : (y : ℕ) (to : Option ℕ) → y < length g.answers
      → let g' = record g { answers = set g.answers y to } in
      TablesInvariant (record t {
        base = g';
        live = record t.live { needed = two_refreshed (tables_state g') t.live.needed (number_at g.answers y) to };
      })
  answerer_set y to low =
      let g' = record g { answers = set g.answers y to } in
      record {
        sized = record {
          kept = record {
            shape = h.sized.kept.shape;
            slots = slots_long;
            records = h.sized.kept.records;
            answerers = length-set g.answers y to ∙ h.sized.kept.answerers;
            waits = h.sized.kept.waits;
            current = h.sized.kept.current;
            pins = h.sized.kept.pins;
            spare = h.sized.kept.spare;
            closed = h.sized.kept.closed;
            held = h.sized.kept.held;
            counts = h.sized.kept.counts;
            versions = h.sized.kept.versions;
          };
          waits_pages = h.sized.waits_pages;
        };
        blanks = record { marks = h.blanks.marks; size = h.blanks.size };
        live = marked_twice k (tables_state g') t.live (number_at g.answers y) to h.live slots_long refl refl refl
            (λ at off_a off_b. wants_stay k (tables_state g') at (number_at g.answers y) to refl refl refl
            (λ number a b. answerer_wanted k y number to low a b) off_a off_b);
      }

  -- another pin of a page
  pub pin_set : (page version : ℕ) (old new : Option ℕ) → page < length g.pins.items
      → ((number : ℕ) (r : Rec) → record_at g.records.records number ≡ Some r →
      Names page (get_or g.pins.items page 0) r → old ≡ Some number)
      → ((number : ℕ) (r : Rec) → record_at g.records.records number ≡ Some r → Names page version r →
      new ≡ Some number)
      → let g' = record g { pins = with_item g.pins page version } in
      TablesInvariant (record t {
        base = g';
        live = record t.live { needed = two_refreshed (tables_state g') t.live.needed old new };
      })
  pin_set page version old new low was is =
      let g' = record g { pins = with_item g.pins page version } in
      record {
        sized = record {
          kept = record {
            shape = h.sized.kept.shape;
            slots = slots_long;
            records = h.sized.kept.records;
            answerers = h.sized.kept.answerers;
            waits = h.sized.kept.waits;
            current = h.sized.kept.current;
            pins = length-set g.pins.items page version ∙ h.sized.kept.pins;
            spare = h.sized.kept.spare;
            closed = h.sized.kept.closed;
            held = h.sized.kept.held;
            counts = h.sized.kept.counts;
            versions = h.sized.kept.versions;
          };
          waits_pages = h.sized.waits_pages;
        };
        blanks = record { marks = h.blanks.marks; size = h.blanks.size };
        live = marked_twice k (tables_state g') t.live old new h.live slots_long refl refl refl
            (λ at off_a off_b. wants_stay k (tables_state g') at old new refl refl refl
            (λ number a b. pin_wanted k page version number low
            (λ r e page_is. ((λ v. a (was number r e (page_is, v))), (λ v. b (is number r e (page_is, v))))))
            off_a off_b);
      }

  -- another pin of a page at which no record stands, where the old one names its current record, which is wanted so
  pub pin_left : (page version : ℕ) → page < length g.pins.items
      → ((number : ℕ) (r : Rec) → record_at g.records.records number ≡ Some r →
      Names page (get_or g.pins.items page 0) r → number_at g.current page ≡ Some number)
      → ((number : ℕ) (r : Rec) → record_at g.records.records number ≡ Some r → Names page version r → ⊥)
      → let g' = record g { pins = with_item g.pins page version } in TablesInvariant (record t { base = g' })
  pin_left page version low was none =
      let g' = record g { pins = with_item g.pins page version } in
      record {
        sized = record {
          kept = record {
            shape = h.sized.kept.shape;
            slots = slots_long;
            records = h.sized.kept.records;
            answerers = h.sized.kept.answerers;
            waits = h.sized.kept.waits;
            current = h.sized.kept.current;
            pins = length-set g.pins.items page version ∙ h.sized.kept.pins;
            spare = h.sized.kept.spare;
            closed = h.sized.kept.closed;
            held = h.sized.kept.held;
            counts = h.sized.kept.counts;
            versions = h.sized.kept.versions;
          };
          waits_pages = h.sized.waits_pages;
        };
        blanks = record { marks = h.blanks.marks; size = h.blanks.size };
        live = marked_twice k (tables_state g') t.live None None h.live slots_long refl refl refl
            (λ at off_a off_b. wants_stay k (tables_state g') at None None refl refl refl
            (λ number a b. current_pin_wanted k page version number low
            (λ r e page_is v. was number r e (page_is, v)) (λ r e page_is v. none number r e (page_is, v)))
            off_a off_b);
      }

  -- a number has another record, or none
  module _ (x : ℕ) (new : RecordsState) (to : Option Rec) (is : new.records ≡ set g.records.records x to)
      (long : length new.pages ≡ length g.records.pages)
      (versions : AreVersions new.records new.pages) where
    abbrev renewed : BaseTables
    renewed = record g { records = new }

    renewed_sized : IsSized renewed
    renewed_sized = record {
      kept = record {
        shape = h.sized.kept.shape;
        slots = slots_long;
        records = ap length is ∙ length-set g.records.records x to ∙ h.sized.kept.records;
        answerers = h.sized.kept.answerers;
        waits = h.sized.kept.waits;
        current = h.sized.kept.current ∙ sym long;
        pins = h.sized.kept.pins ∙ sym long;
        spare = h.sized.kept.spare;
        closed = h.sized.kept.closed;
        held = h.sized.kept.held;
        counts = h.sized.kept.counts;
        versions = versions;
      };
      waits_pages = h.sized.waits_pages ∙ sym long;
    }

    renewed_wanted : (number : ℕ) → number ≢ x → is_wanted (tables_state renewed) number ≡ is_wanted k number
    renewed_wanted number other =
        ap (λ rs. is_wanted (record k { records = rs }) number) is ∙ record_wanted k x number to other

    pub record_set : TablesInvariant (record t {
      base = renewed;
      live = record t.live {
        needed = refreshed (tables_state renewed) t.live.needed (home
            (tables_state renewed) x);
      };
    })
    record_set = record {
      sized = renewed_sized;
      blanks = record { marks = h.blanks.marks; size = h.blanks.size };
      live = marked_twice k (tables_state renewed) t.live (Some x) None h.live slots_long refl refl refl
          (λ at off_a off_b. wants_stay k (tables_state renewed) at (Some x) None refl refl refl
          (λ number a b. renewed_wanted number (λ e. a (ap Some (sym e)))) off_a off_b);
    }

    -- where no slot holds it nothing is to be refreshed
    pub record_gone : copies_of k.slots x ≡ [] → TablesInvariant (record t { base = renewed })
    record_gone none = record {
      sized = renewed_sized;
      blanks = record { marks = h.blanks.marks; size = h.blanks.size };
      live = record {
        slots = h.live.slots;
        size = h.live.size;
        blocks = h.live.blocks;
        spare = h.live.spare;
        closed = h.live.closed;
        needed = λ at.
            h.live.needed at
            ∙ sym (wants_stay k (tables_state renewed) at (Some x) None refl refl refl
            (λ number a b. renewed_wanted number (λ e. a (ap Some (sym e))))
            (λ e. Contains-nil at (rw none at (home_copy k x at e))) (λ e. cc));
      };
    }

-- a number that was found is one of them
pub found_lies : (records : List (Option Rec)) (P : Rec → Type 0) (count : ℕ) (o : Option ℕ) → count ≡ length records
    → IfSome o (λ number. IsSomeAnd (record_at records number) P) → IfSome o (λ number. number < count)
found_lies records P count None e h = tt
found_lies records P count (Some x) e h = elim (cases_lt x (length records)) [
  | inl low ↦ rw e low
  | inr past ↦ absurd (let none = get_or_past records x None past in rw none at h)
]
