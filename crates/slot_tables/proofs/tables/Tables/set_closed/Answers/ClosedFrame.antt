-- The tables once a block is closed, or not.
use Rattle.slot_tables.proofs.Common.{◌≡◌, ℕ, ◌<◌, Bool, set, refl, sym, ap, ◌∙◌, length-set, with_item, blocks_of, Inside, BaseTables, is_needed, tables_state, TablesInvariant}

module _ (t : Inside) (h : TablesInvariant t) (block : ℕ) (flag : Bool) (low : block < blocks_of t.base.shape) where
  abbrev g' : BaseTables
  g' = record t.base { closed = with_item t.base.closed block flag }

  still : (at : ℕ) → is_needed (tables_state g') at ≡ is_needed (tables_state t.base) at
  unfolding is_needed
  still at = refl

  pub closed_frame : TablesInvariant (record t {
    base = g';
    live = record t.live { closed = set t.live.closed block flag };
  })
  closed_frame = record {
    sized = record {
      kept = record {
        shape = h.sized.kept.shape;
        slots = h.sized.kept.slots;
        records = h.sized.kept.records;
        answerers = h.sized.kept.answerers;
        waits = h.sized.kept.waits;
        current = h.sized.kept.current;
        pins = h.sized.kept.pins;
        spare = h.sized.kept.spare;
        closed = length-set t.base.closed.items block flag ∙ h.sized.kept.closed;
        held = h.sized.kept.held;
        counts = h.sized.kept.counts;
        versions = h.sized.kept.versions;
      };
      waits_pages = h.sized.waits_pages;
    };
    blanks = record { marks = h.blanks.marks; size = h.blanks.size };
    live = record {
      slots = h.live.slots;
      size = h.live.size;
      blocks = h.live.blocks;
      spare = h.live.spare;
      closed = ap (λ cs. set cs block flag) h.live.closed;
      needed = λ at. h.live.needed at ∙ sym (still at);
    };
  }
