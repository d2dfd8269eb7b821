-- The tables of a flash with nothing but blank slots.
use Rattle.slot_tables.proofs.Common.{◌≡◌, ℕ, ◌*◌, ◌<◌, ◌≤◌, Bool, true, false, inl, inr, Option, Some, None, List, [], length, get_or, map, replicate, refl, sym, ◌∙◌, ap, arith, cases_lt, get_or-replicate, get_or_past, length-replicate, length-map, Contains-nil, Rec, slots_of, blocks_of, SlotUse, Blank, IsTablesState, is_blank, tables_state}
use Rattle.std.proofs.lemmas.List.{get_or-map, ext_get_or}
use Rattle.tx_types.specs.declared.config.Shape.{Shape}
use Rattle.tx_types.specs.Config.{IsShape}
use Rattle.slot_tables.specs.declared.tables_builder.TablesBuilder.TheInside.{Inside}
use Rattle.slot_tables.specs.TablesState.{AreVersions, blank_tables}
use Rattle.slot_tables.specs.TablesBuilder.{TablesBuilderInvariant}
use Rattle.slot_tables.proofs.OfBaseTables.Held.{none_held}

-- a list of one item alone has it everywhere, or its default
all_same : {X : Type 0} (n k : ℕ) (x : X) → get_or (replicate n x) k x ≡ x
all_same {X} n k x = elim (cases_lt k n) [
  | inl low ↦ get_or-replicate {A = X} n k x x low
  | inr past ↦ get_or_past {X = X} (replicate n x) k x (rw (length-replicate {A = X} n x) past)
]

no_versions : (count pages : ℕ) → AreVersions (replicate count None) (replicate pages [])
no_versions count pages = record {
  page = λ p y is. absurd (Contains-nil y (rw (all_same {X = List ℕ} pages p []) at is));
  listed = λ y r is. absurd (let no : None ≡ Some r = sym (all_same {X = Option Rec} count y None) ∙ is in cc);
  falls = λ p. rw (all_same {X = List ℕ} pages p []) (λ i j d less low. absurd (omega arith));
}

module _ (s : Shape) (logical : ℕ) (shape : IsShape s) (few : logical ≤ slots_of s) where
  blank_kept : IsTablesState (blank_tables s logical)
  blank_kept = record {
    shape = shape;
    slots = length-replicate {A = SlotUse} (slots_of s) Blank;
    records = length-replicate {A = Option Rec} (slots_of s) None;
    answerers = length-replicate {A = Option ℕ} (slots_of s) None;
    waits = length-replicate {A = Option ℕ} (slots_of s) None;
    current = length-replicate {A = Option ℕ} logical None ∙ sym (length-replicate {A = List ℕ} logical []);
    pins = length-replicate {A = ℕ} logical 0 ∙ sym (length-replicate {A = List ℕ} logical []);
    spare = tt;
    closed = length-replicate {A = Bool} (blocks_of s) false;
    held = λ at number is. absurd (none_held (slots_of s) at number is);
    counts = λ page number is. absurd (let no : None ≡ Some number = sym (all_same {X = Option ℕ} logical page None)
        ∙ is in cc);
    versions = no_versions (slots_of s) logical;
  }

  whole : blocks_of s * s.pages_per_block ≡ slots_of s
  whole = omega arith

  pub first_filling : (t : Inside) → tables_state t.base ≡ blank_tables s logical → t.base.waits.pages ≡ logical
      → t.blanks ≡ record { marks = replicate (blocks_of s * s.pages_per_block) true; size = s.pages_per_block } →
      t.base.spare ≡ None
      → TablesBuilderInvariant t
  first_filling t kept waits blanks spare = record {
    sized = record {
      kept = rw kept blank_kept;
      waits_pages = waits ∙ sym (ap (λ k. length k.pages) kept ∙ length-replicate {A = List ℕ} logical []);
    };
    blanks = rw (kept, blanks) (record {
      marks =
          ext_get_or false (replicate (blocks_of s * s.pages_per_block) true)
          (map is_blank (replicate (slots_of s) Blank))
          (length-replicate {A = Bool} (blocks_of s * s.pages_per_block) true ∙ whole
          ∙ sym (length-map (replicate (slots_of s) Blank) is_blank
          ∙ length-replicate {A = SlotUse} (slots_of s) Blank))
          (λ at low.
          let lies : at < blocks_of s * s.pages_per_block =
          rw (length-replicate {A = Bool} (blocks_of s * s.pages_per_block) true) at low in
          let lies_too : at < slots_of s = rw whole at lies in
          get_or-replicate {A = Bool} (blocks_of s * s.pages_per_block) at true false lies
          ∙ sym (get_or-map is_blank (replicate (slots_of s) Blank) at Blank false
          (rw (length-replicate {A = SlotUse} (slots_of s) Blank) lies_too)
          ∙ ap is_blank (get_or-replicate {A = SlotUse} (slots_of s) at Blank Blank lies_too)));
      size = refl;
    });
    spare = spare;
    closed = ap (λ k. k.closed) kept ∙ sym (ap (λ k. replicate (blocks_of k.shape) false) kept);
  }
