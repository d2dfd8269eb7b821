-- The blocks with a slot that is not blank are closed one after the other.
use Rattle.version_index.proofs.Common.{◌≡◌, ℕ, ◌+◌, ◌<◌, ◌≤◌, Bool, false, List, length, get_or, set, refl, sym, ap, ◌∙◌, inl, inr, arith, cases_eq, cases_lt, length-set, length-replicate, get_or-set_same, get_or-set_other, get_or_past, blocks_of, Protocol, Shape, Seen, Found, TablesState, AreFilled}
use Rattle.std.proofs.Common.{replicate}
use Rattle.std.proofs.lemmas.List.{get_or-replicate, set-get_or}
use Rattle.std.proofs.lemmas.List.FromFn.{fill_by_all}
use Rattle.judged_records.specs.IndexState.{is_used_block, used_blocks}

-- the first blocks are closed where they are used, and the others are not closed
pub record AreClosedTo (seen : List Seen) (k now : TablesState) (upto : ℕ) : Type 0 where
  pub rest : now ≡ record k { closed = now.closed }
  pub long : length now.closed ≡ blocks_of k.shape
  pub done : (block : ℕ) → block < upto → get_or now.closed block false ≡ is_used_block k.shape seen block
  pub others : (block : ℕ) → upto ≤ block → get_or now.closed block false ≡ false

pub closed_first : (seen : List Seen) (k : TablesState) → length k.closed ≡ blocks_of k.shape →
    k.closed ≡ replicate (blocks_of k.shape) false → AreClosedTo seen k k 0
closed_first seen k long none = record {
  rest = refl;
  long = long;
  done = λ block less. absurd (omega arith);
  others = λ block from. ap (λ l. get_or l block false) none ∙ (elim (cases_lt block (blocks_of k.shape)) [
    | inl low ↦ get_or-replicate (blocks_of k.shape) block false false low
    | inr past ↦ get_or_past (replicate (blocks_of k.shape) false) block false
        (let size = length-replicate {A = Bool} (blocks_of k.shape) false in omega arith)
  ]);
}

pub closed_next : (seen : List Seen) (k now : TablesState) (upto : ℕ) (flag : Bool) → AreClosedTo seen k now upto →
    upto < blocks_of k.shape → flag ≡ is_used_block k.shape seen upto
    → AreClosedTo seen k (record now { closed = set now.closed upto flag }) (upto + 1)
closed_next seen k now upto flag h low is = record {
  rest = ap (λ (n : TablesState). record n { closed = set now.closed upto flag }) h.rest;
  long = length-set now.closed upto flag ∙ h.long;
  done = λ block less. elim (cases_eq block upto) [
    | inl here ↦ rw here (get_or-set_same now.closed upto flag false (rw h.long low) ∙ is)
    | inr other ↦ get_or-set_other now.closed upto block flag false other ∙ h.done block (omega arith)
  ];
  others = λ block from. get_or-set_other now.closed upto block flag false (λ here. omega arith)
      ∙ h.others block (omega arith);
}

-- a block that is not closed and not used stays as it is
pub stays_open : (k : TablesState) (block : ℕ) (flag : Bool) → get_or k.closed block false ≡ false → flag ≡ false →
    k ≡ record k { closed = set k.closed block flag }
stays_open k block flag none is =
    ap (λ (cs : List Bool). record k { closed = cs })
    (sym (ap (set k.closed block) (is ∙ sym none) ∙ set-get_or k.closed block false))

pub closed_all : (seen : List Seen) (k now : TablesState) (upto : ℕ) → AreClosedTo seen k now upto →
    upto ≡ blocks_of k.shape → now ≡ record k { closed = used_blocks k.shape seen }
closed_all seen k now upto h all =
    h.rest ∙ ap (λ (cs : List Bool). record k { closed = cs })
    (fill_by_all (is_used_block k.shape seen) now.closed (blocks_of k.shape) false h.long
    (λ block low. h.done block (omega (arith, all))))

-- tables that are filled are so with other blocks closed
pub filled_closed : (protocol : Protocol) (list : List Found) (its : Shape) (logical : ℕ) (t : TablesState)
    (closed : List Bool) → AreFilled protocol list its logical t →
    AreFilled protocol list its logical (record t { closed = closed })
filled_closed protocol list its logical t closed h = record {
  numbers = h.numbers;
  whole = h.whole;
  numbered = record { each = h.numbered.each; some = h.numbered.some; once = h.numbered.once };
  placed = h.placed;
  current = h.current;
  done = h.done;
  others = h.others;
  shape = h.shape;
  pages = h.pages;
  pins = h.pins;
  spare = h.spare;
}
