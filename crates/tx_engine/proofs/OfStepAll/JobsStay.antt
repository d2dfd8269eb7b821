-- What a program that was done, or damaged its slot, leaves of another transaction's: its record, that nothing must go
-- before it, and its slot.
use Rattle.tx_engine.proofs.Common.{◌≡◌, ◌≢◌, ◌⊎◌, ℕ, ◌/◌, ◌<◌, ◌≤◌, Bool, true, false, ◌&&◌, List, All, Contains, None, refl, sym, ap, ap₂, ◌∙◌, subst, inl, inr, arith, nat_lt, cases_Bool, lt-ltb, length-set, get_or-set_other, All-contains, Config, Protocol, Shape, Rec, Found, cur, must_go, back_version, found_in, IndexState, block_to_go, current_of, BlocksState, IsFirstFree, with_slot, die_of, record_due, OpenTransactionsState, TransactionState, IsDueAt, no_transaction, transaction_at, with_transaction, name_at}
use Rattle.std.proofs.Common.{◌%◌, ltb-true}
use Rattle.std.specs.Prelude.{◌||◌}
use Rattle.std.proofs.lemmas.Bool.{ne_eqb}
use Rattle.tx_types.specs.declared.config.BlockState.TheVariants as state
use Rattle.tx_types.specs.declared.config.Protocol.TheVariants.{Scc, Bpcc}
use Rattle.record_list.specs.Current.{is_loose}
use Rattle.record_list.specs.Records.{mentions_below}
use Rattle.die_alloc.specs.BlocksState.{block_of_slot, use_of}
use Rattle.die_alloc.specs.declared.block_use.BlockUse.{BlockUse}
use Rattle.die_alloc.proofs.Changes.{use_of-with_slot_other}
use Rattle.collector.proofs.OfRoom.GoneRecords.{going_none, none_going}

-- a record of which neither its page nor that of its link is the page does not mention it
pub mentions_off : (page below : ℕ) (r : Rec) → r.page ≢ page → r.next.page ≢ page → mentions_below page below r ≡ false
mentions_off page below r own link =
    ap₂ (λ a b. (a && nat_lt r.version below) || (b && nat_lt r.next.version below)) (ne_eqb r.page page own)
    (ne_eqb r.next.page page link)

and_false : (b : Bool) → (b && false) ≡ false
and_false true = refl
and_false false = refl

-- a record that need not go does so neither where its page's current version rose, or stayed
pub goes_less : (p : Protocol) (l m : List Found) (logical page below : ℕ) (r : Rec) →
    cur p l logical r.page ≤ cur p m logical r.page →
    must_go p l logical page below r ≡ false → must_go p m logical page below r ≡ false
goes_less Bpcc l m logical page below r rose h = refl
goes_less Scc l m logical page below r rose h = elim (cases_Bool (is_loose Scc m logical r)) [
  | inr fails ↦ ap (λ b. b && mentions_below page below r) fails
  | inl passes ↦ (
      let version : cur Scc m logical r.page < r.version = ltb-true (cur Scc m logical r.page) r.version passes in
      let was : is_loose Scc l logical r ≡ true = lt-ltb (cur Scc l logical r.page) r.version
      (omega (arith, rose, version)) in
      let off : mentions_below page below r ≡ false = sym (ap (λ b. b && mentions_below page below r) was) ∙ h in
      ap (λ b. is_loose Scc m logical r && b) off ∙ and_false (is_loose Scc m logical r))
]

-- nor does one that does not mention the page
pub goes_off : (p : Protocol) (l : List Found) (logical page below : ℕ) (r : Rec) →
    mentions_below page below r ≡ false →
    must_go p l logical page below r ≡ false
goes_off Bpcc l logical page below r off = refl
goes_off Scc l logical page below r off = ap (λ b. is_loose Scc l logical r && b) off
    ∙ and_false (is_loose Scc l logical r)

-- the back version of a page whose current version stays
pub back_same : (p : Protocol) (l m : List Found) (logical page : ℕ) → cur p m logical page ≡ cur p l logical page →
    back_version p m logical page ≡ back_version p l logical page
back_same Scc l m logical page same = refl
back_same Bpcc l m logical page same = same

-- What is noted afterwards: what was noted, and a record that does not mention the page. No current version fell, and
-- that of the page stays.
pub record KeepsOff (n n' : IndexState) (page : ℕ) : Type 0 where
  pub config : n'.config ≡ n.config
  pub records : (below : ℕ) (f : Found) → Contains (found_in n'.notes) f →
      ((g : Found) × Contains (found_in n.notes) g × (g.rec ≡ f.rec)) ⊎ (mentions_below page below f.rec ≡ false)
  pub rises : (other : ℕ) → other < n.config.logical → current_of n other ≤ current_of n' other
  pub stays : current_of n' page ≡ current_of n page

pub clear_off : (n n' : IndexState) (page below : ℕ) → KeepsOff n n' page →
    All (λ f. f.rec.page < n.config.logical) (found_in n.notes) →
    block_to_go n page below ≡ None → block_to_go n' page below ≡ None
unfolding current_of
clear_off n n' page below h low none = none_going n' page below (λ f i. elim (h.records below f i) [
  | inr off ↦ goes_off n'.config.protocol (found_in n'.notes) n'.config.logical page below f.rec off
  | inl was ↦ (
      let inside : was.0.rec.page < n.config.logical = All-contains (λ (g : Found). g.rec.page < n.config.logical)
      (found_in n.notes) was.0 low was.1 in
      let rose : cur n.config.protocol (found_in n.notes) n.config.logical was.0.rec.page ≤ cur n'.config.protocol
      (found_in n'.notes) n'.config.logical
      was.0.rec.page = h.rises was.0.rec.page inside in
      let up : cur n.config.protocol (found_in n.notes) n.config.logical was.0.rec.page ≤ cur n.config.protocol
      (found_in n'.notes) n.config.logical
      was.0.rec.page = subst (λ (c : Config). cur n.config.protocol (found_in n.notes) n.config.logical was.0.rec.page
      ≤ cur c.protocol (found_in n'.notes)
      c.logical was.0.rec.page) h.config rose in
      subst (λ (c : Config). must_go c.protocol (found_in n'.notes) c.logical page below f.rec ≡ false) (sym h.config)
      (subst (λ (r : Rec). must_go n.config.protocol (found_in n'.notes) n.config.logical page below r ≡ false) was.2
      (goes_less n.config.protocol (found_in n.notes) (found_in n'.notes) n.config.logical page below was.0.rec up
      (going_none n page below none was.0 was.1))))
])

-- the record that a transaction writes next, of whose page the current version stays
pub due_off : (n n' : IndexState) (o : TransactionState) → KeepsOff n n' (name_at o.naming o.entry.done).page →
    record_due n' o ≡ record_due n o
unfolding current_of
due_off n n' o h =
    let name = name_at o.naming o.entry.done in
    let now : cur n.config.protocol (found_in n'.notes) n.config.logical name.page
    ≡ cur n.config.protocol (found_in n.notes) n.config.logical name.page =
    ap (λ (c : Config). cur c.protocol (found_in n'.notes) c.logical name.page) (sym h.config) ∙ h.stays in
    let back : back_version n'.config.protocol (found_in n'.notes) n'.config.logical name.page
    ≡ back_version n.config.protocol (found_in n.notes) n.config.logical name.page =
    ap (λ (c : Config). back_version c.protocol (found_in n'.notes) c.logical name.page) h.config
    ∙ back_same n.config.protocol (found_in n.notes) (found_in n'.notes) n.config.logical name.page now in
    ap (λ b. record (record_due n o) { back = b }) back

-- the first free slot of a block in which no slot was used
pub first_off : (t : BlocksState) (at other : ℕ) → block_of_slot t.shape other ≢ block_of_slot t.shape at →
    IsFirstFree t other →
    IsFirstFree (with_slot t at) other
first_off t at other apart h =
    let same : use_of (with_slot t at) (block_of_slot t.shape other) ≡ use_of t (block_of_slot t.shape other) =
    use_of-with_slot_other t at (block_of_slot t.shape other) apart in
    record {
      free = record {
        within = h.free.within;
        room = subst (λ (u : BlockUse). (u.state ≡ state.Clean) ⊎ (u.state ≡ state.Part)) (sym same) h.free.room;
        unused = subst (λ (u : BlockUse). u.used ≤ other % t.shape.pages_per_block) (sym same) h.free.unused;
      };
      first = h.first ∙ ap (λ (u : BlockUse). u.used) (sym same);
    }

-- slots of different dies lie in different blocks
pub blocks_apart : (shape : Shape) (a b : ℕ) → die_of shape a < die_of shape b →
    block_of_slot shape b ≢ block_of_slot shape a
blocks_apart shape a b less same = absurd (let dies : die_of shape b
    ≡ die_of shape a = ap (λ k. k / shape.blocks_per_die) same in omega (arith, less, dies))

-- a transaction beside one that is replaced
pub due_beside : (O : OpenTransactionsState) (i j : ℕ) (new : TransactionState) → j ≢ i →
    transaction_at (with_transaction O i new) j ≡ transaction_at O j
due_beside O i j new other = get_or-set_other O.all i j new no_transaction other

pub due_at_beside : (O : OpenTransactionsState) (i j : ℕ) (new : TransactionState) → j ≢ i → IsDueAt O j →
    IsDueAt (with_transaction O i new) j
due_at_beside O i j new other h =
    let same = due_beside O i j new other in
    record {
      exists = subst (λ len. j < len) (sym (length-set O.all i new)) h.exists;
      plain = ap (λ (x : TransactionState). x.entry.mark) same ∙ h.plain;
      unnoted = ap (λ (x : TransactionState). x.naming.noted_count) same ∙ h.unnoted
          ∙ ap (λ (x : TransactionState). x.entry.done) (sym same);
    }
