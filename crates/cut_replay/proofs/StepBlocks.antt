-- Which blocks hold records that must go before a page is written, by the versions at which records mention it.
use Rattle.cut_replay.proofs.Common.{◌≡◌, ◌⊎◌, ℕ, ◌+◌, ◌<◌, ◌≤◌, Bool, true, List, [], ◌∷◌, length, refl, sym, ap, ◌∙◌, inl, inr, arith, Config, Protocol, shape_of, mention, IndexState}
use Rattle.std.proofs.Common.{◌==◌, ◌/◌, ◌&&◌, eqb, ltb, eqb-true, ltb-true, eq-eqb, map, get_or, Contains}
use Rattle.std.specs.List.{list_any}
use Rattle.std.proofs.lemmas.Bool.{or_cases, or_left, or_right, and_parts, and_from, lt-ltb, ne_eqb, cond-true, cond-false}
use Rattle.std.proofs.Common.{length-append}
use Rattle.std.proofs.Math.ListN.{length-map}
use Rattle.std.proofs.lemmas.List.Elements.{All-contains}
use Rattle.std.proofs.lemmas.Slice.Zip.{get_or-zip, length-zip}
use Rattle.std.proofs.Math.Nat.{le-max_left, le-max_right}
use Rattle.list_lemmas.proofs.Counts.{count_more}
use Rattle.list_lemmas.proofs.Tests.{any_of, any_from}
use Rattle.tx_types.specs.Batch.{PageWrite}
use Rattle.tx_types.specs.Config.{blocks_of}
use Rattle.tx_types.specs.declared.config.Protocol.TheVariants.{Scc, Bpcc}
use Rattle.tx_types.specs.declared.record.Link.{Link}
use Rattle.tx_types.specs.declared.record.Rec.{Rec}
use Rattle.flash_model.specs.Flash.{Contents}
use Rattle.record_list.specs.Current.{is_loose, must_go}
use Rattle.record_list.specs.Records.{mention_at, version_of, linked_at, mentions_below, newest, is_present}
use Rattle.record_list.specs.Transaction.{IsAsked, next_names}
use Rattle.record_list.specs.declared.found.Found.{Found}
use Rattle.record_list.proofs.OfFacts.Asking.{rounded_at}
use Rattle.record_list.proofs.OfFacts.Facts.{cur_le}
use Rattle.record_list.proofs.OfFacts.Names.{found_named, greatest_bound, greatest_least}
use Rattle.record_list.proofs.OfFacts.SoundNames.{sound_map}
use Rattle.judged_records.specs.IndexState.{IsNoted}
unfoldable use Rattle.judged_records.specs.IndexState.{current_of}
use Rattle.judged_records.specs.Notes.{found_in}
use Rattle.array_machine.specs.ArrayState.{Entry}
use Rattle.array_machine.specs.declared.mark.Mark.{Mark}
use Rattle.array_machine.specs.declared.mark.Mark.TheVariants.{Plain, Doubt, Whole}
use Rattle.open_table.specs.OpenTransactionsState.{Naming, name_at, no_name}
use Rattle.tx_engine.specs.DeviceState.{IsAsMarked, IsUnderWay}
use Rattle.cut_replay.specs.Costs.{blocks_going}

-- ---- mentions below a version

own_mention : (page : ℕ) (r : Rec) → r.page ≡ page → r.version ≤ mention_at page r
own_mention page r is =
    let left = le-max_left (version_of page r) (linked_at page r) in
    let at : version_of page r ≡ r.version = cond-true (eqb r.page page) r.version 0 (eq-eqb r.page page is) in
    omega (arith, left, at)

link_mention : (page : ℕ) (r : Rec) → r.next.page ≡ page → r.next.version ≤ mention_at page r
link_mention page r is =
    let right = le-max_right (version_of page r) (linked_at page r) in
    let at : linked_at page r ≡ r.next.version = cond-true (eqb r.next.page page) r.next.version 0
    (eq-eqb r.next.page page is) in
    omega (arith, right, at)

lower : (v old new top : ℕ) → (old ≤ new) ⊎ (top < new) → v < old → v ≤ top → v < new
lower v old new top (inl le) below most = omega (arith, le, below)
lower v old new top (inr high) below most = omega (arith, high, most)

-- of a version that is as high, or above all mentions
still_below : (page old new : ℕ) (r : Rec) → (old ≤ new) ⊎ (mention_at page r < new) →
    mentions_below page old r ≡ true → mentions_below page new r ≡ true
still_below page old new r high h = elim (or_cases (eqb r.page page && ltb r.version old)
    (eqb r.next.page page && ltb r.next.version old) h) [
      | inl own ↦ (
          let parts = and_parts (eqb r.page page) (ltb r.version old) own in
          let low = lower r.version old new (mention_at page r) high (ltb-true r.version old parts.1)
          (own_mention page r (eqb-true r.page page parts.0)) in
          or_left (eqb r.page page && ltb r.version new) (eqb r.next.page page && ltb r.next.version new)
          (and_from (eqb r.page page) (ltb r.version new) parts.0 (lt-ltb r.version new low)))
      | inr link ↦ (
          let parts = and_parts (eqb r.next.page page) (ltb r.next.version old) link in
          let low = lower r.next.version old new (mention_at page r) high (ltb-true r.next.version old parts.1)
          (link_mention page r (eqb-true r.next.page page parts.0)) in
          or_right (eqb r.page page && ltb r.version new) (eqb r.next.page page && ltb r.next.version new)
          (and_from (eqb r.next.page page) (ltb r.next.version new) parts.0 (lt-ltb r.next.version new low)))
    ]

goes_still : (p : Protocol) (list : List Found) (logical page old new : ℕ) (r : Rec) →
    (old ≤ new) ⊎ (mention_at page r < new) → must_go p list logical page old r ≡ true →
    must_go p list logical page new r ≡ true
goes_still Scc list logical page old new r high h =
    let parts = and_parts (is_loose Scc list logical r) (mentions_below page old r) h in
    and_from (is_loose Scc list logical r) (mentions_below page new r) parts.0 (still_below page old new r high parts.1)
goes_still Bpcc list logical page old new r high h = h

abbrev goes_in : Config → List Found → ℕ → ℕ → ℕ → Found → Bool
goes_in its list page below block f =
    (f.slot.0 / its.pages_per_block == block) && must_go its.protocol list its.logical page below f.rec

high_for : (list : List Found) (page old new : ℕ) (f : Found) → Contains list f →
    (old ≤ new) ⊎ (mention list page < new) → (old ≤ new) ⊎ (mention_at page f.rec < new)
high_for list page old new f c (inl le) = inl le
high_for list page old new f c (inr high) =
    let most = greatest_bound (mention_at page) list f c in inr (omega (arith, high, most))

-- so there are no more of them below the one than below the other
pub going_more : (its : Config) (list : List Found) (page old new : ℕ) → (old ≤ new) ⊎ (mention list page < new) →
    blocks_going its list page old ≤ blocks_going its list page new
going_more its list page old new high =
    count_more (λ k. list_any (goes_in its list page new k) list) (λ k. list_any (goes_in its list page old k) list) 0
    (blocks_of (shape_of its)) (λ k low lt h.
    let f = any_of (goes_in its list page old k) list h in
    let parts = and_parts (f.0.slot.0 / its.pages_per_block == k)
    (must_go its.protocol list its.logical page old f.0.rec) f.2 in
    any_from (goes_in its list page new k) list f.0 f.1
    (and_from (f.0.slot.0 / its.pages_per_block == k) (must_go its.protocol list its.logical page new f.0.rec) parts.0
    (goes_still its.protocol list its.logical page old new f.0.rec (high_for list page old new f.0 f.1 high) parts.1)))

-- ---- the version of the next page of a transaction

newest_mention : (list : List Found) (page : ℕ) → newest list page ≤ mention list page
newest_mention list page = greatest_least (version_of page) list (mention list page) (λ f c.
    let one = greatest_bound (mention_at page) list f c in
    let own = le-max_left (version_of page f.rec) (linked_at page f.rec) in
    omega (arith, one, own))

length_next : (names : List Link) → length (next_names names) ≡ length names
length_next [] = refl
length_next (name ∷ names) = let more = length-append names (name ∷ []) in omega (arith, more)

next_at : (names : List Link) (k : ℕ) → k + 1 < length names →
    get_or (next_names names) k no_name ≡ get_or names (k + 1) no_name
next_at names k within = rounded_at names k no_name (omega (arith, within))
    ∙ ap (λ n. get_or names n no_name) (cond-false (k + 1 == length names) 0 (k + 1)
    (ne_eqb (k + 1) (length names) (λ same. absurd (omega (arith, same, within)))))

-- the record of the page before links to it
linked_before : (image : List Contents) (n : IndexState) (e : Entry) (x : Naming) → IsUnderWay image n e x →
    (k : ℕ) → k + 1 ≡ e.done → e.done < length x.names →
    (name_at x e.done).version ≤ mention (found_in n.notes) (name_at x e.done).page
linked_before image n e x under k next within =
    let least = under.least in
    let inside : k < length x.names = omega (arith, next, within) in
    let less : k < x.noted_count = omega (arith, next, least) in
    let there : is_present (found_in n.notes) (name_at x k) ≡ true =
    under.noted k inside ∙ lt-ltb k x.noted_count less in
    let f = found_named (found_in n.notes) (name_at x k) there in
    let long = length_next x.names in
    let zipped = length-zip x.names (next_names x.names) in
    let both = get_or-zip x.names (next_names x.names) k (no_name, no_name) inside (omega (arith, long, inside)) in
    let asked = All-contains (λ (g : Found). IsAsked n.config.protocol (found_in n.notes) n.config.logical x.names g.rec)
    (found_in n.notes) f.0 under.in_progress.begun.asked f.1 in
    let asks = asked k (no_name, no_name) (omega (arith, zipped, long, inside)) (f.2 ∙ sym (ap (λ (p : Link × Link). p.0) both)) in
    let link : f.0.rec.next ≡ name_at x e.done =
    asks.0 ∙ ap (λ (p : Link × Link). p.1) both ∙ next_at x.names k (omega (arith, next, within))
    ∙ ap (λ i. name_at x i) next in
    let bound = greatest_bound (mention_at (name_at x e.done).page) (found_in n.notes) f.0 f.1 in
    let most = link_mention (name_at x e.done).page f.0.rec (ap (λ (a : Link). a.page) link) in
    let version : f.0.rec.next.version ≡ (name_at x e.done).version = ap (λ (a : Link). a.version) link in
    omega (arith, bound, most, version)

-- or it was written, and is current
pub version_seen : (image : List Contents) (n : IndexState) (e : Entry) (x : Naming) (mark : Mark) →
    IsAsMarked image n e x mark → IsNoted n.config.protocol n → (k : ℕ) → k + 1 ≡ e.done → e.done < length x.names →
    (name_at x e.done).version ≤ mention (found_in n.notes) (name_at x e.done).page
unfolding current_of
version_seen image n e x Plain is noted k next within = linked_before image n e x is k next within
version_seen image n e x Doubt is noted k next within = linked_before image n e x is.0 k next within
version_seen image n e x Whole is noted k next within =
    let at = is e.done no_name within in
    let map = sound_map n.config.protocol (found_in n.notes) n.config.logical noted.sound noted.scanned in
    let low = cur_le n.config.protocol (found_in n.notes) n.config.logical map (name_at x e.done).page in
    let high = newest_mention (found_in n.notes) (name_at x e.done).page in
    omega (arith, at, low, high)

pub names_long : (names : List Link) (writes : List PageWrite) → map (λ name. name.page) names
    ≡ map (λ w. w.page) writes → length names ≡ length writes
names_long names writes same = sym (length-map names (λ name. name.page)) ∙ ap length same
    ∙ length-map writes (λ w. w.page)
