-- All lists together: which they are, that they are disjoint, and what a change of one leaves of the others.
use Rattle.dense_tables.proofs.Common.{◌≡◌, ◌≢◌, ℕ, zero, suc, ◌+◌, ◌<◌, ◌≤◌, inl, inr, List, [], ◌∷◌, length, get_or, set, drop, replicate, refl, sym, ◌∙◌, ap, arith, Contains, remove, cases_lt, cases_eq, length-drop, length-replicate, get_or-drop, get_or-set_same, get_or-set_other, get_or_past, get_or_default, LinkedListsState, IsListed, AreDisjoint, paths}
use Rattle.std.proofs.Common.{◌^◌, map}
use Rattle.std.specs.List.{insert}
use Rattle.std.proofs.lemmas.List.{length-set, length-map, get_or-map, get_or-replicate}
use Rattle.std.proofs.lemmas.List.{ext_get_or}
use Rattle.dense_tables.specs.Links.{path, AreLinked}
use Rattle.dense_tables.proofs.Linked.{path_is, same_place, same_number, linked_still, index_once, length_linked, PutsBehind, TakesOut, linked_insert}
use Rattle.dense_tables.proofs.Linked.{linked_remove}

-- the links after two writes each, where a place is put behind a number
pub puts_behind : (next before : List ℕ) (behind at : ℕ) → behind < length next → at < length before →
    length before ≤ length next → behind ≢ at →
    get_or next behind 0 ≢ at
    → PutsBehind next before (set (set next at (get_or next behind 0)) behind at)
    (set (set before (get_or next behind 0) at) at behind) behind at
puts_behind next before behind at lies place roots differ apart = record {
  size = length-set (set before after at) at behind ∙ length-set before after at;
  next_at = get_or-set_other (set next at after) behind at at 0 (λ e. differ (sym e))
      ∙ get_or-set_same next at after 0 (omega arith);
  next_behind = get_or-set_same (set next at after) behind at 0 (rw (length-set next at after) lies);
  next_other = λ v free other. get_or-set_other (set next at after) behind v at 0 other
      ∙ get_or-set_other next at v after 0 free;
  before_at = get_or-set_same (set before after at) at behind 0 (rw (length-set before after at) place);
  before_after = λ low. get_or-set_other (set before after at) at after behind 0 apart
      ∙ get_or-set_same before after at 0 low;
  before_other = λ v free other. get_or-set_other (set before after at) at v behind 0 free
      ∙ get_or-set_other before after v at 0 other;
}
  where
    after : ℕ
    after = get_or next behind 0

-- and where one is taken out
pub takes_out : (next before : List ℕ) (at : ℕ) → get_or before at 0 < length next
    → TakesOut next before (set next (get_or before at 0) (get_or next at 0))
    (set before (get_or next at 0) (get_or before at 0)) at
takes_out next before at lies = record {
  size = length-set before (get_or next at 0) (get_or before at 0);
  next_behind = get_or-set_same next (get_or before at 0) (get_or next at 0) 0 lies;
  next_other = λ v other. get_or-set_other next (get_or before at 0) v (get_or next at 0) 0 other;
  before_after = λ low. get_or-set_same before (get_or next at 0) (get_or before at 0) 0 low;
  before_other = λ v other. get_or-set_other before (get_or next at 0) v (get_or before at 0) 0 other;
}

module _ (next before : List ℕ) (lists : List (List ℕ)) (h : AreLinked next before lists) where
  abbrev places : ℕ
  places = length before

  abbrev list : ℕ → List ℕ
  list key = get_or lists key []

  abbrev the_lists : LinkedListsState
  the_lists = record { places = length before; lists = lists }

  -- they are the paths from the roots on
  pub paths_are : paths next places ≡ lists
  unfolding paths
  paths_are = ext_get_or [] (map (path next places places) (drop places next)) lists long
      (λ key below. at_key key (rw long at below))
    where
      long : length (map (path next places places) (drop places next)) ≡ length lists
      long = length-map (drop places next) (path next places places) ∙ length-drop places next ∙ omega (arith, h.count)

      at_key : (key : ℕ) → key < length lists → get_or (map (path next places places) (drop places next))
          key [] ≡ list key
      at_key key below =
          get_or-map (path next places places) (drop places next) key 0 []
          (omega (arith, h.count, length-drop places next))
          ∙ ap (path next places places) (get_or-drop places next key 0)
          ∙ path_is next before (places + key) (list key) places (h.each key below)
          (length_linked next before (places + key) (list key) (h.each key below) (omega arith))

  -- a place in the list of a key: the key is one of theirs, and it has an index
  pub listed_at : (key at : ℕ) → Contains (list key) at → (key < length lists)
      × ((k : ℕ) × (k < length (list key)) × (get_or (list key) k 0 ≡ at))
  listed_at key at (k, below, is) = elim (cases_lt key (length lists)) [
    | inl low ↦ (low, (k, below, get_or_default (list key) k 0 at below ∙ is))
    | inr past ↦ let none : list key ≡ [] = get_or_past lists key [] past in let no = rw none at below in
        absurd (omega arith)
  ]

  pub are_disjoint : AreDisjoint the_lists
  are_disjoint = record {
    within = λ key at is.
        let found = listed_at key at is in
        rw (← found.1.2) ((h.each key found.0).within found.1.0 found.1.1);
    apart = λ key other at is also.
        let one = listed_at key at is in
        let two = listed_at other at also in
        let both = same_place next before (places + key) (places + other) (list key) (list other) (h.each key one.0)
        (h.each other two.0) (omega arith)
        (omega arith)
        one.1.0 two.1.0 one.1.1 two.1.1 (one.1.2 ∙ sym two.1.2) in
        omega arith;
    once = λ key i j d sooner below e.
        let low : key < length lists = (listed_at key (get_or (list key) j d) (
          j,
          below,
          get_or_default (list key) j (get_or (list key) j d) d below,
        )).0 in
        let is = index_once next before (places + key) (list key) (h.each key low) (omega arith) i j (omega arith) below
        (get_or_default (list key) i 0 d (omega arith) ∙ e ∙ get_or_default (list key) j d 0 below) in
        omega arith;
  }

  module _ (key : ℕ) (is_key : key < length lists) where
    abbrev root : ℕ
    root = places + key

    -- the roots and places of two keys are apart
    apart : (other i k : ℕ) → other < length lists → other ≢ key → i ≤ length (list key) → k ≤ length (list other)
        → get_or ((places + other) ∷ list other) k 0 ≢ get_or (root ∷ list key) i 0
    apart other i k low differ l m e =
        let both = same_number next before (places + other) root (list other) (list key) (h.each other low)
        (h.each key is_key) (omega arith)
        (omega arith) k i m l e in
        differ (omega arith)

    -- and so is what follows one of them
    apart_behind : (other i k : ℕ) → other < length lists → other ≢ key → i ≤ length (list key) →
        k < length (list other)
        → get_or (list other) k 0 ≢ get_or next (get_or (root ∷ list key) i 0) 0
    apart_behind other i k low differ l m e = elim (cases_lt i (length (list key))) [
      | inl inside ↦
          apart other (suc i) (suc k) low differ (omega arith) (omega arith)
          (e ∙ (h.each key is_key).forth i l ∙ get_or_default (list key) i places 0 inside)
      | inr past ↦
          let is : get_or (list other) k 0 ≡ places = e ∙ (h.each key is_key).forth i l
          ∙ get_or_past (list key) i places past in
          let place = (h.each other low).within k m in
          omega arith
    ]

    -- a place that is in no list is put in at an index
    pub chained_insert : (next' before' : List ℕ) (i at : ℕ) → i ≤ length (list key) → at < places →
        (IsListed the_lists at → ⊥)
        → length next' ≡ length next → PutsBehind next before next' before' (get_or (root ∷ list key) i 0) at
        → AreLinked next' before' (set lists key (insert (list key) i at))
    chained_insert next' before' i at l place free size put = record {
      count = rw (size, put.size, length-set lists key (insert (list key) i at)) h.count;
      small = rw size h.small;
      each = λ other below. let low = rw (length-set lists key (insert (list key) i at)) at below in
          elim (cases_eq other key) [
            | inl same ↦
                rw (put.size, same, get_or-set_same lists key (insert (list key) i at) [] is_key)
                (linked_insert next before root (list key) (h.each key is_key) (omega arith) (omega (arith, h.count))
                (omega (arith, h.count)) next' before' i at l place
                (λ k m. not_listed key k m) put)
            | inr differ ↦
                rw (put.size, get_or-set_other lists key other (insert (list key) i at) [] differ)
                (linked_still next before next' before' (places + other) (list other) (h.each other low) put.size
                (λ k m. put.next_other (get_or ((places + other) ∷ list other) k 0) (number_free other k m)
                (apart other i k low differ l m))
                (λ k m. put.before_other (get_or (list other) k 0) (not_listed other k m)
                (apart_behind other i k low differ l m)))
          ];
    }
      where
        not_listed : (other k : ℕ) → k < length (list other) → get_or (list other) k 0 ≢ at
        not_listed other k m e = free (other, (k, m, get_or_default (list other) k at 0 m ∙ e))

        number_free : (other k : ℕ) → k ≤ length (list other) → get_or ((places + other) ∷ list other) k 0 ≢ at
        number_free other zero m e = omega arith
        number_free other (suc k) m e = not_listed other k (omega arith) e

    -- the place at an index is taken out
    pub chained_remove : (next' before' : List ℕ) (i : ℕ) → i < length (list key)
        → length next' ≡ length next → TakesOut next before next' before' (get_or (list key) i 0)
        → AreLinked next' before' (set lists key (remove (list key) i))
    chained_remove next' before' i l size out = record {
      count = rw (size, out.size, length-set lists key (remove (list key) i)) h.count;
      small = rw size h.small;
      each = λ other below. let low = rw (length-set lists key (remove (list key) i)) at below in
          elim (cases_eq other key) [
            | inl same ↦
                rw (out.size, same, get_or-set_same lists key (remove (list key) i) [] is_key)
                (linked_remove next before root (list key) (h.each key is_key) (omega arith) (omega (arith, h.count))
                (omega (arith, h.count)) next' before' i l out)
            | inr differ ↦
                let back = (h.each key is_key).back i l in
                rw (out.size, get_or-set_other lists key other (remove (list key) i) [] differ)
                (linked_still next before next' before' (places + other) (list other) (h.each other low) out.size
                (λ k m. out.next_other (get_or ((places + other) ∷ list other) k 0)
                (λ e. apart other i k low differ (omega arith) m (e ∙ back)))
                (λ k m. out.before_other (get_or (list other) k 0) (apart_behind other (suc i) k low differ l m)))
          ];
    }

    -- so writing the links of a place at an index puts it in there
    pub inserted : (i at : ℕ) → i ≤ length (list key) → at < places → (IsListed the_lists at → ⊥)
        → let behind = get_or (root ∷ list key) i 0 in let after = get_or next behind 0 in
        AreLinked (set (set next at after) behind at) (set (set before after at) at behind)
        (set lists key (insert (list key) i at))
    inserted i at l place free =
        chained_insert (set (set next at after) behind at) (set (set before after at) at behind) i at l place free
        (length-set (set next at after) behind at ∙ length-set next at after)
        (puts_behind next before behind at (behind_lies i l) place (omega (arith, h.count))
        (behind_free i l) after_free)
      where
        behind : ℕ
        behind = get_or (root ∷ list key) i 0

        after : ℕ
        after = get_or next behind 0

        not_listed : (k : ℕ) → k < length (list key) → get_or (list key) k 0 ≢ at
        not_listed k m e = free (key, (k, m, get_or_default (list key) k at 0 m ∙ e))

        behind_lies : (n : ℕ) → n ≤ length (list key) → get_or (root ∷ list key) n 0 < length next
        behind_lies zero m = omega (arith, h.count)
        behind_lies (suc n) m = let low = (h.each key is_key).within n (omega arith) in omega (arith, h.count)

        behind_free : (n : ℕ) → n ≤ length (list key) → get_or (root ∷ list key) n 0 ≢ at
        behind_free zero m e = omega arith
        behind_free (suc n) m e = not_listed n (omega arith) e

        after_free : after ≢ at
        after_free e = elim (cases_lt i (length (list key))) [
          | inl inside ↦ not_listed i inside (get_or_default (list key) i 0 places inside
              ∙ sym ((h.each key is_key).forth i l) ∙ e)
          | inr past ↦ let is : at ≡ places = sym e ∙ (h.each key is_key).forth i l
              ∙ get_or_past (list key) i places past in omega arith
        ]

    -- and joining the numbers on both sides of a place takes it out
    pub removed : (i : ℕ) → i < length (list key)
        → let at = get_or (list key) i 0 in
        AreLinked (set next (get_or before at 0) (get_or next at 0))
        (set before (get_or next at 0) (get_or before at 0)) (set lists key (remove (list key) i))
    removed i l =
        let at = get_or (list key) i 0 in
        chained_remove (set next (get_or before at 0) (get_or next at 0))
        (set before (get_or next at 0) (get_or before at 0)) i l
        (length-set next (get_or before at 0) (get_or next at 0))
        (takes_out next before at (rw ((h.each key is_key).back i l) (lies i l)))
      where
        lies : (n : ℕ) → n < length (list key) → get_or (root ∷ list key) n 0 < length next
        lies zero m = omega (arith, h.count)
        lies (suc n) m = let low = (h.each key is_key).within n (omega arith) in omega (arith, h.count)

-- where no place is in a list, all links are none
pub empty_linked : (keys count : ℕ) → count + keys < 2 ^ 32 →
    AreLinked (replicate (count + keys) count) (replicate count 0) (replicate keys [])
empty_linked keys count small = record {
  count = rw (
    length-replicate {A = ℕ} (count + keys) count,
    length-replicate {A = ℕ} count 0,
    length-replicate {A = List ℕ} keys [],
  ) refl;
  small = rw (length-replicate {A = ℕ} (count + keys) count) small;
  each = λ key below.
      let low : key < keys = rw (length-replicate {A = List ℕ} keys []) at below in
      rw (length-replicate {A = ℕ} count 0, get_or-replicate {A = List ℕ} keys key [] [] low) (record {
        within = λ k m. absurd (omega arith);
        forth = λ k m. let first : k ≡ 0 = omega arith in
            rw (first, length-replicate {A = ℕ} count 0) (get_or-replicate (count + keys) (count + key) count 0
            (omega arith));
        back = λ k m. absurd (omega arith);
      });
}
