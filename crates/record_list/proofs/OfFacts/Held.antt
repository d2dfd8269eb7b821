-- Back Pointer Cyclic Commit: which record answers for a loose one, by its parts.
use Rattle.record_list.proofs.Common.{◌≡◌, ℕ, ◌<◌, true, ◌&&◌, eqb, ltb, List, eqb-true, eq-eqb, ltb-true, lt-ltb, sym, and_parts, and_from, Rec, Bpcc, Found, straddles, cur, responsible, answers_for}
use Rattle.record_list.specs.Current.{is_loose}

-- the record s answers for the loose record r
pub record IsAnswer (l : List Found) (logical : ℕ) (s r : Rec) : Type 0 where
  pub loose : cur Bpcc l logical r.page < r.version
  pub page : r.next.page ≡ s.page
  pub from : s.back < r.next.version
  pub under : r.next.version < s.version
  pub version : responsible Bpcc l logical r.next ≡ s.version

-- from the test to its parts
pub answer_of : (l : List Found) (logical : ℕ) (s r : Rec) → answers_for Bpcc l logical s r ≡ true →
    IsAnswer l logical s r
answer_of l logical s r h =
    let a = is_loose Bpcc l logical r in
    let b = eqb s.page r.next.page in
    let c = straddles s r.next.version in
    let last = and_parts (a && b && c) (eqb s.version (responsible Bpcc l logical r.next)) h in
    let third = and_parts (a && b) c last.0 in
    let first = and_parts a b third.0 in
    let between = and_parts (ltb s.back r.next.version) (ltb r.next.version s.version) third.1 in
    record {
      loose = ltb-true (cur Bpcc l logical r.page) r.version first.0;
      page = sym (eqb-true s.page r.next.page first.1);
      from = ltb-true s.back r.next.version between.0;
      under = ltb-true r.next.version s.version between.1;
      version = sym (eqb-true s.version (responsible Bpcc l logical r.next) last.1);
    }

-- and back
pub answers : (l : List Found) (logical : ℕ) (s r : Rec) → IsAnswer l logical s r →
    answers_for Bpcc l logical s r ≡ true
answers l logical s r h =
    let a = is_loose Bpcc l logical r in
    let b = eqb s.page r.next.page in
    let c = straddles s r.next.version in
    and_from (a && b && c) (eqb s.version (responsible Bpcc l logical r.next))
    (and_from (a && b) c
    (and_from a b (lt-ltb (cur Bpcc l logical r.page) r.version h.loose) (eq-eqb s.page r.next.page (sym h.page)))
    (and_from (ltb s.back r.next.version) (ltb r.next.version s.version) (lt-ltb s.back r.next.version h.from)
    (lt-ltb r.next.version s.version h.under)))
    (eq-eqb s.version (responsible Bpcc l logical r.next) (sym h.version))
