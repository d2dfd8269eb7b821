-- The loss of records from a sound list: each name that is current or held stays present.
use Rattle.record_list.proofs.Common.{◌≡◌, ◌≢◌, ℕ, ◌<◌, ◌≤◌, true, List, sym, refl, ap, ◌∙◌, subst, inl, inr, ⊎_elim, arith, Contains, ltb, cases_lt, and_parts, any_from, Link, Rec, Protocol, Scc, Bpcc, Found, greatest, newest, name_of, is_present, record_named, link_of, back_of, straddling, straddling_version, cur, straddling_upto, responsible, answers_for, is_held, current_name}
use Rattle.std.proofs.lemmas.Bool.{ltb-true}
use Rattle.record_list.proofs.OfFacts.Safe.{is_clear, IsLinked}
use Rattle.record_list.proofs.OfFacts.SoundNames.{IsSoundMap, clear_from, clear_gives, map_link}
use Rattle.record_list.proofs.OfFacts.Held.{answers}
use Rattle.record_list.proofs.OfLosses.LossAmong.{among_named, IsEqual, IsAmong, one_each, among_greatest, among_present, among_record}
use Rattle.record_list.proofs.OfLosses.LossCounted.{IsResponsible, responsible_at, IsCounted}
use Rattle.record_list.proofs.OfFacts.Names.{named, same_name, greatest_bound, found_named, present_in, newest_bound, links_from, backs_from}

-- the list m has some of the records of the sound list l, and each name that counts there
pub record IsLoss (p : Protocol) (l m : List Found) (n : ℕ) : Type 0 where
  pub sound : IsSoundMap p l n
  pub among : IsAmong m l
  pub kept : (name : Link) → name.page < n → 1 ≤ name.version → IsCounted p l n name → is_present m name ≡ true

module _ (p : Protocol) (l m : List Found) (n : ℕ) (r : IsLoss p l m n) where
  -- a name that is left was present
  pub was_present : (u : Link) → is_present m u ≡ true → is_present l u ≡ true
  was_present u h = among_present m l r.among u h

  -- its record, and so its link, its back version and its pages were the same
  record_was : (u : Link) → is_present m u ≡ true → record_named l u ≡ record_named m u
  record_was u h = sym (among_record m l r.among (one_each p l n r.sound) u h)

  pub link_was : (u : Link) → is_present m u ≡ true → link_of l u ≡ link_of m u
  link_was u h = links_from l m u u (record_was u h)

  pub back_was : (u : Link) → is_present m u ≡ true → back_of l u ≡ back_of m u
  back_was u h = backs_from l m u u (record_was u h)

  pub low : (u : Link) → is_present m u ≡ true → u.page < n
  low u h = (r.sound.linked.pages u (was_present u h)).0

  pub link_low : (u : Link) → is_present m u ≡ true → (link_of l u).page < n
  link_low u h = (r.sound.linked.pages u (was_present u h)).1

  -- its pages exist, and no two names have one link
  pub lost_linked : IsLinked m n
  lost_linked = record {
    pages = λ u h. (low u h, subst (λ q. q.page < n) (link_was u h) (link_low u h));
    versions = λ u h. let v = r.sound.linked.versions u (was_present u h) in
        (v.0, subst (λ q. 1 ≤ q.version) (link_was u h) v.1);
    once = λ u v hu hv e. r.sound.linked.once u v (was_present u hu) (was_present v hv) (link_was u hu
        ∙ (e ∙ sym (link_was v hv)));
  }

  -- the records left are as their names say
  pub lost_copies : (f : Found) → Contains m f → f.rec ≡ record_named m (name_of f.rec)
  lost_copies f c =
      let x : IsEqual l f.rec = r.among.among f c in
      let was = subst (λ (y : Rec). y ≡ record_named l (name_of y)) x.is (r.sound.copies x.at x.is_in) in
      was ∙ record_was (name_of f.rec) (present_in m f c)

  -- and link where their names did
  pub lost_link : (f : Found) → Contains m f → link_of l (name_of f.rec) ≡ f.rec.next
  lost_link f c =
      let x : IsEqual l f.rec = r.among.among f c in
      sym (subst (λ (y : Rec). y.next ≡ link_of l (name_of y)) x.is (map_link r.sound x.at x.is_in))

  -- what no record straddled none does
  pub lost_clear : (k : Link) → is_clear p l k ≡ true → is_clear p m k ≡ true
  lost_clear k c = of_protocol p c
    where
      of_protocol : (q : Protocol) → is_clear q l k ≡ true → is_clear q m k ≡ true
      of_protocol Scc h = refl
      of_protocol Bpcc h =
          let none : straddling l k ≡ 0 = clear_gives l k h in
          let fewer : straddling m k ≤ straddling l k = among_greatest m l r.among (straddling_version k) in
          clear_from m k (omega arith)

  -- the newest version that is left is at least the current one
  pub newest_left : (page : ℕ) → page < n → cur p l n page ≤ newest m page
  newest_left page in_range =
      ⊎_elim
      (λ some. newest_bound m (current_name p l n page) (r.kept (current_name p l n page) in_range some (inl refl)))
      (λ none. omega arith)
      (cases_lt 0 (cur p l n page))

module _ (l m : List Found) (n : ℕ) (r : IsLoss Bpcc l m n) where
  -- the record that is responsible for a loose one is left
  pub lost_responsible : (u : Link) → is_present l u ≡ true → cur Bpcc l n u.page < u.version →
      (link_of l u).version < cur Bpcc l n (link_of l u).page → responsible Bpcc l n (link_of l u) ≢ 0 →
      greatest (straddling_upto (cur Bpcc l n (link_of l u).page) (link_of l u)) m ≡ responsible Bpcc l n (link_of l u)
  lost_responsible u h loose below some =
      let q : Link = link_of l u in
      let low : q.page < n = (r.sound.linked.pages u h).1 in
      let count : Rec → ℕ = straddling_upto (cur Bpcc l n q.page) q in
      let name : Link = named q.page (responsible Bpcc l n q) in
      let x : IsResponsible Bpcc l n q = responsible_at Bpcc l n q (omega arith) in
      let f = found_named l u h in
      let between = and_parts (ltb x.at.rec.back q.version) (ltb q.version x.at.rec.version) x.straddles in
      let holds : is_held Bpcc l n x.at.rec ≡ true = any_from (λ g. answers_for Bpcc l n x.at.rec g.rec) l f.0 f.1
      (answers l n x.at.rec f.0.rec (record {
        loose = subst (λ (y : Link). cur Bpcc l n y.page < y.version) (sym f.2) loose;
        page = ap (λ (y : Link). y.page) f.3 ∙ sym x.page;
        from = subst (λ (y : Link). x.at.rec.back < y.version) (sym f.3) (ltb-true x.at.rec.back q.version between.0);
        under = subst (λ (y : Link). y.version < x.at.rec.version) (sym f.3)
            (ltb-true q.version x.at.rec.version between.1);
        version = ap (responsible Bpcc l n) f.3 ∙ sym x.version;
      })) in
      let held : is_held Bpcc l n (record_named l name) ≡ true =
      subst (λ y. is_held Bpcc l n y ≡ true) (r.sound.copies x.at x.is_in
      ∙ ap (record_named l) (same_name (name_of x.at.rec) name x.page x.version)) holds in
      let g = found_named m name (r.kept name low (omega arith) (inr held)) in
      let one : g.0.rec ≡ x.at.rec = among_named l m r.among (one_each Bpcc l n r.sound) name g.0 x.at g.1 g.2 x.is_in
      (same_name (name_of x.at.rec) name x.page x.version) in
      let equal : count g.0.rec ≡ count x.at.rec = ap count one in
      let counts : count x.at.rec ≡ responsible Bpcc l n q = x.counts in
      let high : count g.0.rec ≤ greatest count m = greatest_bound count m g.0 g.1 in
      let most : greatest count m ≤ responsible Bpcc l n q = among_greatest m l r.among count in
      omega arith
