-- A noted record that completes its cycle: which records are released, which are answered, and that what is derived of
-- any other stays.
use Rattle.judged_records.proofs.Common.{◌≡◌, ◌≢◌, ℕ, ◌<◌, ◌≤◌, true, false, ltb, List, All, Contains, Some, None, length, refl, sym, ap, ◌∙◌, subst, inl, inr, arith, lt-ltb, le-ltb, ltb-true, cases_Bool, cond-true, and_parts, and_right, All-contains, all_from, Link, Rec, Protocol, Scc, Bpcc, shape_of, slots_of, Found, newest, name_of, is_present, cur, is_loose, Pages, PagesExist, CompletingWriteLaw, same_name, present_in, sound_map, name_newest, step_underway, step_of, Blank, note_at, found_in, IndexState, IsNoted, IsNextRecord, programmed, current_of, name_at, answerer, is_waiting, IsDerivedAlike, IsCommittedFor, loose_of, answerer_of, waits_of}
use Rattle.std.proofs.Common.{ltb-false}
use Rattle.record_list.specs.Current.{IsLoose, responsible}
use Rattle.record_list.specs.Changes.{CompletingWriteKeeps, IsAnsweredAfter, IsOvertaken}
use Rattle.record_list.proofs.OfFacts.Names.{named, newest_bound}
use Rattle.record_list.proofs.OfFacts.SoundNames.{map_link}
use Rattle.record_list.proofs.OfWalks.Rounds.{cases_page}
use Rattle.judged_records.specs.DerivedChanges.{IsOffPages, AwaitsName, IsAnsweredBy, IsWholeWrite}
use Rattle.judged_records.proofs.OfNotes.FoundIn.{found}
use Rattle.judged_records.proofs.OfChanges.NotedChanges.{next_write}
use Rattle.judged_records.proofs.OfNotes.Derived.{IsAlike, alike_scc, alike_bpcc, derived_alike, decided, name_at_some}
use Rattle.judged_records.proofs.OfChanges.PartialWrites.{configured}

-- the record of this name answers for it afterwards
record IsAnswered (l l' : List Found) (logical : ℕ) (name : Link) (r : Rec) : Type 0 where
  pub loose : is_loose Bpcc l' logical r ≡ is_loose Bpcc l logical r
  pub answerer : answerer Bpcc l' logical r ≡ Some name
  pub waits : is_waiting Bpcc l' logical r ≡ false

-- it waits for the page of this name
record Awaits (p : Protocol) (l : List Found) (logical : ℕ) (name : Link) (r : Rec) : Type 0 where
  pub protocol : p ≡ Bpcc
  pub page : r.next.page ≡ name.page
  pub waits : is_waiting p l logical r ≡ true

module _ (l l' : List Found) (logical : ℕ) (names : List Link) (keeps : CompletingWriteKeeps Bpcc l l' logical names)
    (f : Found)
    (i : Contains l' f) (off : IsOffPages names f.rec.page) where
  -- its pages exist
  pages : (f.rec.page < logical) × (f.rec.next.page < logical)
  pages = All-contains (PagesExist logical) l' f (keeps.sound Pages) i

  own : cur Bpcc l' logical f.rec.page ≡ cur Bpcc l logical f.rec.page
  own = keeps.elsewhere f.rec.page pages.0 off

  after : IsLoose Bpcc l' logical f.rec → IsAnsweredAfter l l' logical names f.rec
  after loose = All-contains (λ g. IsLoose Bpcc l' logical g.rec → IsAnsweredAfter l l' logical names g.rec) l' f
      keeps.responsible i loose

  -- a record that waited for the page of a name, and links below it, is answered by the name's record
  answered_name : (name : Link) → Contains names name → 1 ≤ name.version → f.rec.next.version < name.version →
      f.rec.next.page ≡ name.page → is_waiting Bpcc l logical f.rec ≡ true → IsAnswered l l' logical name f.rec
  answered_name name j positive below page waited =
      let q = f.rec.next in
      let was = and_parts (is_loose Bpcc l logical f.rec) (ltb (cur Bpcc l logical q.page) q.version) waited in
      let same : is_loose Bpcc l' logical f.rec ≡ is_loose Bpcc l logical f.rec = ap (λ c. ltb c f.rec.version) own in
      let loose : is_loose Bpcc l' logical f.rec ≡ true = same ∙ was.0 in
      let answers = after (ltb-true (cur Bpcc l' logical f.rec.page) f.rec.version loose) in
      let version : responsible Bpcc l' logical q ≡ name.version =
      All-contains (λ a. IsOvertaken l logical q a → responsible Bpcc l' logical q ≡ a.version) names name
      answers.anew j
      (sym page, ltb-true (cur Bpcc l logical q.page) q.version was.1) in
      let top : cur Bpcc l' logical q.page ≡ name.version =
      ap (cur Bpcc l' logical) page ∙ All-contains (λ a. cur Bpcc l' logical a.page ≡ a.version) names name
      keeps.committed j in
      record {
        loose = same;
        answerer = cond-true (is_loose Bpcc l' logical f.rec) (name_at q.page (responsible Bpcc l' logical q)) None
            loose
            ∙ ap (name_at q.page) version ∙ name_at_some q.page name.version positive
            ∙ ap Some (same_name (named q.page name.version) name page refl);
        waits = and_right (is_loose Bpcc l' logical f.rec) (ltb (cur Bpcc l' logical q.page) q.version)
            (le-ltb (cur Bpcc l' logical q.page) q.version (omega arith));
      }

  -- and what is derived of any other stays
  others_bpcc : ((a : Link) → Contains names a → Awaits Bpcc l logical a f.rec → ⊥) → IsAlike Bpcc l l' logical f.rec
  others_bpcc none = alike_bpcc l l' logical f.rec own (λ loose.
      let q = f.rec.next in
      let a = is_loose Bpcc l logical f.rec in
      let was : a ≡ true = lt-ltb (cur Bpcc l logical f.rec.page) f.rec.version (let same = own in omega arith) in
      let low : (name : Link) → Contains names name → q.page ≡ name.page →
      ltb (cur Bpcc l logical q.page) q.version ≡ false =
      λ name j page. elim (cases_Bool (ltb (cur Bpcc l logical q.page) q.version)) [
        | inl above ↦ absurd (none name j (record { protocol = refl; page = page; waits = rw (was, above) refl }))
        | inr at ↦ at
      ] in
      let still : responsible Bpcc l' logical q ≡ responsible Bpcc l logical q =
      (after loose).still (all_from (λ name. IsOvertaken l logical q name → ⊥) names (λ name j over.
      let below = ltb-false (cur Bpcc l logical q.page) q.version (low name j (sym over.0)) in
      let above = over.1 in
      absurd (omega arith))) in
      elim (cases_page names q.page) [
        | inl at ↦ (
            let name = at.0 in
            let before = low name at.1 (sym at.2) in
            let below = ltb-false (cur Bpcc l logical q.page) q.version before in
            let rises = subst (λ page. cur Bpcc l logical page < name.version) at.2
            (All-contains (λ b. cur Bpcc l logical b.page < b.version) names name keeps.rises at.1) in
            let top = subst (λ page. cur Bpcc l' logical page ≡ name.version) at.2
            (All-contains (λ b. cur Bpcc l' logical b.page ≡ b.version) names name keeps.committed at.1) in
            record {
              above = le-ltb (cur Bpcc l' logical q.page) q.version (omega arith) ∙ sym before;
              responsible = still;
            })
        | inr out ↦ record {
          above = ap (λ c. ltb c q.version) (keeps.elsewhere q.page pages.1
              (all_from (λ name. name.page ≢ q.page) names out));
          responsible = still;
        }
      ])

others_alike : (p : Protocol) (l l' : List Found) (logical : ℕ) (names : List Link) →
    CompletingWriteKeeps p l l' logical names →
    (f : Found) → Contains l' f → IsOffPages names f.rec.page →
    ((a : Link) → Contains names a → Awaits p l logical a f.rec → ⊥) → IsAlike p l l' logical f.rec
others_alike Scc l l' logical names keeps f i off none =
    alike_scc l l' logical f.rec (keeps.elsewhere f.rec.page
    (All-contains (PagesExist logical) l' f (keeps.sound Pages) i).0 off)
others_alike Bpcc l l' logical names keeps f i off none = others_bpcc l l' logical names keeps f i off none

answered_by : (p : Protocol) (l l' : List Found) (logical : ℕ) (names : List Link) →
    CompletingWriteKeeps p l l' logical names →
    (f : Found) → Contains l' f → IsOffPages names f.rec.page →
    (name : Link) → Contains names name → 1 ≤ name.version → f.rec.next.version < name.version →
    Awaits p l logical name f.rec →
    (is_loose p l' logical f.rec ≡ is_loose p l logical f.rec) × (answerer p l' logical f.rec ≡ Some name)
    × (is_waiting p l' logical f.rec ≡ false)
answered_by Scc l l' logical names keeps f i off name j positive below awaits = absurd (other awaits.protocol)
  where
    other : Scc ≡ Bpcc → ⊥
    other e = cc
answered_by Bpcc l l' logical names keeps f i off name j positive below awaits =
    let a = answered_name l l' logical names keeps f i off name j positive below awaits.page awaits.waits in
    (a.loose, a.answerer, a.waits)

module _ (protocol : Protocol) (n : IndexState) (k : IsNoted protocol n) where
  pub whole_write : CompletingWriteLaw protocol → (at : ℕ) (rec : Rec) → at < slots_of (shape_of n.config) →
      note_at n.notes at ≡ Blank →
      (next : IsNextRecord n rec) →
      All (λ name. is_present (found_in (programmed n at rec).notes) name ≡ true) next.names →
      IsWholeWrite n (programmed n at rec) next.names
  unfolding current_of loose_of answerer_of waits_of
  whole_write completing at rec exists was next all =
      let p = n.config.protocol in
      let logical = n.config.logical in
      let names = next.names in
      let m = programmed n at rec in
      let l = found_in n.notes in
      let l' = found_in m.notes in
      let within : at < length n.notes = (let slots = k.slots in omega arith) in
      let write = next_write protocol n k at rec within was next in
      let keeps : CompletingWriteKeeps p l l' logical names =
      subst CompletingWriteLaw (sym k.rule) completing l l' logical names (found at rec)
      (configured protocol n k) write all in
      let map' = sound_map p l' logical keeps.sound write.scanned' in
      let t = step_underway l l' logical names rec (step_of p l l' logical names (found at rec) write) in
      record {
        committed = keeps.committed;
        rises = keeps.rises;
        elsewhere = keeps.elsewhere;
        settled = all_from (λ f. All (λ name. name.page ≡ f.rec.page → IsCommittedFor m f.rec) names) l' (λ f i.
            all_from (λ name. name.page ≡ f.rec.page → IsCommittedFor m f.rec) names (λ name j e.
            let here = All-contains (λ a. is_present l' a ≡ true) names name all j in
            let top = ap (newest l') (sym e) ∙ name_newest l' logical names t name j here in
            let bound = newest_bound l' (name_of f.rec) (present_in l' f i) in
            let current = ap (cur p l' logical) (sym e) ∙ All-contains (λ a. cur p l' logical a.page ≡ a.version) names
            name keeps.committed j in
            decided m f.rec (le-ltb (cur p l' logical f.rec.page) f.rec.version (omega arith))));
        answered = all_from (λ f. IsOffPages names f.rec.page →
            All (λ name. AwaitsName n name f.rec → IsAnsweredBy n m name f.rec) names) l' (λ f i off.
            all_from (λ name. AwaitsName n name f.rec → IsAnsweredBy n m name f.rec) names (λ name j awaits.
            let out : Contains names (name_of f.rec) →
            ⊥ = λ c. All-contains (λ a. a.page ≢ f.rec.page) names (name_of f.rec) off c refl in
            let low = (t.lower (name_of f.rec) (present_in l' f i) out name j).1 in
            let link = map_link map' f i in
            let below = subst (λ q. q.page ≡ name.page → q.version < name.version) (sym link) low awaits.page in
            let a = answered_by p l l' logical names keeps f i off name j (t.range name j).1 below
            (record { protocol = awaits.protocol; page = awaits.page; waits = awaits.waits }) in
            record { loose = a.0; answerer = a.1; waits = a.2 }));
        others = all_from (λ f. IsOffPages names f.rec.page → All (λ name. AwaitsName n name f.rec → ⊥) names →
            IsDerivedAlike n m f.rec) l'
            (λ f i off none.
            derived_alike n m f.rec refl (others_alike p l l' logical names keeps f i off (λ a j awaits.
            All-contains (λ name. AwaitsName n name f.rec → ⊥) names a none j
            (record { protocol = awaits.protocol; page = awaits.page; waits = awaits.waits }))));
      }
