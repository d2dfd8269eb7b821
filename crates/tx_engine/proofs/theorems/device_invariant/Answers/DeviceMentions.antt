-- At which versions the records of a device's flash mention its pages.
use Rattle.tx_engine.proofs.Common.{◌≡◌, ◌≢◌, ◌⊎◌, ℕ, ◌<◌, ◌≤◌, ◌==◌, ◌^◌, List, length, get_or, refl, sym, ap, ◌∙◌, subst, inl, inr, arith, eqb-true, Contains, cases_lt, All-contains, Protocol, Slot, Link, Rec, FlashState, Contents, blank, damaged, complete, slot_at, mention, version_of, name_of, records_in, IndexState, IsNoted, programmed, mention_of, BlocksState, Unsure, Matches, CanTake, CanTakeOwn, settlement, Settlement, Entry, MentionsAtMost, IsNamedAt, DeviceState, Naming, Stands, DoubtsAs, IsOwn, ImageIsSound}
use Rattle.std.proofs.Common.{max, Any}
use Rattle.list_lemmas.proofs.Membership.{any_in}
use Rattle.list_lemmas.proofs.Quantifiers.{any_got}
use Rattle.list_lemmas.proofs.Values.{if_positive}
use Rattle.record_list.specs.Records.{linked_at}
use Rattle.judged_records.proofs.OfChanges.Mentions.{raised_at}
use Rattle.collector.specs.declared.unsure.Unsure.TheVariants as unsure
use Rattle.collector.specs.declared.unsure.Settled.TheVariants as settled
use Rattle.collector.specs.Settling.{own_settled}
use Rattle.tx_engine.proofs.OfDevice.OpenOnes.{can_take}
use Rattle.tx_engine.proofs.OfLaws.DevicesStand.{no_record, spare_other}
use Rattle.tx_engine.proofs.OfDevice.Noting.{next_named}

module _ (image : List Contents) (n : IndexState) (entries : List Entry) (namings : List Naming) (at : Slot) (rec : Rec)
    (own : IsOwn image n entries namings at rec) where
  named_at : (name : Link) → Contains own.next.names name → IsNamedAt namings name.page name.version
  named_at name i =
      any_got (λ (x : Naming). Any (λ a. (a.page ≡ name.page) × (a.version ≡ name.version)) x.names) namings own.place
      own.naming own.is_naming
      (any_in (λ (a : Link). (a.page ≡ name.page) × (a.version ≡ name.version)) own.naming.names name
      (subst (λ ns. Contains ns name) own.its i) (refl, refl))

  -- once it is noted, a page is mentioned as before, or as a transaction names it
  raised_named : (p : Protocol) → IsNoted p n → (page : ℕ) → page < n.config.logical →
      (mention_of (programmed n at.0 rec) page ≤ mention_of n page)
      ⊎ ((version : ℕ) × IsNamedAt namings page version × (mention_of (programmed n at.0 rec) page ≤ version))
  raised_named p noted page within =
      let names = next_named n rec own.next in
      let range = λ (a : Link) (i : Contains own.next.names a).
      (All-contains (λ a. (a.page < n.config.logical) × (1 ≤ a.version) × (a.version ≤ 2 ^ 62)) own.next.names a
      own.next.in_progress.begun.transaction.in_range
      i).0 in
      let own_within : rec.page < length n.mentions = omega (arith, range (name_of rec) names.0, noted.mentions) in
      let next_within : rec.next.page < length n.mentions = omega (arith, range rec.next names.1, noted.mentions) in
      let is = raised_at rec n.mentions page own_within next_within in
      let V = version_of page rec in
      let L = linked_at page rec in
      elim (cases_lt (get_or n.mentions page 0) (max V L)) [
        | inr low ↦ inl (omega (arith, is, low))
        | inl high ↦ elim (cases_lt V L) [
          | inl later ↦ (
              let parts = if_positive (rec.next.page == page) rec.next.version (omega arith) in
              let same = eqb-true rec.next.page page parts.0 in
              inr (
                rec.next.version,
                subst (λ q. IsNamedAt namings q rec.next.version) same (named_at rec.next names.1),
                omega (arith, is, parts.1),
              ))
          | inr first ↦ (
              let parts = if_positive (rec.page == page) rec.version (omega arith) in
              let same = eqb-true rec.page page parts.0 in
              inr (
                rec.version,
                subst (λ q. IsNamedAt namings q rec.version) same (named_at (name_of rec) names.0),
                omega (arith, is, parts.1),
              ))
        ]
      ]

module _ (p : Protocol) (laws : ImageIsSound p) (s : FlashState) (n : IndexState) (t : BlocksState)
    (rule : n.config.protocol ≡ p)
    (entries : List Entry) (namings : List Naming) where
  at_most : (u : Unsure) → Matches s n t u → CanTake n t u → (settlement n t s.image u).noted.config ≡ n.config →
      (page : ℕ) → page < n.config.logical →
      mention (records_in n.config.protocol s.image) page ≤ mention_of (settlement n t s.image u).noted page
  at_most u m take same page within =
      let after = laws.matches s n t u m take rule in
      let bound = after.noted.mentioned page (subst (λ (c : _). page < c.logical) (sym same) within) in
      subst (λ l. mention l page ≤ mention_of (settlement n t s.image u).noted page)
      (sym (ap (λ q. records_in q s.image) rule ∙ laws.records s n t u m take rule)) bound

  left_alone : (u : Unsure) → Matches s n t u → CanTake n t u → (settlement n t s.image u).answer ≢ settled.Present →
      MentionsAtMost n namings s.image
  left_alone u m take other page within =
      let keeps = (laws.preserves s n t u m take rule other).0 in
      inl (subst (λ (ms : List ℕ). mention (records_in n.config.protocol s.image) page ≤ get_or ms page 0)
      keeps.mentions
      (at_most u m take keeps.config page within))

  own_mentions : (at : Slot) (rec : Rec) → Matches s n t (unsure.Own at rec) → CanTakeOwn n t rec →
      IsOwn s.image n entries namings at rec →
      (c : Contents) → slot_at s.image at.0 ≡ c → MentionsAtMost n namings s.image
  own_mentions at rec m take own blank is = left_alone (unsure.Own at rec) m take
      (no_record n t s.image at rec blank is refl)
  own_mentions at rec m take own damaged is = left_alone (unsure.Own at rec) m take
      (no_record n t s.image at rec damaged is refl)
  own_mentions at rec m take own (complete bytes spare) is = λ page within.
      let there : settlement n t s.image (unsure.Own at rec) ≡ own_settled n t at.0 (λ m. programmed m at.0 rec)
      (complete bytes spare) = ap
      (own_settled n t at.0 (λ m. programmed m at.0 rec)) is in
      let bound = at_most (unsure.Own at rec) m take (ap (λ (f : Settlement). f.noted.config) there) page within in
      let low = subst (λ (f : Settlement). mention (records_in n.config.protocol s.image) page ≤ mention_of f.noted
      page) there bound in
      elim (raised_named s.image n entries namings at rec own n.config.protocol m.noted page within) [
        | inl before ↦ inl (omega (arith, low, before))
        | inr named ↦ inr (named.0, named.1, omega (arith, low, named.2))
      ]

  pub mentions_at_most : (u : Unsure) → Matches s n t u → CanTake n t u → DoubtsAs s.image n entries namings u →
      MentionsAtMost n namings s.image
  mentions_at_most unsure.Nothing m take doubt = left_alone unsure.Nothing m take (λ e. cc)
  mentions_at_most (unsure.Own at rec) m take doubt = own_mentions at rec m take doubt (slot_at s.image at.0) refl
  mentions_at_most (unsure.Copy from to) m take doubt = left_alone (unsure.Copy from to) m take (λ e. cc)
  mentions_at_most unsure.SpareErase m take doubt = left_alone unsure.SpareErase m take (spare_other _ n t _ refl)
  mentions_at_most (unsure.VictimErase block) m take doubt =
      left_alone (unsure.VictimErase block) m take (spare_other _ n t _ refl)

pub device_mentions : {F : Type 0} (state : F → FlashState) (p : Protocol) (laws : ImageIsSound p) (s : DeviceState F) →
    Stands state s → s.config.protocol ≡ p →
    MentionsAtMost s.noted s.namings (state s.flash).image
device_mentions state p laws s h rule =
    mentions_at_most p laws (state s.flash) s.noted s.table (ap (λ (c : _). c.protocol) (sym h.config) ∙ rule)
    s.machine.entries s.namings s.unsure h.matches
    (can_take state s h) h.doubt
