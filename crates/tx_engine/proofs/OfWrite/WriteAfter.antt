-- The write of a page after room was made for it.
use Rattle.tx_engine.proofs.Common.{◌≡◌, ℕ, ◌<◌, Bool, false, List, [], length, get_or, All, refl, sym, ap, ◌∙◌, subst, inl, cond_both, All-nil, PageWrite, Config, FlashState, current_of, Entry, put, VersionsRise, OpenTransactionsState, transaction_at, WriteFails, is_at_last, next_writes, DeviceState, Stands, StoreState, device_in}
use Rattle.collector.specs.declared.unsure.Unsure.TheVariants as unsure
use Rattle.tx_engine.specs.Settling.{IsLeft, WritesNext}
use Rattle.tx_engine.proofs.OfCollect.Collecting.{own_writes_low}
use Rattle.tx_engine.proofs.OfDevice.Kept.{BlocksInvariant, from_stands}
use Rattle.collector.proofs.OfNotes.Keeping.{preserves_then}

pub settled_kept : {F : Type 0} (state : F → FlashState) (S : StoreState F) (O : OpenTransactionsState) →
    Stands state (device_in state S O) → S.unsure ≡ unsure.Nothing →
    BlocksInvariant (state S.flash) S.noted S.table unsure.Nothing O
settled_kept state S O h sure = subst (λ u. BlocksInvariant (state S.flash) S.noted S.table u O) sure
    (from_stands state S O h)

pub next_low : {F : Type 0} (state : F → FlashState) (S : StoreState F) (O : OpenTransactionsState) (i : ℕ) →
    Stands state (device_in state S O) → i < length O.all →
    All (λ w. w.page < S.noted.config.logical) (next_writes (transaction_at O i).entry)
next_low state S O i h within =
    cond_both (is_at_last (transaction_at O i).entry) (transaction_at O i).entry.writes []
    (All (λ w. w.page < S.noted.config.logical))
    (λ is. own_writes_low (state S.flash) S.noted O S.table S.unsure (from_stands state S O h) i within)
    (λ is. All-nil (λ (w : PageWrite). w.page < S.noted.config.logical))

-- versions rise after they stayed
pub rises_after : {F : Type 0} (a b c : DeviceState F) (ws : List PageWrite) → b.config ≡ a.config →
    All (λ w. w.page < a.config.logical) ws →
    ((page : ℕ) → page < a.config.logical → current_of b.noted page ≡ current_of a.noted page) → VersionsRise b c ws →
    VersionsRise a c ws
rises_after a b c ws config low same second = record {
  rises = λ k d h. subst (λ v. v < current_of c.noted (get_or ws k d).page) (same (get_or ws k d).page (low k d h))
      (second.rises k d h);
  stays = λ page within others. second.stays page (subst (λ (k : Config). page < k.logical) (sym config) within) others
      ∙ same page within;
}

pub written_after : {F : Type 0} (state : F → FlashState) (a b c : DeviceState F) (e : Entry) → IsLeft state a b false →
    All (λ w. w.page < a.config.logical) (next_writes e) →
    WritesNext b c e → WritesNext a c e
written_after state a b c e left low w = record {
  pages = w.pages ∙ ap (λ m. put m.pages (next_writes e)) left.machine;
  rises = rises_after a b c (next_writes e) left.exits.tables.config low left.versions w.rises;
}

pub fails_after : {F : Type 0} (state : F → FlashState) (a b c : DeviceState F) (o o' : OpenTransactionsState) (i : ℕ) →
    IsLeft state a b false → WriteFails b c o o' i →
    WriteFails a c o o' i
fails_after state a b c o o' i left w = record {
  pages = w.pages ∙ ap (λ m. m.pages) left.machine;
  rises = rises_after a b c [] left.exits.tables.config (All-nil (λ (w : PageWrite). w.page < a.config.logical))
      left.versions w.rises;
  kept = preserves_then a.noted b.noted c.noted left.kept w.kept;
  opens = w.opens;
}

-- room was not made
pub fails_room : {F : Type 0} (state : F → FlashState) (a b : DeviceState F) (o : OpenTransactionsState) (i : ℕ)
    (broken : Bool) → IsLeft state a b broken →
    WriteFails a b o o i
fails_room state a b o i broken left = record {
  pages = ap (λ m. m.pages) left.machine;
  rises = record {
    rises = All-nil (λ (w : PageWrite). current_of a.noted w.page < current_of b.noted w.page);
    stays = λ page within others. left.versions page
        within;
  };
  kept = left.kept;
  opens = inl refl;
}
