-- A device that was just mounted stands for the array of its image.
use Rattle.tx_engine.proofs.Common.{◌≡◌, ℕ, zero, suc, ◌+◌, Ok, [], replicate, Contains, refl, sym, ap, ◌∙◌, subst, arith, shape_of, Config, Protocol, Link, FlashState, Moment, moment_of, IsSoundImage, array_in, IndexState, pinned_at, pinned_names, BlocksState, Unsure, Matches, idle, OpenTransactionsState, DoubtsAs, Stands, StoreState, IsStoreState, device_in, ImageIsSound}
use Rattle.std.proofs.Common.{filter_map}
use Rattle.std.specs.List.{enumerate_from}
use Rattle.tx_types.specs.Config.{checked}
use Rattle.flash_model.specs.Flash.{IsFlash}
use Rattle.flash_model.specs.Readings.{seen_in}
use Rattle.die_alloc.specs.Opening.{opening_table}
use Rattle.scan_recovery.specs.Opening.{IsOpened}
use Rattle.collector.specs.declared.unsure.Unsure.TheVariants as unsure
use Rattle.tx_engine.specs.Opens.{StoresOpened, Mounts}
use Rattle.collector.specs.Laws.{OpenedTablesMatch}

-- the tables of an image that is read match the flash
pub opened_matches : OpenedTablesMatch → (its : Config) (s s' : FlashState) (n : IndexState) (t : BlocksState) →
    checked its ≡ Ok s.shape → IsFlash s →
    IsSoundImage its.protocol its.logical s.shape s.image → IsOpened its s.image n t → s'.shape ≡ s.shape →
    moment_of s' ≡ moment_of s →
    Matches s' n t unsure.Nothing
opened_matches law its s s' n t check whole sound h shape moment =
    subst (λ k. Matches s' n k unsure.Nothing) (sym h.table_is)
    (subst (λ k. Matches s' k (opening_table (shape_of its) (seen_in s.image) h.spare) unsure.Nothing) (sym h.noted_is)
    (law its s s' h.spare check whole sound h.chosen shape moment))

none_pinned : (k n : ℕ) → filter_map (λ (page, version). pinned_at page version) (enumerate_from n (replicate k 0)) ≡ []
none_pinned zero n = refl
none_pinned (suc k) n = none_pinned k (n + 1)

-- with nothing open
abbrev pub empty_table : Config → OpenTransactionsState
empty_table config = record {
  page_bytes = config.page_bytes;
  logical = config.logical;
  pending = config.pending;
  all = [];
}

module _ {F : Type 0} (state : F → FlashState) (p : Protocol) (flash : F) (its : Config) (s : StoreState F)
    (opened : StoresOpened state flash its s)
    (stored : IsStoreState state p s) where
  its_config : s.noted.config ≡ its
  its_config = ap (λ (n : IndexState). n.config) opened.tables.noted_is

  nothing_pinned : pinned_names s.noted.pins ≡ []
  nothing_pinned = ap (λ (n : IndexState). pinned_names n.pins) opened.tables.noted_is ∙ none_pinned its.logical 0

  pub opened_stands : Stands state (device_in state s (empty_table s.noted.config))
  opened_stands = record {
    matches = stored.matches;
    config = refl;
    array = refl;
    each = tt;
    doubt = subst (λ (u : Unsure). DoubtsAs (state s.flash).image s.noted [] [] u) (sym opened.unsure)
        (λ k d less. absurd (omega arith));
    tags = λ i j d less below. absurd (omega arith);
    apart = λ i j d less below. absurd (omega arith);
    few = omega arith;
    pinned = λ name. (
      λ c. absurd (no_item name (subst (λ ns. Contains ns name) nothing_pinned c)),
      λ any. (let none = any.2 in absurd (omega arith)),
    );
  }
    where
      no_item : (name : Link) → Contains [] name → ⊥
      no_item name c = let none = c.1 in omega arith

  pub opened_mounts : ImageIsSound p → Mounts state flash its (device_in state s (empty_table s.noted.config))
  opened_mounts laws = record {
    config = its_config;
    machine = ap idle (
        sym (laws.array (state s.flash) s.noted s.table unsure.Nothing
        (subst (λ (u : Unsure). Matches (state s.flash) s.noted s.table u) opened.unsure stored.matches) tt stored.rule)
        ∙ ap (λ q. array_in q s.noted.config.logical (state s.flash).image) (sym stored.rule)
        ∙ ap (λ (c : Config). array_in c.protocol c.logical (state s.flash).image) its_config
        ∙ ap (λ (m : Moment). array_in its.protocol its.logical m.image) opened.moment);
    namings = refl;
    unsure = opened.unsure;
    tables = opened.tables;
    moment = opened.moment;
    reads = opened.reads;
    started = opened.started;
    carries = opened.carries;
    kept = refl;
  }
