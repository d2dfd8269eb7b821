-- How often pages were mentioned, over the calls of a device.
use Rattle.tx_engine.proofs.Common.{◌≡◌, ℕ, ◌<◌, ◌≤◌, List, [], map, sym, ap, ◌∙◌, subst, inl, inr, arith, slice_index, range_with_len, cases_lt, Config, Protocol, FlashState, mention, Found, records_in, IndexState, mention_of, ExitsTables, IsNamedAt, DeviceState, Naming}
use Rattle.std.proofs.lemmas.List.FromFn.{get_or-map-range_with_len}
use Rattle.tx_engine.specs.Always.{HoldsAlways, IsSeen}
use Rattle.tx_engine.proofs.OfDevice.ExitsThen.{named_before}

opened_mention : (n : IndexState) (list : List Found) (logical page : ℕ) →
    n.mentions ≡ map (mention list) (range_with_len 0 logical) → page < logical →
    mention_of n page ≡ mention list page
opened_mention n list logical page is lt =
    ap (λ (x : List ℕ). slice_index x page) is ∙ get_or-map-range_with_len (mention list) 0 logical page page 0
    lt (omega arith)

none_named : (page version : ℕ) → IsNamedAt [] page version → ⊥
none_named page version h = let lt = h.2 in omega arith

-- a device that was just opened, which has its mentions from the records of its image
pub opened_seen : {F : Type 0} (seen : ℕ → ℕ) (list : List Found) (logical : ℕ) (s : DeviceState F) →
    s.noted.mentions ≡ map (mention list) (range_with_len 0 logical) →
    s.namings ≡ [] → ((page : ℕ) → logical ≤ page → mention_of s.noted page ≡ 0) →
    ((page : ℕ) → page < logical → mention list page ≤ seen page) → IsSeen seen s
opened_seen seen list logical s noted none beyond most = record {
  mentions = λ page. elim (cases_lt page logical) [
    | inl lt ↦ (let least = most page lt in let is = opened_mention s.noted list logical page noted lt in
        omega (arith, is, least))
    | inr ge ↦ (let zero = beyond page ge in omega (arith, zero))
  ];
  names = λ page version named. absurd (none_named page version
      (subst (λ (x : List Naming). IsNamedAt x page version) none named));
}

-- on another flash
pub seen_flash : {F : Type 0} (seen : ℕ → ℕ) (s : DeviceState F) (flash : F) → IsSeen seen s →
    IsSeen seen (record s { flash = flash })
seen_flash seen s flash h = record { mentions = h.mentions; names = h.names }

-- a call that may settle, write and collect leaves the mentions within what was seen
pub exits_seen : {F : Type 0} (state : F → FlashState) (protocol : Protocol) (old new : DeviceState F) (seen : ℕ → ℕ) →
    HoldsAlways state protocol old → HoldsAlways state protocol new → ExitsTables old new → IsSeen seen old →
    IsSeen seen new
exits_seen state protocol old new seen was is exits h = record {
  mentions = λ page. elim (cases_lt page old.config.logical) [
    | inl lt ↦ elim (exits.mentions page (subst (λ (c : Config). page < c.logical) (sym was.its) lt)) [
      | inl same ↦ (let most = h.mentions page in omega (arith, same, most))
      | inr rose ↦ h.names page (mention_of new.noted page) rose.1
    ]
    | inr ge ↦ (let none = is.beyond page (subst (λ (c : Config). c.logical ≤ page) (sym exits.config) ge) in
        omega (arith, none))
  ];
  names = λ page version named. h.names page version (named_before old.namings new.namings page version
      exits.names named);
}

-- and so are those of the image
pub image_seen : {F : Type 0} (state : F → FlashState) (protocol : Protocol) (seen : ℕ → ℕ) (t : DeviceState F)
    (page : ℕ) → HoldsAlways state protocol t →
    IsSeen seen t → page < t.config.logical →
    mention (records_in t.config.protocol (state t.flash).image) page ≤ seen page
image_seen state protocol seen t page always h lt =
    let its = always.its in
    let most = always.mentions page (subst (λ (x : Config). page < x.logical) (sym its) lt) in
    subst (λ (x : Config). mention (records_in x.protocol (state t.flash).image) page ≤ seen page) its (elim most [
      | inl noted ↦ (let least = h.mentions page in omega (arith, noted, least))
      | inr named ↦ (let least = h.names page named.0 named.1 in let of = named.2 in omega (arith, of, least))
    ])
