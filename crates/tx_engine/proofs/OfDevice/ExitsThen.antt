-- A call after another: what both say of the flash, the versions and the mentions.
use Rattle.tx_engine.proofs.Common.{◌≡◌, ◌≢◌, ℕ, ◌<◌, ◌≤◌, Bool, false, List, ◌++◌, get_or, true, All, refl, sym, ap, ◌∙◌, subst, inl, inr, arith, Any, get_or_default, All-append, PageWrite, Config, Link, FlashState, Contents, records_in, Carries, FlashMoves, Carries-then, FlashMoves-then, current_of, mention_of, DeviceState, Naming, Exits, ExitsTables, VersionsRise, IsNamedAt}
use Rattle.list_lemmas.proofs.Quantifiers.{all_left, all_right}
use Rattle.flash_model.specs.Moves.{MovesTogether}
use Rattle.flash_model.specs.Operations.{Moment, moment_of}
use Rattle.flash_model.proofs.MoveLemmas.{FlashMovesTogether-then}
use Rattle.tx_types.specs.declared.config.Shape.{Shape}
use Rattle.collector.specs.SinceErase.{WorksSinceErase}
use Rattle.collector.proofs.OfNotes.SinceErases.{works_then}
use Rattle.tx_engine.specs.Exits.{ExitsTogether, VersionsTell, WorksSince}
use Rattle.tx_engine.specs.Held.{AddsNoHeldIn}
use Rattle.tx_engine.proofs.OfDevice.HeldRecords.{held_same, held_then}

-- each of these was named before
abbrev pub NamedBefore : List Naming → List Naming → Type 0
NamedBefore old new = All (λ x. Any (λ before. before.names ≡ x.names) old) new

pub before_itself : (xs : List Naming) → NamedBefore xs xs
before_itself xs k d h = (k, get_or xs k d, h, get_or_default xs k (get_or xs k d) d h, refl)

pub named_before : (old new : List Naming) (page version : ℕ) → NamedBefore old new → IsNamedAt new page version →
    IsNamedAt old page version
named_before old new page version before h =
    let was = before h.0 h.1 h.2 in
    let same : was.1.names ≡ h.1.names = was.4 ∙ ap (λ (x : Naming). x.names) h.3 in (
      was.0,
      was.1,
      was.2,
      was.3,
      subst (λ names. Any (λ (name : Link). (name.page ≡ page) × (name.version ≡ version))
          names) (sym same) h.4,
    )

pub before_then : (a b c : List Naming) → NamedBefore a b → NamedBefore b c → NamedBefore a c
before_then a b c first second k d h =
    let mid = second k d h in
    let was = first mid.0 mid.1 mid.2 in
    (was.0, was.1, was.2, was.3, was.4 ∙ ap (λ (x : Naming). x.names) mid.3 ∙ mid.4)

-- one image after another
pub images_then : (its then : Config) (a b c : List Contents) → then ≡ its →
    AddsNoHeldIn its.protocol its.logical a b → AddsNoHeldIn then.protocol then.logical b c →
    AddsNoHeldIn its.protocol its.logical a c
images_then its then a b c same first second =
    held_then its.protocol its.logical (records_in its.protocol a) (records_in its.protocol b) (records_in its.protocol c)
    first (subst (λ (k : Config). AddsNoHeldIn k.protocol k.logical b c) same second)

module _ {F : Type 0} (state : F → FlashState) where
  -- Where nothing changed
  pub exits_still : (s : DeviceState F) (new : F) (broken : Bool) (t : DeviceState F) → s.dropped ≡ false →
      t ≡ record s { flash = new } → (state new).image ≡ (state s.flash).image →
      FlashMoves (state s.flash) (state new) broken →
      Carries (state s.flash) (state new) broken → Exits state s t broken
  exits_still s new broken t kept same image moves carries = subst (λ t. Exits state s t broken) (sym same) (record {
    tables = record {
      config = refl;
      versions = λ page within. inr (refl, refl);
      mentions = λ page within. inl refl;
      names = before_itself s.namings;
      kept = kept;
    };
    moves = moves;
    carries = carries;
    held = held_same s.config.protocol s.config.logical (state s.flash).image (state new).image image;
  })

  -- one call after another
  pub tables_then : (a b c : DeviceState F) → a.config ≡ a.noted.config → b.config ≡ b.noted.config → ExitsTables a b →
      ExitsTables b c → ExitsTables a c
  tables_then a b c config config' first second = record {
    config = second.config ∙ first.config;
    versions = λ page within.
        let inside : page < b.config.logical = subst (λ (k : Config). page < k.logical) (sym first.config) within in
        elim (first.versions page within) [
          | inl rose ↦ elim (second.versions page inside) [
            | inl again ↦ inl (omega arith)
            | inr same ↦ inl (omega (arith, same.0))
          ]
          | inr still ↦ elim (second.versions page inside) [
            | inl rose ↦ inl (omega (arith, still.0))
            | inr same ↦ inr (same.0 ∙ still.0, same.1 ∙ still.1)
          ]
        ];
    mentions = λ page within.
        let inside : page < b.noted.config.logical = subst (λ (k : Config). page < k.logical) (sym config
        ∙ sym first.config ∙ config') within in
        elim (first.mentions page within) [
          | inl still ↦ elim (second.mentions page inside) [
            | inl same ↦ inl (same ∙ still)
            | inr rose ↦ inr (
              let up = rose.0 in omega arith,
              named_before a.namings b.namings page (mention_of c.noted page) first.names rose.1,
            )
          ]
          | inr first_rose ↦ elim (second.mentions page inside) [
            | inl same ↦ inr (
              let up = first_rose.0 in omega arith,
              subst (IsNamedAt a.namings page) (sym same) first_rose.1,
            )
            | inr rose ↦ inr (
              let up = rose.0 in let before = first_rose.0 in omega arith,
              named_before a.namings b.namings page (mention_of c.noted page) first.names rose.1,
            )
          ]
        ];
    names = before_then a.namings b.namings c.namings first.names second.names;
    kept = second.kept;
  }

  pub exits_then : (a b c : DeviceState F) (broken : Bool) → a.config ≡ a.noted.config → b.config ≡ b.noted.config →
      Exits state a b false →
      Exits state b c broken → Exits state a c broken
  exits_then a b c broken config config' first second = record {
    tables = tables_then a b c config config' first.tables second.tables;
    moves = FlashMoves-then (state a.flash) (state b.flash) (state c.flash) broken first.carries.shape
        first.moves second.moves;
    carries = Carries-then (state a.flash) (state b.flash) (state c.flash) broken first.carries second.carries;
    held = images_then a.config b.config (state a.flash).image (state b.flash).image (state c.flash).image
        first.tables.config first.held second.held;
  }

  -- so with what is durable since the last erase, from the state before
  module _ (a b c : DeviceState F) (broken : Bool) (config : b.config ≡ a.config)
      (shape : (state b.flash).shape ≡ (state a.flash).shape) (h : WorksSince state b c broken) where
    since_as : WorksSinceErase a.config.protocol a.config.logical (state a.flash).shape (moment_of (state b.flash)) broken
        (moment_of (state c.flash))
    since_as =
        subst (λ (k : Config). WorksSinceErase k.protocol k.logical (state a.flash).shape (moment_of (state b.flash))
        broken (moment_of (state c.flash))) config
        (subst (λ (sh : Shape). WorksSinceErase b.config.protocol b.config.logical sh (moment_of (state b.flash))
        broken (moment_of (state c.flash))) shape h)

    -- where the first call left the moment
    pub since_still : moment_of (state b.flash) ≡ moment_of (state a.flash) → WorksSince state a c broken
    since_still same =
        subst (λ (m : Moment). WorksSinceErase a.config.protocol a.config.logical (state a.flash).shape m broken
        (moment_of (state c.flash))) same since_as

  pub since_then : (a b c : DeviceState F) (broken : Bool) → Exits state a b false → WorksSince state a b false →
      WorksSince state b c broken → WorksSince state a c broken
  since_then a b c broken exits first second =
      works_then a.config.protocol a.config.logical (state a.flash).shape (moment_of (state a.flash))
      (moment_of (state b.flash)) (moment_of (state c.flash)) broken exits.moves first
      (since_as a b c broken exits.tables.config exits.carries.shape second)

  -- what may be started together need not be
  pub together_exits : (a b : DeviceState F) → Exits state a b false → ExitsTogether state a b
  together_exits a b exits = record {
    tables = exits.tables;
    moves = inl exits.moves;
    carries = exits.carries;
    held = exits.held;
  }

  -- a call, and then one that may start programs together
  pub together_after : (a b c : DeviceState F) → a.config ≡ a.noted.config → b.config ≡ b.noted.config →
      Exits state a b false → ExitsTogether state b c → ExitsTogether state a c
  together_after a b c config config' first second = record {
    tables = tables_then a b c config config' first.tables second.tables;
    moves = FlashMovesTogether-then (state a.flash) (state b.flash) (state c.flash) false first.carries.shape
        first.moves second.moves;
    carries = Carries-then (state a.flash) (state b.flash) (state c.flash) false first.carries second.carries;
    held = images_then a.config b.config (state a.flash).image (state b.flash).image (state c.flash).image
        first.tables.config first.held second.held;
  }

  -- such a call, and then one that leaves the moment of the flash
  pub together_still : (a b c : DeviceState F) → a.config ≡ a.noted.config → b.config ≡ b.noted.config →
      ExitsTogether state a b → Exits state b c false → moment_of (state c.flash) ≡ moment_of (state b.flash) →
      ExitsTogether state a c
  together_still a b c config config' first second still = record {
    tables = tables_then a b c config config' first.tables second.tables;
    moves = subst (λ (m : Moment). MovesTogether true (state a.flash).shape (moment_of (state a.flash)) false m)
        (sym still) first.moves;
    carries = Carries-then (state a.flash) (state b.flash) (state c.flash) false first.carries second.carries;
    held = images_then a.config b.config (state a.flash).image (state b.flash).image (state c.flash).image
        first.tables.config first.held second.held;
  }

  -- versions that rose and did not fall again, and others that rose after them
  pub rises_then : (a b c : DeviceState F) (ws vs : List PageWrite) → b.config ≡ a.config →
      All (λ w. w.page < a.config.logical) ws → All (λ w. w.page < a.config.logical) vs →
      VersionsTell a b → VersionsTell b c → VersionsRise a b ws → VersionsRise b c vs → VersionsRise a c (ws ++ vs)
  rises_then a b c ws vs config low low' tell tell' first second =
      let inside : (page : ℕ) → page < a.config.logical → page < b.config.logical =
      λ page within. subst (λ (k : Config). page < k.logical)
      (sym config) within in
      let never : (page : ℕ) → page < a.config.logical → current_of b.noted page ≤ current_of c.noted page =
      λ page within.
      elim (tell' page (inside page within)) [ inl rose ↦ omega arith | inr same ↦ omega (arith, same.0) ] in
      let before : (page : ℕ) → page < a.config.logical → current_of a.noted page ≤ current_of b.noted page =
      λ page within.
      elim (tell page within) [ inl rose ↦ omega arith | inr same ↦ omega (arith, same.0) ] in
      record {
        rises = All-append (λ w. current_of a.noted w.page < current_of c.noted w.page) ws vs
            (λ k d h. let up = first.rises k d h in let more = never (get_or ws k d).page (low k d h) in omega arith)
            (λ k d h. let up = second.rises k d h in let more = before (get_or vs k d).page (low' k d h) in
            omega arith);
        stays = λ page within others.
            second.stays page (inside page within) (all_right (λ w. w.page ≢ page) ws vs others)
            ∙ first.stays page within (all_left (λ w. w.page ≢ page) ws vs others);
      }
