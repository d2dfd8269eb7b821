-- What holds of a device at every moment.
use Rattle.tx_engine.proofs.Common.{◌≡◌, ◌⊎◌, ℕ, ◌≤◌, Bool, false, length, Ok, Err, refl, sym, ap, ◌∙◌, subst, inl, inr, arith, Config, Protocol, Shape, shape_of, FlashState, IsSoundImage, array_in, records_in, found_in, IndexState, mention_of, idle, Represents, MentionsAtMost, DeviceState, Stands, StepsAs, CutLeaves, IsAtLast, settled}
use Rattle.std.proofs.lemmas.List.{get_or_past}
use Rattle.tx_types.specs.Config.{checked}
use Rattle.collector.specs.declared.unsure.Unsure.TheVariants as unsure
use Rattle.array_machine.specs.declared.answers.StepError.TheVariants as failed
use Rattle.tx_engine.specs.Always.{HoldsAlways}

-- a page past the last one is not mentioned
none_beyond : (n : IndexState) (logical page : ℕ) → length n.mentions ≡ logical → logical ≤ page → mention_of n page ≡ 0
none_beyond n logical page same past = get_or_past n.mentions page 0 (omega (arith, same, past))

abbrev StepCuts : (F : Type 0) → (F → FlashState) → Protocol → DeviceState F → Type 0
StepCuts F state protocol s =
    (old : DeviceState F) (there : Bool) (tag : ℕ) → StepsAs there old.machine s.machine tag (Err failed.Fault) →
    CutLeaves (λ e. (e.tag ≡ tag) × IsAtLast e) old.machine
    (idle (array_in protocol s.config.logical (state s.flash).image))

abbrev SettledCuts : (F : Type 0) → (F → FlashState) → Protocol → DeviceState F → Type 0
SettledCuts F state protocol s =
    (old : DeviceState F) (there : Bool) → (s.machine ≡ old.machine) ⊎ (s.machine ≡ settled there old.machine) →
    CutLeaves (λ e. ⊥) old.machine (idle (array_in protocol s.config.logical (state s.flash).image))

pub holds_always : {F : Type 0} (state : F → FlashState) (protocol : Protocol) (s : DeviceState F) → s.dropped ≡ false →
    Stands state s →
    (rule : s.config.protocol ≡ protocol) →
    IsSoundImage protocol s.config.logical (state s.flash).shape (state s.flash).image →
    Represents s.machine (array_in protocol s.config.logical (state s.flash).image) →
    (s.unsure ≡ unsure.Nothing → (records_in protocol (state s.flash).image ≡ found_in s.noted.notes)
    × (array_in protocol s.config.logical
    (state s.flash).image ≡ s.machine.pages)) →
    MentionsAtMost s.noted s.namings (state s.flash).image → StepCuts F state protocol s →
    SettledCuts F state protocol s → HoldsAlways state protocol s
holds_always state protocol s kept stands rule sound array records mentions step still =
    let shape : (state s.flash).shape ≡ shape_of s.config = stands.matches.shape ∙ ap shape_of (sym stands.config) in
    let its = sym rule in
    record {
      kept = kept;
      rule = rule;
      check = ap checked stands.config ∙ stands.matches.noted.check
          ∙ ap (λ (x : Shape). Ok x) (sym stands.matches.shape);
      shape = shape;
      few = subst (λ (c : Config). c.pending ≤ 256) (sym stands.config) stands.matches.noted.bounds.pending_most;
      sound = subst (λ (x : Shape). IsSoundImage s.config.protocol s.config.logical x (state s.flash).image) shape
          (subst (λ (p : Protocol). IsSoundImage p s.config.logical (state s.flash).shape (state s.flash).image) its
          sound);
      array = subst (λ (p : Protocol). Represents s.machine (array_in p s.config.logical (state s.flash).image)) its
          array;
      records = λ sure. subst (λ (p : Protocol). records_in p (state s.flash).image ≡ found_in s.noted.notes) its
          (records sure).0;
      its = sym stands.config;
      mentions = mentions;
      beyond = λ page past. none_beyond s.noted s.config.logical page (stands.matches.noted.mentions
          ∙ ap (λ (c : Config). c.logical) (sym stands.config)) past;
      step_cut = λ old there tag steps.
          subst (λ (p : Protocol). CutLeaves (λ e. (e.tag ≡ tag) × IsAtLast e) old
          (idle (array_in p s.config.logical (state s.flash).image))) its
          (step (record s { machine = old }) there tag steps);
      same_cut = subst (λ (p : Protocol). CutLeaves (λ e. ⊥) s.machine
          (idle (array_in p s.config.logical (state s.flash).image))) its
          (still s false (inl refl));
      settled_cut = λ old there is. subst (λ (p : Protocol). CutLeaves (λ e. ⊥) old
          (idle (array_in p s.config.logical (state s.flash).image))) its
          (still (record s { machine = old }) there (inr is));
    }
