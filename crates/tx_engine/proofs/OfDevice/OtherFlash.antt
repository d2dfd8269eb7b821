-- A device stands as before where its flash has the shape and the image that it had.
use Rattle.tx_engine.proofs.Common.{◌≡◌, ℕ, ◌<◌, Bool, true, false, List, None, Result, Ok, Err, refl, sym, ap, ◌∙◌, subst, AllZip, Protocol, Broken, Carries, moment_of, Carries-nothing, FlashState, Contents, IndexState, page_known, array_known, matches_still, page_at, IsOpenAs, DoubtsAs, StoreState, entries_of, namings_of, DeviceInvariant, Inside}
use Rattle.std.proofs.Common.{IsSome}
use Rattle.tx_engine.specs.Read.{ReadsKnown, ReadsFlash, is_read_fault, read_place}
use Rattle.array_machine.specs.Read.{ReadsPage}
use Rattle.array_machine.specs.declared.answers.ReadAnswer.{ReadAnswer}
use Rattle.array_machine.specs.declared.answers.ReadAnswer.TheVariants as answer
use Rattle.array_machine.specs.declared.answers.ReadError.{ReadError}
use Rattle.array_machine.specs.declared.answers.ReadError.TheVariants as failed
use Rattle.tx_engine.proofs.OfDevice.Arrays.{at_page}

-- the device stands, dropped or not
pub device_same : {F R : Type 0} (state : F → FlashState) (protocol : Protocol) (d : Inside F R) (x : StoreState F) →
    DeviceInvariant state protocol d →
    x ≡ record d.store { flash = x.flash } → (state x.flash).shape ≡ (state d.store.flash).shape →
    (state x.flash).image ≡ (state d.store.flash).image →
    DeviceInvariant state protocol (record d { store = x })
device_same {F} {R} state protocol d x h same shape image =
    let is : DeviceInvariant state protocol (record d { store = record d.store { flash = x.flash } }) = record {
      stands = λ kept.
          let its = h.stands kept in
          record {
            matches = matches_still (state d.store.flash) (state x.flash) d.store.noted d.store.table d.store.unsure
                shape image its.matches;
            config = refl;
            array = refl;
            each = subst (λ im. AllZip (IsOpenAs im d.store.noted) (entries_of d.transactions)
                (namings_of d.transactions)) (sym image) its.each;
            doubt = subst (λ im. DoubtsAs im d.store.noted (entries_of d.transactions) (namings_of d.transactions)
                d.store.unsure) (sym image) its.doubt;
            tags = its.tags;
            apart = its.apart;
            few = its.few;
            pinned = its.pinned;
          };
      rule = h.rule;
      page_bytes = h.page_bytes;
      logical = h.logical;
      pending = h.pending;
    } in
    let P : StoreState F → Type 0 = λ y. DeviceInvariant state protocol (record d { store = y }) in
    subst P (sym same) is

-- the flash after a read is such a one
pub read_same : {F : Type 0} (state : F → FlashState) (old new : StoreState F) (page : ℕ) (before after : List ℕ)
    (r : Result Bool Broken) →
    ReadsKnown state old new page before after r →
    ((state new.flash).shape ≡ (state old.flash).shape) × ((state new.flash).image ≡ (state old.flash).image)
read_same state old new page before after (Ok false) h = (ap (λ f. (state f).shape) h.1, ap (λ f. (state f).image) h.1)
read_same state old new page before after (Ok true) h = (h.1.4.carries.shape, h.1.4.image)
read_same state old new page before after (Err broken) h = (h.1.3.carries.shape, h.1.3.image)

-- the array has at a page what is known of it
pub known_at : (n : IndexState) (image : List Contents) (page : ℕ) → page < n.config.logical →
    page_at (array_known n image) page ≡ page_known n image page
unfolding array_known
known_at n image page within = at_page (page_known n image) n.config.logical page None within

-- how a read of a record is answered
abbrev pub answer_to : Result Bool Broken → Result ReadAnswer ReadError
answer_to (Ok true) = Ok answer.Page
answer_to (Ok false) = Ok answer.Blank
answer_to (Err broken) = Err failed.Fault

pub reads_page : {F : Type 0} (state : F → FlashState) (old new : StoreState F) (page : ℕ) (before after : List ℕ)
    (r : Result Bool Broken) →
    page < old.noted.config.logical →
    ReadsKnown state old new page before after r →
    ReadsPage old.noted.config.logical (array_known old.noted (state old.flash).image) page after (answer_to r)
reads_page state old new page before after (Ok true) within h =
    (within, known_at old.noted (state old.flash).image page within ∙ h.0)
reads_page state old new page before after (Ok false) within h =
    (within, known_at old.noted (state old.flash).image page within ∙ h.0)
reads_page state old new page before after (Err broken) within h =
    (within, subst IsSome (sym (known_at old.noted (state old.flash).image page within)) h.0)

pub reads_flash : {F : Type 0} (state : F → FlashState) (old new : StoreState F) (page : ℕ) (before after : List ℕ)
    (r : Result Bool Broken) →
    ReadsKnown state old new page before after r → ReadsFlash state (read_place old.noted old.unsure page) old.flash
    new.flash before after (answer_to r)
reads_flash state old new page before after (Ok true) h = h.1
reads_flash state old new page before after (Ok false) h = (h.1, h.2)
reads_flash state old new page before after (Err broken) h = (h.1.0, h.1.1, h.1.2, broken, h.1.3)

-- such a read leaves the moment, and carries over what a read does
pub read_carries : {F : Type 0} (state : F → FlashState) (old new : StoreState F) (page : ℕ) (before after : List ℕ)
    (r : Result Bool Broken) →
    ReadsKnown state old new page before after r →
    (moment_of (state new.flash) ≡ moment_of (state old.flash))
    × Carries (state old.flash) (state new.flash) (is_read_fault (answer_to r))
read_carries {F} state old new page before after (Ok false) h = (
  ap (λ f. moment_of (state f)) h.1,
  subst (λ (f : F). Carries (state old.flash) (state f) false) (sym h.1)
      (Carries-nothing (state old.flash)),
)
read_carries state old new page before after (Ok true) h = let its = h.1.4 in
    (rw (its.image, its.programs, its.erases, its.started) refl, its.carries)
read_carries state old new page before after (Err broken) h = let its = h.1.3 in
    (rw (its.image, its.programs, its.erases, its.started) refl, its.carries)
