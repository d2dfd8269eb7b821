-- Claiming a file before it is saved.
use Rattle.durable_folder.proofs.Common.{◌≡◌, ◌⊎◌, inl, inr, ℕ, Bool, true, false, List, Option, None, Some, Result, Ok, Err, refl, sym, ap, ◌∙◌, IsErr, error_kind, Error, Found, Handle, Opens, FindsOpen, AtNow, IsLater, FolderState, IsFree, file_of, target, History, Answer, Turns, Learns, Rests, IsStale, IsSeen}
use Rattle.std.specs.Result.{IsErrAnd}
use Rattle.std.specs.declared.io.ErrorKind.TheVariants as kind
use Rattle.durable_folder.specs.declared.folder.Lock.{Lock}
use Rattle.durable_folder.specs.declared.folder.Lock.TheVariants as lock
use Rattle.durable_folder.specs.Calls.{Locks, IsUnchanged, if_plain, is_elsewhere, locked_by}
use Rattle.durable_folder.specs.Causes.{HasFailed, HasCause}
use Rattle.durable_folder.specs.Counting.{answer_to_lock}
use Rattle.durable_folder.specs.Locking.{LeadsToFile, IsTaken, IsClaimed, Claims, IsClaimCause, HasClaimCause, IsOpenAt, Holds, IsLocked}
use Rattle.durable_folder.specs.Locking.{AsksLock, IsSameFinding, IsAsLoaded, IsFoundSo, IsPlainAt, Compares, IsNothing, IsRefusedIf, IsNoPlain, WhereFirst, HasSaveCause}
use Rattle.durable_folder.specs.Renewing.{AtLast}
use Rattle.durable_folder.specs.Ways.{IsSpecial, Looks}
use Rattle.durable_folder.proofs.Causing.{turn_failed, turn_later, later_then, then_failed}
use Rattle.durable_folder.proofs.Learning.{learns, learns_then, learns_weaker, learns_rests, rests_then, turn_rests, opens_learns, finds_learns}
use Rattle.durable_folder.proofs.Learning.{finds_rests, rests_known, Tells}
use Rattle.durable_folder.proofs.Tearing.{opened_plain}

-- the lock
lock_given : (r : Result Lock Error) → is_elsewhere r ≡ false → (handle : Handle) →
    locked_by r handle ≡ record handle { is_held = true }
lock_given (Ok lock.Held) is handle = refl
lock_given (Ok lock.Elsewhere) is handle = absurd (cc)
lock_given (Err e) is handle = refl

pub lock_taken : (before after : Handle) (r : Result Lock Error) (n : Answer) (a b : Option History) →
    is_elsewhere r ≡ false →
    Turns (Locks before after r) n a b → AsksLock before after (Ok tt) a b
lock_taken before after r n a b is turn =
    learns (Locks before after r) (IsLocked before after) n a b turn
    (λ s t x. (x.0, record { is_free = λ f opening. x.1 f opening ∙ is; is = x.2 ∙ lock_given r is before }))

locked_file : (r : Result Lock Error) (handle : Handle) → (locked_by r handle).file ≡ handle.file
locked_file (Ok lock.Held) handle = refl
locked_file (Ok lock.Elsewhere) handle = refl
locked_file (Err e) handle = refl

pub lock_same : (before after : Handle) (r : Result Lock Error) (n : Answer) (a b : Option History) →
    Turns (Locks before after r) n a b → AtLast (λ k. after.file ≡ before.file) b
lock_same before after r n a None turn = tt
lock_same before after r n None (Some k) turn = absurd turn
lock_same before after r n (Some h) (Some k) turn = ap (λ i. i.file) turn.0.2 ∙ locked_file r before

pub lock_refused : (before after : Handle) (r : Result Lock Error) (n : Answer) (a b : Option History) →
    Turns (Locks before after r) n a b → Rests a b
lock_refused before after r n a b turn = turn_rests (Locks before after r) n a b turn (λ s t x. x.0)

pub lock_failed : (S : FolderState → FolderState → Type 0) (r : Result Lock Error) (a b : Option History) →
    is_elsewhere r ≡ true →
    Turns S (answer_to_lock r) a b → HasFailed a b
lock_failed S (Ok lock.Held) a b is turn = absurd (cc)
lock_failed S (Ok lock.Elsewhere) a b is turn = turn_failed S (answer_to_lock (Ok lock.Elsewhere)) a b turn refl
lock_failed S (Err e) a b is turn = absurd (cc)

-- what is found twice of a file that stays
found_twice : (one other : Found) (file : ℕ) (s : FolderState) → IsUnchanged one file s → IsUnchanged other file s →
    IsSameFinding one other
found_twice one other file s x y = record {
  device = x.device ∙ sym y.device;
  inode = x.inode ∙ sym y.inode;
  size = x.size ∙ sym y.size;
  seconds = x.seconds ∙ sym y.seconds;
  billionths = x.billionths ∙ sym y.billionths;
}

found_so : (one other : Found) (file : ℕ) (s : FolderState) → IsSameFinding one other → IsUnchanged one file s →
    IsUnchanged other file s
found_so one other file s same x = record {
  device = sym same.device ∙ x.device;
  inode = sym same.inode ∙ x.inode;
  size = sym same.size ∙ x.size;
  seconds = sym same.seconds ∙ x.seconds;
  billionths = sym same.billionths ∙ x.billionths;
}

one_file : (name : List ℕ) (f g : ℕ) (s : FolderState) → file_of s (target s name) ≡ Some f →
    file_of s (target s name) ≡ Some g → f ≡ g
one_file name f g s x y = let both : Some f ≡ Some g = sym x ∙ y in cc

not_special : (name : List ℕ) (file : ℕ) (s : FolderState) → LeadsToFile name file s → IsSpecial s (target s name) → ⊥
not_special name file s leads special =
    let same : file ≡ special.0 = one_file name file special.0 s leads.there special.1 in
    let both : true ≡ false = sym leads.is_plain ∙ ap (λ f. s.fixed.is_plain f) same ∙ special.2 in absurd (cc)

not_stale : (found : Found) (loaded : Option Found) (name : List ℕ) (file : ℕ) (s : FolderState) →
    LeadsToFile name file s → IsUnchanged found file s →
    IsAsLoaded found loaded → IsStale loaded name s → ⊥
not_stale found None name file s leads is as_loaded stale = stale
not_stale found (Some loaded) name file s leads is as_loaded (inl none) = let both : None ≡ Some file = sym none
    ∙ leads.there in absurd (cc)
not_stale found (Some loaded) name file s leads is as_loaded (inr (inl x)) =
    let same : file ≡ x.0 = one_file name file x.0 s leads.there x.1.there in
    let at : IsUnchanged loaded x.0 s = rw same at (found_so found loaded file s as_loaded is) in x.2 at
not_stale found (Some loaded) name file s leads is as_loaded (inr (inr x)) = not_special name file s leads x.1

stale_so : (found : Found) (loaded : Option Found) (name : List ℕ) (file : ℕ) (s : FolderState) →
    LeadsToFile name file s → IsUnchanged found file s →
    (IsAsLoaded found loaded → ⊥) → IsStale loaded name s
stale_so found None name file s leads is changed = absurd (changed tt)
stale_so found (Some loaded) name file s leads is changed =
    inr (inl (file, leads, λ still. changed (found_twice found loaded file s is still)))

-- what is known of an open file once its name was opened again
pub record IsLookedUp {X : Type 0} (handle : X → Handle) (name : List ℕ) (again : X) (named found : Found)
    (opening : Handle) (s : FolderState) : Type 0 where
  pub opens : Opens handle name (Ok again) s s
  pub named_is : Tells (handle again) named s
  pub found_is : Tells opening found s

pub looked_up : {X : Type 0} (handle : X → Handle) (name : List ℕ) (again : X) (named found : Found) (opening : Handle)
    (l m n : Answer)
    (a b c d : Option History) → Turns (Opens handle name (Ok again)) l a b →
    Turns (FindsOpen (handle again) (Ok named)) m b c →
    Turns (FindsOpen opening (Ok found)) n c d → Learns (IsLookedUp handle name again named found opening) a d
looked_up handle name again named found opening l m n a b c d x y z =
    learns_then (λ s. Opens handle name (Ok again) s s × Tells (handle again) named s) (Tells opening found)
    (IsLookedUp handle name again named found opening)
    a c d
    (learns_then (λ s. Opens handle name (Ok again) s s) (Tells (handle again) named)
    (λ s. Opens handle name (Ok again) s s × Tells (handle again) named s)
    a b c (opens_learns handle name again l a b x) (finds_learns (handle again) named m b c y) (λ s u v. (u, v)))
    (finds_learns opening found n c d z) (λ s u v. record { opens = u.0; named_is = u.1; found_is = v })

pub compared : {X : Type 0} (handle : X → Handle) (name : List ℕ) (again : X) (named found : Found) (opening : Handle)
    (loaded : Option Found) (b : Bool)
    (a c : Option History) → (b ≡ true → IsFoundSo found named loaded) → (IsFoundSo found named loaded → b ≡ true) →
    Learns (IsLookedUp handle name again named found opening) a c → Compares opening loaded name (Ok b) a c
compared handle name again named found opening loaded true a c so is known =
    learns_weaker (IsLookedUp handle name again named found opening) (λ s. IsPlainAt opening name s →
    IsStale loaded name s → ⊥) a c known
    (λ s x plain stale. not_stale found loaded name plain.0 s plain.1 (x.found_is.is plain.0 plain.2)
    (so refl).as_loaded stale)
compared handle name again named found opening loaded false a c so is known =
    learns_weaker (IsLookedUp handle name again named found opening) (λ s. IsPlainAt opening name s →
    IsStale loaded name s) a c known
    (λ s x plain.
    let here = x.found_is.is plain.0 plain.2 in
    let there = x.named_is.is plain.0 (opened_plain handle name again s s x.opens plain.0 plain.1.there
    plain.1.is_plain) in
    stale_so found loaded name plain.0 s plain.1 here (λ as_loaded.
    let yes = is (record {
      device = here.device ∙ sym there.device;
      inode = here.inode ∙ sym there.inode;
      as_loaded = as_loaded;
    }) in absurd (cc)))

-- what is open on a name
pub open_plain : (handle : Handle) (name : List ℕ) (file : ℕ) (s : FolderState) → IsOpenAt handle name s →
    LeadsToFile name file s → handle.file ≡ Some file
open_plain handle name file s opening leads =
    let same : opening.0 ≡ file = one_file name opening.0 file s opening.1 leads.there in
    opening.2 ∙ ap (λ f. if_plain (s.fixed.is_plain f) f) same ∙ ap (λ b. if_plain b file) leads.is_plain

plain_at : (handle : Handle) (name : List ℕ) (file : ℕ) (s : FolderState) (b : Bool) → s.fixed.is_plain file ≡ b →
    file_of s (target s name) ≡ Some file →
    handle.file ≡ if_plain (s.fixed.is_plain file) file → (handle.file ≡ None) ⊎ LeadsToFile name file s
plain_at handle name file s true is there opening = inr (record { there = there; is_plain = is })
plain_at handle name file s false is there opening = inl (opening ∙ ap (λ b. if_plain b file) is)

-- what is no plain file is not taken, and stale only where a plain one was loaded
no_plain : (handle : Handle) (name : List ℕ) (s : FolderState) → IsOpenAt handle name s → handle.file ≡ None →
    (file : ℕ) → LeadsToFile name file s → ⊥
no_plain handle name s opening none file leads = let both : None ≡ Some file = sym none
    ∙ open_plain handle name file s opening leads in absurd (cc)

not_refused : (b : Bool) (done : Unit {0}) → b ≡ true → IsRefusedIf b (Ok done) → ⊥
not_refused true done is answer = answer
not_refused false done is answer = absurd (cc)

special_current : (handle : Handle) (loaded : Option Found) (name : List ℕ) (done : Unit {0}) (s : FolderState) →
    IsOpenAt handle name s →
    handle.file ≡ None → IsNoPlain loaded (Ok done) → IsStale loaded name s → ⊥
special_current handle None name done s opening none answer stale = stale
special_current handle (Some loaded) name done s opening none answer (inl nothing) =
    let both : None ≡ Some opening.0 = sym nothing ∙ opening.1 in absurd (cc)
special_current handle (Some loaded) name done s opening none answer (inr (inl x)) =
    no_plain handle name s opening none x.0 x.1
special_current handle (Some loaded) name done s opening none answer (inr (inr x)) =
    not_refused loaded.is_file done x.0 answer

special_claimed : (handle : Handle) (loaded : Option Found) (name : List ℕ) (done : Unit {0}) (held : Option Handle)
    (s : FolderState) →
    IsOpenAt handle name s → handle.file ≡ None → IsNoPlain loaded (Ok done) → IsClaimed loaded name held s
special_claimed handle loaded name done held s opening none answer = record {
  is_free = λ taken. no_plain handle name s opening none taken.0 taken.1;
  is_current = special_current handle loaded name done s opening none answer;
  is_held = λ file leads. absurd (no_plain handle name s opening none file leads);
}

pub special_held : (handle : Handle) (found : Found) (loaded : Option Found) (name : List ℕ)
    (result : Result (Unit {0}) Error) (n : Answer)
    (a b : Option History) → found.is_file ≡ false → IsNoPlain loaded result →
    Turns (FindsOpen handle (Ok found)) n a b →
    Holds handle handle loaded name result a b
special_held handle found loaded name (Ok done) n a b is answer turn =
    learns_weaker (Tells handle found) (λ s. IsOpenAt handle name s → IsClaimed loaded name (Some handle) s) a b
    (finds_learns handle found n a b turn)
    (λ s tells opening. special_claimed handle loaded name done (Some handle) s opening (tells.no_file is) answer)
special_held handle found loaded name (Err e) n a b is answer turn = finds_rests handle (Ok found) n a b turn

none_plain : (b : Bool) (file : ℕ) → if_plain b file ≡ None → b ≡ false
none_plain true file is = absurd (cc)
none_plain false file is = refl

refused_if : (b : Bool) (e : Error) → IsRefusedIf b (Err e) → (b ≡ true) × (error_kind e ≡ kind.Other)
refused_if true e answer = (refl, answer)
refused_if false e answer = absurd (cc)

pub special_cause : (handle : Handle) (found : Found) (loaded : Option Found) (name : List ℕ)
    (result : Result (Unit {0}) Error) (n : Answer)
    (a b : Option History) → found.is_file ≡ false → IsNoPlain loaded result →
    Turns (FindsOpen handle (Ok found)) n a b →
    HasClaimCause (λ s. IsOpenAt handle name s → IsStale loaded name s) result a b
special_cause handle found loaded name (Ok done) n a b is answer turn =
    (turn_later (FindsOpen handle (Ok found)) n a b turn, tt)
special_cause handle found None name (Err e) n a b is answer turn = absurd (cc)
special_cause handle found (Some loaded) name (Err e) n a b is answer turn =
    let why = refused_if loaded.is_file e answer in (
      turn_later (FindsOpen handle (Ok found)) n a b turn,
      inr (
        why.1,
        learns_weaker (Tells handle found) (λ s. IsOpenAt handle name s → IsStale (Some loaded) name s) a b
            (finds_learns handle found n a b turn)
            (λ s tells opening. inr
            (inr (
              why.0,
              (
                opening.0,
                opening.1,
                none_plain (s.fixed.is_plain opening.0) opening.0 (sym opening.2
                    ∙ tells.no_file is),
              ),
            ))),
      ),
    )

-- a plain file that was locked and compared
found_plain : (handle : Handle) (found : Found) (name : List ℕ) (s : FolderState) → found.is_file ≡ true →
    Tells handle found s →
    (opening : IsOpenAt handle name s) → LeadsToFile name opening.0 s
found_plain handle found name s is tells opening =
    elim (plain_at handle name opening.0 s (s.fixed.is_plain opening.0) refl opening.1 opening.2) [
      | inl none ↦ let both : false ≡ true = sym (tells.no_plain none) ∙ is in absurd (cc)
      | inr leads ↦ leads
    ]

locked_current : (before after : Handle) (found : Found) (loaded : Option Found) (name : List ℕ) (s : FolderState) →
    found.is_file ≡ true →
    Tells before found s → IsLocked before after s → (IsPlainAt after name s → IsStale loaded name s → ⊥) →
    IsOpenAt before name s →
    IsStale loaded name s → ⊥
locked_current before after found loaded name s is tells locked current opening =
    let leads = found_plain before found name s is tells opening in
    current (opening.0, leads, ap (λ h. h.file) locked.is ∙ open_plain before name opening.0 s opening leads)

locked_claimed : (before after : Handle) (found : Found) (loaded : Option Found) (name : List ℕ) (s : FolderState) →
    found.is_file ≡ true →
    Tells before found s → IsLocked before after s → (IsPlainAt after name s → IsStale loaded name s → ⊥) →
    IsOpenAt before name s →
    IsClaimed loaded name (Some after) s
locked_claimed before after found loaded name s is tells locked current opening = record {
  is_free = λ taken.
      let no : s.fixed.is_taken taken.0 ≡ false = locked.is_free taken.0
      (open_plain before name taken.0 s opening taken.1) in
      let both : false ≡ true = sym no ∙ taken.2 in absurd (cc);
  is_current = locked_current before after found loaded name s is tells locked current opening;
  is_held = λ file leads. (
    ap (λ h. h.file) locked.is ∙ open_plain before name file s opening leads,
    ap (λ h. h.is_held) locked.is,
  );
}

found_locked : (before after : Handle) (found : Found) (n : Answer) (a b c : Option History) →
    Turns (FindsOpen before (Ok found)) n a b →
    Learns (IsLocked before after) b c → Learns (λ s. Tells before found s × IsLocked before after s) a c
found_locked before after found n a b c turn locks =
    learns_then (Tells before found) (IsLocked before after) (λ s. Tells before found s × IsLocked before after s) a b c
    (finds_learns before found n a b turn) locks (λ s x y. (x, y))

pub plain_held : (before after : Handle) (found : Found) (loaded : Option Found) (name : List ℕ) (n : Answer)
    (a b c d : Option History) →
    found.is_file ≡ true → Turns (FindsOpen before (Ok found)) n a b → Learns (IsLocked before after) b c →
    Compares after loaded name (Ok true) c d →
    Holds before after loaded name (Ok tt) a d
plain_held before after found loaded name n a b c d is turn locks compares =
    learns_then (λ s. Tells before found s × IsLocked before after s) (λ s. IsPlainAt after name s →
    IsStale loaded name s → ⊥)
    (λ s. IsOpenAt before name s → IsClaimed loaded name (Some after) s) a c d
    (found_locked before after found n a b c turn locks) compares
    (λ s x y opening. locked_claimed before after found loaded name s is x.0 x.1 y opening)

pub plain_stale : (before after : Handle) (found : Found) (loaded : Option Found) (name : List ℕ) (n : Answer)
    (a b c d : Option History) →
    found.is_file ≡ true → Turns (FindsOpen before (Ok found)) n a b → Learns (IsLocked before after) b c →
    Compares after loaded name (Ok false) c d →
    Learns (λ s. IsOpenAt before name s → IsStale loaded name s) a d
plain_stale before after found loaded name n a b c d is turn locks compares =
    learns_then (λ s. Tells before found s × IsLocked before after s) (λ s. IsPlainAt after name s →
    IsStale loaded name s)
    (λ s. IsOpenAt before name s → IsStale loaded name s) a c d
    (found_locked before after found n a b c turn locks) compares
    (λ s x y opening.
    let leads = found_plain before found name s is x.0 opening in
    y (opening.0, leads, ap (λ h. h.file) x.1.is ∙ open_plain before name opening.0 s opening leads))

-- a file that was opened and held
pub opened_so : {X : Type 0} (handle : X → Handle) (name : List ℕ) (file : X) (s : FolderState) →
    Opens handle name (Ok file) s s → IsOpenAt (handle file) name s
opened_so handle name file s x = (x.1, x.2, ap (λ h. h.file) x.3)

pub claimed : {X : Type 0} (handle : X → Handle) (loaded : Option Found) (name : List ℕ) (opened file : X) (n : Answer)
    (a b c : Option History) →
    Turns (Opens handle name (Ok opened)) n a b → Holds (handle opened) (handle file) loaded name (Ok tt) b c →
    Claims handle loaded name (Ok (Some file)) a c
claimed handle loaded name opened file n a b c turn holds =
    learns_then (λ s. Opens handle name (Ok opened) s s) (λ s. IsOpenAt (handle opened) name s →
    IsClaimed loaded name (Some (handle file)) s)
    (IsClaimed loaded name (Some (handle file))) a b c (opens_learns handle name opened n a b turn) holds
    (λ s x y. y (opened_so handle name opened s x))

pub claim_failed : {X : Type 0} (handle : X → Handle) (loaded : Option Found) (name : List ℕ)
    (result : Result (Option X) Error) (a b : Option History) →
    IsErr result → Rests a b → Claims handle loaded name result a b
claim_failed handle loaded name (Ok x) a b err rests = absurd (cc)
claim_failed handle loaded name (Err e) a b err rests = rests

pub holds_rests : (before after : Handle) (loaded : Option Found) (name : List ℕ) (result : Result (Unit {0}) Error)
    (a b : Option History) →
    Holds before after loaded name result a b → Rests a b
holds_rests before after loaded name (Ok done) a b holds =
    learns_rests (λ s. IsOpenAt before name s → IsClaimed loaded name (Some after) s) a b holds
holds_rests before after loaded name (Err e) a b holds = holds

pub claims_rests : {X : Type 0} (handle : X → Handle) (loaded : Option Found) (name : List ℕ)
    (result : Result (Option X) Error) (a b : Option History) →
    Claims handle loaded name result a b → Rests a b
claims_rests handle loaded name (Ok held) a b x = learns_rests _ a b x
claims_rests handle loaded name (Err e) a b x = x

-- why claiming fails
pub cause_opened : {X : Type 0} (handle : X → Handle) (loaded : Option Found) (name : List ℕ) (opened : X)
    (e other : Error) (n : Answer)
    (a b c : Option History) → other ≡ e → IsLater a b → Turns (Opens handle name (Ok opened)) n a b →
    IsLater b c × IsClaimCause (λ s. IsOpenAt (handle opened) name s → IsStale loaded name s) e b c →
    IsLater a c × IsClaimCause (IsStale loaded name) other a c
cause_opened handle loaded name opened e other n a b c same later turn cause = (
  later_then a b c later cause.0,
  elim cause.1 [
    | inl failed ↦ inl (then_failed a b c later failed)
    | inr x ↦ inr (
      ap error_kind same ∙ x.0,
      learns_then (λ s. Opens handle name (Ok opened) s s)
          (λ s. IsOpenAt (handle opened) name s → IsStale loaded name s) (IsStale loaded name) a b c
          (opens_learns handle name opened n a b turn) x.1
          (λ s u v. v (opened_so handle name opened s u)),
    )
  ],
)

-- where there is nothing
none_claimed : (name : List ℕ) (s : FolderState) → file_of s (target s name) ≡ None → IsClaimed None name None s
none_claimed name s nothing = record {
  is_free = λ taken. let both : None ≡ Some taken.0 = sym nothing ∙ taken.1.there in absurd (cc);
  is_current = λ stale. stale;
  is_held = λ file leads. let both : None ≡ Some file = sym nothing ∙ leads.there in absurd (cc);
}

pub nothing_claimed : {X : Type 0} (handle : X → Handle) (loaded : Option Found) (name : List ℕ)
    (result : Result (Option X) Error)
    (a b : Option History) → Learns (λ s. file_of s (target s name) ≡ None) a b → IsNothing loaded result →
    Claims handle loaded name result a b
nothing_claimed handle None name (Ok (Some x)) a b known is = absurd (cc)
nothing_claimed handle None name (Ok None) a b known is =
    learns_weaker (λ s. file_of s (target s name) ≡ None) (IsClaimed None name None) a b known
    (λ s x. none_claimed name s x)
nothing_claimed handle None name (Err e) a b known is = absurd (cc)
nothing_claimed handle (Some loaded) name (Ok x) a b known is = absurd is
nothing_claimed handle (Some loaded) name (Err e) a b known is =
    learns_rests (λ s. file_of s (target s name) ≡ None) a b known

pub nothing_cause : {X : Type 0} (loaded : Option Found) (name : List ℕ) (result : Result (Option X) Error)
    (a b : Option History) → IsLater a b →
    Learns (λ s. file_of s (target s name) ≡ None) a b → IsNothing loaded result →
    HasClaimCause (IsStale loaded name) result a b
nothing_cause loaded name (Ok x) a b later known is = (later, tt)
nothing_cause None name (Err e) a b later known is = absurd (cc)
nothing_cause (Some loaded) name (Err e) a b later known is = (
  later,
  inr (
    is,
    learns_weaker (λ s. file_of s (target s name) ≡ None) (IsStale (Some loaded) name) a b known
        (λ s x. inl x),
  ),
)

pub free_known : (name : List ℕ) (a b : Option History) → Looks name (Ok None) a b →
    Learns (λ s. file_of s (target s name) ≡ None) a b
free_known name a b looks =
    learns_weaker (λ s. IsFree s name) (λ s. file_of s (target s name) ≡ None) a b looks
    (λ s free. ap (λ m. file_of s m) free.no_link ∙ free.nothing)

-- a claim after a look
pub claims_after : {X : Type 0} (handle : X → Handle) (loaded : Option Found) (name : List ℕ)
    (result : Result (Option X) Error) (a b c : Option History) →
    Rests a b → Claims handle loaded name result b c → Claims handle loaded name result a c
claims_after handle loaded name (Ok held) a b c rests claims =
    learns_then (λ s. Unit {0}) _ _ a b c (rests_known a b rests) claims (λ s x y. y)
claims_after handle loaded name (Err e) a b c rests claims = rests_then a b c rests claims

pub cause_after : {T : Type 0} (P : FolderState → Type 0) (result : Result T Error) (a b c : Option History) →
    IsLater a b → Rests a b →
    HasClaimCause P result b c → HasClaimCause P result a c
cause_after P (Ok x) a b c later rests cause = (later_then a b c later cause.0, tt)
cause_after P (Err e) a b c later rests cause = (
  later_then a b c later cause.0,
  elim cause.1 [
    | inl failed ↦ inl (then_failed a b c later failed)
    | inr x ↦ inr (x.0, learns_then (λ s. Unit {0}) P P a b c (rests_known a b rests) x.1 (λ s u v. v))
  ],
)

-- a save after a claim
pub claimed_first : {X : Type 0} (handle : X → Handle) (loaded : Option Found) (name : List ℕ) (held : Option X)
    (Q : Type 0) (a b : Option History) →
    Claims handle loaded name (Ok held) a b → WhereFirst (λ s. IsTaken name s ⊎ IsStale loaded name s) Q a
claimed_first handle loaded name held Q None b claims = tt
claimed_first handle loaded name held Q (Some h) None claims = absurd claims.run
claimed_first handle loaded name held Q (Some h) (Some k) claims =
    λ bad. let known = claims.run.4.1 in elim bad [
      | inl taken ↦ absurd (known.is_free taken)
      | inr stale ↦ absurd (known.is_current stale)
    ]

pub where_first : (P : FolderState → Type 0) (Q : Type 0) (a : Option History) → Q → WhereFirst P Q a
where_first P Q None q = tt
where_first P Q (Some h) q = λ x. q

pub held_cause : (taken : Type 0) (stale : FolderState → Type 0) (result : Result (Unit {0}) Error)
    (a b : Option History) → HasCause taken result a b →
    HasSaveCause taken stale result a b
held_cause taken stale (Ok done) a b cause = (cause.0, tt)
held_cause taken stale (Err e) a b cause = (cause.0, inl cause.1)

pub not_claimed_cause : (taken : Type 0) (stale : FolderState → Type 0) (e : Error) (a b : Option History) →
    IsLater a b × IsClaimCause stale e a b → HasSaveCause taken stale (Err e) a b
not_claimed_cause taken stale e a b cause = (cause.0, elim cause.1 [ inl failed ↦ inl (inl failed) | inr x ↦ inr x ])

pub taken_back : (P Q : FolderState → Type 0) (a b : Option History) → Learns P a b → AtNow Q b → AtNow Q a
taken_back P Q None b x at = tt
taken_back P Q (Some h) None x at = absurd x.run
taken_back P Q (Some h) (Some k) x at = rw x.run.4.0 at at

-- what a part that failed leaves
pub compares_failed : (handle : Handle) (loaded : Option Found) (name : List ℕ) (result : Result Bool Error)
    (a b : Option History) → IsErr result →
    Rests a b → Compares handle loaded name result a b
compares_failed handle loaded name (Ok b) a c err rests = absurd (cc)
compares_failed handle loaded name (Err e) a c err rests = rests

pub compares_rests : (handle : Handle) (loaded : Option Found) (name : List ℕ) (result : Result Bool Error)
    (a b : Option History) →
    Compares handle loaded name result a b → Rests a b
compares_rests handle loaded name (Ok true) a c x = learns_rests _ a c x
compares_rests handle loaded name (Ok false) a c x = learns_rests _ a c x
compares_rests handle loaded name (Err e) a c x = x

pub asks_rests : (before after : Handle) (result : Result (Unit {0}) Error) (a b : Option History) →
    AsksLock before after result a b → Rests a b
asks_rests before after (Ok done) a b x = learns_rests (IsLocked before after) a b x
asks_rests before after (Err e) a b x = x

pub holds_failed : (before after : Handle) (loaded : Option Found) (name : List ℕ) (result : Result (Unit {0}) Error)
    (a b : Option History) →
    IsErr result → Rests a b → Holds before after loaded name result a b
holds_failed before after loaded name (Ok done) a b err rests = absurd (cc)
holds_failed before after loaded name (Err e) a b err rests = rests

pub cause_held : {X : Type 0} (handle : X → Handle) (loaded : Option Found) (name : List ℕ) (opened : X)
    (r : Result (Unit {0}) Error)
    (result : Result (Option X) Error) (e : Error) (n : Answer) (a b c : Option History) → r ≡ Err e →
    IsErrAnd result (λ error. error ≡ e) →
    IsLater a b → Turns (Opens handle name (Ok opened)) n a b →
    HasClaimCause (λ s. IsOpenAt (handle opened) name s → IsStale loaded name s) r b c →
    HasClaimCause (IsStale loaded name) result a c
cause_held handle loaded name opened r (Ok x) e n a b c is passed later turn cause = absurd passed
cause_held handle loaded name opened (Ok done) (Err other) e n a b c is passed later turn cause = absurd (cc)
cause_held handle loaded name opened (Err first) (Err other) e n a b c is passed later turn cause =
    let same : other ≡ first = cc in cause_opened handle loaded name opened first other n a b c same later turn cause

pub none_known : {X : Type 0} (handle : X → Handle) (name : List ℕ) (e : Error) (n : Answer) (a b : Option History) →
    error_kind e ≡ kind.NotFound →
    Turns (Opens handle name (Err e)) n a b → Learns (λ s. file_of s (target s name) ≡ None) a b
none_known handle name e n a b absent turn =
    learns (Opens handle name (Err e)) (λ s. file_of s (target s name) ≡ None) n a b turn (λ s t x. (x.0, x.1 absent))

pub looks_rests : (name : List ℕ) (r : Result (Option Found) Error) (a b : Option History) →
    Looks name r a b → Rests a b
looks_rests name r a b looks = learns_rests (IsSeen name r) a b looks
