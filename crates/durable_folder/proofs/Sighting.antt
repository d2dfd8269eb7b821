-- What a claim sees since a lock came.
use Rattle.durable_folder.proofs.Common.{◌≡◌, inl, inr, ℕ, Bool, false, List, [], ◌∷◌, Option, None, Some, Result, Ok, Err, refl, sym, ap, ◌∙◌, IsErr, Error, Found, Handle, Opens, FindsOpen, FolderState, History, Answer, Turns, Learns, Rests}
use Rattle.durable_folder.specs.declared.folder.Lock.{Lock}
use Rattle.durable_folder.specs.Calls.{is_elsewhere}
use Rattle.durable_folder.specs.Histories.{Held, Named, Seen, Sight}
use Rattle.durable_folder.specs.Locking.{IsLocked, IsNothing, IsOpenAt, LeadsToFile}
use Rattle.durable_folder.specs.Sights.{IsSeenSince, Sees, SeesBoth, SeesClaimed, SeesHeld, SeesLock}
use Rattle.durable_folder.proofs.Claiming.{open_plain, opened_so}

-- the lock
pub lock_seen : (handle : Handle) (r : Result Lock Error) (a b : Option History) → is_elsewhere r ≡ false →
    SeesLock handle r a b →
    Sees {T = Unit {0}} (λ done. Held handle.file) (Ok tt) a b
lock_seen handle r None b is sees = tt
lock_seen handle r (Some h) None is sees = tt
lock_seen handle r (Some h) (Some k) is sees = sees is

pub lock_unseen : (handle : Handle) (result : Result (Unit {0}) Error) (a b : Option History) → IsErr result →
    Sees (λ done. Held handle.file) result a b
lock_unseen handle result None b err = tt
lock_unseen handle result (Some h) None err = tt
lock_unseen handle (Ok done) (Some h) (Some k) err = absurd (cc)
lock_unseen handle (Err e) (Some h) (Some k) err = tt

-- the name and the open file
pub both_seen : {X : Type 0} (handle : X → Handle) (name : List ℕ) (again : X) (named found : Found) (opening : Handle)
    (is : Bool) (l m n : Answer)
    (a b c d : Option History) → Turns (Opens handle name (Ok again)) l a b →
    Sees (λ file. Named (handle file).file) (Ok again) a b →
    Turns (FindsOpen (handle again) (Ok named)) m b c →
    Sees {T = Found} (λ it. Seen (handle again).file) (Ok named) b c →
    Turns (FindsOpen opening (Ok found)) n c d → Sees {T = Found} (λ it. Seen opening.file) (Ok found) c d →
    SeesBoth opening name (Ok is) a d
both_seen handle name again named found opening is l m n None b c d x x_sees y y_sees z z_sees = tt
both_seen handle name again named found opening is l m n (Some g) None c d x x_sees y y_sees z z_sees = absurd x
both_seen handle name again named found opening is l m n (Some g) (Some h) None d x x_sees y y_sees z z_sees = absurd y
both_seen handle name again named found opening is l m n (Some g) (Some h) (Some i) None x x_sees y y_sees z z_sees =
    absurd z
both_seen handle name again named found opening is l m n (Some g) (Some h) (Some i) (Some k) x x_sees y
    y_sees z z_sees = (
      handle again,
      opened_so handle name again g.now (refl, x.0.1, x.0.2, x.0.3),
      z_sees ∙ ap (λ sights. Seen opening.file ∷ sights)
          (y_sees ∙ ap (λ sights. Seen (handle again).file ∷ sights) x_sees),
    )

pub both_unseen : (handle : Handle) (name : List ℕ) (result : Result Bool Error) (a b : Option History) → IsErr result →
    SeesBoth handle name result a b
both_unseen handle name result None b err = tt
both_unseen handle name result (Some h) None err = tt
both_unseen handle name (Ok is) (Some h) (Some k) err = absurd (cc)
both_unseen handle name (Err e) (Some h) (Some k) err = tt

-- an open file that is held
pub held_seen : (before after : Handle) (name : List ℕ) (is : Bool) (a b c d : Option History) → Rests a b →
    Learns (IsLocked before after) b c →
    Sees {T = Unit {0}} (λ done. Held before.file) (Ok tt) b c → Rests c d → SeesBoth after name (Ok is) c d →
    SeesHeld before name (Ok tt) a d
held_seen before after name is None b c d first locks held last both = tt
held_seen before after name is (Some g) None c d first locks held last both = absurd first.run
held_seen before after name is (Some g) (Some h) None d first locks held last both = absurd locks.run
held_seen before after name is (Some g) (Some h) (Some i) None first locks held last both = absurd last.run
held_seen before after name is (Some g) (Some h) (Some i) (Some k) first locks held last both = λ file opening leads.
    let same : i.now ≡ g.now = locks.run.4.0 ∙ first.run.4 in
    let again : IsOpenAt both.0 name g.now = rw same at both.1 in
    let here : before.file ≡ Some file = open_plain before name file g.now opening leads in
    let there : both.0.file ≡ Some file = open_plain both.0 name file g.now again leads in
    let kept : after.file ≡ Some file = ap (λ handle. handle.file) locks.run.4.1.is ∙ here in
    record {
      later = Seen (Some file) ∷ Seen (Some file) ∷ Named (Some file) ∷ [];
      earlier = h.sights;
      are = rw (kept, there, held, here) at both.2;
      named = inr (inr (inl refl));
      seen = inl refl;
    }

pub special_seen : (handle : Handle) (found : Found) (name : List ℕ) (result : Result (Unit {0}) Error) (n : Answer)
    (a b : Option History) →
    found.is_file ≡ false → Turns (FindsOpen handle (Ok found)) n a b → SeesHeld handle name result a b
special_seen handle found name result n None b is turn = tt
special_seen handle found name result n (Some h) None is turn = absurd turn
special_seen handle found name (Ok done) n (Some h) (Some k) is turn = λ file opening leads.
    let both : None ≡ Some file = sym (turn.0.1 is) ∙ open_plain handle name file h.now opening leads in absurd (cc)
special_seen handle found name (Err e) n (Some h) (Some k) is turn = tt

pub held_unseen : (handle : Handle) (name : List ℕ) (result : Result (Unit {0}) Error) (a b : Option History) →
    IsErr result →
    SeesHeld handle name result a b
held_unseen handle name result None b err = tt
held_unseen handle name result (Some h) None err = tt
held_unseen handle name (Ok done) (Some h) (Some k) err = absurd (cc)
held_unseen handle name (Err e) (Some h) (Some k) err = tt

-- a file that is claimed
pub claimed_seen : {X : Type 0} (handle : X → Handle) (name : List ℕ) (opened file : X) (n : Answer)
    (a b c : Option History) →
    Turns (Opens handle name (Ok opened)) n a b → SeesHeld (handle opened) name (Ok tt) b c →
    SeesClaimed name (Ok (Some file)) a c
claimed_seen handle name opened file n None b c turn sees = tt
claimed_seen handle name opened file n (Some h) b None turn sees = tt
claimed_seen handle name opened file n (Some h) None (Some l) turn sees = absurd turn
claimed_seen handle name opened file n (Some h) (Some k) (Some l) turn sees = λ it leads.
    let at : IsOpenAt (handle opened) name h.now → LeadsToFile name it h.now →
    IsSeenSince it l.sights = rw turn.0.0 at (sees it) in
    at (opened_so handle name opened h.now (refl, turn.0.1, turn.0.2, turn.0.3)) leads

pub claimed_unseen : {X : Type 0} (handle : X → Handle) (name : List ℕ) (result : Result (Option X) Error)
    (a b : Option History) → IsErr result → SeesClaimed name result a b
claimed_unseen handle name result None b err = tt
claimed_unseen handle name result (Some h) None err = tt
claimed_unseen handle name (Ok held) (Some h) (Some k) err = absurd (cc)
claimed_unseen handle name (Err e) (Some h) (Some k) err = tt

pub nothing_seen : {X : Type 0} (loaded : Option Found) (name : List ℕ) (result : Result (Option X) Error)
    (a b : Option History) →
    IsNothing loaded result → SeesClaimed name result a b
nothing_seen loaded name result None b is = tt
nothing_seen loaded name result (Some h) None is = tt
nothing_seen None name (Ok (Some x)) (Some h) (Some k) is = absurd (cc)
nothing_seen (Some found) name (Ok (Some x)) (Some h) (Some k) is = absurd is
nothing_seen loaded name (Ok None) (Some h) (Some k) is = tt
nothing_seen loaded name (Err e) (Some h) (Some k) is = tt

pub claimed_after : {X : Type 0} (name : List ℕ) (result : Result (Option X) Error) (a b c : Option History) →
    Rests a b →
    SeesClaimed name result b c → SeesClaimed name result a c
claimed_after name result None b c rests sees = tt
claimed_after name result (Some h) b None rests sees = tt
claimed_after name result (Some h) None (Some l) rests sees = absurd rests.run
claimed_after name result (Some h) (Some k) (Some l) rests sees = rw rests.run.4 at sees
