-- A record that a transaction asks for is a write also where other records were lost.
use Rattle.record_list.proofs.Common.{◌≡◌, ℕ, ◌<◌, ◌≤◌, Bool, false, ◌&&◌, List, Contains, refl, ap, ◌∙◌, All-contains, all_from, from_filter, Link, Rec, Protocol, Scc, Bpcc, Found, name_of, must_go, PagesExist, Pages, left, LossLaw, LossKeeps}
use Rattle.std.proofs.Common.{nat_lt}
use Rattle.tx_types.specs.Limits.{max_version}
use Rattle.record_list.specs.Records.{mentions_below}
use Rattle.record_list.specs.Changes.{NothingMustGo}
use Rattle.record_list.specs.Losses.{WriteAfterLossLaw}
use Rattle.record_list.proofs.OfLosses.LossAmong.{among_of, among_absent}
use Rattle.record_list.proofs.OfLosses.LossCurrent.{left_scanned}
use Rattle.record_list.proofs.OfChanges.Keeping.{asked_same}
use Rattle.record_list.proofs.OfChanges.OneMore.{inserted_filter}

-- each record that is left was there
from_left : (keep : ℕ → Bool) (l : List Found) (f : Found) → Contains (left keep l) f → Contains l f
from_left keep l f i = (from_filter (λ g. keep g.slot.0) f l i).0

-- of what is left nothing must go that need not go before
nothing_goes : (p : Protocol) (l : List Found) (n : ℕ) (r : Rec) (keep : ℕ → Bool) → LossKeeps p l (left keep l) n →
    NothingMustGo p l n r →
    NothingMustGo p (left keep l) n r
nothing_goes Bpcc l n r keep k none = all_from (λ f. must_go Bpcc (left keep l) n r.page r.version f.rec ≡ false)
    (left keep l) (λ f i. refl)
nothing_goes Scc l n r keep k none = all_from (λ f. must_go Scc (left keep l) n r.page r.version f.rec ≡ false)
    (left keep l) (λ f i.
    ap (λ v. nat_lt v f.rec.version && mentions_below r.page r.version f.rec)
    (k.same_current f.rec.page (All-contains (PagesExist n) (left keep l) f (k.sound Pages) i).0)
    ∙ All-contains (λ g. must_go Scc l n r.page r.version g.rec ≡ false) l f none (from_left keep l f i))

pub write_after_loss : (p : Protocol) → LossLaw p → WriteAfterLossLaw p
write_after_loss p law l m n names f keep sound write counted stays =
    let k : LossKeeps p l (left keep l) n = law l n keep sound write.scanned counted in
    record {
      scanned = left_scanned keep l write.scanned;
      scanned' = left_scanned keep m write.scanned';
      in_progress = k.in_progress names write.in_progress;
      added = inserted_filter (λ g. keep g.slot.0) l m f write.added stays;
      named = write.named;
      fresh = among_absent (left keep l) l (among_of (left keep l) l (from_left keep l)) (name_of f.rec) write.fresh;
      asked = asked_same p l (left keep l) n names
          (λ a i. k.same_current a.page (All-contains (λ (x : Link). (x.page < n) × (1 ≤ x.version)
          × (x.version ≤ max_version)) names a
          write.in_progress.begun.transaction.in_range i).0) f.rec write.asked;
      clear = nothing_goes p l n f.rec keep k write.clear;
    }
