-- Simple Cyclic Commit: what a write keeps that completes its cycle.
use Rattle.record_list.proofs.Common.{◌≡◌, ◌≢◌, ◌<◌, true, Contains, false≢true, All-contains, all_from, Link, Scc, is_present, cur, CompletingWriteLaw}
use Rattle.record_list.proofs.OfFacts.SoundNames.{sound_map, sound_list}
use Rattle.record_list.proofs.OfChanges.OneMore.{next_after}
use Rattle.record_list.proofs.OfChanges.Keeping.{step_of, back_of_step, page_apart, others_on}
use Rattle.record_list.proofs.OfChanges.Completing.{completed, was_lower, elsewhere, completing_map}
use Rattle.record_list.proofs.OfCycles.SccPartial.{scc_old_links}

-- the law of a write that completes its cycle
pub scc_completing_write : CompletingWriteLaw Scc
scc_completing_write l l' logical names f sound w every =
    let s = step_of Scc l l' logical names f w in
    let m = sound_map Scc l logical sound w.scanned in
    let old = scc_old_links l l' logical names f.rec s m w.clear in
    let all : (a : Link) → Contains names a → is_present l' a ≡ true = λ a i. All-contains (λ n. is_present l' n ≡ true)
    names a every i in
    record {
      sound = sound_list Scc l' logical (completing_map Scc l l' logical names f s m old all w.added
          (back_of_step Scc l l' logical names f w f.rec.next (next_after l l' logical names f.rec s)) tt tt);
      committed = all_from (λ n. cur Scc l' logical n.page ≡ n.version) names
          (completed Scc l l' logical names f s m old all);
      elsewhere = λ page below out. elsewhere Scc l l' logical names f s m old all page
          (λ a i. All-contains (λ n. n.page ≢ page) names a out i);
      rises = all_from (λ n. cur Scc l logical n.page < n.version) names
          (was_lower Scc l l' logical names f s m old all);
      held = λ r is. absurd (false≢true is);
      responsible = tt;
      others = λ others share h. others_on Scc l l' logical names f w others share
          (λ b j. elsewhere Scc l l' logical names f s m old all b.page
          (λ a i e. page_apart Scc l l' logical names f w others share a b i j e)) h;
    }
