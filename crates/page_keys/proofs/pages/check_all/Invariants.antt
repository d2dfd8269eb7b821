use Rattle.page_keys.proofs.Common.{◌<◌, ℕ, false, page_at, IsBucket, encodes, OnlyReads}
use Rattle.page_keys.proofs.pages.check_all.Given as goal

abbrev pub invariant-loop-page : goal.invariant-loop-page
invariant-loop-page g l = record {
  reads : OnlyReads g.F.Flash.state l.initial.device l.device false;
  buckets : (page : ℕ) → page < l.page →
      let s = l.initial.device in
      IsBucket s.config.page_bytes s.config.logical page
      (encodes s.config.page_bytes (page_at s.machine.pages page));
}
