use Rattle.page_keys.proofs.Common.{◌<◌, ◌≡◌, ℕ, Bool, false, inl, inr, ap, subst, ◌∙◌, arith, Result, Ok, cases_lt, Config, IsBucket, encodes, page_at, sym, OnlyReads, true}
use Rattle.std.proofs.Common.{rules}
use Rattle.std.specs.Prelude.{Err, IfErr}
use Rattle.tx_types.specs.declared.memory.Memory.{Memory}
use Rattle.page_keys.specs.declared.answers.KeyError.{KeyError}
use Rattle.page_keys.proofs.OfStore.StoreReads.{reads_then, bucket_read, bucket_back}
use Rattle.page_keys.specs.Stores.{is_opening_fault}
use Rattle.page_keys.proofs.pages.check_all.Goals as goal

okay : (b d : Bool) → b ≡ d → let left : Result Bool Memory = Ok b in left ≡ Ok d
okay b d same = ap (λ (x : Bool). let r : Result Bool Memory = Ok x in r) same

-- what holds by whether an error is a fault
by_fault : {X : Type 0} (r : Result X KeyError) (P : Bool → Type 0) (b : Bool) → IfErr r (λ e. is_opening_fault e ≡ b) →
    P b → IfErr r (λ e. P (is_opening_fault e))
by_fault (Ok x) P b is h = tt
by_fault (Err e) P b is h = subst P (sym is) h

pub returns-in_err-read_page-clause-stopped : goal.returns-in_err-read_page-clause-stopped
returns-in_err-read_page-clause-stopped g c =
    let s = c.args.device.now in
    by_fault c.from_residual.result (OnlyReads g.F.Flash.state s c.read_page.new.device) true (search rules)
    (reads_then g.F.Flash.state s c.loop-page.device c.read_page.new.device true c.loop-page.invariant.reads
    c.in_err-read_page.ensures.reads)

pub returns-in_err-read-clause-stopped : goal.returns-in_err-read-clause-stopped
returns-in_err-read-clause-stopped g c =
    let s = c.args.device.now in
    by_fault c.from_residual-in_err-read.result (OnlyReads g.F.Flash.state s c.read_page.new.device) false
    (search rules)
    (reads_then g.F.Flash.state s c.loop-page.device c.read_page.new.device false c.loop-page.invariant.reads
    c.in_ok-read_page.ensures.reads)

pub returns-then-not-branch-clause-stopped : goal.returns-then-not-branch-clause-stopped
returns-then-not-branch-clause-stopped g c =
    reads_then g.F.Flash.state c.args.device.now c.loop-page.device c.read_page.new.device false
    c.loop-page.invariant.reads c.in_ok-read_page.ensures.reads

pub returns-then-not-branch-clause-err : goal.returns-then-not-branch-clause-err
returns-then-not-branch-clause-err g c =
    let config = c.device_facts-logical.ensures.config in
    record {
      exists = subst (λ (x : Config). c.loop-page.page < x.logical) config c.loop-page-test.true;
      bad = λ bucket.
          c.in_ok-read.ensures.no (okay _ _ c.if-not-branch.true)
          (bucket_back c.args.device.now c.loop-page.device c.read_page.new.room
          c.device_facts-logical.result.logical c.loop-page.page c.loop-page.invariant.reads.stays
          c.in_ok-read_page.ensures.shown
          (c.read_page.auto.room ∙ c.loop-page.auto.room ∙ c.requires.room)
          (ap (λ (x : Config). x.logical) config) bucket);
      before = c.loop-page.invariant.buckets;
    }

pub loop-page-preserved : goal.loop-page-preserved
loop-page-preserved g c =
    let i = c.loop-page.invariant in
    let config = c.device_facts-logical.ensures.config in
    let s = c.args.device.now in
    let found = bucket_read s c.loop-page.device c.read_page.new.room
    c.device_facts-logical.result.logical c.loop-page.page i.reads.stays
    c.in_ok-read_page.ensures.shown
    (c.read_page.auto.room ∙ c.loop-page.auto.room ∙ c.requires.room)
    (ap (λ (x : Config). x.logical) config)
    (c.read.new.into.items, c.in_ok-read.ensures.yes (okay _ _ c.if-not-branch.false)) in
    record {
      reads = reads_then g.F.Flash.state s c.loop-page.device c.read_page.new.device false i.reads
          c.in_ok-read_page.ensures.reads;
      buckets = λ page below. elim (cases_lt page c.loop-page.page) [
        | inl earlier ↦ i.buckets page earlier
        | inr over ↦
            let same : c.loop-page.page ≡ page = omega arith in
            subst (λ (p : ℕ). IsBucket s.config.page_bytes s.config.logical p
            (encodes s.config.page_bytes (page_at s.machine.pages p))) same found
      ];
    }

pub returns-clause-ok : goal.returns-clause-ok
returns-clause-ok g c page exists =
    let most = ap (λ (x : Config). x.logical) c.device_facts-logical.ensures.config in
    c.loop-page.invariant.buckets page (omega (arith, most, exists, c.loop-page-test.false))
