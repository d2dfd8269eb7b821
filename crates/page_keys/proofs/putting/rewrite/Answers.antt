mod Inserts
use Rattle.page_keys.proofs.Common.{ℕ, List, ◌++◌, length, flat_map, refl, ap, sym, subst, ◌∙◌, arith, Config, AllByRecursion, IsKeyChange, count_by, puts_value, entry_bytes, IsEntry, changed}
use Rattle.page_keys.proofs.OfBucket.BucketChanges.{merged_are, each_after, each_changed}
use Rattle.page_keys.proofs.putting.rewrite.Answers.Inserts.{puts_most}
use Rattle.page_keys.proofs.OfPut.EntriesLeft.{length_entries}
use Rattle.page_keys.proofs.OfStore.StoreReads.{reads_nothing, entries_read, holds_read, is_over_by, is_more, is_within}
use Rattle.page_keys.proofs.putting.rewrite.Goals as goal

pub entries_in-requires-clause-bucket : goal.entries_in-requires-clause-bucket
entries_in-requires-clause-bucket g c =
    let found = c.requires.keys.buckets c.args.page c.requires.exists in (
      found.0,
      holds_read c.args.device.now.config.page_bytes _ c.read_page.new.room found.0
          c.in_ok-read_page.ensures.shown (c.read_page.auto.room ∙ c.requires.room) found.1.holds,
    )

pub merge-requires : goal.merge-requires
merge-requires g c =
    (entries_read c.args.device.now c.args.page c.read_page.new.room c.entries_in.new.into.items
    c.requires.keys c.requires.exists c.in_ok-read_page.ensures.shown
    (c.read_page.auto.room ∙ c.requires.room) c.in_ok-entries_in.ensures).its.ascend

-- values that do not fit alone
pub returns-then-count_values-most-clause-refused :
    goal.returns-then-count_values-most-clause-refused
returns-then-count_values-most-clause-refused g c m cs same differ shows =
    let s = c.args.device.now in
    let least = puts_most s.config.logical c.args.page m cs differ in
    let count = c.count_values.ensures ∙ ap (count_by puts_value) (sym same) in
    let size = ap (λ (x : Config). x.page_bytes) c.device_facts-config.ensures.config in (
      refl,
      is_over_by _ _ _ _ size c.if-count_values-most.true
          (let most = least in omega (arith, most, count)),
    )

pub returns-then-len-most-clause-refused : goal.returns-then-len-most-clause-refused
returns-then-len-most-clause-refused g c m cs same differ shows =
    let s = c.args.device.now in
    let config = c.device_facts-config.ensures.config in
    let is = entries_read s c.args.page c.read_page.new.room c.entries_in.new.into.items
    c.requires.keys c.requires.exists c.in_ok-read_page.ensures.shown
    (c.read_page.auto.room ∙ c.requires.room) c.in_ok-entries_in.ensures in
    let made = c.in_ok-merge.ensures ∙ ap (changed c.entries_in.new.into.items) (sym same) in
    let merged = merged_are s.config m cs c.args.page _
    (shows c.args.page c.requires.exists) c.entries_in.new.into.items c.merge.new.entries.items is
    made in (
      refl,
      is_more c.device_facts-config.result.page_bytes s.config.page_bytes _ c.len.result
          (ap (λ (x : Config). x.page_bytes) config) c.if-len-most.true
          (c.len.ensures ∙ c.merge.new.entries.ok.0 ∙ ap length merged),
    )

pub returns-clause-bytes : goal.returns-clause-bytes
returns-clause-bytes g c m cs same shows =
    let s = c.args.device.now in
    let config = c.device_facts-config.ensures.config in
    let is = entries_read s c.args.page c.read_page.new.room c.entries_in.new.into.items
    c.requires.keys c.requires.exists c.in_ok-read_page.ensures.shown
    (c.read_page.auto.room ∙ c.requires.room) c.in_ok-entries_in.ensures in
    let made = c.in_ok-merge.ensures ∙ ap (changed c.entries_in.new.into.items) (sym same) in
    let here = shows c.args.page c.requires.exists in
    let merged = merged_are s.config m cs c.args.page _ here
    c.entries_in.new.into.items c.merge.new.entries.items is made in
    let few = is_within c.device_facts-config.result.page_bytes s.config.page_bytes _ c.len.result
    (ap (λ (x : Config). x.page_bytes) config) c.if-len-most.false
    (c.len.ensures ∙ c.merge.new.entries.ok.0 ∙ ap length merged) in
    let bytes = c.in_ok-write.ensures
    ∙ ap (λ (l : List ℕ). l ++ flat_map entry_bytes c.deref.result.now) c.clear-2.ensures.items
    ∙ ap (flat_map entry_bytes) (c.deref.ensures.value ∙ merged) in
    let each = each_after s.config m cs c.args.page _ here
    (subst (AllByRecursion IsKeyChange) (sym same) c.requires.valid) in
    let size = ap length bytes ∙ length_entries _ each in
    record {
      bytes_are = bytes;
      within = omega (arith, size, few.0);
      fits = few.1;
    }

pub returns-clause-within : goal.returns-clause-within
returns-clause-within g c =
    let s = c.args.device.now in
    let config = c.device_facts-config.ensures.config in
    let is = entries_read s c.args.page c.read_page.new.room c.entries_in.new.into.items
    c.requires.keys c.requires.exists c.in_ok-read_page.ensures.shown
    (c.read_page.auto.room ∙ c.requires.room) c.in_ok-entries_in.ensures in
    let each = subst (AllByRecursion IsEntry) (sym c.in_ok-merge.ensures)
    (each_changed c.entries_in.new.into.items _ c.requires.valid is.holds.each) in
    let few = is_within c.device_facts-config.result.page_bytes s.config.page_bytes _ c.len.result
    (ap (λ (x : Config). x.page_bytes) config) c.if-len-most.false
    (c.len.ensures ∙ c.merge.new.entries.ok.0) in
    let bytes = c.in_ok-write.ensures
    ∙ ap (λ (l : List ℕ). l ++ flat_map entry_bytes c.deref.result.now) c.clear-2.ensures.items
    ∙ ap (flat_map entry_bytes) c.deref.ensures.value in
    let size = ap length bytes ∙ length_entries _ each in
    omega (arith, size, few.0)

pub returns-then-count_values-most-clause-reads : goal.returns-then-count_values-most-clause-reads
returns-then-count_values-most-clause-reads g c = reads_nothing g.F.Flash.state c.args.device.now
