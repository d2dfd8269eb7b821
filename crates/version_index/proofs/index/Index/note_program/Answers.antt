mod KeptPrograms
use Rattle.version_index.proofs.Common.{◌≡◌, ◌<◌, length, set, Some, ap, subst, sym, ◌∙◌, arith, length-set, shape_of, slots_of, TablesState, IsTablesState, LinksExist, OnlyDerives, note_at, noted_by, AreIndexed}
use Rattle.slot_tables.specs.declared.slots.SlotUse.TheVariants as slot
use Rattle.judged_records.specs.declared.note.Note.TheVariants as note
use Rattle.judged_records.specs.IndexState.{IsNextRecord, programmed}
use Rattle.judged_records.proofs.OfChanges.NotedChanges.{next_spelled}
use Rattle.version_index.specs.Committing.{CommitsIfComplete}
use Rattle.version_index.specs.Written.{pages_written}
use Rattle.version_index.proofs.index.Index.note_program.Answers.KeptPrograms.{its_free, its_newest, with_links, whole_is, decided_indexed, programmed_written, few_pages}
use Rattle.version_index.proofs.index.Index.note_program.Goals as goal

pub add-number-requires-clause-free : goal.add-number-requires-clause-free
add-number-requires-clause-free g c =
    let d = c.self.inside in
    let exists = subst (λ n. c.args.at.0 < slots_of (shape_of n.config)) (sym c.self.view_is) c.requires.exists in
    let was = subst (λ n. note_at n.notes c.args.at.0 ≡ note.Blank) (sym c.self.view_is) c.requires.blank in
    let next = subst (λ n. IsNextRecord n c.args.rec) (sym c.self.view_is) c.requires.asked in
    its_free _ d.config d.mentions.items d.tables c.self.invariant.indexed c.shape.ensures.kept c.args.at.0 c.args.rec
    exists was next

pub add-number-requires-clause-newest : goal.add-number-requires-clause-newest
add-number-requires-clause-newest g c =
    let d = c.self.inside in
    let exists = subst (λ n. c.args.at.0 < slots_of (shape_of n.config)) (sym c.self.view_is) c.requires.exists in
    let was = subst (λ n. note_at n.notes c.args.at.0 ≡ note.Blank) (sym c.self.view_is) c.requires.blank in
    let next = subst (λ n. IsNextRecord n c.args.rec) (sym c.self.view_is) c.requires.asked in
    its_newest _ d.config d.mentions.items d.tables c.self.invariant.indexed c.shape.ensures.kept c.args.at.0 c.args.rec
    exists was next

pub set_waits-requires-clause-page : goal.set_waits-requires-clause-page
set_waits-requires-clause-page g c =
    let d = c.self.inside in
    let k : TablesState = d.tables in
    let rec = c.args.rec in
    let next = subst (λ n. IsNextRecord n rec) (sym c.self.view_is) c.requires.asked in
    let spelled = next_spelled (noted_by d.config d.mentions.items k) rec next in
    let own = spelled.page in
    let link = spelled.next_page in
    let long = ap (λ (t : TablesState). length t.pages) (c.set_slot.ensures ∙ ap (λ (t : TablesState). record t {
      slots =
          set t.slots c.args.at.0 (slot.Holds c.add-number.result);
    }) c.add-number.ensures.added)
    ∙ length-set k.pages rec.page _ ∙ c.self.invariant.indexed.pages in
    omega arith

pub raise-requires-clause-next : goal.raise-requires-clause-next
raise-requires-clause-next g c =
    let d = c.self.inside in
    let k : TablesState = d.tables in
    let rec = c.args.rec in
    let next = subst (λ n. IsNextRecord n rec) (sym c.self.view_is) c.requires.asked in
    let spelled = next_spelled (noted_by d.config d.mentions.items k) rec next in
    let own = spelled.page in
    let link = spelled.next_page in
    let mentions = c.self.invariant.indexed.noted.mentions in
    omega arith

pub commit_if_complete-requires-clause-links : goal.commit_if_complete-requires-clause-links
commit_if_complete-requires-clause-links g c =
    let d = c.self.inside in
    let k : TablesState = d.tables in
    let rec = c.args.rec in
    let at = c.args.at.0 in
    let x = c.add-number.result in
    let exists = subst (λ n. at < slots_of (shape_of n.config)) (sym c.self.view_is) c.requires.exists in
    let was = subst (λ n. note_at n.notes at ≡ note.Blank) (sym c.self.view_is) c.requires.blank in
    let next = subst (λ n. IsNextRecord n rec) (sym c.self.view_is) c.requires.asked in
    let sizes = c.shape.ensures.kept in
    let is = c.set_waits.ensures
    ∙ ap (λ (t : TablesState). record t { waits = set t.waits x (Some rec.next.page) })
    (c.set_slot.ensures ∙ ap (λ (t : TablesState). record t { slots = set t.slots c.args.at.0 (slot.Holds x) })
    c.add-number.ensures.added) in
    subst LinksExist (sym is)
    (with_links _ d.config d.mentions.items k c.self.invariant.indexed sizes at rec exists was next x c.add-number.ensures.free
    c.add-number.ensures.within
    g.met.R.CommitRule.partial_write g.met.R.CommitRule.completing_write)

pub commit_if_complete-requires-clause-few : goal.commit_if_complete-requires-clause-few
commit_if_complete-requires-clause-few g c =
    let d = c.self.inside in
    let k : TablesState = d.tables in
    let is = c.set_waits.ensures
    ∙ ap (λ (t : TablesState). record t { waits = set t.waits c.add-number.result (Some c.args.rec.next.page) })
    (c.set_slot.ensures ∙ ap (λ (t : TablesState). record t {
      slots = set t.slots c.args.at.0
          (slot.Holds c.add-number.result);
    }) c.add-number.ensures.added) in
    let long = ap (λ (t : TablesState). length t.pages) is ∙ length-set k.pages c.args.rec.page _
    ∙ c.self.invariant.indexed.pages in
    let bounds = c.self.invariant.indexed.noted.bounds in
    let few = few_pages d.config bounds in
    omega arith

pub commit_if_complete-requires-clause-written : goal.commit_if_complete-requires-clause-written
commit_if_complete-requires-clause-written g c =
    let d = c.self.inside in
    let k : TablesState = d.tables in
    let rec = c.args.rec in
    let at = c.args.at.0 in
    let x = c.add-number.result in
    let exists = subst (λ n. at < slots_of (shape_of n.config)) (sym c.self.view_is) c.requires.exists in
    let was = subst (λ n. note_at n.notes at ≡ note.Blank) (sym c.self.view_is) c.requires.blank in
    let next = subst (λ n. IsNextRecord n rec) (sym c.self.view_is) c.requires.asked in
    let is = c.set_waits.ensures
    ∙ ap (λ (t : TablesState). record t { waits = set t.waits x (Some rec.next.page) })
    (c.set_slot.ensures ∙ ap (λ (t : TablesState). record t { slots = set t.slots at (slot.Holds x) })
    c.add-number.ensures.added) in
    c.self.invariant.written
    ∙ sym (programmed_written _ d.config d.mentions.items k c.self.invariant.indexed c.shape.ensures.kept at rec exists was
    next x c.add-number.ensures.free c.add-number.ensures.within)
    ∙ sym (ap pages_written is)

pub commit_if_complete-requires-clause-page : goal.commit_if_complete-requires-clause-page
commit_if_complete-requires-clause-page g c =
    let d = c.self.inside in
    let k : TablesState = d.tables in
    let rec = c.args.rec in
    let next = subst (λ n. IsNextRecord n rec) (sym c.self.view_is) c.requires.asked in
    let spelled = next_spelled (noted_by d.config d.mentions.items k) rec next in
    let own = spelled.page in
    let link = spelled.next_page in
    let is = c.set_waits.ensures
    ∙ ap (λ (t : TablesState). record t { waits = set t.waits c.add-number.result (Some rec.next.page) })
    (c.set_slot.ensures ∙ ap (λ (t : TablesState). record t {
      slots = set t.slots c.args.at.0
          (slot.Holds c.add-number.result);
    }) c.add-number.ensures.added) in
    let long = ap (λ (t : TablesState). length t.pages) is ∙ length-set k.pages rec.page _ ∙ c.self.invariant.indexed.pages in
    omega arith

pub commit_if_complete-requires-clause-next : goal.commit_if_complete-requires-clause-next
commit_if_complete-requires-clause-next g c =
    let d = c.self.inside in
    let k : TablesState = d.tables in
    let rec = c.args.rec in
    let next = subst (λ n. IsNextRecord n rec) (sym c.self.view_is) c.requires.asked in
    let spelled = next_spelled (noted_by d.config d.mentions.items k) rec next in
    let own = spelled.page in
    let link = spelled.next_page in
    let is = c.set_waits.ensures
    ∙ ap (λ (t : TablesState). record t { waits = set t.waits c.add-number.result (Some rec.next.page) })
    (c.set_slot.ensures ∙ ap (λ (t : TablesState). record t {
      slots = set t.slots c.args.at.0
          (slot.Holds c.add-number.result);
    }) c.add-number.ensures.added) in
    let long = ap (λ (t : TablesState). length t.pages) is ∙ length-set k.pages rec.page _ ∙ c.self.invariant.indexed.pages in
    omega arith

pub invariant_of-self : goal.invariant_of-self
invariant_of-self g c =
    let d = c.self.inside in
    let k : TablesState = d.tables in
    let rec = c.args.rec in
    let at = c.args.at.0 in
    let x = c.add-number.result in
    let exists = subst (λ n. at < slots_of (shape_of n.config)) (sym c.self.view_is) c.requires.exists in
    let was = subst (λ n. note_at n.notes at ≡ note.Blank) (sym c.self.view_is) c.requires.blank in
    let next = subst (λ n. IsNextRecord n rec) (sym c.self.view_is) c.requires.asked in
    let sizes = c.shape.ensures.kept in
    let is = c.set_waits.ensures
    ∙ ap (λ (t : TablesState). record t { waits = set t.waits x (Some rec.next.page) })
    (c.set_slot.ensures ∙ ap (λ (t : TablesState). record t { slots = set t.slots at (slot.Holds x) })
    c.add-number.ensures.added) in
    record {
      indexed =
          subst (λ m. AreIndexed _ d.config m c.commit_if_complete.new.tables) (sym c.raise.ensures)
          (decided_indexed _ d.config d.mentions.items k c.self.invariant.indexed sizes at rec exists was next x
          c.add-number.ensures.free c.add-number.ensures.within
          g.met.R.CommitRule.partial_write g.met.R.CommitRule.completing_write
          (subst IsTablesState is c.commit_if_complete.ensures.kept) c.commit_if_complete.new.tables
          (subst (λ t. OnlyDerives t c.commit_if_complete.new.tables) is c.commit_if_complete.ensures.judges)
          (subst (λ t. CommitsIfComplete d.config.protocol t c.commit_if_complete.new.tables rec d.config.logical) is
          c.commit_if_complete.ensures.settled));
      written = c.commit_if_complete.ensures.written;
    }

pub returns : goal.returns
returns g c =
    let d = c.self.inside in
    let k : TablesState = d.tables in
    let rec = c.args.rec in
    let at = c.args.at.0 in
    let x = c.add-number.result in
    let exists = subst (λ n. at < slots_of (shape_of n.config)) (sym c.self.view_is) c.requires.exists in
    let was = subst (λ n. note_at n.notes at ≡ note.Blank) (sym c.self.view_is) c.requires.blank in
    let next = subst (λ n. IsNextRecord n rec) (sym c.self.view_is) c.requires.asked in
    let sizes = c.shape.ensures.kept in
    let is = c.set_waits.ensures
    ∙ ap (λ (t : TablesState). record t { waits = set t.waits x (Some rec.next.page) })
    (c.set_slot.ensures ∙ ap (λ (t : TablesState). record t { slots = set t.slots c.args.at.0 (slot.Holds x) })
    c.add-number.ensures.added) in
    ap (λ m. noted_by d.config m c.commit_if_complete.new.tables) c.raise.ensures
    ∙ whole_is _ d.config d.mentions.items k c.self.invariant.indexed sizes at rec exists was next x c.add-number.ensures.free
    c.add-number.ensures.within
    g.met.R.CommitRule.partial_write g.met.R.CommitRule.completing_write c.commit_if_complete.new.tables
    (subst (λ t. OnlyDerives t c.commit_if_complete.new.tables) is c.commit_if_complete.ensures.judges)
    ∙ ap (λ n. programmed n at rec) c.self.view_is
