use Rattle.tx_engine.proofs.Common.{◌≡◌, None, Ok, ◌++◌, ◌∷◌, [], refl, sym, ap, ◌∙◌, subst, map-append, IndexState, ArrayState, is_spent, OpenTransactionsState, TransactionState, entries_of, namings_of, begun, with_pins, DeviceState, limits_of, spent_page, StoreState, device_in}
use Rattle.open_table.specs.OpenTransactionsState.{CanOpen}
use Rattle.tx_engine.specs.DeviceCalls.{SubmitsDevice}
use Rattle.array_machine.proofs.Accepting.{accepted}
use Rattle.tx_engine.proofs.OfDevice.KeptDevices.{by_kept, kept_stands, kept_stored}
use Rattle.tx_engine.proofs.OfSubmit.Submitted.{device_then, machine_then}
use Rattle.tx_engine.proofs.OfSubmit.Submitting.{can_open, can_pin, last_open, some_each, version_left, submits, not_refused}
use Rattle.tx_engine.proofs.device.Device.submit.Goals as goal

pub spent_refusal-requires : goal.spent_refusal-requires
spent_refusal-requires g c =
    let n = c.self.inside.store.noted in
    let none = not_refused n.config c.self.inside.transactions.logical c.self.inside.transactions.pending
    (entries_of c.self.inside.transactions) c.args.tag
    c.args.batch.now.entries c.refusal.result
    c.self.invariant.logical c.self.invariant.pending c.refusal.ensures c.in_default.is in
    (accepted (limits_of n.config) (entries_of c.self.inside.transactions) c.args.tag c.args.batch.now.entries
    none).in_range

pub open-requires : goal.open-requires
open-requires g c =
    let n = c.self.inside.store.noted in
    let t = c.self.inside.transactions in
    let none = not_refused n.config t.logical t.pending (entries_of t) c.args.tag c.args.batch.now.entries
    c.refusal.result
    c.self.invariant.logical c.self.invariant.pending c.refusal.ensures c.in_default.is in
    let unspent : spent_page (is_spent n.mentions) c.args.batch.now.entries ≡ None = sym c.spent_refusal.ensures
    ∙ c.in_default-spent_refusal.is in
    subst (λ (m : IndexState). CanOpen t m c.args.batch.now) (sym c.index.ensures)
    (can_open n t c.args.tag c.args.batch.now c.self.invariant.page_bytes c.self.invariant.logical
    c.self.invariant.pending
    (rw (← c.self.view_is) at c.requires.pages)
    (some_each _ _ t.all (kept_stands g.F.Flash.state c.self.inside _ c.self.view_is c.requires.kept
    g.R.CommitRule.protocol c.self.invariant).each)
    (accepted (limits_of n.config) (entries_of t) c.args.tag c.args.batch.now.entries none)
    (version_left n.mentions c.args.batch.now.entries unspent))

pub pin_all-requires-clause-stored : goal.pin_all-requires-clause-stored
pin_all-requires-clause-stored g c =
    kept_stored g.F.Flash.state c.self.inside _ c.self.view_is c.requires.kept g.R.CommitRule.protocol c.self.invariant

pub pin_all-requires-clause-pages : goal.pin_all-requires-clause-pages
pin_all-requires-clause-pages g c =
    let n = c.self.inside.store.noted in
    let t = c.self.inside.transactions in
    let none = not_refused n.config t.logical t.pending (entries_of t) c.args.tag c.args.batch.now.entries
    c.refusal.result
    c.self.invariant.logical c.self.invariant.pending c.refusal.ensures c.in_default.is in
    let opens = c.open.ensures
    ∙ ap (λ (m : IndexState). record t { all = t.all ++ begun m c.args.tag c.args.batch.now.entries ∷ [] })
    c.index.ensures in
    can_pin n t c.open.new.self c.args.tag c.args.batch.now.entries c.count.result opens c.count.ensures.count
    (accepted (limits_of n.config) (entries_of t) c.args.tag c.args.batch.now.entries none).in_range

pub invariant_of-self : goal.invariant_of-self
invariant_of-self g c =
    let n = c.self.inside.store.noted in
    let t = c.self.inside.transactions in
    let first = not_refused n.config t.logical t.pending (entries_of t) c.args.tag c.args.batch.now.entries
    c.refusal.result
    c.self.invariant.logical c.self.invariant.pending c.refusal.ensures c.in_default.is in
    let second : spent_page (is_spent n.mentions) c.args.batch.now.entries ≡ None = sym c.spent_refusal.ensures
    ∙ c.in_default-spent_refusal.is in
    let opens = c.open.ensures
    ∙ ap (λ (m : IndexState). record t { all = t.all ++ begun m c.args.tag c.args.batch.now.entries ∷ [] })
    c.index.ensures in
    let pinned = c.pin_all.ensures.pinned
    ∙ ap (λ (o : TransactionState). record c.self.inside.store {
      noted = record n { pins = with_pins n.pins o.naming.names };
    }) (last_open n t c.open.new.self c.args.tag c.args.batch.now.entries c.count.result opens
    c.count.ensures.count) in
    device_then g.F.Flash.state g.R.CommitRule.protocol c.self.inside c.self.invariant
    (kept_stands g.F.Flash.state c.self.inside _ c.self.view_is c.requires.kept g.R.CommitRule.protocol
    c.self.invariant) c.args.tag c.args.batch.now.entries
    (accepted (limits_of n.config) (entries_of t) c.args.tag c.args.batch.now.entries first)
    (version_left n.mentions c.args.batch.now.entries second)
    c.pin_all.new.self c.pin_all.ensures.stored pinned c.open.new.self c.count.ensures.kept opens

pub returns : goal.returns
returns g c =
    let n = c.self.inside.store.noted in
    let t = c.self.inside.transactions in
    let first = not_refused n.config t.logical t.pending (entries_of t) c.args.tag c.args.batch.now.entries
    c.refusal.result
    c.self.invariant.logical c.self.invariant.pending c.refusal.ensures c.in_default.is in
    let second : spent_page (is_spent n.mentions) c.args.batch.now.entries ≡ None = sym c.spent_refusal.ensures
    ∙ c.in_default-spent_refusal.is in
    let opens = c.open.ensures
    ∙ ap (λ (m : IndexState). record t { all = t.all ++ begun m c.args.tag c.args.batch.now.entries ∷ [] })
    c.index.ensures in
    let pinned = c.pin_all.ensures.pinned
    ∙ ap (λ (o : TransactionState). record c.self.inside.store {
      noted = record n { pins = with_pins n.pins o.naming.names };
    }) (last_open n t c.open.new.self c.args.tag c.args.batch.now.entries c.count.result opens
    c.count.ensures.count) in
    let machine = machine_then g.F.Flash.state g.R.CommitRule.protocol c.self.inside c.self.invariant
    (kept_stands g.F.Flash.state c.self.inside _ c.self.view_is c.requires.kept g.R.CommitRule.protocol
    c.self.invariant) c.args.tag c.args.batch.now.entries
    (accepted (limits_of n.config) (entries_of t) c.args.tag c.args.batch.now.entries first)
    (version_left n.mentions c.args.batch.now.entries second)
    c.pin_all.new.self c.pin_all.ensures.stored pinned c.open.new.self
    c.count.ensures.kept opens in
    let new : ArrayState = (device_in g.F.Flash.state c.pin_all.new.self c.open.new.self).machine in
    let old : ArrayState = (device_in g.F.Flash.state c.self.inside.store t).machine in
    by_kept g.F.Flash.state c.self.inside _ c.self.view_is c.requires.kept c.pin_all.new.self c.open.new.self
    (λ (s t : DeviceState g.row.F.Denot). SubmitsDevice s t c.args.tag c.args.batch.now.entries (Ok tt)) (record {
      submits = submits (limits_of n.config) (is_spent n.mentions) old new c.args.tag c.args.batch.now.entries first
          second machine;
      named = ap (λ (x : OpenTransactionsState). namings_of x) opens
          ∙ map-append (λ (o : TransactionState). o.naming) t.all (begun n c.args.tag c.args.batch.now.entries ∷ []);
      keeps = record {
        flash = ap (λ (x : StoreState _). x.flash) pinned;
        config = ap (λ (x : StoreState _). x.noted.config) pinned;
        table = ap (λ (x : StoreState _). x.table) pinned;
        unsure = ap (λ (x : StoreState _). x.unsure) pinned;
        noted = ap (λ (x : StoreState _). x.noted) pinned
            ∙ ap (λ ps. record n { pins = ps }) (sym (ap (λ (x : StoreState _). x.noted.pins) pinned));
        kept = refl;
      };
    })
