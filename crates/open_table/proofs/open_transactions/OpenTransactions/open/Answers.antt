use Rattle.open_table.proofs.Common.{◌≡◌, ◌<◌, ◌++◌, ◌∷◌, [], Some, All, length, refl, sym, ap, ap₂, ◌∙◌, subst, arith, Plain, with_items, with_owner}
use Rattle.open_table.specs.PendingWrites.{HasRoom}
use Rattle.open_table.proofs.OfTransactions.OpenChanges.{IsTakenIn, refilled, list_empty, list_left, pages_low, kept_after_transaction, table_after_transaction}
use Rattle.open_table.proofs.OfTransactions.OpenPages.{pages_of_transactions}
use Rattle.open_table.proofs.OfTransactions.Owners.{length-with_owner}
use Rattle.open_table.proofs.open_transactions.OpenTransactions.open.Goals as goal

pub unwrap-pages-requires : goal.unwrap-pages-requires
unwrap-pages-requires g c =
    let free = rw (← c.self.view_is) at c.requires.free in
    let count = pages_of_transactions c.self.inside.all.items in
    let some = list_left c.self.inside c.self.invariant (omega (arith, c.requires.some)) in
    c.pop.ensures.variant.1 (omega arith)

pub store_pages-requires : goal.store_pages-requires
store_pages-requires g c =
    let free = rw (← c.self.view_is) at c.requires.free in
    let count = pages_of_transactions c.self.inside.all.items in
    let popped : c.self.inside.lists.items ≡ c.pop.new.self.items ++ c.unwrap-pages.result ∷ [] =
    rw c.unwrap-pages.ensures at c.pop.ensures.items in
    let list = list_empty c.self.inside c.pop.new.self.items c.unwrap-pages.result c.self.invariant popped in
    let empty = ap length list.0 in
    let wide = list.1 in
    record {
      room = omega (arith, c.self.invariant.rooms, free, count);
      capacity = omega (arith, empty, wide, free, count);
      sizes = subst (λ k. All (HasRoom k) c.self.inside.rooms.items) (sym (rw (← c.self.view_is) at c.requires.pages))
          c.self.invariant.sizes;
      range = c.requires.range;
      unspent = c.requires.unspent;
    }

pub set_owner-requires : goal.set_owner-requires
set_owner-requires g c =
    let popped : c.self.inside.lists.items ≡ c.pop.new.self.items ++ c.unwrap-pages.result ∷ [] =
    rw c.unwrap-pages.ensures at c.pop.ensures.items in
    let low = subst (λ k. All (λ w. w.page < k) c.args.batch.now.entries)
    (sym (rw (← c.self.view_is) at c.requires.logical)) c.requires.range in
    rw (c.deref.ensures.value, c.deref_mut.ensures.value)
    (pages_low c.args.index.now c.unwrap-pages.result c.store_pages.new.pages c.self.inside.rooms
    c.store_pages.new.rooms c.args.batch.now c.store_pages.ensures.0
    (length c.self.inside.owners.items) c.store_pages.ensures.1
    (list_empty c.self.inside c.pop.new.self.items c.unwrap-pages.result c.self.invariant popped).0 low)

taken_in : (g : _) (c : goal.After-push_reserved g) → IsTakenIn c.args.index.now c.self.inside
    (record c.self.inside {
      all = c.push_reserved.new.self;
      owners = with_items c.self.inside.owners c.set_owner.new.owners;
      rooms = c.store_pages.new.rooms;
      lists = c.pop.new.self;
    })
    c.args.batch.now (record {
      tag = c.args.tag;
      done = 0;
      noted_count = 0;
      mark = Plain;
      pages = c.store_pages.new.pages;
    }) c.unwrap-pages.result c.store_pages.ensures.0
taken_in g c =
    let popped : c.self.inside.lists.items ≡ c.pop.new.self.items ++ c.unwrap-pages.result ∷ [] =
    rw c.unwrap-pages.ensures at c.pop.ensures.items in
    let low = subst (λ k. All (λ w. w.page < k) c.args.batch.now.entries)
    (sym (rw (← c.self.view_is) at c.requires.logical)) c.requires.range in
    let owners : c.set_owner.new.owners ≡ with_owner c.self.inside.owners.items (Some c.args.tag)
    c.store_pages.new.pages.items =
    c.set_owner.ensures ∙ ap₂ (λ os ps. with_owner os (Some c.args.tag) ps) c.deref_mut.ensures.value
    c.deref.ensures.value in
    record {
      page_bytes = refl;
      pending = refl;
      size = rw (← c.self.view_is) at c.requires.pages;
      some = c.requires.some;
      exist = low;
      apart = rw (← c.self.view_is) at c.requires.apart;
      all = c.push_reserved.ensures.items;
      capacity = (let wide = c.push_reserved.ensures.capacity in omega (arith, wide));
      owners = refilled c.self.inside.owners c.set_owner.new.owners
          (ap length owners ∙ length-with_owner c.self.inside.owners.items (Some c.args.tag)
          c.store_pages.new.pages.items) ∙ owners;
      holds = c.store_pages.ensures.1;
      lists = popped;
      lists_capacity = c.pop.ensures.capacity;
    }

pub invariant_of-self : goal.invariant_of-self
invariant_of-self g c = kept_after_transaction c.args.index.now c.self.inside _ c.args.batch.now _ c.unwrap-pages.result
    c.store_pages.ensures.0 c.self.invariant
    (taken_in g c)

pub returns : goal.returns
returns g c =
    rw (← c.self.view_is)
    (table_after_transaction c.args.index.now c.self.inside _ c.args.batch.now _ c.unwrap-pages.result
    c.store_pages.ensures.0 c.self.invariant
    (taken_in g c) refl refl refl)
