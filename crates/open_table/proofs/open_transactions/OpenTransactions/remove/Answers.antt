use Rattle.open_table.proofs.Common.{◌≡◌, None, length, refl, ap, ap₂, ◌∙◌, arith, with_items, with_owner}
use Rattle.open_table.proofs.OfTransactions.OpenChanges.{IsTakenAway, refilled, kept_after_removal, table_after_removal}
use Rattle.open_table.proofs.OfTransactions.OpenPages.{transactions_long}
use Rattle.open_table.proofs.OfTransactions.Owners.{length-with_owner}
use Rattle.open_table.proofs.open_transactions.OpenTransactions.remove.Goals as goal

taken_away : (c : goal.After-push_reserved) → IsTakenAway c.self.inside
    (record c.self.inside {
      all = c.remove-pages.new.self;
      owners = with_items c.self.inside.owners c.set_owner.new.owners;
      rooms = c.free_pages.new.rooms;
      lists = c.push_reserved.new.self;
    })
    c.args.at c.remove-pages.result c.free_pages.new.pages
taken_away c =
    let at = rw (← c.self.view_is) at c.requires.at in
    let count = transactions_long c.self.inside.all.items in
    let owners : c.set_owner.new.owners ≡ with_owner c.self.inside.owners.items None c.remove-pages.result.pages.items =
    c.set_owner.ensures ∙ ap₂ (λ os ps. with_owner os None ps) c.deref_mut.ensures.value c.deref.ensures.value in
    record {
      page_bytes = refl;
      pending = refl;
      within = omega arith;
      its = c.remove-pages.ensures.value;
      apart = rw (← c.self.view_is) at c.requires.apart;
      all = c.remove-pages.ensures.items;
      capacity = c.remove-pages.ensures.capacity;
      owners = refilled c.self.inside.owners c.set_owner.new.owners
          (ap length owners ∙ length-with_owner c.self.inside.owners.items None c.remove-pages.result.pages.items)
          ∙ owners;
      freed = c.free_pages.ensures;
      lists = c.push_reserved.ensures.items;
      lists_capacity = (let wide = c.push_reserved.ensures.capacity in omega (arith, wide));
    }

pub invariant_of-self : goal.invariant_of-self
invariant_of-self c = kept_after_removal c.self.inside _ c.args.at c.remove-pages.result c.free_pages.new.pages
    c.self.invariant (taken_away c)

pub returns : goal.returns
returns c = rw (← c.self.view_is) (table_after_removal c.self.inside _ c.args.at c.remove-pages.result
    c.free_pages.new.pages (taken_away c))
