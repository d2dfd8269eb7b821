mod RefusalSteps
use Rattle.open_table.proofs.Common.{◌≡◌, None, length, sym, ap, ◌∙◌, arith, or_else}
use Rattle.array_machine.specs.Submit.{full, free_of}
use Rattle.open_table.proofs.OfTransactions.OpenPages.{pages_of_transactions, tag_among}
use Rattle.open_table.proofs.OfTransactions.Owners.{entries_in, owned_refusal}
use Rattle.open_table.proofs.open_transactions.OpenTransactions.refusal.Answers.RefusalSteps.{refused_by_tag, refused_behind, batch_refused, pages_exist}
use Rattle.open_table.proofs.open_transactions.OpenTransactions.refusal.Goals as goal

pub returns-then-is_tag_used : goal.returns-then-is_tag_used
returns-then-is_tag_used c =
    let t = c.self.inside in
    let ws = c.args.batch.now.entries in
    let long : c.len.result ≡ length t.owners.items = omega (arith, c.len.ensures) in
    let own : batch_refused (length t.owners.items) ws ≡ None =
    rw long at (sym c.batch_refusal.ensures ∙ c.in_default.is) in
    let used = tag_among c.args.tag t.all.items ∙ rw c.deref.ensures.value at (sym c.is_tag_used.ensures)
    ∙ c.if-is_tag_used.true in
    rw (← c.self.view_is) (sym (refused_by_tag (length t.owners.items) t.pending c.args.tag
    (entries_in t.all.items) ws own used))

pub first_overlap-requires : goal.first_overlap-requires
first_overlap-requires c =
    let t = c.self.inside in
    let ws = c.args.batch.now.entries in
    let long : c.len.result ≡ length t.owners.items = omega (arith, c.len.ensures) in
    let own : batch_refused (length t.owners.items) ws ≡ None =
    rw long at (sym c.batch_refusal.ensures ∙ c.in_default.is) in
    rw c.deref-2.ensures.value (pages_exist (length t.owners.items) ws own)

pub returns-in-Some-first_overlap : goal.returns-in-Some-first_overlap
returns-in-Some-first_overlap c =
    let t = c.self.inside in
    let ws = c.args.batch.now.entries in
    let long : c.len.result ≡ length t.owners.items = omega (arith, c.len.ensures) in
    let own : batch_refused (length t.owners.items) ws ≡ None =
    rw long at (sym c.batch_refusal.ensures ∙ c.in_default.is) in
    let es = entries_in t.all.items in
    let unused = tag_among c.args.tag t.all.items ∙ rw c.deref.ensures.value at (sym c.is_tag_used.ensures)
    ∙ c.if-is_tag_used.false in
    let found = sym (owned_refusal t.owners.items t.all.items ws c.self.invariant.owned
    (pages_exist (length t.owners.items) ws own))
    ∙ rw c.deref-2.ensures.value at (sym c.first_overlap.ensures) ∙ c.in-Some-first_overlap.is in
    rw (← c.self.view_is)
    (sym (refused_behind (length t.owners.items) t.pending c.args.tag es ws own unused
    ∙ ap (λ o. or_else o (full (free_of t.pending es) ws)) found))

pub returns : goal.returns
returns c =
    let t = c.self.inside in
    let ws = c.args.batch.now.entries in
    let long : c.len.result ≡ length t.owners.items = omega (arith, c.len.ensures) in
    let own : batch_refused (length t.owners.items) ws ≡ None =
    rw long at (sym c.batch_refusal.ensures ∙ c.in_default.is) in
    let es = entries_in t.all.items in
    let unused = tag_among c.args.tag t.all.items ∙ rw c.deref.ensures.value at (sym c.is_tag_used.ensures)
    ∙ c.if-is_tag_used.false in
    let found = sym (owned_refusal t.owners.items t.all.items ws c.self.invariant.owned
    (pages_exist (length t.owners.items) ws own))
    ∙ rw c.deref-2.ensures.value at (sym c.first_overlap.ensures) ∙ c.in_default-first_overlap.is in
    let count = pages_of_transactions t.all.items in
    let free : c.len-2.result ≡ free_of t.pending es = omega (arith, c.len-2.ensures, c.self.invariant.rooms) in
    rw (← c.self.view_is)
    (c.too_many.ensures ∙ ap (λ n. full n ws) free
    ∙ sym (refused_behind (length t.owners.items) t.pending c.args.tag es ws own unused
    ∙ ap (λ o. or_else o (full (free_of t.pending es) ws)) found))
