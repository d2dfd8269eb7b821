use Rattle.flash_picture.proofs.Common.{◌∙◌, sym, ap, nat_lt, arith, le-ltb, name_of}
use Rattle.flash_picture.proofs.Held.{held_is, none_asks}
use Rattle.flash_picture.proofs.asked.is_held.Goals as goal

pub returns-in-Some : goal.returns-in-Some
returns-in-Some c =
    let s = c.args.standing.now in
    let rec = c.args.rec in
    let there = rw (c.sorted_records.ensures, c.name.ensures) at c.in-Some.ensures in
    ap (nat_lt rec.back) (c.requires.each (name_of rec) c.in-Some.place 0 (sym there))
    ∙ held_is s.list s.logical rec s.protocol

pub returns-in-None : goal.returns-in-None
returns-in-None c =
    let s = c.args.standing.now in
    let rec = c.args.rec in
    let nowhere = rw (c.sorted_records.ensures, c.name.ensures) at c.in-None.ensures in
    sym (ap (nat_lt rec.back) (none_asks s.protocol s.list s.logical (name_of rec) (sym nowhere))
    ∙ le-ltb rec.back 0 (omega arith))
    ∙ held_is s.list s.logical rec s.protocol
