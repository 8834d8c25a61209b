use Rattle.std.proofs.Common.{rules, length, ap, subst, sym}
use Rattle.srs_wit.specs.PairSets.{Lists, all_of, IsNext}
use Rattle.srs_wit.specs.Search.{IsStop, AreAll}
use Rattle.srs_wit.proofs.Closing.{closing_none, closing_moved, closing_more, last_found, all_closed}
use Rattle.srs_wit.proofs.closure.Search.find_all.Goals as goal

pub returns-in_err-add_units-clause-stop : goal.returns-in_err-add_units-clause-stop
returns-in_err-add_units-clause-stop c =
    let s = c.add_units.new.self in
    let e : IsStop c.args.cell.now c.args.bound (all_of s.found) s.origin c.in_err-add_units.field-0.0 = c.in_err-add_units.ensures.stop c.args.cell.now in
    search rules

pub loop-w-init : goal.loop-w-init
loop-w-init c =
    let s = c.add_units.new.self in
    closing_none c.args.cell.now c.args.bound (all_of s.found) s.origin s.found.waiting (c.in_ok-add_units.ensures.found c.args.cell.now) c.in_ok-add_units.ensures.few c.in_ok-add_units.ensures.units

pub add_links-requires-clause-narrow : goal.add_links-requires-clause-narrow
add_links-requires-clause-narrow c =
    let s = c.loop-w.self in
    let n : IsNext s.found c.in-Ok-Some.w c.next.new.self = rw c.in-Ok-Some.field-0-is at c.in-Ok-Some.ensures in
    c.loop-w.invariant.found.half.narrow c.in-Ok-Some.w
    (last_found c.args.cell.now c.args.bound (all_of s.found) s.origin s.found.waiting c.next.new.self.waiting c.in-Ok-Some.w c.loop-w.invariant n.waited)

pub add_links-requires-clause-witness : goal.add_links-requires-clause-witness
add_links-requires-clause-witness c =
    let s = c.loop-w.self in
    let n : IsNext s.found c.in-Ok-Some.w c.next.new.self = rw c.in-Ok-Some.field-0-is at c.in-Ok-Some.ensures in
    c.loop-w.invariant.found.half.each c.in-Ok-Some.w
    (last_found c.args.cell.now c.args.bound (all_of s.found) s.origin s.found.waiting c.next.new.self.waiting c.in-Ok-Some.w c.loop-w.invariant n.waited)

pub add_links-requires-clause-found : goal.add_links-requires-clause-found
add_links-requires-clause-found c =
    let s = c.loop-w.self in
    let n : IsNext s.found c.in-Ok-Some.w c.next.new.self = rw c.in-Ok-Some.field-0-is at c.in-Ok-Some.ensures in
    (closing_moved c.args.cell.now c.args.bound s.found c.next.new.self s.origin c.in-Ok-Some.w n c.loop-w.invariant).found

pub loop-w-preserved : goal.loop-w-preserved
loop-w-preserved c =
    let s = c.loop-w.self in
    let u = c.next.new.self in
    let t = c.add_links.new.self in
    let e = c.in_ok-add_links-in-Ok-Some.ensures in
    let n : IsNext s.found c.in-Ok-Some.w u = rw c.in-Ok-Some.field-0-is at c.in-Ok-Some.ensures in
    closing_more c.args.cell.now c.args.bound (all_of u) s.origin (all_of t.found) t.origin s.found.waiting u.waiting t.found.waiting c.in-Ok-Some.w n.waited e.extends e.few
    (closing_moved c.args.cell.now c.args.bound s.found u s.origin c.in-Ok-Some.w n c.loop-w.invariant) e.closed

pub returns-in-Ok-None-clause-all : goal.returns-in-Ok-None-clause-all
returns-in-Ok-None-clause-all c =
    let s = c.loop-w.self in
    let h = rw c.in-Ok-None.field-0-is at c.in-Ok-None.ensures in
    subst (λ (x : Lists). AreAll c.args.cell.now c.args.bound (all_of x) s.origin) (sym h.0)
    (all_closed c.args.cell.now c.args.bound (all_of s.found) s.origin s.found.waiting c.loop-w.invariant (ap length h.1))
