use Rattle.std.proofs.Common.{arith}
use Rattle.srs_wit.proofs.Adding.{on_ok}
use Rattle.srs_wit.proofs.Following.{all_added, wide_shown}
use Rattle.srs_wit.specs.PairSets.{all_of}
use Rattle.srs_wit.proofs.closure.Search.add_links.Goals as goal

pub returns-then-n-bound-clause-stop : goal.returns-then-n-bound-clause-stop
returns-then-n-bound-clause-stop c = record {
  witness = c.requires.witness;
  moves = c.links-span.ensures;
  count = c.count-n.result;
  counted = c.count-n.ensures;
  long = omega arith;
}

pub returns-clause-closed : goal.returns-clause-closed
returns-clause-closed c =
    let a = c.in-Ok.ensures c.args.cell.now c.args.bound c.requires.witness c.requires.found c.links-span.ensures in
    on_ok c.within.result _
    (all_added c.args.cell.now c.args.bound (all_of c.args.self.now.found) c.args.self.now.origin c.args.w c.links-span.result.low c.args.self.now.found.waiting c.links-span.result.high c.count-n.result
    (all_of c.add_row.new.self.found) c.add_row.new.self.origin c.add_row.new.self.found.waiting c.links-span.ensures c.count-n.ensures a)

pub returns-in-Some-clause-stop : goal.returns-in-Some-clause-stop
returns-in-Some-clause-stop c = wide_shown c.args.cell.now c.args.w c.links-span.result.low c.links-span.result.high _ c.links-span.ensures c.requires.witness c.in-Some.ensures

pub returns-clause-extends : goal.returns-clause-extends
returns-clause-extends c = on_ok c.within.result _ (c.in-Ok.ensures c.args.cell.now c.args.bound c.requires.witness c.requires.found c.links-span.ensures).extends

pub returns-clause-stop : goal.returns-clause-stop
returns-clause-stop c = c.within.ensures.stop c.args.cell.now (c.in-Ok.ensures c.args.cell.now c.args.bound c.requires.witness c.requires.found c.links-span.ensures).extends.half

pub within-requires : goal.within-requires
within-requires c =
    let a = c.in-Ok.ensures c.args.cell.now c.args.bound c.requires.witness c.requires.found c.links-span.ensures in
    omega (arith, a.few)
