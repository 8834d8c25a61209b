use Rattle.std.proofs.Common.{◌≡◌, ℕ, arith, subst, sym}
use Rattle.srs_path.specs.Witnesses.{IsWitness}
use Rattle.srs_wit.specs.Search.{Added}
use Rattle.srs_wit.proofs.Following.{added_more, witness_at}
use Rattle.srs_wit.specs.PairSets.{all_of}
use Rattle.srs_wit.proofs.closure.Search.add_center_row.Goals as goal

pub loop-k-preserved : goal.loop-k-preserved
loop-k-preserved c R W h f m =
    let s = c.args.self.now in
    let w = c.args.w in
    let low = c.args.span.low in
    added_more R W (all_of s.found) s.origin w low s.found.waiting c.loop-k.k (all_of c.loop-k.self.found) c.loop-k.self.origin (all_of c.add.new.self.found) c.add.new.self.origin
    c.loop-k.self.found.waiting c.add.new.self.found.waiting c.pair.result (c.loop-k.invariant R W h f m)
    (subst (IsWitness R) (sym c.pair.ensures) (witness_at R w low c.args.span.high c.args.n m c.requires.count h c.loop-k.k (omega arith))) c.pair.ensures c.in_ok-add.ensures

pub returns : goal.returns
returns c R W h f m =
    let s = c.args.self.now in
    let t = c.loop-k.self in
    let e : c.loop-k.k ≡ c.args.n = omega arith in
    subst (λ (k : ℕ). Added R W (all_of s.found) s.origin c.args.w c.args.span.low k (all_of t.found) t.origin s.found.waiting t.found.waiting) e (c.loop-k.invariant R W h f m)
