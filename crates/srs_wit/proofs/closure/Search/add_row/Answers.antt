use Rattle.std.proofs.Common.{ℕ, ◌<◌, ◌^◌, pos, ◌<ℤ◌, arith, subst, sym}
use Rattle.std.proofs.lemmas.Int.{ints}
use Rattle.srs_num.specs.Points.{IsWithin}
use Rattle.srs_num.proofs.Ranges.{within_turned}
use Rattle.srs_map.specs.Step.{IsNarrow}
use Rattle.srs_wit.specs.declared.runs.Run.{Run}
use Rattle.srs_wit.specs.Runs.{run_pair, turned, AddsAll}
use Rattle.srs_wit.specs.Search.{AddsLinks}
use Rattle.srs_wit.proofs.Adding.{on_ok_then}
use Rattle.srs_wit.proofs.Running.{first_within}
use Rattle.srs_wit.proofs.Following.{run_ahead, run_behind, run_narrow, run_added}
use Rattle.srs_wit.specs.PairSets.{all_of}
use Rattle.srs_wit.proofs.closure.Search.add_row.Goals as goal

pub add_run-requires-clause-narrow : goal.add_run-requires-clause-narrow
add_run-requires-clause-narrow c k l =
    let w = c.args.w in
    let low = c.args.span.low in
    let high = c.args.span.high in
    let r = c.run_of-run.result in
    let is = c.run_of-run.ensures in
    let h : pos 0 <ℤ w.b = omega (arith, ints) in
    run_narrow w low high c.args.n r c.requires.count is (run_pair r) (run_ahead w low high c.args.n r c.requires.count is h) c.requires.narrow k
    (subst (λ (n : ℕ). k < n) is.count l)

pub returns-then-w-gt0 : goal.returns-then-w-gt0
returns-then-w-gt0 c =
    let s = c.args.self.now in
    let w = c.args.w in
    let low = c.args.span.low in
    let high = c.args.span.high in
    let r = c.run_of-run.result in
    let is = c.run_of-run.ensures in
    let new = all_of c.add_run.new.self in
    let waiting = c.add_run.new.self.waiting in
    let h : pos 0 <ℤ w.b = omega (arith, ints) in
    on_ok_then c.add_run.result (AddsAll (all_of s.found) (run_pair r) r.count new s.found.waiting waiting)
    (AddsLinks (all_of s.found) s.origin w low high c.args.n new s.origin s.found.waiting waiting)
    (λ a R W wit found m.
    run_added R W (all_of s.found) s.origin w low high c.args.n wit found m c.requires.count c.requires.narrow (run_pair r) (run_ahead w low high c.args.n r c.requires.count is h)
    new s.found.waiting waiting (subst (λ (n : ℕ). AddsAll (all_of s.found) (run_pair r) n new s.found.waiting waiting) is.count a))
    c.add_run.ensures

pub add_run-requires-2-clause-first : goal.add_run-requires-2-clause-first
add_run-requires-2-clause-first c =
    let r = c.run_of-run.result in
    let is = c.run_of-run.ensures in
    subst (λ (q : Run). IsWithin (2 ^ 41) q.first) (sym c.mirrored.ensures)
    (within_turned (2 ^ 41) r.first (first_within (2 ^ 41) c.args.span.low c.args.span.high r.first r.back is.first c.requires.low c.requires.high))

pub add_run-requires-2-clause-narrow : goal.add_run-requires-2-clause-narrow
add_run-requires-2-clause-narrow c =
    let w = c.args.w in
    let low = c.args.span.low in
    let high = c.args.span.high in
    let r = c.run_of-run.result in
    let is = c.run_of-run.ensures in
    let h : w.b <ℤ pos 0 = omega (arith, ints) in
    subst (λ (q : Run). (k : ℕ) → k < q.count → IsNarrow (run_pair q k)) (sym c.mirrored.ensures)
    (λ k l. run_narrow w low high c.args.n r c.requires.count is (run_pair (turned r)) (run_behind w low high c.args.n r c.requires.count is h) c.requires.narrow k
    (subst (λ (n : ℕ). k < n) is.count l))

pub returns : goal.returns
returns c =
    let s = c.args.self.now in
    let w = c.args.w in
    let low = c.args.span.low in
    let high = c.args.span.high in
    let r = c.run_of-run.result in
    let is = c.run_of-run.ensures in
    let q = c.mirrored.result in
    let new = all_of c.add_run-2.new.self in
    let waiting = c.add_run-2.new.self.waiting in
    let h : w.b <ℤ pos 0 = omega (arith, ints) in
    on_ok_then c.add_run-2.result (AddsAll (all_of s.found) (run_pair q) q.count new s.found.waiting waiting)
    (AddsLinks (all_of s.found) s.origin w low high c.args.n new s.origin s.found.waiting waiting)
    (λ a R W wit found m.
    run_added R W (all_of s.found) s.origin w low high c.args.n wit found m c.requires.count c.requires.narrow (run_pair (turned r)) (run_behind w low high c.args.n r c.requires.count is h)
    new s.found.waiting waiting
    (subst (λ (n : ℕ). AddsAll (all_of s.found) (run_pair (turned r)) n new s.found.waiting waiting) is.count
    (subst (λ (x : Run). AddsAll (all_of s.found) (run_pair x) x.count new s.found.waiting waiting) c.mirrored.ensures a)))
    c.add_run-2.ensures
