use Rattle.std.proofs.Common.{◌-◌, arith}
use Rattle.srs_path.specs.GridLine.{X, Y}
use Rattle.srs_grid.proofs.Axes.{scaled, times_scaled, held_line}
use Rattle.srs_grid.proofs.Searching.{first_x, first_y, none_more, none_at_all}
use Rattle.srs_grid.proofs.lines.line.Goals as goal

pub loop-m-init : goal.loop-m-init
loop-m-init c = λ g lt l. absurd (omega (arith, lt))

pub x_line-requires-clause-near : goal.x_line-requires-clause-near
x_line-requires-clause-near c =
    let m = c.loop-m.m in
    let near = rw c.region.ensures.value at c.len.ensures.near in
    let first = c.in-Some.ensures c.args.cell.now (scaled X m) (scaled X 36) (times_scaled X m (36 - m) (omega arith)) (rw c.power-finest.ensures.value at c.of-x.ensures) in
    (held_line c.args.cell.now X m c.in-Some.k near (omega arith) first.splits).near

pub returns-in-Some-clause-some : goal.returns-in-Some-clause-some
returns-in-Some-clause-some c =
    let m = c.loop-m.m in
    let near = rw c.region.ensures.value at c.len.ensures.near in
    let first = c.in-Some.ensures c.args.cell.now (scaled X m) (scaled X 36) (times_scaled X m (36 - m) (omega arith)) (rw c.power-finest.ensures.value at c.of-x.ensures) in
    let line = held_line c.args.cell.now X m c.in-Some.k near (omega arith) first.splits in
    first_x c.args.cell.now m c.in-Some.k c.x_line.result c.loop-m.invariant (omega arith) first (rw line.value at c.x_line.ensures)

pub y_line-requires-clause-near : goal.y_line-requires-clause-near
y_line-requires-clause-near c =
    let m = c.loop-m.m in
    let near = rw c.region.ensures.value at c.len.ensures.near in
    let first = c.in-Some-first_level.ensures c.args.cell.now (scaled Y m) (scaled Y 36) (times_scaled Y m (36 - m) (omega arith)) (rw c.power-finest.ensures.value at c.of-y.ensures) in
    (held_line c.args.cell.now Y m c.in-Some-first_level.k near (omega arith) first.splits).near

pub returns-in-Some-first_level-clause-some : goal.returns-in-Some-first_level-clause-some
returns-in-Some-first_level-clause-some c =
    let R = c.args.cell.now in
    let m = c.loop-m.m in
    let k = c.in-Some-first_level.k in
    let near = rw c.region.ensures.value at c.len.ensures.near in
    let none = c.in_default.ensures R (scaled X m) (scaled X 36) (times_scaled X m (36 - m) (omega arith)) (rw c.power-finest.ensures.value at c.of-x.ensures) in
    let first = c.in-Some-first_level.ensures R (scaled Y m) (scaled Y 36) (times_scaled Y m (36 - m) (omega arith)) (rw c.power-finest.ensures.value at c.of-y.ensures) in
    let line = held_line R Y m k near (omega arith) first.splits in
    first_y R m k c.y_line.result c.loop-m.invariant (omega arith) none first (rw line.value at c.y_line.ensures)

pub loop-m-preserved : goal.loop-m-preserved
loop-m-preserved c =
    let R = c.args.cell.now in
    let m = c.loop-m.m in
    none_more R m c.loop-m.invariant
    (c.in_default.ensures R (scaled X m) (scaled X 36) (times_scaled X m (36 - m) (omega arith)) (rw c.power-finest.ensures.value at c.of-x.ensures))
    (c.in_default-first_level.ensures R (scaled Y m) (scaled Y 36) (times_scaled Y m (36 - m) (omega arith)) (rw c.power-finest.ensures.value at c.of-y.ensures))

pub returns-clause-none : goal.returns-clause-none
returns-clause-none c = none_at_all c.args.cell.now c.loop-m.m c.loop-m.invariant (omega arith)
