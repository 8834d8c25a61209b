use Rattle.std.proofs.Common.{◌≡◌, ◌-◌, length, ap, arith, length-take, length-drop, drop}
use Rattle.std.specs.List.{slice_range}
use Rattle.srs_text.specs.Line.{HasNoLf}
use Rattle.srs_text.proofs.WindowLemmas.{line_stands, clear_on, window_searched}
use Rattle.srs_text.proofs.window.Window.cut.Goals as goal

pub invariant_of-self-in-None : goal.invariant_of-self-in-None
invariant_of-self-in-None c =
    let w = c.self.inside in
    let clear : HasNoLf (slice_range w.buffer.items w.searched w.end) = rw c.as_slice.ensures.value at c.in-None.ensures in
    window_searched w.buffer.items w.line w.line_end w.start w.searched w.end c.self.invariant clear

pub returns-in-Some-clause-cut : goal.returns-in-Some-clause-cut
returns-in-Some-clause-cut c =
    let w = c.self.inside in
    let i = c.self.invariant in
    let xs = w.buffer.items in
    let held : slice_range xs w.start w.end ≡ c.args.self.now.held = ap (λ v. v.held) c.self.view_is in
    let found = rw c.as_slice.ensures.value at c.in-Some.ensures in
    let size : length (slice_range xs w.searched w.end) ≡ w.end - w.searched = omega (arith, length-take (w.end - w.searched) (drop w.searched xs), length-drop w.searched xs, i.filled, i.goes_on) in
    rw (← held) (line_stands xs w.start w.searched w.end c.in-Some.at i.begins i.goes_on i.filled i.no_lf found.0 found.1 found.2 size)

pub returns-in-None-clause-none : goal.returns-in-None-clause-none
returns-in-None-clause-none c =
    let w = c.self.inside in
    let held : slice_range w.buffer.items w.start w.end ≡ c.args.self.now.held = ap (λ v. v.held) c.self.view_is in
    let clear : HasNoLf (slice_range w.buffer.items w.searched w.end) = rw c.as_slice.ensures.value at c.in-None.ensures in
    let all : HasNoLf (slice_range w.buffer.items w.start w.end) = clear_on w.buffer.items w.start w.searched w.end c.self.invariant.begins c.self.invariant.goes_on c.self.invariant.no_lf clear in
    rw held at all
