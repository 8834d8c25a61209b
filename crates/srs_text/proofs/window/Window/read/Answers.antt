use Rattle.std.proofs.Common.{◌≡◌, ◌+◌, ◌≤◌, length, take, ap, ◌∙◌, arith, rules}
use Rattle.std.specs.List.{slice_range}
use Rattle.std.proofs.lemmas.List.{with_items_is, places}
use Rattle.srs_text.proofs.WindowLemmas.{behind, part_length, window_grows}
use Rattle.srs_text.proofs.window.Window.read.Goals as goal

pub invariant_of-self : goal.invariant_of-self
invariant_of-self g c =
    let w = c.self.inside in
    let new = c.read_at.new.buffer in
    let len : length new ≡ w.buffer.len = search (rules, places) in
    let size : length new ≡ length w.buffer.items = c.read_at.auto.buffer ∙ ap length c.as_mut_slice.ensures.value in
    let same : take w.end new ≡ take w.end w.buffer.items = c.read_at.ensures.front ∙ ap (take w.end) c.as_mut_slice.ensures.value in
    let filled : w.end ≤ length new = omega (arith, size, c.self.invariant.filled) in
    rw (with_items_is w.buffer new len) (window_grows w.buffer.items new w.line w.line_end w.start w.searched w.end w.end c.self.invariant size same (omega arith) filled)

pub invariant_of-self-2 : goal.invariant_of-self-2
invariant_of-self-2 g c =
    let w = c.self.inside in
    let new = c.read_at.new.buffer in
    let len : length new ≡ w.buffer.len = search (rules, places) in
    let size : length new ≡ length w.buffer.items = c.read_at.auto.buffer ∙ ap length c.as_mut_slice.ensures.value in
    let same : take w.end new ≡ take w.end w.buffer.items = c.read_at.ensures.front ∙ ap (take w.end) c.as_mut_slice.ensures.value in
    rw (with_items_is w.buffer new len) (window_grows w.buffer.items new w.line w.line_end w.start w.searched w.end (w.end + c.in_ok-count.count) c.self.invariant size same (omega arith) c.in_ok-count.ensures.within)

pub returns-clause-ok : goal.returns-clause-ok
returns-clause-ok g c =
    let w = c.self.inside in
    let n = c.in_ok-count.count in
    let new = c.read_at.new.buffer in
    let held : slice_range w.buffer.items w.start w.end ≡ c.args.self.now.held = ap (λ v. v.held) c.self.view_is in
    let len : length new ≡ w.buffer.len = search (rules, places) in
    let same : take w.end new ≡ take w.end w.buffer.items = c.read_at.ensures.front ∙ ap (take w.end) c.as_mut_slice.ensures.value in
    let low : w.start ≤ w.end = omega (arith, c.self.invariant.begins, c.self.invariant.goes_on) in
    rw (with_items_is w.buffer new len, ← held) (
      slice_range new w.end (w.end + n),
      c.in_ok-count.ensures.read,
      behind w.buffer.items new w.start w.end n low same,
      part_length new w.end n c.in_ok-count.ensures.within,
      c.in_ok-count.ensures.end,
    )
