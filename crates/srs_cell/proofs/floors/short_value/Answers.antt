use Rattle.std.proofs.Common.{◌≡◌, ◌*ℤ◌, ◌+ℤ◌, sym, ◌∙◌}
use Rattle.std.proofs.Math.Facts.{to_z-of_z}
use Rattle.srs_map.proofs.FormStep.{value-flat}
use Rattle.srs_cell.proofs.ShortDots.{short_value_of}
use Rattle.srs_cell.proofs.floors.short_value.Goals as goal

pub overflow_add-result : goal.overflow_add-result
overflow_add-result c =
    let e = c.parts-p.ensures in
    let s = short_value_of c.args.corner.now _ _ c.args.w.a c.args.w.b c.requires.corner e.p e.q c.requires.a c.requires.b in
    simp (to_z-of_z s.p128, to_z-of_z s.p64, to_z-of_z s.q128, to_z-of_z s.q64, to_z-of_z s.a64, to_z-of_z s.b64, to_z-of_z s.first, to_z-of_z s.second) s.all

pub returns : goal.returns
returns c =
    let r = c.args.corner.now in
    let w = c.args.w in
    let e = c.parts-p.ensures in
    let s = short_value_of r _ _ w.a w.b c.requires.corner e.p e.q c.requires.a c.requires.b in
    let flat : c.parts-p.result.0 *ℤ w.a +ℤ c.parts-p.result.1 *ℤ w.b ≡ r.p *ℤ w.a +ℤ r.q *ℤ w.b = rw (e.p, e.q) in
    simp (to_z-of_z s.p128, to_z-of_z s.p64, to_z-of_z s.q128, to_z-of_z s.q64, to_z-of_z s.a64, to_z-of_z s.b64, to_z-of_z s.first, to_z-of_z s.second, to_z-of_z s.all) (flat ∙ sym (value-flat w.a w.b r))
