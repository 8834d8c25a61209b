-- The products and their sums fit in 64 bits.
use Rattle.srs_num.specs.Points.{value}
use Rattle.srs_plane.proofs.Sizes.{held_dot}
use Rattle.srs_plane.proofs.polygons.value_at.Goals as goal

pub overflow_mul-result : goal.overflow_mul-result
overflow_mul-result c = rw c.parts-a.ensures.a (held_dot c.args.form.now c.args.v.now c.parts-a.ensures.sized c.requires).first

pub overflow_mul-result-2 : goal.overflow_mul-result-2
overflow_mul-result-2 c = rw c.parts-a.ensures.b (held_dot c.args.form.now c.args.v.now c.parts-a.ensures.sized c.requires).second

pub overflow_add-result : goal.overflow_add-result
overflow_add-result c = rw (c.parts-a.ensures.a, c.parts-a.ensures.b) (held_dot c.args.form.now c.args.v.now c.parts-a.ensures.sized c.requires).two

pub overflow_mul-result-3 : goal.overflow_mul-result-3
overflow_mul-result-3 c = rw c.parts-a.ensures.c (held_dot c.args.form.now c.args.v.now c.parts-a.ensures.sized c.requires).third

pub overflow_add-result-2 : goal.overflow_add-result-2
overflow_add-result-2 c = rw (c.parts-a.ensures.a, c.parts-a.ensures.b, c.parts-a.ensures.c) (held_dot c.args.form.now c.args.v.now c.parts-a.ensures.sized c.requires).all

pub returns : goal.returns
unfolding value
returns c = rw (c.parts-a.ensures.a, c.parts-a.ensures.b, c.parts-a.ensures.c) (held_dot c.args.form.now c.args.v.now c.parts-a.ensures.sized c.requires).value
