use Rattle.srs_num.specs.Points.{value}
use Rattle.srs_cell.proofs.ShortDots.{held_short_dot}
use Rattle.srs_cell.proofs.values.dot.Goals as goal

pub overflow_add-result : goal.overflow_add-result
overflow_add-result c =
    rw (c.product.ensures, c.product-2.ensures, c.parts-a.ensures.a, c.parts-a.ensures.b)
    (held_short_dot c.args.form.now c.args.p c.args.q c.args.d c.parts-a.ensures.sized c.requires.p c.requires.q c.requires.d).two

pub overflow_add-result-2 : goal.overflow_add-result-2
overflow_add-result-2 c =
    rw (c.product.ensures, c.product-2.ensures, c.product-3.ensures, c.parts-a.ensures.a, c.parts-a.ensures.b, c.parts-a.ensures.c)
    (held_short_dot c.args.form.now c.args.p c.args.q c.args.d c.parts-a.ensures.sized c.requires.p c.requires.q c.requires.d).all

pub returns : goal.returns
unfolding value
returns c =
    rw (c.product.ensures, c.product-2.ensures, c.product-3.ensures, c.parts-a.ensures.a, c.parts-a.ensures.b, c.parts-a.ensures.c)
    (held_short_dot c.args.form.now c.args.p c.args.q c.args.d c.parts-a.ensures.sized c.requires.p c.requires.q c.requires.d).value
