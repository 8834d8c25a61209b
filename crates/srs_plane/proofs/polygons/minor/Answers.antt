-- The two products and their difference fit in 64 bits.
use Rattle.srs_plane.proofs.Sizes.{held_vertex_minor}
use Rattle.srs_plane.proofs.polygons.minor.Goals as goal

pub overflow_sub-result : goal.overflow_sub-result
overflow_sub-result c = (held_vertex_minor c.args.a c.args.b c.args.c c.args.d c.requires.a c.requires.b c.requires.c c.requires.d).fits

pub returns-clause-value : goal.returns-clause-value
returns-clause-value c = (held_vertex_minor c.args.a c.args.b c.args.c c.args.d c.requires.a c.requires.b c.requires.c c.requires.d).value

pub returns-clause-size : goal.returns-clause-size
returns-clause-size c = (held_vertex_minor c.args.a c.args.b c.args.c c.args.d c.requires.a c.requires.b c.requires.c c.requires.d).size
