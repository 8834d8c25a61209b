use Rattle.std.proofs.lemmas.Int.{to_z-of_z}
use Rattle.srs_num.specs.Points.{value}
use Rattle.srs_num.proofs.Ranges.{dot_steps}
use Rattle.srs_num.proofs.forms.Form.dot.Goals as goal

pub overflow_add-result : goal.overflow_add-result
overflow_add-result c =
    let f = c.self.inside in
    let s = dot_steps f.a f.b f.c c.args.p c.args.q c.args.d c.self.invariant.a_range c.self.invariant.b_range c.self.invariant.c_range c.requires.p c.requires.q c.requires.d in
    simp (to_z-of_z, s.a64, s.a128, s.b64, s.b128, s.p128, s.q128, s.first, s.second) s.two

pub overflow_mul-result-3 : goal.overflow_mul-result-3
overflow_mul-result-3 c =
    let f = c.self.inside in
    let s = dot_steps f.a f.b f.c c.args.p c.args.q c.args.d c.self.invariant.a_range c.self.invariant.b_range c.self.invariant.c_range c.requires.p c.requires.q c.requires.d in
    simp (to_z-of_z, s.c64, s.c128, s.d128) s.third

pub overflow_add-result-2 : goal.overflow_add-result-2
overflow_add-result-2 c =
    let f = c.self.inside in
    let s = dot_steps f.a f.b f.c c.args.p c.args.q c.args.d c.self.invariant.a_range c.self.invariant.b_range c.self.invariant.c_range c.requires.p c.requires.q c.requires.d in
    simp (to_z-of_z, s.a64, s.a128, s.b64, s.b128, s.c64, s.c128, s.p128, s.q128, s.d128, s.first, s.second, s.third, s.two) s.all

pub returns : goal.returns
unfolding value
returns c =
    let f = c.self.inside in
    let s = dot_steps f.a f.b f.c c.args.p c.args.q c.args.d c.self.invariant.a_range c.self.invariant.b_range c.self.invariant.c_range c.requires.p c.requires.q c.requires.d in
    simp (to_z-of_z, s.a64, s.a128, s.b64, s.b128, s.c64, s.c128, s.p128, s.q128, s.d128, s.first, s.second, s.third, s.two, s.all) (simp (← c.self.view_is))
