use Rattle.std.proofs.Common.{◌≡◌, ◌++◌, ◌∷◌, [], arith, ap, ◌∙◌, subst}
use Rattle.std.proofs.lemmas.Grind.{common_steps}
use Rattle.srs_path.specs.Views.{Entry}
use Rattle.srs_cert.specs.Heights.{height}
use Rattle.srs_cert.specs.Certificates.{CertView, IsInRange}
use Rattle.srs_cert.proofs.NodeLines.{lines_start, lines_more, lines_fit, all_ranges}
use Rattle.srs_cert.proofs.certificates.lines_of.Goals as goal

pub loop-i-init : goal.loop-i-init
loop-i-init c =
    let view : CertView = record { vertices = c.args.vertices.now; limits = c.args.limits.now; events = c.args.events.now } in
    rw c.in_ok-lines.ensures.items (lines_start view c.requires.counted)

pub overflow_add-line-in-loop-i : goal.overflow_add-line-in-loop-i
overflow_add-line-in-loop-i c =
    let view : CertView = record { vertices = c.args.vertices.now; limits = c.args.limits.now; events = c.args.events.now } in
    let e : Entry = c.get.result.now in
    let outcome : c.deref.result.now ≡ e.outcome = rw (← c.behind-events.view_is) c.deref.ensures in
    let more : c.height_of-line.result ≡ height e.outcome = c.height_of-line.ensures.height ∙ ap height outcome in
    let fits = lines_fit view c.loop-i.lines.items c.loop-i.i c.loop-i.line e c.loop-i.invariant c.wits-line.ensures.budget c.requires.within c.get.ensures in
    omega (arith, more, fits)

pub loop-i-preserved : goal.loop-i-preserved
loop-i-preserved c =
    let view : CertView = record { vertices = c.args.vertices.now; limits = c.args.limits.now; events = c.args.events.now } in
    let e : Entry = c.get.result.now in
    let outcome : c.deref.result.now ≡ e.outcome = rw (← c.behind-events.view_is) c.deref.ensures in
    let more : c.height_of-line.result ≡ height e.outcome = c.height_of-line.ensures.height ∙ ap height outcome in
    let pushed : c.push.new.self.items ≡ c.loop-i.lines.items ++ c.loop-i.line ∷ [] = grind (arith, common_steps) in
    rw (pushed, more) (lines_more view c.loop-i.lines.items c.loop-i.i c.loop-i.line e c.loop-i.invariant c.requires.within c.get.ensures (subst IsInRange outcome c.height_of-line.ensures.range))

pub returns-clause-ranges : goal.returns-clause-ranges
returns-clause-ranges c =
    let view : CertView = record { vertices = c.args.vertices.now; limits = c.args.limits.now; events = c.args.events.now } in
    all_ranges view c.loop-i.lines.items c.loop-i.i c.loop-i.line c.loop-i.invariant (omega arith)
