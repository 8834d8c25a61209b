use Rattle.std.proofs.Common.{inl, ap, subst, ◌∙◌, Ok, Err}
use Rattle.std.proofs.lemmas.Result.{on_ok_weaker}
use Rattle.srs_check.specs.declared.line_check.LineCheck.{LineCheck}
use Rattle.srs_check.proofs.LineSteps.{SaysOfLine, AfterLine, after_line}
use Rattle.srs_check.proofs.line_check.LineCheck.line.Goals as goal

pub node-requires : goal.node-requires
node-requires c =
    let r = c.requires.some in
    let says : SaysOfLine c.args.self.now.feed c.line.new.self c.args.line.now c.line.result = record { good = c.line.ensures.good; refused = c.line.ensures.refused; failed = c.line.ensures.failed; again = c.line.ensures.again } in
    let after : LineCheck = record { feed = c.line.new.self; walk = c.args.self.now.walk } in
    (r.0, c.args.line.now, subst (AfterLine after r.0 c.args.line.now) (c.in-Ok-Some.is ∙ ap (λ x. Ok x) c.in-Ok-Some.field-0-is) (after_line c.args.self.now c.line.new.self r.0 c.args.line.now c.line.result says r.1))

pub returns-in-Ok-Some : goal.returns-in-Ok-Some
returns-in-Ok-Some c =
    let says : SaysOfLine c.args.self.now.feed c.line.new.self c.args.line.now c.line.result = record { good = c.line.ensures.good; refused = c.line.ensures.refused; failed = c.line.ensures.failed; again = c.line.ensures.again } in
    let after : LineCheck = record { feed = c.line.new.self; walk = c.args.self.now.walk } in
    on_ok_weaker c.node.result (λ met. λ lines taken.
    inl (met lines c.args.line.now (subst (AfterLine after lines c.args.line.now) (c.in-Ok-Some.is ∙ ap (λ x. Ok x) c.in-Ok-Some.field-0-is) (after_line c.args.self.now c.line.new.self lines c.args.line.now c.line.result says taken)))) c.node.ensures

pub returns-in-Ok-None : goal.returns-in-Ok-None
returns-in-Ok-None c = λ lines taken.
    let says : SaysOfLine c.args.self.now.feed c.line.new.self c.args.line.now c.line.result = record { good = c.line.ensures.good; refused = c.line.ensures.refused; failed = c.line.ensures.failed; again = c.line.ensures.again } in
    let after : LineCheck = record { feed = c.line.new.self; walk = c.args.self.now.walk } in
    subst (AfterLine after lines c.args.line.now) (c.in-Ok-None.is ∙ ap (λ x. Ok x) c.in-Ok-None.field-0-is) (after_line c.args.self.now c.line.new.self lines c.args.line.now c.line.result says taken)

pub returns-in-Err-At : goal.returns-in-Err-At
returns-in-Err-At c = λ lines taken.
    let says : SaysOfLine c.args.self.now.feed c.line.new.self c.args.line.now c.line.result = record { good = c.line.ensures.good; refused = c.line.ensures.refused; failed = c.line.ensures.failed; again = c.line.ensures.again } in
    let after : LineCheck = record { feed = c.line.new.self; walk = c.args.self.now.walk } in
    subst (AfterLine after lines c.args.line.now) (c.in-Err-At.is ∙ ap (λ x. Err x) c.in-Err-At.field-0-is) (after_line c.args.self.now c.line.new.self lines c.args.line.now c.line.result says taken)
