use Rattle.std.proofs.Common.{refl, subst, arith}
use Rattle.srs_path.specs.declared.outcomes.Outcome.TheVariants.{Inside, Outside, Cut, Left}
use Rattle.srs_check.specs.Tallies.{IsNode}
use Rattle.srs_check.proofs.Tallying.{tallied_more}
use Rattle.srs_check.proofs.tally.Tally.add.Goals as goal

pub returns-in-Inside : goal.returns-in-Inside
returns-in-Inside c = λ H i node s.
    tallied_more H i c.args.depth (Inside c.in-Inside.field-0) c.args.self.now _ (subst (IsNode H i c.args.depth) c.in-Inside.is node) c.requires.few.shallow s refl (omega arith) (omega arith) (omega arith) (omega arith) (omega arith)

pub returns-in-Outside : goal.returns-in-Outside
returns-in-Outside c = λ H i node s.
    tallied_more H i c.args.depth (Outside c.in-Outside.field-0) c.args.self.now _ (subst (IsNode H i c.args.depth) c.in-Outside.is node) c.requires.few.shallow s refl (omega arith) (omega arith) (omega arith) (omega arith) (omega arith)

pub returns-in-Cut : goal.returns-in-Cut
returns-in-Cut c = λ H i node s.
    tallied_more H i c.args.depth (Cut c.in-Cut.field-0) c.args.self.now _ (subst (IsNode H i c.args.depth) c.in-Cut.is node) c.requires.few.shallow s refl (omega arith) (omega arith) (omega arith) (omega arith) (omega arith)

pub returns-in-Left : goal.returns-in-Left
returns-in-Left c = λ H i node s.
    tallied_more H i c.args.depth (Left c.in-Left.field-0) c.args.self.now _ (subst (IsNode H i c.args.depth) c.in-Left.is node) c.requires.few.shallow s refl (omega arith) (omega arith) (omega arith) (omega arith) (omega arith)
