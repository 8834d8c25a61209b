use Rattle.std.proofs.Common.{◌≡◌, Some, inl, inr, refl, arith}
use Rattle.srs_path.specs.declared.outcomes.Outcome.TheVariants.{Inside}
use Rattle.srs_file.specs.TreeReading.{no_leaf, gathered, TakesOutcome}
use Rattle.srs_file.proofs.tree.Tree.entry.Goals as goal

pub returns-then-left-gt0-clause-ok : goal.returns-then-left-gt0-clause-ok
returns-then-left-gt0-clause-ok c = (c.take.new.self, c.in_ok-take.ensures.ok, inl (omega arith, refl))

pub returns-clause-ok : goal.returns-clause-ok
returns-clause-ok c =
    let zero : c.take.new.self.left ≡ 0 = omega arith in
    let settled : TakesOutcome (record c.args.self.now { leaf = no_leaf }) (Inside c.take.new.self.entries) (gathered c.settle.new.self (Some c.settle.result)) =
    rw (c.close-ranks.ensures.ranks, c.close-ranks.ensures.empty) at c.settle.ensures.node in
    (c.take.new.self, c.in_ok-take.ensures.ok, inr (zero, settled))
