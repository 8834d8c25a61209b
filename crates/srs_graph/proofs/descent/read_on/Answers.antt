use Rattle.std.proofs.Common.{arith}
use Rattle.srs_graph.proofs.Reading.{read_more}
use Rattle.srs_graph.proofs.descent.read_on.Goals as goal
use Rattle.srs_graph.proofs.descent.read_on.Goals.{then-rank-m, else-rank-m}

pub loop-j-preserved : goal.loop-j-preserved
loop-j-preserved c =
    read_more c.args.row c.args.marks.now c.loop-j.j c.loop-j.rank c.in-Some.m c.if-rank-m.rank c.loop-j.invariant (omega arith) c.in-Some.is
    (λ h. elim c.if-rank-m.branch [ then-rank-m w ↦ w.rank-is | else-rank-m w ↦ absurd (omega (arith, w.if-rank-m)) ])
    (λ h. elim c.if-rank-m.branch [ then-rank-m w ↦ absurd (omega (arith, w.if-rank-m)) | else-rank-m w ↦ w.rank-is ])
