use Rattle.std.proofs.Common.{◌∙◌, sym}
use Rattle.srs_path.proofs.Ranked.{length-ranked, makes_list}
use Rattle.srs_path.proofs.ranks.Ranks.len.Goals as goal

pub returns-clause-len : goal.returns-clause-len
returns-clause-len c = rw (← c.self.view_is) (c.len.ensures.len ∙ sym (length-ranked c.self.inside.pairs c.self.inside.ranks c.self.invariant.same))

pub returns-clause-list : goal.returns-clause-list
returns-clause-list c = rw (← c.self.view_is) (makes_list c.self.inside.pairs c.self.inside.ranks c.self.invariant)
