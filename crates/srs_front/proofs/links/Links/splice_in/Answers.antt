-- The two joins.
use Rattle.std.proofs.Common.{◌∙◌, ap}
use Rattle.srs_front.specs.Numbers.{Numbers, joined}
use Rattle.srs_front.proofs.links.Links.splice_in.Goals as goal

pub returns-clause-within : goal.returns-clause-within
returns-clause-within g c =
    c.join-2.ensures.joined ∙ ap (λ (n : Numbers). joined n c.args.slot c.args.b) c.join.ensures.joined
