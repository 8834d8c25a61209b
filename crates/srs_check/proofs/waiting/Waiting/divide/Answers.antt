use Rattle.std.proofs.Common.{◌∷◌, sym, subst, ap, ◌∙◌}
use Rattle.srs_check.proofs.Stacked.{ShowsAll, shown, shows_rest, shows_more}
use Rattle.srs_check.proofs.waiting.Waiting.divide.Given.{Over}
use Rattle.srs_check.proofs.waiting.Waiting.divide.Goals as goal
use Rattle.srs_check.proofs.waiting.Waiting.divide.Goals.{in-Some, in_default}

-- before the second part is put there, the places show all cells
all_shown : (g : Over) (c : goal.Joined-self g) → ShowsAll c.match-take.self-inside.later.items c.match-take.self-inside.later.capacity c.args.self.now
all_shown g c = elim c.match-take.branch [
  | in-Some w ↦
      subst (λ x. ShowsAll x.later.items x.later.capacity c.args.self.now) (sym w.self-inside-is)
      (shows_more c.self.inside.next c.self.inside.later.items c.self.inside.later.capacity c.args.self.now c.self.view_is c.self.invariant c.requires w.in-Some.cell
      w.push.new.cells.items w.push.new.cells.capacity (sym c.take.ensures.value ∙ w.in-Some.is) w.push.ensures)
  | in_default w ↦
      subst (λ x. ShowsAll x.later.items x.later.capacity c.args.self.now) (sym w.self-inside-is)
      (shows_rest c.self.inside.next c.self.inside.later.items c.self.inside.later.capacity c.args.self.now c.self.view_is c.self.invariant c.requires (sym c.take.ensures.value ∙ w.in_default.is))
]

pub invariant_of-self : goal.invariant_of-self
invariant_of-self g c = let all = all_shown g c in (c.push-2.ensures all.kept all.few).kept

pub returns : goal.returns
returns g c =
    let all = all_shown g c in
    let places = c.match-take.self-inside.later.items in
    ap (λ xs. c.args.ge ∷ xs) (shown places c.push-2.new.cells.items c.args.lt (c.push-2.ensures all.kept all.few).items ∙ ap (λ xs. c.args.lt ∷ xs) all.shows)
