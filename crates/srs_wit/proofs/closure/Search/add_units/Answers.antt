use Rattle.std.proofs.Common.{◌≡◌, List, [], ◌++◌, ap₂, arith}
use Rattle.srs_num.specs.declared.pairs.V2.{V2}
use Rattle.srs_wit.proofs.Adding.{units_2, has_units, few_units, on_ok}
use Rattle.srs_wit.specs.PairSets.{all_of}
use Rattle.srs_wit.proofs.closure.Search.add_units.Goals as goal

none : {followed waiting : List V2} → followed ≡ [] → waiting ≡ [] → followed ++ waiting ≡ []
none e f = ap₂ (λ (x y : List V2). x ++ y) e f

pub within-requires : goal.within-requires
within-requires c =
    let s = c.args.self.now in
    let t = c.add.new.self in
    let u = c.add-2.new.self in
    let few = few_units (all_of s.found) (all_of t.found) (all_of u.found) s.origin t.origin u.origin s.found.waiting t.found.waiting u.found.waiting (none c.requires.followed c.requires.waiting) c.requires.origin c.requires.waiting
    c.in-Ok.ensures c.in-Ok-add.ensures in
    omega (arith, few)

pub returns-clause-found : goal.returns-clause-found
returns-clause-found c R =
    let s = c.args.self.now in
    let t = c.add.new.self in
    let u = c.add-2.new.self in
    on_ok c.within.result _ (units_2 (all_of s.found) (all_of t.found) (all_of u.found) s.origin t.origin u.origin s.found.waiting t.found.waiting u.found.waiting (none c.requires.followed c.requires.waiting) c.requires.origin c.requires.waiting
    c.in-Ok.ensures c.in-Ok-add.ensures R)

pub returns-clause-units : goal.returns-clause-units
returns-clause-units c =
    let s = c.args.self.now in
    let t = c.add.new.self in
    let u = c.add-2.new.self in
    on_ok c.within.result _ (has_units (all_of s.found) (all_of t.found) (all_of u.found) s.origin t.origin u.origin s.found.waiting t.found.waiting u.found.waiting (none c.requires.followed c.requires.waiting) c.requires.origin c.requires.waiting
    c.in-Ok.ensures c.in-Ok-add.ensures)

pub returns-clause-stop : goal.returns-clause-stop
returns-clause-stop c R =
    let s = c.args.self.now in
    let t = c.add.new.self in
    let u = c.add-2.new.self in
    c.within.ensures.stop R (units_2 (all_of s.found) (all_of t.found) (all_of u.found) s.origin t.origin u.origin s.found.waiting t.found.waiting u.found.waiting (none c.requires.followed c.requires.waiting) c.requires.origin c.requires.waiting
    c.in-Ok.ensures c.in-Ok-add.ensures R).half
