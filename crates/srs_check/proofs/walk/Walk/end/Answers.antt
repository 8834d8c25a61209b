use Rattle.std.proofs.Common.{Some, None, sym, subst}
use Rattle.srs_path.specs.Views.{Budget}
use Rattle.srs_check.specs.Walks.{IsFirstUnspent}
use Rattle.srs_check.proofs.Walking.{counted, bad_left, bad_node, valid, certified}
use Rattle.srs_check.proofs.walk.Walk.end.Goals as goal

pub returns-in-Some : goal.returns-in-Some
returns-in-Some c = record {
  checked = λ d is limits s.
      let first = c.in-Some.ensures d.events (counted d is c.args.self s) in
      (bad_left d is c.args.self s c.in-Some.line (subst (λ (L : Budget). IsFirstUnspent L d.events c.args.self.left 49 (Some c.in-Some.line)) (sym limits) first), tt);
}

pub returns-in-Some-failed : goal.returns-in-Some-failed
returns-in-Some-failed c = record {
  checked = λ d is limits s.
      let first = c.in_default.ensures d.events (counted d is c.args.self s) in
      let none = subst (λ (L : Budget). IsFirstUnspent L d.events c.args.self.left 49 None) (sym limits) first in
      (bad_node d is c.args.self s none c.in-Some-failed.line c.in-Some-failed.fault c.in-Some-failed.is, tt);
}

pub returns : goal.returns
returns c = record {
  checked = λ d is limits s.
      let first = c.in_default.ensures d.events (counted d is c.args.self s) in
      let none = subst (λ (L : Budget). IsFirstUnspent L d.events c.args.self.left 49 None) (sym limits) first in
      (valid d is c.args.self s none c.in-None.is, certified d is c.args.self s none c.in-None.is);
}
