use Rattle.std.proofs.Common.{◌≡◌, ◌+◌, ◌++◌, ◌∷◌, [], ℕ, length, set, arith, refl, sym, ap, ◌∙◌, length-append, append-nil, rules, List}
use Rattle.std.proofs.lemmas.Grind.{common_steps}
use Rattle.srs_num.specs.Points.{LinearForm}
use Rattle.srs_path.specs.declared.outcomes.Outcome.TheVariants.{Cut}
use Rattle.srs_path.specs.Views.{Entry}
use Rattle.srs_cert.proofs.LtParts.{parts_start, parts_cut, parts_leaf, parts_last, parts_end, top_below}
use Rattle.srs_cert.proofs.certificates.lt_parts_of.Goals as goal
use Rattle.srs_cert.proofs.certificates.lt_parts_of.Goals.{then-is_cut+else-is_err-2, else-is_cut+in-Some, else-is_cut+in_default}

empty_is : (xs : List ℕ) → length xs ≡ 0 → xs ≡ []
empty_is [] e = refl
empty_is (x ∷ xs) e = absurd (omega arith)

pub loop-i-init : goal.loop-i-init
loop-i-init c = rw (c.in_ok-places.ensures.items, c.new-open.ensures.items) (parts_start c.args.events.now c.requires.tree)

pub index_mut-requires : goal.index_mut-requires
index_mut-requires c =
    let popped : c.loop-i.open.items ≡ c.pop.new.self.items ++ c.in-Some.cut ∷ [] = c.in-Some.ensures.items in
    let below = top_below c.args.events.now c.loop-i.places.items c.loop-i.open.items c.pop.new.self.items c.loop-i.i c.in-Some.cut c.loop-i.invariant popped in
    let grown : c.push.new.self.items ≡ c.loop-i.places.items ++ 0 ∷ [] = grind (arith, common_steps) in
    omega (arith, below, c.loop-i.invariant.count, ap length grown, length-append c.loop-i.places.items (0 ∷ []), c.push.new.self.ok.0)

pub loop-i-preserved : goal.loop-i-preserved
loop-i-preserved c =
    let e : Entry = c.get.result.now in
    let outcome : c.deref.result.now ≡ e.outcome = rw (← c.behind-events.view_is) c.deref.ensures in
    let grown : c.push.new.self.items ≡ c.loop-i.places.items ++ 0 ∷ [] = grind (arith, common_steps) in
    let H = c.args.events.now in
    let i = c.loop-i.i in
    elim c.if-is_cut.branch [
      | then-is_cut+else-is_err-2 w ↦
          let cut = w.if-is_cut.ensures.yes (search rules) in
          let pushed : w.push-then-is_cut.new.self.items ≡ c.loop-i.open.items ++ i ∷ [] = grind (arith, common_steps) in
          rw (w.places-is, w.open-is) (parts_cut H c.loop-i.places.items c.loop-i.open.items c.push.new.self.items w.push-then-is_cut.new.self.items i e cut.0 c.loop-i.invariant c.get.ensures (sym outcome ∙ cut.1) grown pushed)
      | else-is_cut+in-Some w ↦
          let leaf = λ (h : LinearForm) (q : e.outcome ≡ Cut h). w.if-is_cut.ensures.no (search rules) h (outcome ∙ q) in
          let popped : c.loop-i.open.items ≡ w.pop.new.self.items ++ w.in-Some.cut ∷ [] = w.in-Some.ensures.items in
          let written : c.if-is_cut.places.items ≡ set (c.loop-i.places.items ++ 0 ∷ []) w.in-Some.cut (i + 1) = grind (arith, common_steps) in
          rw w.open-is (parts_leaf H c.loop-i.places.items c.loop-i.open.items c.if-is_cut.places.items w.pop.new.self.items i w.in-Some.cut e c.loop-i.invariant c.get.ensures leaf popped written)
      | else-is_cut+in_default w ↦
          let leaf = λ (h : LinearForm) (q : e.outcome ≡ Cut h). w.if-is_cut.ensures.no (search rules) h (outcome ∙ q) in
          let same : c.loop-i.open.items ≡ w.pop.new.self.items = w.in_default.ensures.items ∙ append-nil w.pop.new.self.items in
          let empty : c.loop-i.open.items ≡ [] = empty_is c.loop-i.open.items (omega (arith, w.in_default.ensures.cases, c.loop-i.open.ok.0)) in
          rw (w.places-is, w.open-is, ← same) (parts_last H c.loop-i.places.items c.loop-i.open.items c.push.new.self.items i e c.loop-i.invariant c.get.ensures leaf grown empty)
    ]

pub returns : goal.returns
returns c = parts_end c.args.events.now c.loop-i.places.items c.loop-i.open.items c.loop-i.i c.loop-i.invariant (omega arith)
