-- One event more.
use Rattle.std.proofs.Common.{◌≡◌, ◌≢◌, ℕ, Some, slice_get, sym, ap, ◌∙◌, arith, below_more}
use Rattle.std.proofs.lemmas.Bool.{false≢true}
use Rattle.std.proofs.lemmas.Option.{same_Some, slice_get-get_or}
use Rattle.srs_path.specs.declared.outcomes.Outcome.TheVariants.{Left}
use Rattle.srs_path.specs.declared.outcomes.Cause.TheVariants.{Memory}
use Rattle.srs_path.specs.Views.{Entry}
use Rattle.srs_tool.proofs.bench.lacks_memory.Goals as goal

pub loop-i-preserved : goal.loop-i-preserved
loop-i-preserved c =
    let f : Entry = c.get.result.now in
    let outcome : c.deref.result.now ≡ f.outcome = rw (← c.behind-events.view_is) c.deref.ensures in
    let Fine : ℕ → Type 0 =
    λ k. (e : Entry) → slice_get c.args.events.now k ≡ Some e → e.outcome ≢ Left Memory in
    below_more Fine c.loop-i.i c.loop-i.invariant
    (λ e at left. false≢true (c.if-is_lack.ensures.1
    (outcome ∙ ap (λ (x : Entry). x.outcome) (same_Some f e (sym c.get.ensures ∙ at)) ∙ left)))

pub returns : goal.returns
returns c =
    λ no e (k, l, q). c.loop-i.invariant k (omega (arith, l)) e
    (slice_get-get_or c.args.events.now k e l ∙ ap (λ (x : Entry). Some x) q)
