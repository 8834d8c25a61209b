-- None of the first events was left for want of memory.
use Rattle.std.proofs.Common.{◌≡◌, ◌≢◌, ℕ, ◌<◌, Some, slice_get}
use Rattle.srs_path.specs.declared.outcomes.Outcome.TheVariants.{Left}
use Rattle.srs_path.specs.declared.outcomes.Cause.TheVariants.{Memory}
use Rattle.srs_path.specs.Views.{Entry}
use Rattle.srs_tool.proofs.bench.lacks_memory.Given as goal

abbrev pub invariant-loop-i : goal.invariant-loop-i
invariant-loop-i l =
    (k : ℕ) → k < l.i → (e : Entry) → slice_get l.events k ≡ Some e → e.outcome ≢ Left Memory
