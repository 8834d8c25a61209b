-- The laws of histories, by induction over their events.
use Rattle.std.proofs.Common.{refl}
use Rattle.srs_tree.proofs.OnePlanLemmas.{one_plan, sound_at}
use Rattle.srs_tree.proofs.PartitionAll.{IsPartition-legal}
use Rattle.srs_tree.proofs.PlannedSteps.{outcome_of_event}
use Rattle.srs_tree.proofs.PlannedWhole.{IsWhole-planned, IsInRounds-planned}
use Rattle.srs_tree.proofs.StandsLemmas.{Stands-some, Stands-once, Stands-append}
use Rattle.srs_tree.proofs.QueueLemmas.{queue_open, done}
use Rattle.srs_tree.proofs.RoundQueue.{queue_in_order}
use Rattle.srs_tree.proofs.laws.histories.Goals as goal

pub returns : goal.returns
returns c = record {
  partition = IsPartition-legal;
  sound = λ Root W H e legal c. sound_at Root W H legal e.path e.outcome (outcome_of_event Root W H legal e c);
  one_plan = one_plan;
  stands = λ Root W H legal.
      let t = Stands-some Root W H legal in
      (t.0, t.1, λ w s. Stands-once Root H H w t.0 s t.1 (λ p. refl));
  grows = Stands-append;
  queue = queue_open;
  order = λ Root L H planned. (queue_in_order Root L H planned).order;
  ends = done;
  whole = λ Root L H planned each. (IsWhole-planned Root L H planned each, IsInRounds-planned Root L H planned);
}
