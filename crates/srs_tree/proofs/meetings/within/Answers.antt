-- One half more.
use Rattle.std.proofs.Common.{◌≡◌, Bool, ◌+◌, ◌≤◌, length, take, sym, ap, subst, ◌∙◌, arith, Some, None}
use Rattle.std.specs.Prelude.{◌||◌, IfSome}
use Rattle.std.specs.declared.option.Option.{Option}
use Rattle.srs_plane.specs.Regions.{Area, IsIn, IsInHalf}
use Rattle.srs_tree.specs.Clips.{IsClip}
use Rattle.srs_tree.proofs.Clipping.{clip_next, clip_none}
use Rattle.srs_tree.proofs.meetings.within.Goals as goal
use Rattle.srs_tree.proofs.meetings.within.Goals.{then-beyond, else-beyond}

pub returns-in-None-clause-clip : goal.returns-in-None-clause-clip
returns-in-None-clause-clip c =
    let d = c.in_ok-clip.clip.beyond in
    let either : c.if-beyond.beyond ≡ c.loop-i.beyond || d = elim c.if-beyond.branch [
      | then-beyond w ↦ w.beyond-is ∙ w.if-beyond.true ∙ sym (ap (λ (b : Bool). b || d) w.if-beyond.true)
      | else-beyond w ↦ w.beyond-is ∙ sym (ap (λ (b : Bool). b || d) w.if-beyond.false)
    ] in
    let new : IsClip c.loop-i.inside (IsInHalf c.half.result) (record { inside = None; beyond = d })
    = subst (λ (o : Option Area). IsClip c.loop-i.inside (IsInHalf c.half.result) (record { inside = o; beyond = d })) c.in-None.is c.in_ok-clip.ensures.clip in
    let next : IsClip c.args.q.now (IsIn (take (c.loop-i.i + 1) c.args.root.now)) (record { inside = None; beyond = c.loop-i.beyond || d })
    = clip_next c.args.q.now c.args.root.now c.loop-i.i c.half.result c.half.ensures c.loop-i.inside c.loop-i.beyond None d c.loop-i.invariant.clip new in
    subst (λ (b : Bool). IsClip c.args.q.now (IsIn c.args.root.now) (record { inside = None; beyond = b })) (sym either)
    (clip_none c.args.q.now c.args.root.now (c.loop-i.i + 1) (c.loop-i.beyond || d) next)

pub loop-i-preserved : goal.loop-i-preserved
loop-i-preserved c =
    let d = c.in_ok-clip.clip.beyond in
    let either : c.if-beyond.beyond ≡ c.loop-i.beyond || d = elim c.if-beyond.branch [
      | then-beyond w ↦ w.beyond-is ∙ w.if-beyond.true ∙ sym (ap (λ (b : Bool). b || d) w.if-beyond.true)
      | else-beyond w ↦ w.beyond-is ∙ sym (ap (λ (b : Bool). b || d) w.if-beyond.false)
    ] in
    let new : IsClip c.loop-i.inside (IsInHalf c.half.result) (record { inside = Some c.in-Some.cell; beyond = d })
    = subst (λ (o : Option Area). IsClip c.loop-i.inside (IsInHalf c.half.result) (record { inside = o; beyond = d })) c.in-Some.is c.in_ok-clip.ensures.clip in
    let next : IsClip c.args.q.now (IsIn (take (c.loop-i.i + 1) c.args.root.now)) (record { inside = Some c.in-Some.cell; beyond = c.loop-i.beyond || d })
    = clip_next c.args.q.now c.args.root.now c.loop-i.i c.half.result c.half.ensures c.loop-i.inside c.loop-i.beyond (Some c.in-Some.cell) d c.loop-i.invariant.clip new in
    let more : length c.in-Some.cell ≤ length c.loop-i.inside + 1
    = subst (λ (o : Option Area). IfSome o (λ cell. length cell ≤ length c.loop-i.inside + 1)) c.in-Some.is c.in_ok-clip.ensures.halves in
    let old = c.loop-i.invariant.few in
    let same = sym c.in-Some.cell-is in
    record {
      clip = subst (λ (I : Area). IsClip c.args.q.now (IsIn (take (c.loop-i.i + 1) c.args.root.now)) (record { inside = Some I; beyond = c.if-beyond.beyond })) same
          (subst (λ (b : Bool). IsClip c.args.q.now (IsIn (take (c.loop-i.i + 1) c.args.root.now)) (record { inside = Some c.in-Some.cell; beyond = b })) (sym either) next);
      few = subst (λ (I : Area). length I ≤ length c.args.q.now + (c.loop-i.i + 1)) same (omega (arith, more, old));
    }
