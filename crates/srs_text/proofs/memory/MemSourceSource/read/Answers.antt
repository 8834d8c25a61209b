use Rattle.std.proofs.Common.{◌≡◌, ◌<◌, ◌≤◌, ◌+◌, ◌-◌, [], List, ℕ, min, length, take, drop, ◌++◌, arith, ap, sym, refl, ◌∙◌, length-append, length-drop, length-take}
use Rattle.std.proofs.lemmas.List.{take-append-drop, take_at, drop-drop, drop_all}
use Rattle.std.proofs.lemmas.Slice.{between_to_end}
use Rattle.srs_text.proofs.memory.MemSourceSource.read.Goals as goal

module _ (left bytes slice copied into : List ℕ) (at n reach : ℕ)
    (view : drop at bytes ≡ left) (same : slice ≡ bytes) (within : at ≤ length bytes)
    (least : n ≡ min (length (take (length slice - at) (drop at slice))) reach) (short : reach ≤ length into) (some : 0 < length into → 0 < reach)
    (copy : copied ≡ take n (take (length slice - at) (drop at slice))) where
  part : take (length slice - at) (drop at slice) ≡ drop at bytes
  part = between_to_end slice at (length slice) (omega arith) ∙ ap (drop at) same

  copied_is : copied ≡ take n (drop at bytes)
  copied_is = copy ∙ ap (take n) part

  count : n ≡ min (length bytes - at) reach
  count = least ∙ ap (λ x. min (length x) reach) part ∙ ap (λ x. min x reach) (length-drop at bytes)

  -- The buffer begins with a front of what is left, and the rest of it is left.
  front : left ≡ take n (copied ++ drop n into) ++ drop (at + n) bytes
  front =
      let size : length copied ≡ n = omega (arith, count, ap length copied_is, length-take n (drop at bytes), length-drop at bytes) in
      sym view ∙ rw (take_at copied (drop n into) n size, copied_is, ← drop-drop n at bytes, take-append-drop n (drop at bytes)) refl

  end : n ≡ 0 → 0 < length (copied ++ drop n into) → drop (at + n) bytes ≡ []
  end zero room = drop_all (at + n) bytes (omega (arith, count, short, some, length-append copied (drop n into), ap length copied_is, length-take n (drop at bytes), length-drop n into))

pub returns-clause-bytes : goal.returns-clause-bytes
returns-clause-bytes c =
    let s = c.self.inside in
    let view : drop s.at s.bytes ≡ c.args.self.now.left = ap (λ r. r.left) c.self.view_is in
    let short : c.min-reach.result ≤ length c.args.into.now = omega (arith, c.min-reach.ensures) in
    let some : 0 < length c.args.into.now → 0 < c.min-reach.result = λ h. omega (arith, c.min-reach.ensures, c.self.invariant.1, h) in
    let a = front c.args.self.now.left s.bytes c.as_slice.result.now c.copy_from_slice.new.self c.args.into.now s.at c.min-count.result c.min-reach.result view c.as_slice.ensures c.self.invariant.0 c.min-count.ensures short some c.copy_from_slice.ensures.after in
    let b = end c.args.self.now.left s.bytes c.as_slice.result.now c.copy_from_slice.new.self c.args.into.now s.at c.min-count.result c.min-reach.result view c.as_slice.ensures c.self.invariant.0 c.min-count.ensures short some c.copy_from_slice.ensures.after in
    (a, b)
