-- At the start of a round: the cells of the round are those that wait, and no cell is deeper.
use Rattle.std.proofs.Common.{◌≡◌, ◌≢◌, inl, inr, ℕ, suc, ◌<◌, ◌≤◌, Bool, true, false, not, cond, List, [], ◌∷◌, ◌++◌, length, length-append, refl, sym, ap, subst, ◌∙◌, arith}
use Rattle.std.specs.Prelude.{◌==◌, nat_le, Contains}
use Rattle.std.specs.List.{AllPairs, filter}
use Rattle.std.proofs.lemmas.Bool.Decides.{nat_tests, Decides-eqb}
use Rattle.std.specs.declared.option.Option.TheVariants.{Some}
use Rattle.srs_plane.specs.Regions.{Area}
use Rattle.srs_path.specs.declared.paths.Side.{Side}
use Rattle.srs_path.specs.declared.outcomes.Outcome.{Outcome}
use Rattle.srs_path.specs.declared.outcomes.Outcome.TheVariants.{Cut}
use Rattle.srs_path.specs.Views.{Entry}
use Rattle.srs_tree.specs.Tree.{History, path_eq, outcome_at, IsCellOf}
use Rattle.srs_tree.specs.Legality.{IsLegal}
use Rattle.srs_tree.specs.Rounds.{parts_by, cells_of, upto, row_of}
use Rattle.srs_tree.specs.Queue.{queue_of}
use Rattle.srs_tree.proofs.HistoryLemmas.{path_eq_same, same_path}
use Rattle.srs_tree.proofs.CellsLemmas.{cells_are}
use Rattle.srs_tree.proofs.OnePlanLemmas.{count_same, has_event}
use Rattle.srs_tree.proofs.QueueLemmas.{queue-append, queue_is, none_or}
use Rattle.srs_tree.proofs.Bounded.{count_all}

le_true : (a k : ℕ) → a ≤ k → nat_le a k ≡ true
le_true a k l = grind (arith, nat_tests)

module _ (Root : Area) (W : ℕ) (H : History) (k : ℕ) (legal : IsLegal Root W H) (above : (e : Entry) → Contains H e → length e.path < k) where
  -- a path that has an outcome is shorter than k
  pub shorter : (p : List Side) (o : Outcome) → outcome_at H p ≡ Some o → length p < k
  shorter p o e = above (record { path = p; outcome = o }) (has_event H p o e)

  -- no cell is deeper than k
  pub not_deeper : (p : List Side) → IsCellOf (outcome_at H) p → length p ≤ k
  not_deeper p (inl e) = omega (arith, ap length e)
  not_deeper p (inr c) = omega (arith, ap length c.is, length-append c.parent (c.side ∷ []), shorter c.parent (Cut c.form) c.cut)

  pub upto_all : upto H k ≡ length (cells_of H)
  upto_all = count_all (λ (p : List Side). nat_le (length p) k) (cells_of H) (λ p c. le_true (length p) k (not_deeper p ((cells_are Root W H legal).to p c)))

  -- where those that wait have paths of length k, they are the cells of round k
  pub row_waits : ((p : List Side) → Contains (queue_of H) p → length p ≡ k) → row_of H k ≡ length (queue_of H)
  row_waits deep =
      count_same (λ (p : List Side). length p == k) (cells_of H) (queue_of H) forth back (cells_are Root W H legal).once (queue_is Root W H legal).once
      ∙ count_all (λ (p : List Side). length p == k) (queue_of H) (λ p c. (Decides-eqb (length p) k).1 (deep p c))
    where
      forth : (p : List Side) → (length p == k) ≡ true → Contains (cells_of H) p → Contains (queue_of H) p
      forth p t c =
          let same : length p ≡ k = (Decides-eqb (length p) k).0 t in
          (queue_is Root W H legal).from p ((cells_are Root W H legal).to p c) (none_or (outcome_at H p) (λ o e. let l = shorter p o e in absurd (omega (arith, l, same))))

      back : (p : List Side) → (length p == k) ≡ true → Contains (queue_of H) p → Contains (cells_of H) p
      back p t c = (cells_are Root W H legal).from p ((queue_is Root W H legal).to p c).0

all_kept : (test : List Side → Bool) (xs : List (List Side)) → ((x : List Side) → Contains xs x → test x ≡ true) → filter test xs ≡ xs
all_kept test [] h = refl
all_kept test (x ∷ xs) h =
    let rest : filter test xs ≡ xs = all_kept test xs (λ y c. h y (let l = c.1 in (suc c.0, omega arith, c.2))) in
    ap (λ (b : Bool). cond b (x ∷ filter test xs) (filter test xs)) (h x (0, omega arith, refl)) ∙ ap (λ (ys : List (List Side)). x ∷ ys) rest

-- the event of the first cell that waits takes it out, and appends its parts
pub queue_pops : (Root : Area) (W : ℕ) (H : History) (e : Entry) (rest : List (List Side)) → IsLegal Root W H → queue_of H ≡ e.path ∷ rest → queue_of (H ++ e ∷ []) ≡ rest ++ parts_by e.path e.outcome
queue_pops Root W H e rest legal is =
    queue-append H e
    ∙ ap (λ (xs : List (List Side)). filter other xs ++ parts_by e.path e.outcome) is
    ∙ ap (λ (b : Bool). cond (not b) (e.path ∷ filter other rest) (filter other rest) ++ parts_by e.path e.outcome) (path_eq_same e.path)
    ∙ ap (λ (xs : List (List Side)). xs ++ parts_by e.path e.outcome) (all_kept other rest apart)
  where
    other : List Side → Bool
    other path = not (path_eq e.path path)

    once : AllPairs ◌≢◌ (e.path ∷ rest)
    once = subst (AllPairs ◌≢◌) is (queue_is Root W H legal).once

    differs : (q : List Side) → (e.path ≡ q → ⊥) → (b : Bool) → path_eq e.path q ≡ b → not b ≡ true
    differs q n true t = absurd (n (same_path e.path q t))
    differs q n false t = refl

    apart : (q : List Side) → Contains rest q → other q ≡ true
    apart q c = let l = c.1 in differs q (λ same. once 0 (suc c.0) q (omega arith) (omega arith) (same ∙ sym c.2)) (path_eq e.path q) refl
