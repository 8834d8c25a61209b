-- A snapshot stands for each legal history, and one only.
use Rattle.std.proofs.Common.{◌≡◌, ℕ, ◌+◌, Bool, true, false, cond, List, [], ◌∷◌, ◌++◌, length, length-append, refl, sym, ap, ap₂, ◌∙◌, arith}
use Rattle.std.specs.Prelude.{is_some}
use Rattle.std.specs.Cmp.{IsTotalOrder}
use Rattle.std.specs.Cmp.Lexicographic.{slice_cmp}
use Rattle.std.specs.Ordering.{eq_by_cmp, ordering_reverse}
use Rattle.std.proofs.lemmas.Cmp.{lists_total}
use Rattle.std.specs.FinMap as map
use Rattle.std.specs.declared.cmp.Ordering.{Ordering}
use Rattle.std.specs.declared.cmp.Ordering.TheVariants.{Less, Equal, Greater}
use Rattle.std.specs.declared.option.Option.{Option}
use Rattle.std.specs.declared.option.Option.TheVariants.{Some, None}
use Rattle.srs_plane.specs.Regions.{Area}
use Rattle.srs_path.specs.declared.paths.Side.{Side}
use Rattle.srs_path.specs.declared.paths.Side.TheVariants.{Ge, Lt}
use Rattle.srs_path.specs.declared.outcomes.Outcome.{Outcome}
use Rattle.srs_path.specs.Views.{Entry}
use Rattle.srs_tree.specs.Tree.{History, path_eq, outcome_at}
use Rattle.srs_tree.specs.Legality.{MayFollow, IsLegal}
use Rattle.srs_tree.specs.Snapshots.{Snapshot, side_cmp, StandsFor}
use Rattle.srs_tree.proofs.HistoryLemmas.{same_path, or_else, outcome_at-append}
use Rattle.srs_tree.proofs.Grow.{grow}

less_equal : ◌≡◌ {A = Ordering} Less Equal → ⊥
less_equal e = cc

greater_equal : ◌≡◌ {A = Ordering} Greater Equal → ⊥
greater_equal e = cc

greater_less : ◌≡◌ {A = Ordering} Greater Less → ⊥
greater_less e = cc

pub side_total : IsTotalOrder side_cmp
side_total = record { antisymm = antisymm; trans = trans; congr = congr }
  where
    antisymm : (x y : Side) → side_cmp x y ≡ ordering_reverse (side_cmp y x)
    antisymm Ge Ge = refl
    antisymm Ge Lt = refl
    antisymm Lt Ge = refl
    antisymm Lt Lt = refl

    trans : (x y z : Side) → side_cmp x y ≡ Less → side_cmp y z ≡ Less → side_cmp x z ≡ Less
    trans Ge Ge z e f = f
    trans Ge Lt Ge e f = absurd (greater_less f)
    trans Ge Lt Lt e f = e
    trans Lt Ge z e f = absurd (greater_less e)
    trans Lt Lt z e f = f

    congr : (x y z : Side) → side_cmp x y ≡ Equal → side_cmp x z ≡ side_cmp y z
    congr Ge Ge z e = refl
    congr Ge Lt z e = absurd (less_equal e)
    congr Lt Ge z e = absurd (greater_equal e)
    congr Lt Lt z e = refl

side_same : map.IsAntisymmetric side_cmp
side_same Ge Ge e = refl
side_same Ge Lt e = absurd (less_equal e)
side_same Lt Ge e = absurd (greater_equal e)
side_same Lt Lt e = refl

pub path_same : map.IsAntisymmetric (slice_cmp side_cmp)
path_same = map.slice_cmp-IsAntisymmetric side_same

pub path_total : IsTotalOrder (slice_cmp side_cmp)
path_total = lists_total side_total

-- paths tie where they are equal
pub ties : (p q : List Side) → eq_by_cmp (slice_cmp side_cmp) p q ≡ path_eq q p
ties [] [] = refl
ties [] (t ∷ q) = refl
ties (s ∷ p) [] = refl
ties (Ge ∷ p) (Ge ∷ q) = ties p q
ties (Ge ∷ p) (Lt ∷ q) = refl
ties (Lt ∷ p) (Ge ∷ q) = refl
ties (Lt ∷ p) (Lt ∷ q) = ties p q

or_none : (x : Option Outcome) → or_else x None ≡ x
or_none None = refl
or_none (Some o) = refl

pub Stands-empty : (Root : Area) → StandsFor Root [] (record { region = Root; entries = map.empty })
Stands-empty Root = record { region = refl; entries = λ p. map.get-empty (slice_cmp side_cmp) p; count = map.len-empty (slice_cmp side_cmp) Outcome }

-- a snapshot with one entry_at more stands for one event more
pub Stands-append : (Root : Area) (H : History) (v : Snapshot) (e : Entry) → StandsFor Root H v → outcome_at H e.path ≡ None → StandsFor Root (H ++ e ∷ []) (record { region = v.region; entries = map.insert v.entries e.path e.outcome })
Stands-append Root H v e old fresh = record { region = old.region; entries = entries; count = count }
  where
    by_case : (b : Bool) (x : Option Outcome) → (b ≡ true → x ≡ None) → cond b (Some e.outcome) x ≡ or_else x (cond b (Some e.outcome) None)
    by_case true x f = ap (λ (y : Option Outcome). or_else y (Some e.outcome)) (sym (f refl))
    by_case false x f = sym (or_none x)

    entries : (p : List Side) → map.get (map.insert v.entries e.path e.outcome) p ≡ outcome_at (H ++ e ∷ []) p
    entries p =
        map.get-insert path_total v.entries e.path e.outcome p
        ∙ ap₂ (λ (b : Bool) (x : Option Outcome). cond b (Some e.outcome) x) (ties p e.path) (old.entries p)
        ∙ by_case (path_eq e.path p) (outcome_at H p) (λ m. ap (outcome_at H) (sym (same_path e.path p m)) ∙ fresh)
        ∙ sym (outcome_at-append H (e ∷ []) p)

    count : map.len (map.insert v.entries e.path e.outcome) ≡ length (H ++ e ∷ [])
    count =
        let a : map.len (map.insert v.entries e.path e.outcome) ≡ map.len v.entries + 1 =
        map.len-insert path_total v.entries e.path e.outcome ∙ ap (λ (x : Option Outcome). cond (is_some x) (map.len v.entries) (map.len v.entries + 1)) (old.entries e.path ∙ fresh) in
        let b = old.count in
        omega (arith, a, b, length-append H (e ∷ []))

-- two snapshots of histories with the same outcomes are equal
pub Stands-once : (Root : Area) (G H : History) (v w : Snapshot) → StandsFor Root G v → StandsFor Root H w → ((p : List Side) → outcome_at G p ≡ outcome_at H p) → v ≡ w
Stands-once Root G H v w a b same =
    let m : v.entries ≡ w.entries = map.same_map path_total (map.slice_cmp-IsAntisymmetric side_same) v.entries w.entries (λ p. a.entries p ∙ same p ∙ sym (b.entries p)) in
    let r : v.region ≡ w.region = a.region ∙ sym b.region in
    λ i. record { region = r i; entries = m i }

record Standing (Root : Area) (H : History) : Type 0 where
  v : Snapshot
  stands : StandsFor Root H v

pub Stands-some : (Root : Area) (W : ℕ) (H : History) → IsLegal Root W H → (v : Snapshot) × StandsFor Root H v
Stands-some Root W H legal =
    let s : Standing Root H = grow (MayFollow Root W) (Standing Root) (record { v = record { region = Root; entries = map.empty }; stands = Stands-empty Root })
    (λ G e old may. record { v = record { region = old.v.region; entries = map.insert old.v.entries e.path e.outcome }; stands = Stands-append Root G old.v e old.stands may.fresh }) H legal in
    (s.v, s.stands)
