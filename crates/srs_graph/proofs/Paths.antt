-- A path with one more visit.
use Rattle.std.proofs.Common.{◌≡◌, ◌≢◌, ℕ, ◌+◌, ◌<◌, List, [], ◌∷◌, ◌++◌, length, arith, ap, subst, sym, ◌∙◌, length-append}
use Rattle.std.proofs.Math.Decide.{dec_lt}
use Rattle.std.proofs.Math.Seq.{get_or-append_seam}
use Rattle.std.proofs.lemmas.List.{get_or_append_left}
use Rattle.srs_graph.specs.declared.rows.Row.{Row}
use Rattle.srs_graph.specs.declared.descent.Visit.{Visit}
use Rattle.srs_graph.specs.Descents.{visit_at, WaitsFor, TopWaitsFor, IsOnPath, IsOffPath}

module _ (path : List Visit) (v : Visit) where
  pub longer : length (path ++ v ∷ []) ≡ length path + 1
  longer = length-append path (v ∷ [])

  pub below : (k : ℕ) → k < length path → visit_at (path ++ v ∷ []) k ≡ visit_at path k
  below k h = get_or_append_left path (v ∷ []) (record { place = 0; next = 0; rank = 0 }) k h

  pub top : (k : ℕ) → k ≡ length path → visit_at (path ++ v ∷ []) k ≡ v
  top k e = ap (visit_at (path ++ v ∷ [])) e ∙ get_or-append_seam path v [] (record { place = 0; next = 0; rank = 0 })

  pub by_place : {P : Type 0} (k : ℕ) → k < length (path ++ v ∷ []) → (k < length path → P) → (k ≡ length path → P) → P
  by_place {P} k h f g = elim (dec_lt k (length path)) as (λ _. P) [ yes l ↦ f l | no l ↦ g (omega (arith, longer)) ]

  pub each_more : (P : Visit → Type 0) → ((k : ℕ) → k < length path → P (visit_at path k)) → P v → (k : ℕ) → k < length (path ++ v ∷ []) → P (visit_at (path ++ v ∷ []) k)
  each_more P a p k h = by_place k h (λ l. subst P (sym (below k l)) (a k l)) (λ e. subst P (sym (top k e)) p)

  pub each_less : (P : Visit → Type 0) → ((k : ℕ) → k < length (path ++ v ∷ []) → P (visit_at (path ++ v ∷ []) k)) → (k : ℕ) → k < length path → P (visit_at path k)
  each_less P a k h = subst P (below k h) (a k (omega (arith, longer)))

  pub top_of : (P : Visit → Type 0) → ((k : ℕ) → k < length (path ++ v ∷ []) → P (visit_at (path ++ v ∷ []) k)) → P v
  top_of P a = subst P (top (length path) (omega arith)) (a (length path) (omega (arith, longer)))

  pub on_more : (i : ℕ) → IsOnPath path i → IsOnPath (path ++ v ∷ []) i
  on_more i o = (o.0, omega (arith, o.1, longer), ap (λ (u : Visit). u.place) (below o.0 o.1) ∙ o.2)

  pub on_top : IsOnPath (path ++ v ∷ []) v.place
  on_top = (length path, omega (arith, longer), ap (λ (u : Visit). u.place) (top (length path) (omega arith)))

  pub waits_more : (rows : List Row) → ((k : ℕ) → k + 1 < length path → WaitsFor rows (visit_at path k) (visit_at path (k + 1)).place) → TopWaitsFor rows path v.place
      → (k : ℕ) → k + 1 < length (path ++ v ∷ []) → WaitsFor rows (visit_at (path ++ v ∷ []) k) (visit_at (path ++ v ∷ []) (k + 1)).place
  waits_more rows a t k h =
      let l : k < length path = omega (arith, longer, h) in
      subst (λ (u : Visit). WaitsFor rows u (visit_at (path ++ v ∷ []) (k + 1)).place) (sym (below k l))
      (by_place (k + 1) h
      (λ m. subst (λ (u : Visit). WaitsFor rows (visit_at path k) u.place) (sym (below (k + 1) m)) (a k m))
      (λ e. subst (λ (u : Visit). WaitsFor rows (visit_at path k) u.place) (sym (top (k + 1) e)) (t k e)))

  pub waits_less : (rows : List Row) → ((k : ℕ) → k + 1 < length (path ++ v ∷ []) → WaitsFor rows (visit_at (path ++ v ∷ []) k) (visit_at (path ++ v ∷ []) (k + 1)).place)
      → (k : ℕ) → k + 1 < length path → WaitsFor rows (visit_at path k) (visit_at path (k + 1)).place
  waits_less rows a k h =
      subst (λ (u : Visit). WaitsFor rows u (visit_at path (k + 1)).place) (below k (omega arith))
      (subst (λ (u : Visit). WaitsFor rows (visit_at (path ++ v ∷ []) k) u.place) (below (k + 1) h) (a k (omega (arith, longer))))

  pub waits_top : (rows : List Row) → ((k : ℕ) → k + 1 < length (path ++ v ∷ []) → WaitsFor rows (visit_at (path ++ v ∷ []) k) (visit_at (path ++ v ∷ []) (k + 1)).place) → TopWaitsFor rows path v.place
  waits_top rows a k e =
      subst (λ (u : Visit). WaitsFor rows u v.place) (below k (omega arith))
      (subst (λ (u : Visit). WaitsFor rows (visit_at (path ++ v ∷ []) k) u.place) (top (k + 1) e) (a k (omega (arith, longer))))

  pub apart_more : ((j k : ℕ) → j < k → k < length path → (visit_at path j).place ≢ (visit_at path k).place) → IsOffPath path v.place
      → (j k : ℕ) → j < k → k < length (path ++ v ∷ []) → (visit_at (path ++ v ∷ []) j).place ≢ (visit_at (path ++ v ∷ []) k).place
  apart_more a f j k l h =
      let b : j < length path = omega (arith, longer, h) in
      subst (λ (u : Visit). u.place ≢ (visit_at (path ++ v ∷ []) k).place) (sym (below j b))
      (by_place k h
      (λ m. subst (λ (u : Visit). (visit_at path j).place ≢ u.place) (sym (below k m)) (a j k l m))
      (λ e. subst (λ (u : Visit). (visit_at path j).place ≢ u.place) (sym (top k e)) (f j b)))

  pub apart_less : ((j k : ℕ) → j < k → k < length (path ++ v ∷ []) → (visit_at (path ++ v ∷ []) j).place ≢ (visit_at (path ++ v ∷ []) k).place)
      → (j k : ℕ) → j < k → k < length path → (visit_at path j).place ≢ (visit_at path k).place
  apart_less a j k l h =
      subst (λ (u : Visit). u.place ≢ (visit_at path k).place) (below j (omega arith))
      (subst (λ (u : Visit). (visit_at (path ++ v ∷ []) j).place ≢ u.place) (below k h) (a j k l (omega (arith, longer))))

  pub apart_top : ((j k : ℕ) → j < k → k < length (path ++ v ∷ []) → (visit_at (path ++ v ∷ []) j).place ≢ (visit_at (path ++ v ∷ []) k).place) → IsOffPath path v.place
  apart_top a j h =
      subst (λ (u : Visit). u.place ≢ v.place) (below j h)
      (subst (λ (u : Visit). (visit_at (path ++ v ∷ []) j).place ≢ u.place) (top (length path) (omega arith)) (a j (length path) h (omega (arith, longer))))
