-- Induction over the events of a history.
use Rattle.std.proofs.Common.{◌≡◌, ℕ, zero, suc, [], ◌∷◌, ◌++◌, ◌<◌, take, drop, length, slice_get, refl, sym, ap, subst, append_assoc, append-nil, arith}
use Rattle.std.proofs.lemmas.Option.{none-some, same_Some, slice_get_within}
use Rattle.std.proofs.lemmas.List.{take-append-le}
use Rattle.std.specs.declared.option.Option.TheVariants.{Some}
use Rattle.srs_path.specs.Views.{Entry}
use Rattle.srs_tree.specs.Tree.{History}

-- each event has Q together with the events before it
abbrev pub Each : (History → Entry → Type 0) → History → Type 0
Each Q H = (k : ℕ) (e : Entry) → slice_get H k ≡ Some e → Q (take k H) e

pub event_here : (G K : History) (e : Entry) → (slice_get (G ++ e ∷ K) (length G) ≡ Some e) × (take (length G) (G ++ e ∷ K) ≡ G)
event_here [] K e = (refl, refl)
event_here (x ∷ G) K e = let t = event_here G K e in (t.0, ap (λ (u : History). x ∷ u) t.1)

pub event_follows : (Q : History → Entry → Type 0) (G K : History) (e : Entry) → Each Q (G ++ e ∷ K) → Q G e
event_follows Q G K e each = let t = event_here G K e in subst (λ (u : History). Q u e) t.1 (each (length G) e t.0)

grow_by : (Q : History → Entry → Type 0) (P : History → Type 0) → ((G : History) (e : Entry) → P G → Q G e → P (G ++ e ∷ [])) → (G K : History) → P G → Each Q (G ++ K) → P (G ++ K)
grow_by Q P step G [] p each = subst P (sym (append-nil G)) p
grow_by Q P step G (e ∷ K) p each =
    let same : (G ++ e ∷ []) ++ K ≡ G ++ e ∷ K = append_assoc G (e ∷ []) K in
    subst P same (grow_by Q P step (G ++ e ∷ []) K (step G e p (event_follows Q G K e each)) (subst (Each Q) (sym same) each))

-- induction: from the empty history, by one event that has Q at a time
pub grow : (Q : History → Entry → Type 0) (P : History → Type 0) → P [] → ((G : History) (e : Entry) → P G → Q G e → P (G ++ e ∷ [])) → (H : History) → Each Q H → P H
grow Q P none step H each = grow_by Q P step [] H none each

slice_get_left : (G K : History) (k : ℕ) (e : Entry) → slice_get G k ≡ Some e → slice_get (G ++ K) k ≡ Some e
slice_get_left [] K k e g = absurd (none-some e g)
slice_get_left (x ∷ G) K zero e g = g
slice_get_left (x ∷ G) K (suc k) e g = slice_get_left G K k e g

-- the first events of a history
pub Each-first : (Q : History → Entry → Type 0) (G K : History) → Each Q (G ++ K) → Each Q G
Each-first Q G K each k e g =
    let l : k < length G = slice_get_within G k e g in
    subst (λ (u : History). Q u e) (take-append-le k G K (omega arith)) (each k e (slice_get_left G K k e g))

-- a history about one of its events
pub split_place : (H : History) (k : ℕ) (e : Entry) → slice_get H k ≡ Some e → take k H ++ e ∷ drop (suc k) H ≡ H
split_place [] k e g = absurd (none-some e g)
split_place (x ∷ H) zero e g = ap (λ (u : Entry). u ∷ H) (sym (same_Some x e g))
split_place (x ∷ H) (suc k) e g = ap (λ (u : History). x ∷ u) (split_place H k e g)
