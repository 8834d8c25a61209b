-- What holds of an answer where it is Err, and of a place of an equal list.
use Rattle.std.proofs.Common.{◌≡◌, ℕ, List, length, slice_get, Some, sym, ap, subst, ◌∙◌}
use Rattle.std.specs.Prelude.{Ok, Err, IfErr}
use Rattle.std.specs.declared.result.Result.{Result}
use Rattle.srs_plane.specs.Regions.{Area}
use Rattle.srs_path.specs.declared.outcomes.Outcome.{Outcome}
use Rattle.srs_path.specs.Views.{Budget, Entry}

pub if_err : {A E : Type 0} {P Q : E → Type 0} (r : Result A E) → ((e : E) → P e → Q e) → IfErr r P → IfErr r Q
if_err (Ok a) f p = p
if_err (Err e) f p = f e p

-- what stands at a place of a list, by an equal list
pub same_get : {X : Type 0} (xs ys : List X) (i : ℕ) (x : X) → xs ≡ ys → slice_get xs i ≡ Some x → slice_get ys i ≡ Some x
same_get xs ys i x e at = ap (λ zs. slice_get zs i) (sym e) ∙ at

-- what is said of a node holds of the entry that was seen there, by equal regions and limits
pub seen_node : (P : Area → Budget → ℕ → Outcome → Type 0) (R T : Area) (L M : Budget) (k : ℕ) (o : Outcome) (seen e : Entry) → R ≡ T → L ≡ M → seen ≡ e → k ≡ length seen.path → o ≡ seen.outcome
    → P R L k o → P T M (length e.path) e.outcome
seen_node P R T L M k o seen e region limits same depth outcome p =
    subst (λ (x : Entry). P T M (length x.path) x.outcome) same
    (subst (P T M (length seen.path)) outcome (subst (λ (n : ℕ). P T M n o) depth (subst (λ (x : Budget). P T x k o) limits (subst (λ (x : Area). P x L k o) region p))))
