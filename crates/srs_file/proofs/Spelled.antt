-- A text of items that grows by one, and lines that spell a text.
use Rattle.std.proofs.Common.{◌≡◌, ◌++◌, ℕ, suc, List, [], ◌∷◌, All, refl, sym, ◌∙◌, arith, append_assoc, append-nil}
use Rattle.std.specs.List.{AllPairs}
use Rattle.std.proofs.lemmas.List.Concat.{flat_map-append}
use Rattle.std.proofs.lemmas.List.Elements.{All-push, All-head, All-tail}
use Rattle.std.proofs.lemmas.List.Kept.{AllPairs-cons}
use Rattle.srs_line.specs.Machine.{lines_text, Runs}
use Rattle.srs_line.specs.declared.slip.Slip.{Slip}
use Rattle.srs_line.specs.declared.slip.LineErr.{LineErr}
use Rattle.srs_line.specs.declared.slip.LineErr.TheVariants as lines
use Rattle.srs_line.specs.Refusal.{IsSlip}
use Rattle.srs_line.proofs.MachineLemmas.{runs_append, runs_inside}
use Rattle.srs_file.specs.Scripts.{SpellsAll}

pub spells_push : {A : Type 0} (Spells : List ℕ → A → Type 0) (text last : List ℕ) (items : List A)
    (item : A)
    → SpellsAll Spells text items → Spells last item
    → SpellsAll Spells (text ++ last) (items ++ item ∷ [])
spells_push Spells text last [] item e one = (last, [], rw e (sym (append-nil last)), one, refl)
spells_push Spells text last (x ∷ items) item (first, rest, whole, here, more) one = (
  first,
  rest ++ last,
  rw whole (append_assoc first rest last),
  here,
  spells_push Spells rest last items item more one,
)

-- where each is above those before it, so is one at the end that is above all
pub pairs_push : {A : Type 0} (R : A → A → Type 0) (xs : List A) (y : A) → AllPairs R xs
    → All (λ x. R x y) xs → AllPairs R (xs ++ y ∷ [])
pairs_push R [] y pairs below = λ i j d lt within. absurd (omega arith)
pairs_push R (x ∷ xs) y pairs below =
    let later : All (R x) xs = λ k d lt. pairs 0 (suc k) d (omega arith) (omega arith) in
    let rest : AllPairs R xs =
    λ i j d lt within. pairs (suc i) (suc j) d (omega arith) (omega arith) in
    AllPairs-cons R x (xs ++ y ∷ []) (All-push (R x) xs y later (All-head (λ z. R z y) x xs below))
    (pairs_push R xs y rest (All-tail (λ z. R z y) x xs below))

pub joined_append : (xs ys : List (List ℕ)) → lines_text (xs ++ ys) ≡ lines_text xs ++ lines_text ys
joined_append xs ys = flat_map-append (λ (x : List ℕ). x ++ 10 ∷ []) xs ys

-- good lines that lead from one state to another, and what they are together
pub record Leads {S : Type 0} (Steps : S → List ℕ → S → Type 0) (s : S) (text : List ℕ)
    (t : S) : Type 0 where
  pub lines : List (List ℕ)
  pub spelled : lines_text lines ≡ text
  pub runs : Runs Steps s lines t

pub leads_nowhere : {S : Type 0} (Steps : S → List ℕ → S → Type 0) (s : S) → Leads Steps s [] s
leads_nowhere Steps s = record { lines = []; spelled = refl; runs = refl }

pub leads_on : {S : Type 0} (Steps : S → List ℕ → S → Type 0) (s t u : S) (text more : List ℕ)
    → Leads Steps s text t → Leads Steps t more u → Leads Steps s (text ++ more) u
leads_on Steps s t u text more a b = record {
  lines = a.lines ++ b.lines;
  spelled = joined_append a.lines b.lines ∙ rw (a.spelled, b.spelled) refl;
  runs = runs_append Steps s t u a.lines b.lines a.runs b.runs;
}

pub leads_inside : {S T : Type 0} (Steps : S → List ℕ → S → Type 0)
    (Outer : T → List ℕ → T → Type 0) (f : S → T)
    → ((x u : S) (line : List ℕ) → Steps x line u → Outer (f x) line (f u))
    → (s t : S) (text : List ℕ) → Leads Steps s text t → Leads Outer (f s) text (f t)
leads_inside Steps Outer f step s t text a =
    record {
      lines = a.lines;
      spelled = a.spelled;
      runs = runs_inside Steps Outer f step s t a.lines a.runs;
    }

-- what is wrong with a line stays so where less is asked
pub slip_weaker : (P Q : Slip → ℕ → Type 0) → ((slip : Slip) (back : ℕ) → P slip back → Q slip back)
    → (e : LineErr) → IsSlip P e → IsSlip Q e
slip_weaker P Q f (lines.Slip slip back) p = f slip back p
slip_weaker P Q f lines.NoMemory p = tt
