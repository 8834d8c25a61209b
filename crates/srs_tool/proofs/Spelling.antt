-- Words that don't ask for a command.
use Rattle.std.proofs.Common.{◌≡◌, ℕ, ℤ, List, [], ◌∷◌, suc, pos, length, refl, ap, subst, Option, Some, None}
use Rattle.std.specs.Prelude.{IfNone}
use Rattle.srs_line.specs.Fields.{AreNumbers}
use Rattle.srs_path.specs.Views.{Budget, IsBudget}
use Rattle.srs_tool.specs.declared.commands.Command.{Command}
use Rattle.srs_tool.specs.declared.commands.Command.TheVariants.{Certify, Live, Map}
use Rattle.srs_tool.specs.Words.{limits_numbers, name_of, numbers_of, IsSide, SpellsCrew, sample_numbers, SpellsSample, AsksForSample, SpellsCommand}

-- what holds anyway holds of none
pub if_none : {X Q : Type 0} (r : Option X) → Q → IfNone r Q
if_none None q = q
if_none (Some x) q = tt

-- what follows of what holds of none
pub none_weaker : {X P Q : Type 0} (r : Option X) → (P → Q) → IfNone r P → IfNone r Q
none_weaker None f p = f p
none_weaker (Some x) f p = tt

numbers_length : (ts : List (List ℕ)) (zs : List ℤ) → AreNumbers ts zs → length ts ≡ length zs
numbers_length [] [] are = refl
numbers_length [] (z ∷ zs) are = absurd are
numbers_length (t ∷ ts) [] are = absurd are
numbers_length (t ∷ ts) (z ∷ zs) are = ap (λ (n : ℕ). suc n) (numbers_length ts zs are.1)

-- there are as many words as the command has numbers, and one
pub asked_length : (words : List (List ℕ)) (c : Command) → SpellsCommand words c → length words ≡ suc (length (numbers_of c))
asked_length [] c asked = absurd asked.0
asked_length (first ∷ others) c asked = ap (λ (n : ℕ). suc n) (numbers_length others (numbers_of c) asked.0.1)

-- where the command has no numbers, there is only its name
pub asked_alone : (words : List (List ℕ)) (c : Command) → numbers_of c ≡ [] → SpellsCommand words c → words ≡ name_of c ∷ []
asked_alone [] c none asked = absurd asked.0
asked_alone (first ∷ []) c none asked = ap (λ (word : List ℕ). word ∷ []) asked.0.0
asked_alone (first ∷ second ∷ more) c none asked = absurd (subst (AreNumbers (second ∷ more)) none asked.0.1)

-- where the words behind the first spell no limits, they don't ask to certify
pub no_limits : {X : Type 0} (words : List (List ℕ)) (first depth cells wits : List ℕ) (r : Option X) → words ≡ first ∷ depth ∷ cells ∷ wits ∷ []
    → IfNone r ((b : Budget) → AreNumbers (depth ∷ cells ∷ wits ∷ []) (limits_numbers b) → IsBudget b → ⊥)
    → IfNone r ((b : Budget) → SpellsCommand words (Certify b) → ⊥)
no_limits words first depth cells wits None is out =
    λ b asked. let a = subst (λ (ws : List (List ℕ)). SpellsCommand ws (Certify b)) is asked in out b a.0.1 a.1
no_limits words first depth cells wits (Some x) is out = tt

-- where they spell no size, they don't ask for a map
pub no_size : {X : Type 0} (words : List (List ℕ)) (first columns rows : List ℕ) (r : Option X) → words ≡ first ∷ columns ∷ rows ∷ []
    → IfNone r ((w h : ℕ) → AreNumbers (columns ∷ rows ∷ []) (pos w ∷ pos h ∷ []) → IsSide w × IsSide h → ⊥)
    → IfNone r ((w h : ℕ) → SpellsCommand words (Map w h) → ⊥)
no_size words first columns rows None is out =
    λ w h asked. let a = subst (λ (ws : List (List ℕ)). SpellsCommand ws (Map w h)) is asked in out w h a.0.1 a.1
no_size words first columns rows (Some x) is out = tt

-- where they spell no limits and number of workers, they don't ask for a live run
pub no_order : {X : Type 0} (words : List (List ℕ)) (first depth cells wits workers : List ℕ) (r : Option X)
    → words ≡ first ∷ depth ∷ cells ∷ wits ∷ workers ∷ []
    → IfNone r ((b : Budget) (n : ℕ) → SpellsCrew (depth ∷ cells ∷ wits ∷ workers ∷ []) b n → ⊥)
    → IfNone r ((b : Budget) (n : ℕ) → SpellsCommand words (Live b n) → ⊥)
no_order words first depth cells wits workers None is out =
    λ b n asked. let a = subst (λ (ws : List (List ℕ)). SpellsCommand ws (Live b n)) is asked in out b n (a.0.1, a.1)
no_order words first depth cells wits workers (Some x) is out = tt

-- where they spell no seed and number of points, they don't ask for a sample by this name
pub no_sample : {X : Type 0} (words : List (List ℕ)) (name first seed points : List ℕ)
    (r : Option X) → words ≡ first ∷ seed ∷ points ∷ []
    → IfNone r ((s n : ℕ) → SpellsSample (seed ∷ points ∷ []) s n → ⊥)
    → IfNone r ((s n : ℕ) → AsksForSample words name s n → ⊥)
no_sample words name first seed points None is out =
    λ s n asked. let a =
    subst (λ (ws : List (List ℕ)). AsksForSample ws name s n) is asked in out s n (a.0.1, a.1)
no_sample words name first seed points (Some x) is out = tt

-- there are three words
pub sample_length : (words : List (List ℕ)) (name : List ℕ) (s n : ℕ) → AsksForSample words name s n
    → length words ≡ 3
sample_length [] name s n asked = absurd asked.0
sample_length (first ∷ others) name s n asked =
    ap (λ (n : ℕ). suc n) (numbers_length others (sample_numbers s n) asked.0.1)
