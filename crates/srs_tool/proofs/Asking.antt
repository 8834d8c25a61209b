-- Words ask for one command, whose numbers are in their ranges.
use Rattle.std.proofs.Common.{◌≡◌, ℕ, ℤ, List, [], ◌∷◌, pos, refl, sym, ap₂, ◌∙◌, Option, Some, None}
use Rattle.std.specs.Prelude.{if◌then◌else◌, eqb, sum, codes}
use Rattle.std.proofs.lemmas.Option.{same_Some}
use Rattle.srs_text.proofs.Spellings.{number_once}
use Rattle.srs_line.specs.Fields.{AreNumbers}
use Rattle.srs_path.specs.Views.{Budget}
use Rattle.srs_tool.specs.declared.commands.Command.{Command}
use Rattle.srs_tool.specs.declared.commands.Command.TheVariants.{Certify, Live, Check, Map, Ask, Make, Bench}
use Rattle.srs_tool.specs.Words.{name_of, numbers_of, SpellsCommand, AsksPlain}

same_numbers : (ts : List (List ℕ)) (ys zs : List ℤ) → AreNumbers ts ys → AreNumbers ts zs → ys ≡ zs
same_numbers [] [] [] h k = refl
same_numbers [] [] (z ∷ zs) h k = absurd k
same_numbers [] (y ∷ ys) zs h k = absurd h
same_numbers (t ∷ ts) [] zs h k = absurd h
same_numbers (t ∷ ts) (y ∷ ys) [] h k = absurd k
same_numbers (t ∷ ts) (y ∷ ys) (z ∷ zs) h k = ap₂ (λ (a : ℤ) (b : List ℤ). a ∷ b) (number_once t y z h.0 k.0) (same_numbers ts ys zs h.1 k.1)

abbrev certifying : List ℤ → Option Command
certifying (pos depth ∷ pos cells ∷ pos wits ∷ []) = Some (Certify (record { depth = depth; cells = cells; wits = wits }))
certifying _ = None

abbrev living : List ℤ → Option Command
living (pos depth ∷ pos cells ∷ pos wits ∷ pos workers ∷ []) = Some (Live (record { depth = depth; cells = cells; wits = wits }) workers)
living _ = None

abbrev drawing : List ℤ → Option Command
drawing (pos columns ∷ pos rows ∷ []) = Some (Map columns rows)
drawing _ = None

abbrev making : List ℤ → Option Command
making (pos s ∷ pos n ∷ []) = Some (Make s n)
making _ = None

abbrev benching : List ℤ → Option Command
benching (pos s ∷ pos n ∷ []) = Some (Bench s n)
benching _ = None

-- the command with this name and these numbers: names differ in the sum of their bytes
abbrev named : ℕ → List ℤ → Option Command
named key numbers =
    (if eqb key (sum (codes "certify")) then certifying numbers
    else (if eqb key (sum (codes "live")) then living numbers
    else (if eqb key (sum (codes "check")) then Some Check
    else (if eqb key (sum (codes "map")) then drawing numbers
    else (if eqb key (sum (codes "ask")) then Some Ask
    else (if eqb key (sum (codes "make")) then making numbers
    else (if eqb key (sum (codes "bench")) then benching numbers else None)))))))

named_is : (c : Command) → named (sum (name_of c)) (numbers_of c) ≡ Some c
named_is (Certify limits) = refl
named_is (Live limits workers) = refl
named_is Check = refl
named_is (Map columns rows) = refl
named_is Ask = refl
named_is (Make s n) = refl
named_is (Bench s n) = refl

pub one_command : (words : List (List ℕ)) (c d : Command) → SpellsCommand words c → SpellsCommand words d → c ≡ d
one_command [] c d h k = absurd h.0
one_command (first ∷ others) c d h k =
    let names : sum (name_of c) ≡ sum (name_of d) = cc (h.0.0, k.0.0) in
    let numbers : numbers_of c ≡ numbers_of d = same_numbers others (numbers_of c) (numbers_of d) h.0.1 k.0.1 in
    same_Some c d (sym (named_is c) ∙ ap₂ named names numbers ∙ named_is d)

pub one_plain_command : (words : List (List ℕ)) (c d : Command) → AsksPlain words c → AsksPlain words d → c ≡ d
one_plain_command words c d h k = one_command words c d h.0 k.0

-- where words don't ask for `live`, what they ask for starts no thread
pub plain_asked : (words : List (List ℕ)) → ((b : Budget) (n : ℕ) → SpellsCommand words (Live b n) → ⊥) → (c : Command) → SpellsCommand words c → AsksPlain words c
plain_asked words none (Certify limits) asked = (asked, tt)
plain_asked words none (Live limits workers) asked = absurd (none limits workers asked)
plain_asked words none Check asked = (asked, tt)
plain_asked words none (Map columns rows) asked = (asked, tt)
plain_asked words none Ask asked = (asked, tt)
plain_asked words none (Make s n) asked = (asked, tt)
plain_asked words none (Bench s n) asked = (asked, tt)
