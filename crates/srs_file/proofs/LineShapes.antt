-- The lines of a certificate's values: that they say them, and have no LF.
use Rattle.std.proofs.Common.{◌≢◌, ◌<◌, ◌≤◌, ◌^◌, All, FitsSigned, ℕ, ℤ, pos, List, [], ◌∷◌, length, codes, refl, arith, rules, lit<}
use Rattle.std.specs.Int.{w64}
use Rattle.std.proofs.lemmas.Int.{ints}
use Rattle.std.proofs.lemmas.List.Elements.{All-nil, All-cons}
use Rattle.srs_num.specs.declared.pairs.V2.{V2}
use Rattle.srs_num.specs.Points.{LinearForm, IsFormSized}
use Rattle.srs_num.proofs.Ranges.{small_fits}
use Rattle.srs_map.specs.Step.{IsNarrow}
use Rattle.srs_path.specs.declared.outcomes.Why.TheVariants.{Cycle as CycleFails, Witness as WitnessFails}
use Rattle.srs_path.specs.declared.outcomes.Cause.{Cause}
use Rattle.srs_path.specs.declared.outcomes.Cause.TheVariants.{Depth, Cells, Thin, Memory}
use Rattle.srs_path.specs.Lists.{IsCycle}
use Rattle.srs_path.specs.Views.{Budget, IsBudget}
use Rattle.srs_text.specs.Line.{HasNoLf}
use Rattle.srs_line.specs.Fields.{HasWord}
use Rattle.srs_file.specs.TreeReading.{left_line}
use Rattle.srs_file.proofs.LeafLaws.{entry_numbers}

-- bytes of at least 33, by computation
abbrev pub AreHigh : List ℕ → Type 0
AreHigh [] = Unit {0}
AreHigh (x ∷ xs) = (33 ≤ x) × AreHigh xs

abbrev pub IsPlainWord : List ℕ → Type 0
IsPlainWord word = All (λ c. 32 < c) word

pub high_plain : (xs : List ℕ) → AreHigh xs → IsPlainWord xs
high_plain [] c = All-nil (λ c. 32 < c)
high_plain (x ∷ xs) c = All-cons (λ c. 32 < c) x xs (omega arith) (high_plain xs c.1)

pub srs_plain : IsPlainWord (codes "srs")
srs_plain = high_plain (codes "srs") (search rules)

pub limits_plain : IsPlainWord (codes "limits")
limits_plain = high_plain (codes "limits") (search rules)

pub w_plain : IsPlainWord (codes "w")
w_plain = high_plain (codes "w") (search rules)

pub in_plain : IsPlainWord (codes "in")
in_plain = high_plain (codes "in") (search rules)

pub out_plain : IsPlainWord (codes "out")
out_plain = high_plain (codes "out") (search rules)

pub point_plain : IsPlainWord (codes "point")
point_plain = high_plain (codes "point") (search rules)

pub region_plain : IsPlainWord (codes "region")
region_plain = high_plain (codes "region") (search rules)

pub orbit_plain : IsPlainWord (codes "orbit")
orbit_plain = high_plain (codes "orbit") (search rules)

pub cut_plain : IsPlainWord (codes "cut")
cut_plain = high_plain (codes "cut") (search rules)

pub three_fit : (a b c : ℤ) → FitsSigned w64 a → FitsSigned w64 b → FitsSigned w64 c → All (FitsSigned w64) (a ∷ b ∷ c ∷ [])
three_fit a b c f g h = All-cons (FitsSigned w64) a (b ∷ c ∷ []) f (All-cons (FitsSigned w64) b (c ∷ []) g (All-cons (FitsSigned w64) c [] h (All-nil (FitsSigned w64))))

pub number_fits : (n : ℕ) → n ≤ 65536 → FitsSigned w64 (pos n)
number_fits n h = omega (arith, ints)

pub count_fits : (n : ℕ) → n ≤ 65536 → All (FitsSigned w64) (pos n ∷ [])
count_fits n h = All-cons (FitsSigned w64) (pos n) [] (number_fits n h) (All-nil (FitsSigned w64))

pub entry_fits : (w : V2) (n : ℕ) → IsNarrow w → n ≤ 16384 → All (FitsSigned w64) (entry_numbers w (pos n))
entry_fits w n narrow h = three_fit w.a w.b (pos n) (small_fits w64 w.a (2 ^ 37) narrow.0 (lit< tt)) (small_fits w64 w.b (2 ^ 37) narrow.1 (lit< tt)) (number_fits n (omega arith))

pub form_fits : (h : LinearForm) → IsFormSized h → All (FitsSigned w64) (h.a ∷ h.b ∷ h.c ∷ [])
form_fits h s = three_fit h.a h.b h.c (small_fits w64 h.a (2 ^ 38) s.a_range (lit< tt)) (small_fits w64 h.b (2 ^ 38) s.b_range (lit< tt)) (small_fits w64 h.c (2 ^ 38) s.c_range (lit< tt))

pub limits_fit : (b : Budget) → IsBudget b → All (FitsSigned w64) (pos b.depth ∷ pos b.cells ∷ pos b.wits ∷ [])
limits_fit b h = three_fit (pos b.depth) (pos b.cells) (pos b.wits) (number_fits b.depth (omega (arith, h.depth))) (number_fits b.cells h.cells) (number_fits b.wits (omega (arith, h.wits)))

pub cycle_fits : (c : List ℤ) → IsCycle c → All (FitsSigned w64) (pos (length c) ∷ c)
cycle_fits c h = All-cons (FitsSigned w64) (pos (length c)) c (number_fits (length c) (omega (arith, h.short))) (λ k d lt. small_fits w64 _ (2 ^ 37) (h.narrow k d lt) (lit< tt))

-- bytes of at least 32, by computation
abbrev pub AreClear : List ℕ → Type 0
AreClear [] = Unit {0}
AreClear (x ∷ xs) = (32 ≤ x) × AreClear xs

pub clear_no_lf : (xs : List ℕ) → AreClear xs → HasNoLf xs
clear_no_lf [] c = All-nil (λ c. c ≢ 10)
clear_no_lf (x ∷ xs) c = All-cons (λ c. c ≢ 10) x xs (omega arith) (clear_no_lf xs c.1)

pub left_no_lf : (cause : Cause) → HasNoLf (left_line cause)
left_no_lf (Depth CycleFails) = clear_no_lf (left_line (Depth CycleFails)) (search rules)
left_no_lf (Depth WitnessFails) = clear_no_lf (left_line (Depth WitnessFails)) (search rules)
left_no_lf (Cells CycleFails) = clear_no_lf (left_line (Cells CycleFails)) (search rules)
left_no_lf (Cells WitnessFails) = clear_no_lf (left_line (Cells WitnessFails)) (search rules)
left_no_lf Thin = clear_no_lf (left_line Thin) (search rules)
left_no_lf Memory = clear_no_lf (left_line Memory) (search rules)

pub left_word : (cause : Cause) → HasWord (codes "left") (left_line cause)
left_word (Depth CycleFails) = record { fields = codes "depth" ∷ codes "cycle" ∷ []; split = refl }
left_word (Depth WitnessFails) = record { fields = codes "depth" ∷ codes "witness" ∷ []; split = refl }
left_word (Cells CycleFails) = record { fields = codes "cells" ∷ codes "cycle" ∷ []; split = refl }
left_word (Cells WitnessFails) = record { fields = codes "cells" ∷ codes "witness" ∷ []; split = refl }
left_word Thin = record { fields = codes "thin" ∷ []; split = refl }
left_word Memory = record { fields = codes "memory" ∷ []; split = refl }

pub end_no_lf : HasNoLf (codes "end")
end_no_lf = clear_no_lf (codes "end") (search rules)
