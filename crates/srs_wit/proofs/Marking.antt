-- Numbers that are marked.
use Rattle.std.proofs.Common.{◌≡◌, ◌≢◌, ℕ, ◌*◌, ◌/◌, ◌%◌, ◌^◌, ◌<◌, List, length, get_or, arith, ap, sym, ◌∙◌, w64}
use Rattle.std.specs.Prelude.{◌==◌}
use Rattle.std.specs.Int.{bit_at}
use Rattle.std.specs.Int.RustNames.{bit_or}
use Rattle.std.proofs.Math.ListN.{set}
use Rattle.std.proofs.Math.Decide.{dec_lt}
use Rattle.std.proofs.lemmas.List.{length-set, get_or-set_same, get_or-set_other}
use Rattle.std.proofs.lemmas.Nat.Bits.{bit_at_set_same, bit_at_set_other}
use Rattle.srs_wit.specs.Marks.{is_marked, Marks}

-- the word with one more bit
abbrev pub with_bit : ℕ → ℕ → ℕ
with_bit word i = bit_or word (1 * 2 ^ i % 2 ^ 64)

module _ (words : List ℕ) (k word : ℕ) (within : k < 64 * length words) (was : word ≡ get_or words (k / 64) 0) where
  place : k / 64 < length words
  place = omega arith

  there : get_or (set words (k / 64) (with_bit word (k % 64))) (k / 64) 0 ≡ with_bit word (k % 64)
  there = get_or-set_same words (k / 64) (with_bit word (k % 64)) 0 place

  same_word : (j : ℕ) → j ≢ k → j / 64 ≡ k / 64 → is_marked (set words (k / 64) (with_bit word (k % 64))) j ≡ is_marked words j
  same_word j ne q =
      let other : j % 64 ≢ k % 64 = λ r. ne (omega arith) in
      ap (λ (p : ℕ). bit_at (get_or (set words (k / 64) (with_bit word (k % 64))) p 0) (j % 64) == 1) q
      ∙ ap (λ (x : ℕ). bit_at x (j % 64) == 1) there
      ∙ ap (λ (x : ℕ). x == 1) (bit_at_set_other w64 word (k % 64) (omega arith) (j % 64) other)
      ∙ ap (λ (x : ℕ). bit_at x (j % 64) == 1) (was ∙ ap (λ (p : ℕ). get_or words p 0) (sym q))

  other_word : (j : ℕ) → j / 64 ≢ k / 64 → is_marked (set words (k / 64) (with_bit word (k % 64))) j ≡ is_marked words j
  other_word j ne = ap (λ (x : ℕ). bit_at x (j % 64) == 1) (get_or-set_other words (k / 64) (j / 64) (with_bit word (k % 64)) 0 ne)

  pub marked_more : Marks words k (set words (k / 64) (with_bit word (k % 64)))
  marked_more = record {
    size = length-set words (k / 64) (with_bit word (k % 64));
    here = ap (λ (x : ℕ). bit_at x (k % 64) == 1) there ∙ ap (λ (x : ℕ). x == 1) (bit_at_set_same w64 word (k % 64) (omega arith));
    others = λ j ne. elim (dec_lt (j / 64) (k / 64)) [
      | yes b ↦ other_word j (omega arith)
      | no b ↦ elim (dec_lt (k / 64) (j / 64)) [
        | yes a ↦ other_word j (omega arith)
        | no a ↦ same_word j ne (omega arith)
      ]
    ];
  }
