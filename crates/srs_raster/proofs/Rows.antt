-- One character more, and one row more.
use Rattle.std.proofs.Common.{◌≡◌, ◌⊎◌, inl, inr, ℕ, zero, suc, ◌+◌, List, [], ◌∷◌, ◌++◌, length, length-append, slice_get, refl, sym, ap, subst, ◌∙◌, arith, append_assoc, append-nil, Some}
use Rattle.std.specs.List.{flat_map}
use Rattle.std.proofs.lemmas.Option.{none-some, same_Some}
use Rattle.std.proofs.lemmas.List.Concat.{flat_map-append}
use Rattle.srs_plane.specs.Regions.{Area}
use Rattle.srs_tree.specs.Tree.{Tree}
use Rattle.srs_raster.specs.declared.grids.Grid.{Grid}
use Rattle.srs_raster.specs.Maps.{IsShown, IsRow, HasRow, IsText, row_line}

-- an element of a longer list is an old one, or the last
last_or_old : {X : Type 0} (xs : List X) (x : X) (k : ℕ) (y : X) → slice_get (xs ++ x ∷ []) k ≡ Some y → (slice_get xs k ≡ Some y) ⊎ ((k ≡ length xs) × (x ≡ y))
last_or_old [] x zero y e = inr (refl, same_Some x y e)
last_or_old [] x (suc k) y e = absurd (none-some y e)
last_or_old (z ∷ xs) x zero y e = inl e
last_or_old (z ∷ xs) x (suc k) y e = elim (last_or_old xs x k y e) [ inl a ↦ inl a | inr b ↦ inr (ap suc b.0, b.1) ]

-- the text `after` is `before` with the first n characters of row j
pub record HasPart (Root : Area) (T : Tree) (g : Grid) (j n : ℕ) (before after : List ℕ) : Type 0 where
  pub row : List ℕ
  pub is_row : IsRow Root T g j n row
  pub is : after ≡ before ++ row

module _ (Root : Area) (T : Tree) (g : Grid) where
  pub part_none : (j : ℕ) (before after : List ℕ) → after ≡ before → HasPart Root T g j 0 before after
  part_none j before after e = record {
    row = [];
    is_row = record { width = refl; each = λ i c q. absurd (none-some c q) };
    is = e ∙ sym (append-nil before);
  }

  pub part_more : (j n : ℕ) (before after more : List ℕ) (c : ℕ) → HasPart Root T g j n before after → IsShown Root T g n j c → more ≡ after ++ c ∷ [] → HasPart Root T g j (n + 1) before more
  part_more j n before after more c part shown e = record {
    row = part.row ++ c ∷ [];
    is_row = record { width = omega (arith, length-append part.row (c ∷ []), part.is_row.width); each = each };
    is = e ∙ ap (λ (t : List ℕ). t ++ c ∷ []) part.is ∙ append_assoc before part.row (c ∷ []);
  }
    where
      each : (i d : ℕ) → slice_get (part.row ++ c ∷ []) i ≡ Some d → IsShown Root T g i j d
      each i d q = elim (last_or_old part.row c i d q) [
        | inl old ↦ part.is_row.each i d old
        | inr last ↦ subst (λ (k : ℕ). IsShown Root T g k j d) (sym (last.0 ∙ part.is_row.width)) (subst (IsShown Root T g n j) last.1 shown)
      ]

  pub part_whole : (j n : ℕ) (before after more : List ℕ) → n ≡ g.width → HasPart Root T g j n before after → more ≡ after ++ 10 ∷ [] → HasRow Root T g j before more
  part_whole j n before after more w part e = record {
    row = part.row;
    is_row = subst (λ (k : ℕ). IsRow Root T g j k part.row) w part.is_row;
    is = e ∙ ap (λ (t : List ℕ). t ++ 10 ∷ []) part.is ∙ append_assoc before part.row (10 ∷ []);
  }

  pub text_none : (text : List ℕ) → text ≡ [] → IsText Root T g 0 text
  text_none text e = record { rows = []; are_rows = record { height = refl; each = λ j row q. absurd (none-some row q) }; is = e }

  pub text_more : (n : ℕ) (before after : List ℕ) → IsText Root T g n before → HasRow Root T g n before after → IsText Root T g (n + 1) after
  text_more n before after text has = record {
    rows = text.rows ++ has.row ∷ [];
    are_rows = record { height = omega (arith, length-append text.rows (has.row ∷ []), text.are_rows.height); each = each };
    is = has.is ∙ ap (λ (t : List ℕ). t ++ row_line has.row) text.is
        ∙ ap (λ (t : List ℕ). flat_map row_line text.rows ++ t) (sym (append-nil (row_line has.row)))
        ∙ sym (flat_map-append row_line text.rows (has.row ∷ []));
  }
    where
      each : (j : ℕ) (row : List ℕ) → slice_get (text.rows ++ has.row ∷ []) j ≡ Some row → IsRow Root T g j g.width row
      each j row q = elim (last_or_old text.rows has.row j row q) [
        | inl old ↦ text.are_rows.each j row old
        | inr last ↦ subst (λ (k : ℕ). IsRow Root T g k g.width row) (sym (last.0 ∙ text.are_rows.height)) (subst (IsRow Root T g n g.width) last.1 has.is_row)
      ]
