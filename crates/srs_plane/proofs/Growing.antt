-- Lists with one member more.
use Rattle.std.proofs.Common.{◌≡◌, ℕ, ◌+◌, ◌<◌, List, [], ◌∷◌, ◌++◌, length, length-append, take, slice_get, Some, ap, ap₂, sym, ◌∙◌, arith}
use Rattle.std.proofs.lemmas.Option.{get_or_from_slice_get}
use Rattle.std.proofs.lemmas.List.{take_more}
use Rattle.srs_plane.specs.declared.halves.Half.{Half}
use Rattle.srs_plane.specs.Regions.{Area}
use Rattle.srs_plane.specs.Bounded.{IsBounded}
use Rattle.srs_plane.proofs.Members.{IsIn-front}

pub bounded_more : (R : Area) (h : Half) → IsBounded R → length R < 80 → IsBounded (R ++ h ∷ [])
bounded_more R h b few = record {
  low = let low = b.low in omega (arith, length-append R (h ∷ []));
  high = omega (arith, length-append R (h ∷ []));
  near = λ r i. b.near r (IsIn-front R h r i);
}

take_next : {X : Type 0} (xs : List X) (i : ℕ) (x : X) → i < length xs → slice_get xs i ≡ Some x → take (i + 1) xs ≡ take i xs ++ x ∷ []
take_next xs i x h e = take_more xs i x h ∙ ap (λ y. take i xs ++ y ∷ []) (get_or_from_slice_get xs i x x e)

pub same_next : {X : Type 0} (xs ys : List X) (i : ℕ) (x y : X) → i < length xs → i < length ys → slice_get xs i ≡ Some x → slice_get ys i ≡ Some y
    → x ≡ y → take i xs ≡ take i ys → take (i + 1) xs ≡ take (i + 1) ys
same_next xs ys i x y h k e f s t = take_next xs i x h e ∙ ap₂ (λ us v. us ++ v ∷ []) t s ∙ sym (take_next ys i y k f)
