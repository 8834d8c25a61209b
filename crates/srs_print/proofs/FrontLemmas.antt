-- A text in parts, of which a writer may stop in one.
use Rattle.std.proofs.Common.{◌≡◌, ◌<◌, ◌+◌, ◌++◌, ℕ, List, [], ◌∷◌, length, take, drop, get_or, Some, slice_get, flat_map, refl, sym, ap, ◌∙◌, append_assoc, append-nil, take-append-drop}
use Rattle.std.proofs.lemmas.List.{drop_more, take_more}
use Rattle.std.proofs.lemmas.List.Concat.{flat_map-append}
use Rattle.std.proofs.lemmas.Option.{get_or_from_slice_get, slice_get_within}
use Rattle.srs_print.specs.Fronts.{StopsIn}

-- it wrote nothing
pub nothing : (old text new : List ℕ) → new ≡ old → StopsIn old text new
nothing old text new e = ([], text, e ∙ sym (append-nil old), refl)

-- it stopped in the first part
pub sooner : (old a b new : List ℕ) → StopsIn old a new → StopsIn old (a ++ b) new
sooner old a b new (front, rest, e, t) = (front, rest ++ b, e, rw t (append_assoc front rest b))

-- it wrote the first part, and stopped in the second
pub later : (old mid a b new : List ℕ) → mid ≡ old ++ a → StopsIn mid b new → StopsIn old (a ++ b) new
later old mid a b new m (front, rest, e, t) = (a ++ front, rest, rw (e, m) (append_assoc old a front), rw t (sym (append_assoc a front rest)))

-- it wrote both parts
pub both : (old mid a b new : List ℕ) → mid ≡ old ++ a → new ≡ mid ++ b → new ≡ old ++ (a ++ b)
both old mid a b new m e = rw (e, m) (append_assoc old a b)

around : {A : Type 0} (f : A → List ℕ) (xs : List A) (i : ℕ) (d : A) → i < length xs → flat_map f xs ≡ flat_map f (take i xs) ++ (f (get_or xs i d) ++ flat_map f (drop (i + 1) xs))
around f xs i d lt =
    ap (flat_map f) (sym (take-append-drop i xs)) ∙ flat_map-append f (take i xs) (drop i xs) ∙ ap (λ ys. flat_map f (take i xs) ++ flat_map f ys) (drop_more xs i d lt)

-- it wrote the texts of the items before item i, and stopped in that one's
pub in_item : {A : Type 0} (f : A → List ℕ) (xs : List A) (i : ℕ) (x : A) (old mid new : List ℕ) → slice_get xs i ≡ Some x → mid ≡ old ++ flat_map f (take i xs) → StopsIn mid (f x) new → StopsIn old (flat_map f xs) new
in_item f xs i x old mid new at m s =
    let lt = slice_get_within xs i x at in
    let same = get_or_from_slice_get xs i x x at in
    rw (around f xs i x lt, same) (later old mid (flat_map f (take i xs)) (f x ++ flat_map f (drop (i + 1) xs)) new m (sooner mid (f x) (flat_map f (drop (i + 1) xs)) new s))

-- it wrote the texts of the items before item i, and that one's
pub one_more : {A : Type 0} (f : A → List ℕ) (xs : List A) (i : ℕ) (x : A) (old mid new : List ℕ) → slice_get xs i ≡ Some x → mid ≡ old ++ flat_map f (take i xs) → new ≡ mid ++ f x → new ≡ old ++ flat_map f (take (i + 1) xs)
one_more f xs i x old mid new at m e =
    let lt = slice_get_within xs i x at in
    let same = get_or_from_slice_get xs i x x at in
    let text : flat_map f (take (i + 1) xs) ≡ flat_map f (take i xs) ++ f x =
    ap (flat_map f) (take_more xs i x lt) ∙ flat_map-append f (take i xs) (get_or xs i x ∷ []) ∙ ap (λ y. flat_map f (take i xs) ++ y) (append-nil (f (get_or xs i x)) ∙ ap f same) in
    rw text (both old mid (flat_map f (take i xs)) (f x) new m e)
