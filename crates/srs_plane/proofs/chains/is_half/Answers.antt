use Rattle.std.proofs.Common.{◌≡◌, ℤ, refl, ap}
use Rattle.std.specs.Bool.{Decides}
use Rattle.std.proofs.lemmas.Bool.Decides.{Decides-int_eq, Decides-and}
use denote.Enum.Bare.{sameb}
use Rattle.srs_plane.specs.declared.halves.Half.{Half}
use Rattle.srs_plane.specs.declared.halves.Kind.{Kind}
use Rattle.srs_plane.specs.declared.halves.Kind.TheVariants.{Ge, Gt}
use Rattle.srs_plane.specs.contracts.halves.Kind.{the_type}
use Rattle.srs_plane.specs.contracts.halves.HalfPartialEq.TheImpl as half
use Rattle.srs_plane.proofs.chains.is_half.Goals as goal

kinds_Decides : (k l : Kind) → Decides (sameb the_type k l) (k ≡ l)
kinds_Decides Ge Ge = (λ _. refl, λ _. refl)
kinds_Decides Ge Gt = (λ e. cc, λ e. cc)
kinds_Decides Gt Ge = (λ e. cc, λ e. cc)
kinds_Decides Gt Gt = (λ _. refl, λ _. refl)

same_half : (a b c x y z : ℤ) (k l : Kind) → a ≡ x → b ≡ y → c ≡ z → k ≡ l
    → ◌≡◌ {A = Half} (record { form = record { a = a; b = b; c = c }; kind = k }) (record { form = record { a = x; b = y; c = z }; kind = l })
same_half a b c x y z k l d e f h = cc

halves_Decides : (a b : Half) → Decides (half.ghosts.eq a b) (a ≡ b)
halves_Decides a b =
    let numbers = Decides-and _ _ (Decides-int_eq a.form.b b.form.b) (Decides-int_eq a.form.c b.form.c) in
    let forms = Decides-and _ _ (Decides-int_eq a.form.a b.form.a) numbers in
    let all = Decides-and _ _ forms (kinds_Decides a.kind b.kind) in (
      λ e. let h = all.0 e in same_half _ _ _ _ _ _ _ _ h.0.0 h.0.1.0 h.0.1.1 h.1,
      λ e. all.1 ((ap (λ (h : Half). h.form.a) e, (ap (λ (h : Half). h.form.b) e, ap (λ (h : Half). h.form.c) e)), ap (λ (h : Half). h.kind) e),
    )

pub returns : goal.returns
returns c = rw c.eq.ensures (halves_Decides c.args.half.now c.args.other.now)
