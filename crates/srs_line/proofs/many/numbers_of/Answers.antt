use Rattle.std.proofs.Common.{◌≡◌, ◌∷◌, inr, refl, sym, ◌∙◌, ap, rules, List, ℕ}
use Rattle.std.proofs.lemmas.Result.{err_from_is_err_and}
use Rattle.srs_line.specs.Fields.{tokens}
use Rattle.srs_line.proofs.ManyLemmas.{first_bad, of_line}
use Rattle.srs_line.proofs.many.numbers_of.Goals as goal

pub returns-in_default-number-clause-err : goal.returns-in_default-number-clause-err
returns-in_default-number-clause-err c =
    let same : c.in-Some.first.now ≡ c.args.word.now = c.if-not-is_word.ensures.0 (search rules) in
    let whole : tokens c.args.line.now ≡ c.args.word.now ∷ c.in-Some-next.token.now ∷ c.next-2.new.self =
    sym c.new-left.ensures ∙ c.in-Some.ensures.some ∙ ap (λ (w : List ℕ). w ∷ c.next.new.self) same ∙ ap (λ (r : List (List ℕ)). c.args.word.now ∷ r) c.in-Some-next.ensures.some in
    inr (record { first = c.in-Some-next.token.now; more = c.next-2.new.self; split = whole }, (first_bad c.in-Some-next.token.now c.next-2.new.self c.in_default-number.ensures.none, refl, refl))

pub returns-in_err-push_numbers-clause-err : goal.returns-in_err-push_numbers-clause-err
returns-in_err-push_numbers-clause-err c =
    let same : c.in-Some.first.now ≡ c.args.word.now = c.if-not-is_word.ensures.0 (search rules) in
    let whole : tokens c.args.line.now ≡ c.args.word.now ∷ c.in-Some-next.token.now ∷ c.next-2.new.self =
    sym c.new-left.ensures ∙ c.in-Some.ensures.some ∙ ap (λ (w : List ℕ). w ∷ c.next.new.self) same ∙ ap (λ (r : List (List ℕ)). c.args.word.now ∷ r) c.in-Some-next.ensures.some in
    let p = err_from_is_err_and c.from_residual.result c.from_residual.ensures.1 in
    rw (p.1, p.2) (of_line c.args.word.now c.args.line.now c.in-Some-next.token.now c.next-2.new.self _ whole c.in_err-push_numbers.ensures.err)
