use Rattle.std.proofs.Common.{◌≡◌, ℕ, List, sym, subst, rules}
use Rattle.srs_file.specs.Grammar.{SpellsLive}
use Rattle.srs_gen.specs.Samples.{made_vertices}
use Rattle.srs_gen.specs.Inputs.{made_script, made_text}
use Rattle.srs_gen.proofs.Spelled.{made_spelled}
use Rattle.srs_gen.proofs.inputs.make.Goals as goal

pub returns-in-Ok-clause-grammar : goal.returns-in-Ok-clause-grammar
returns-in-Ok-clause-grammar c =
    let s = c.args.s in
    let n = c.args.n in
    let text : c.put_input.new.text ≡ made_text s n = search rules in
    subst (λ (t : List ℕ). SpellsLive t (made_vertices s) (made_script s n)) (sym text)
    (made_spelled s n)
