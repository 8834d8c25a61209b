use Rattle.std.proofs.Common.{◌≡◌, ◌+◌, ◌∷◌, ◌++◌, [], ◌<◌, length, get_or, arith, slice_get, slice_index, Some, sym, ap, subst, ◌∙◌, rules}
use Rattle.std.proofs.lemmas.Option.{get_or_from_slice_get, slice_get_within, slice_get-get_or}
use Rattle.srs_path.specs.declared.paths.Side.{Side}
use Rattle.srs_path.specs.declared.paths.Side.TheVariants.{Ge, Lt}
use Rattle.srs_tree.specs.Tree.{History}
use Rattle.srs_cert.specs.Certificates.{CertView, StandsAt}
use Rattle.srs_cert.proofs.Descents.{ge_stands, read_cut}
use Rattle.srs_cert.proofs.certificates.Cert.part.Goals as goal

pub returns-in-Ge-clause-part : goal.returns-in-Ge-clause-part
returns-in-Ge-clause-part c e at =
    let events : c.self.inside.events ≡ c.args.self.now.events = ap (λ (v : CertView). v.events) c.self.view_is in
    let here : slice_get c.self.inside.events c.args.i ≡ Some e = ap (λ (H : History). slice_get H c.args.i) events ∙ at in
    let cut = c.is_cut.ensures.yes (search rules) in
    let is = read_cut c.self.inside.events c.args.i e c.get.result.now c.deref.result.now cut.0 here c.get.ensures (rw (← c.behind-self.view_is) c.deref.ensures) cut.1 in
    let ge : StandsAt c.self.inside.events (e.path ++ Ge ∷ []) (c.args.i + 1) = ge_stands c.self.inside.events c.self.invariant.certificate.tree c.args.i e cut.0 here is in
    subst (λ (H : History). StandsAt H (e.path ++ c.args.s ∷ []) (c.args.i + 1)) events (subst (λ (s : Side). StandsAt c.self.inside.events (e.path ++ s ∷ []) (c.args.i + 1)) (sym c.in-Ge.is) ge)

pub returns-in-Lt-clause-part : goal.returns-in-Lt-clause-part
returns-in-Lt-clause-part c e at =
    let events : c.self.inside.events ≡ c.args.self.now.events = ap (λ (v : CertView). v.events) c.self.view_is in
    let here : slice_get c.self.inside.events c.args.i ≡ Some e = ap (λ (H : History). slice_get H c.args.i) events ∙ at in
    let cut = c.is_cut.ensures.yes (search rules) in
    let is = read_cut c.self.inside.events c.args.i e c.get.result.now c.deref.result.now cut.0 here c.get.ensures (rw (← c.behind-self.view_is) c.deref.ensures) cut.1 in
    let lt = c.self.invariant.lt_parts_are.each c.args.i e cut.0 here is in
    let xs = c.self.inside.lt_parts.items in
    let within : c.args.i < length xs = omega (arith, slice_get_within c.self.inside.events c.args.i e here, c.self.invariant.lt_parts_are.all) in
    let place : slice_index xs c.args.i ≡ c.index.result.now
    = get_or_from_slice_get xs c.args.i (get_or xs c.args.i c.index.result.now) 0 (slice_get-get_or xs c.args.i c.index.result.now within) ∙ sym c.index.ensures in
    subst (λ (H : History). StandsAt H (e.path ++ c.args.s ∷ []) c.index.result.now) events
    (subst (λ (s : Side). StandsAt c.self.inside.events (e.path ++ s ∷ []) c.index.result.now) (sym c.in-Lt.is) (subst (StandsAt c.self.inside.events (e.path ++ Lt ∷ [])) place lt))
