use Rattle.std.proofs.Common.{◌≡◌, slice_get, Some, sym, ap, ◌∙◌, arith}
use Rattle.std.proofs.lemmas.Option.{slice_get_within}
use Rattle.srs_path.specs.Views.{Entry}
use Rattle.srs_tree.specs.Tree.{History}
use Rattle.srs_cert.proofs.Descents.{root_stands, next_stands, stops_at, arrives}
use Rattle.srs_cert.proofs.certificates.Cert.outcome.Goals as goal

pub loop-k-init : goal.loop-k-init
loop-k-init c = root_stands c.args.self.now.events c.events-events.ensures.certificate.tree

pub part-requires : goal.part-requires
part-requires c = slice_get_within c.args.self.now.events c.loop-k.place c.loop-k.invariant.event c.loop-k.invariant.there

pub returns-in_err-place : goal.returns-in_err-place
returns-in_err-place c =
    let none = stops_at c.args.self.now.events c.events-events.ensures.certificate.tree c.args.path c.loop-k.k c.loop-k.place c.loop-k.invariant (omega arith) c.in_err-place.ensures.none in
    rw c.from_residual.ensures none

pub loop-k-preserved : goal.loop-k-preserved
loop-k-preserved c =
    next_stands c.args.self.now.events c.events-events.ensures.certificate.tree c.args.path c.loop-k.k c.loop-k.place c.loop-k.invariant c.in_ok-place.place c.side.result (omega arith) c.side.ensures c.in_ok-place.ensures.part

pub get-requires : goal.get-requires
get-requires c =
    let l = slice_get_within c.args.self.now.events c.loop-k.place c.loop-k.invariant.event c.loop-k.invariant.there in
    rw c.events-events.ensures.events l

pub returns : goal.returns
returns c =
    let there : slice_get c.args.self.now.events c.loop-k.place ≡ Some c.get.result.now = ap (λ (H : History). slice_get H c.loop-k.place) (sym c.events-events.ensures.events) ∙ c.get.ensures in
    let outcome : c.get.result.now.outcome ≡ c.as_ref.result.now = ap (λ (e : Entry). e.outcome) (sym c.behind-events.view_is) ∙ sym c.as_ref.ensures in
    let last = arrives c.args.self.now.events c.events-events.ensures.certificate.tree c.args.path c.loop-k.k c.loop-k.place c.loop-k.invariant c.get.result.now there (omega arith) in
    last ∙ ap Some outcome
