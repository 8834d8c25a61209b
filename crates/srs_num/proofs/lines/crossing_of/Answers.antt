use Rattle.std.proofs.Common.{◌^◌, ◌-◌, refl, lit≤}
use Rattle.srs_num.proofs.Crossings.{minors_of, crossing_held, sized_more}
use Rattle.srs_num.proofs.lines.crossing_of.Goals as goal

pub new-requires : goal.new-requires
new-requires c =
    let x = c.parts-fa.ensures in
    let y = c.parts-ga.ensures in
    let m = minors_of _ _ _ _ _ _ _ _ _ _ _ x.sized y.sized x.a x.b x.c y.a y.b y.c
    c.minor.ensures.value c.minor-2.ensures.value c.minor-3.ensures.value
    c.minor.ensures.size c.minor-2.ensures.size c.minor-3.ensures.size in
    sized_more (2 ^ 77) (2 ^ 84 - 1) _ (crossing_held _ _ _ _ _ _ m c.requires refl).sized (lit≤ tt)

pub returns : goal.returns
returns c =
    let x = c.parts-fa.ensures in
    let y = c.parts-ga.ensures in
    let m = minors_of _ _ _ _ _ _ _ _ _ _ _ x.sized y.sized x.a x.b x.c y.a y.b y.c
    c.minor.ensures.value c.minor-2.ensures.value c.minor-3.ensures.value
    c.minor.ensures.size c.minor-2.ensures.size c.minor-3.ensures.size in
    let r = crossing_held _ _ _ _ _ _ m c.requires c.new.ensures in
    record { value = r.value; sized = r.sized }
