use Rattle.std.proofs.Common.{◌<◌, All, List}
use Rattle.srs_tree.specs.declared.sessions.Segment.{Segment}
use Rattle.srs_file.proofs.Spelled.{pairs_push}
use Rattle.srs_file.proofs.session_lines.SessionLines.take_segments.Goals as goal

pub push-requires : goal.push-requires
push-requires c =
    let segments : List Segment = c.replace-segments.result in
    let last : Segment = record { at = c.in-At.at; queries = c.replace-queries.result.queries } in
    let fit = rw c.in-At.is at c.self.invariant in
    let below : All (λ (s : Segment). s.at < c.in-At.at) segments = rw c.replace-segments.ensures.value fit.1 in
    pairs_push (λ (s t : Segment). s.at < t.at) segments last c.len.ensures.keeps below
