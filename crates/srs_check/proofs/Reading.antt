-- What the lines of a certificate so far tell of every certificate that goes on from them.
use Rattle.std.proofs.Common.{◌≡◌, ◌≢◌, inl, inr, ℕ, ◌+◌, ◌<◌, ◌≤◌, List, [], ◌∷◌, ◌++◌, All, length, take, slice_get, Some, refl, sym, ap, subst, ◌∙◌, arith, append_assoc, append-nil, length-append}
use Rattle.std.proofs.lemmas.Bool.Decides.{nat_tests}
use Rattle.std.proofs.lemmas.List.{take-append-le, take_all}
use Rattle.std.proofs.lemmas.Option.{slice_get-get_or}
use Rattle.std.proofs.Math.Seq.{get_or-append_seam}
use Rattle.std.proofs.lemmas.List.Elements.{All-nil, All-cons, All-append, All-head, All-tail}
use Rattle.srs_num.specs.declared.pairs.V2.{V2}
use Rattle.srs_path.specs.declared.paths.Side.{Side}
use Rattle.srs_path.specs.declared.outcomes.Cause.TheVariants.{Memory}
use Rattle.srs_path.specs.declared.outcomes.Outcome.TheVariants.{Left}
use Rattle.srs_path.specs.Views.{Budget, Entry}
use Rattle.srs_tree.specs.Tree.{History}
use Rattle.srs_tree.specs.WholeTrees.{ListsTrees, KeepsTo}
use Rattle.srs_text.specs.Line.{HasNoLf}
use Rattle.srs_line.specs.declared.slip.Slip.{Slip}
use Rattle.srs_line.specs.declared.slip.Slip.TheVariants.{Missing}
use Rattle.srs_line.specs.Machine.{lines_text, Runs, IsWrong}
use Rattle.srs_cert.specs.Texts.{head_text}
use Rattle.srs_cert.specs.Heights.{height}
use Rattle.srs_cert.specs.Certificates.{CertView, IsInRange, lf_count, line_of_node}
use Rattle.srs_cert.proofs.LineCounts.{lf-append, outcome_lines}
use Rattle.srs_cert.proofs.NodeLines.{line_next}
use Rattle.srs_file.specs.declared.tree.Tree.{Tree}
use Rattle.srs_file.specs.declared.cert_reader.CertPhase.{CertPhase}
use Rattle.srs_file.specs.declared.cert_reader.CertPhase.TheVariants.{First, Polygon, Nodes, Done}
use Rattle.srs_file.specs.declared.cert_reader.CertReader.{CertReader}
use Rattle.srs_file.specs.TreeReading.{at_path, TakesLine}
use Rattle.srs_file.specs.CertReading.{StepsFrom, CertSteps, CertSlips, CertEnds, cert_start, FirstCertSlip}
use Rattle.srs_file.proofs.TreeTexts.{body, events_text, grows}
use Rattle.srs_file.proofs.CertTexts.{IsFine, spelled, runs_text}
use Rattle.srs_file.specs.declared.cert_feed.NodeAt.{NodeAt}
use Rattle.srs_file.specs.Feeding.{EndsNode}
use Rattle.srs_check.specs.declared.walk.Walk.{Walk}
use Rattle.srs_check.specs.Tallies.{IsNode}
use Rattle.srs_check.specs.Walks.{HasCome, Come}
use Rattle.srs_check.specs.LineChecks.{GoesOn, IsPlanted}

-- a first slip but that a line is wanted stays whatever follows
pub slip_stays : (text more : List ℕ) (line : ℕ) (slip : Slip) → FirstCertSlip text line slip → slip ≢ Missing → FirstCertSlip (text ++ more) line slip
slip_stays text more line slip f other = record {
  count = f.count;
  state = f.state;
  rest = f.rest ++ more;
  back = f.back;
  good = record {
    lines = f.good.lines;
    count_is = f.good.count_is;
    whole = ap (λ x. x ++ more) f.good.whole ∙ append_assoc (lines_text f.good.lines) f.rest more;
    good = f.good.good;
  };
  line_is = f.line_is;
  wrong = wrong_more f.state f.rest f.back f.wrong;
}
  where
    some_more : (rest : List ℕ) → rest ≢ [] → rest ++ more ≢ []
    some_more [] some e = some refl
    some_more (x ∷ rest) some e = cc

    wrong_more : (state : CertReader) (rest : List ℕ) (back : ℕ) → IsWrong CertSlips CertEnds state rest slip back → IsWrong CertSlips CertEnds state (rest ++ more) slip back
    wrong_more state rest back (inl (end, some, is, b)) = inl (end, some_more rest some, is, b)
    wrong_more state rest back (inr (inl (unended, plain, is, b))) = absurd (other is)
    wrong_more state rest back (inr (inr (unended, line, after, l, s))) =
        inr (inr (unended, line, after ++ more, record { whole = ap (λ x. x ++ more) l.whole ∙ append_assoc line (10 ∷ after) more; plain = l.plain }, s))

-- a line without an LF counts none
no_lf : (line : List ℕ) → HasNoLf line → lf_count line ≡ 0
no_lf [] plain = refl
no_lf (x ∷ line) plain =
    let here : x ≢ 10 = All-head (λ (byte : ℕ). byte ≢ 10) x line plain in
    let rest : lf_count line ≡ 0 = no_lf line (All-tail (λ (byte : ℕ). byte ≢ 10) x line plain) in
    grind (arith, nat_tests, here, rest)

-- as many LFs as lines
lines_counted : (s t : CertReader) (lines : List (List ℕ)) → Runs CertSteps s lines t → lf_count (lines_text lines) ≡ length lines
lines_counted s t [] e = refl
lines_counted s t (line ∷ lines) (u, step, plain, runs) =
    let parts : lf_count (lines_text (line ∷ lines)) ≡ lf_count (line ++ 10 ∷ []) + lf_count (lines_text lines) = lf-append (line ++ 10 ∷ []) (lines_text lines) in
    let one : lf_count (line ++ 10 ∷ []) ≡ lf_count line + 1 = lf-append line (10 ∷ []) in
    omega (arith, parts, one, no_lf line plain, lines_counted u t lines runs)

-- what holds of a state to which good lines led
pub fine : (lines : List (List ℕ)) (s : CertReader) → Runs CertSteps cert_start lines s → IsFine s.phase s
fine lines s runs = (runs_text cert_start s lines runs refl).1

-- the polygon and the limits are as they were
pub record SameHead (s t : CertReader) : Type 0 where
  pub planted : IsPlanted t.phase
  pub outline : t.outline ≡ s.outline
  pub limits : t.tree.limits ≡ s.tree.limits

keeps_from : (phase : CertPhase) (s t : CertReader) (line : List ℕ) → s.phase ≡ phase → IsPlanted phase → IsFine phase s → StepsFrom phase s line t → SameHead s t
keeps_from First s t line at planted fine p = absurd planted
keeps_from Polygon s t line at planted fine p = absurd planted
keeps_from Nodes s t line at planted fine (inl (some, tree, p, e)) =
    let g = grows s.tree tree line some fine.1 p in
    record {
      planted = subst IsPlanted (sym (ap (λ (x : CertReader). x.phase) e ∙ at)) tt;
      outline = ap (λ (x : CertReader). x.outline) e;
      limits = ap (λ (x : CertReader). x.tree.limits) e ∙ g.limits_same;
    }
keeps_from Nodes s t line at planted fine (inr (none, p, e)) = record {
  planted = subst IsPlanted (sym (ap (λ (x : CertReader). x.phase) e)) tt;
  outline = ap (λ (x : CertReader). x.outline) e;
  limits = ap (λ (x : CertReader). x.tree.limits) e;
}
keeps_from Done s t line at planted fine p = absurd p

-- a good line after the limits keeps them
pub same_head : (lines : List (List ℕ)) (s t : CertReader) (line : List ℕ) → Runs CertSteps cert_start lines s → IsPlanted s.phase → CertSteps s line t → SameHead s t
same_head lines s t line runs planted step = keeps_from s.phase s t line refl planted (fine lines s runs) step

-- where a node ends: within the tree, with no leaf at hand
pub record EndsIn (s t : CertReader) : Type 0 where
  pub before : s.phase ≡ Nodes
  pub after : t.phase ≡ Nodes
  pub closed : t.tree.leaf.left ≡ 0

one_more : (G H : History) (e : Entry) → H ≡ G → H ≡ G ++ e ∷ [] → ⊥
one_more G H e same more = omega (arith, ap length same, ap length more, length-append G (e ∷ []))

closes : (s t : Tree) (line : List ℕ) (e : Entry) → t.events ≡ s.events ++ e ∷ [] → TakesLine s line t → t.leaf.left ≡ 0
closes s t line e more (inl (some_left, (leaf, q, inl (some, f)))) = absurd (one_more s.events t.events e (ap (λ (x : Tree). x.events) f) more)
closes s t line e more (inl (some_left, (leaf, q, inr (zero, (path, rest, waits, f))))) = ap (λ (x : Tree). x.leaf.left) f
closes s t line e more (inr (closed, inl (w, (h, p, (room, sized, (path, rest, waits, high, f)))))) = ap (λ (x : Tree). x.leaf.left) f ∙ closed
closes s t line e more (inr (closed, inr (inl (w, (n, p, f))))) = absurd (one_more s.events t.events e (ap (λ (x : Tree). x.events) f) more)
closes s t line e more (inr (closed, inr (inr (inl (w, (n, cycle, p, count, is, (path, rest, waits, f))))))) = ap (λ (x : Tree). x.leaf.left) f ∙ closed
closes s t line e more (inr (closed, inr (inr (inr (w, (cause, p, (path, rest, waits, f))))))) = ap (λ (x : Tree). x.leaf.left) f ∙ closed

ends_from : (phase : CertPhase) (s t : CertReader) (line : List ℕ) (e : Entry) → s.phase ≡ phase → t.tree.events ≡ s.tree.events ++ e ∷ [] → StepsFrom phase s line t → EndsIn s t
ends_from First s t line e at more (p, f) = absurd (one_more s.tree.events t.tree.events e (ap (λ (x : CertReader). x.tree.events) f) more)
ends_from Polygon s t line e at more (inl (a, outline, p, f)) = absurd (one_more s.tree.events t.tree.events e (ap (λ (x : CertReader). x.tree.events) f) more)
ends_from Polygon s t line e at more (inr (a, (b, p, f))) =
    absurd (omega (arith, ap length more, ap (λ (x : CertReader). length x.tree.events) f, length-append s.tree.events (e ∷ [])))
ends_from Nodes s t line e at more (inl (some, tree, p, f)) = record {
  before = at;
  after = ap (λ (x : CertReader). x.phase) f ∙ at;
  closed = ap (λ (x : CertReader). x.tree.leaf.left) f ∙ closes s.tree tree line e (sym (ap (λ (x : CertReader). x.tree.events) f) ∙ more) p;
}
ends_from Nodes s t line e at more (inr (none, p, f)) = absurd (one_more s.tree.events t.tree.events e (ap (λ (x : CertReader). x.tree.events) f) more)
ends_from Done s t line e at more p = absurd p

pub ends_in : (s t : CertReader) (line : List ℕ) (e : Entry) → t.tree.events ≡ s.tree.events ++ e ∷ [] → CertSteps s line t → EndsIn s t
ends_in s t line e more step = ends_from s.phase s t line e refl more step

-- the cells that wait, each left for want of memory
abbrev left_open : List (List Side) → History
left_open [] = []
left_open (path ∷ paths) = at_path path (Left Memory) ∷ left_open paths

open_listed : (paths : List (List Side)) → ListsTrees paths (left_open paths)
open_listed [] = tt
open_listed (path ∷ paths) = (refl, open_listed paths)

open_size : (paths : List (List Side)) → length (left_open paths) ≡ length paths
open_size [] = refl
open_size (path ∷ paths) = omega (arith, open_size paths)

open_all : (P : Entry → Type 0) → ((path : List Side) → P (at_path path (Left Memory))) → (paths : List (List Side)) → All P (left_open paths)
open_all P each [] = All-nil P
open_all P each (path ∷ paths) = All-cons P (at_path path (Left Memory)) (left_open paths) (each path) (open_all P each paths)

-- some certificate goes on from lines that end within the tree
pub completed : (s : CertReader) → IsFine Nodes s → (c : CertView) × GoesOn s c
completed s fine =
    let g = fine.1 in
    let K = left_open s.tree.pending in
    let few : length (s.tree.events ++ K) ≤ s.tree.limits.cells = let was = g.cells_are in omega (arith, was, g.room, length-append s.tree.events K, open_size s.tree.pending) in
    let c : CertView = record { vertices = s.outline.ring.vertices; limits = s.tree.limits; events = s.tree.events ++ K } in (
      c,
      record {
        certificate = record {
          polygon = fine.0.0;
          limits_are = g.limits_are;
          ranges = All-append (λ (x : Entry). IsInRange x.outcome) s.tree.events K g.ranges (open_all (λ (x : Entry). IsInRange x.outcome) (λ path. tt) s.tree.pending);
          tree = g.listed K (open_listed s.tree.pending);
          within = record {
            cells = few;
            each = All-append (KeepsTo s.tree.limits) s.tree.events K g.each (open_all (KeepsTo s.tree.limits) (λ path. tt) s.tree.pending);
          };
        };
        vertices_are = refl;
        limits_are = refl;
        more = K;
        events_are = refl;
      },
    )

-- a certificate that goes on from a line goes on from what stood before
pub goes_back : (s t : CertReader) (xs : History) (c : CertView) → SameHead s t → t.tree.events ≡ s.tree.events ++ xs → GoesOn t c → GoesOn s c
goes_back s t xs c keeps grown g = record {
  certificate = g.certificate;
  vertices_are = g.vertices_are ∙ ap (λ o. o.ring.vertices) keeps.outline;
  limits_are = g.limits_are ∙ keeps.limits;
  more = xs ++ g.more;
  events_are = g.events_are ∙ ap (λ (H : History). H ++ g.more) grown ∙ append_assoc s.tree.events xs g.more;
}

take_front : (G more : History) → take (length G) (G ++ more) ≡ G
take_front G more = take-append-le (length G) G more (omega arith) ∙ take_all (length G) G (omega arith)

closed_text : (head done : List ℕ) (left : ℕ) (entries : List (V2 × ℕ)) → left ≡ 0 → head ++ done ≡ head ++ body done left entries
closed_text head done left entries closed = rw closed (ap (λ x. head ++ x) (sym (append-nil done)))

-- where a node begins, by the lines before it
begins_at : (c : CertView) (G more : History) → c.events ≡ G ++ more → line_of_node c (length G) ≡ lf_count (head_text c.vertices c.limits) + lf_count (events_text G) + 1
unfolding line_of_node
begins_at c G more e =
    let first : take (length G) c.events ≡ G = ap (take (length G)) e ∙ take_front G more in
    ap (λ (H : History). lf_count (head_text c.vertices c.limits ++ events_text H) + 1) first
    ∙ ap (λ n. n + 1) (lf-append (head_text c.vertices c.limits) (events_text G))

-- the lines so far, where no leaf is at hand
lines_are : (lines : List (List ℕ)) (t : CertReader) → Runs CertSteps cert_start lines t → t.phase ≡ Nodes → t.tree.leaf.left ≡ 0
    → length lines ≡ lf_count (head_text t.outline.ring.vertices t.tree.limits) + lf_count (events_text t.tree.events)
lines_are lines t runs at closed =
    let said : spelled t.phase t ≡ lines_text lines = (runs_text cert_start t lines runs refl).0 in
    let whole : spelled Nodes t ≡ lines_text lines = subst (λ (p : CertPhase). spelled p t ≡ lines_text lines) at said in
    let text : head_text t.outline.ring.vertices t.tree.limits ++ events_text t.tree.events ≡ lines_text lines = closed_text (head_text t.outline.ring.vertices t.tree.limits) (events_text t.tree.events) t.tree.leaf.left t.tree.leaf.entries closed ∙ whole in
    omega (arith, lines_counted cert_start t lines runs, ap lf_count text, lf-append (head_text t.outline.ring.vertices t.tree.limits) (events_text t.tree.events))

-- A line that led from one state to another ended this node.
module _ (lines : List (List ℕ)) (line : List ℕ) (node : NodeAt) (s t : CertReader) (runs : Runs CertSteps cert_start lines s) (step : CertSteps s line t)
    (all : Runs CertSteps cert_start (lines ++ line ∷ []) t) (ends : EndsNode (length lines) s t node) where
  abbrev pub event : Entry
  event = at_path ends.path node.outcome

  pub place : EndsIn s t
  place = ends_in s t line event ends.event step

  pub keeps : SameHead s t
  keeps = same_head lines s t line runs (subst IsPlanted (sym place.before) tt) step

  pub one_event_more : length t.tree.events ≡ length s.tree.events + 1
  one_event_more = omega (arith, ap length ends.event, length-append s.tree.events (event ∷ []))

  -- some certificate goes on from here
  pub some_certificate : (c : CertView) × GoesOn t c
  some_certificate = completed t (subst (λ (p : CertPhase). IsFine p t) place.after (fine (lines ++ line ∷ []) t all))

  module _ (c : CertView) (g : GoesOn t c) where
    events_split : c.events ≡ s.tree.events ++ event ∷ g.more
    events_split = g.events_are ∙ ap (λ (H : History). H ++ g.more) ends.event ∙ append_assoc s.tree.events (event ∷ []) g.more

    there : slice_get c.events (length s.tree.events) ≡ Some event
    there =
        let within : length s.tree.events < length (s.tree.events ++ event ∷ g.more) = omega (arith, length-append s.tree.events (event ∷ g.more)) in
        ap (λ (H : History). slice_get H (length s.tree.events)) events_split
        ∙ slice_get-get_or (s.tree.events ++ event ∷ g.more) (length s.tree.events) event within
        ∙ ap (λ (x : Entry). Some x) (get_or-append_seam s.tree.events event g.more event)

    begins : node.line ≡ line_of_node c (length s.tree.events)
    begins =
        let after : line_of_node c (length t.tree.events) ≡ lf_count (head_text c.vertices c.limits) + lf_count (events_text t.tree.events) + 1 = begins_at c t.tree.events g.more g.events_are in
        let head : lf_count (head_text c.vertices c.limits) ≡ lf_count (head_text t.outline.ring.vertices t.tree.limits)
        = ap (λ vs. lf_count (head_text vs c.limits)) g.vertices_are ∙ ap (λ b. lf_count (head_text t.outline.ring.vertices b)) g.limits_are in
        let count = lines_are (lines ++ line ∷ []) t all place.after place.closed in
        let next : line_of_node c (length s.tree.events + 1) ≡ line_of_node c (length s.tree.events) + height node.outcome = line_next c (length s.tree.events) event there in
        omega (arith, after, head, count, next, ap (line_of_node c) one_event_more, length-append lines (line ∷ []), ends.last, outcome_lines node.outcome)

    pub is_node : IsNode c.events (length s.tree.events) node.depth node.outcome
    is_node = record { entry = event; there = there; depth_is = ends.depth; outcome_is = refl }

    -- the walk comes to the node
    pub comes : (L : Budget) (w : Walk) → L ≡ t.tree.limits → HasCome c (length s.tree.events) w → Come c (length s.tree.events) L node.line node.depth node.outcome w
    comes L w limits come = record {
      certificate = g.certificate;
      limits_are = g.limits_are ∙ sym limits;
      line_is = begins;
      node = is_node;
      come = come;
    }

    pub from_before : GoesOn s c
    from_before = goes_back s t (event ∷ []) c keeps ends.event g
