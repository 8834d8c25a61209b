-- The text of a live run is that of one history, of what each session was told, and of one
-- certificate.
use Rattle.std.proofs.Common.{◌≡◌, ◌≢◌, ◌≤◌, ◌<◌, ◌+◌, ◌++◌, ℕ, suc, pos, Bool, true, false, cond, List, [], ◌∷◌, map, length, flat_map, codes, All, Some, rules, refl, sym, ap, ap₂, subst, ◌∙◌, arith, append_assoc, append-nil}
use Rattle.std.specs.Prelude.{Contains}
use Rattle.std.specs.FinMap as finite
use Rattle.std.specs.List.{enumerate_from}
use Rattle.std.specs.declared.option.Option.{Option}
use Rattle.std.proofs.lemmas.List.{length-map, append_cancel_left}
use Rattle.std.proofs.lemmas.List.Elements.{All-nil, All-cons, All-head, All-tail, All-append}
use Rattle.srs_plane.specs.declared.polygons.Vertex.{Vertex}
use Rattle.srs_plane.specs.Polygons.{region_of}
use Rattle.srs_path.specs.declared.paths.Side.{Side}
use Rattle.srs_path.specs.declared.paths.Side.TheVariants.{Ge, Lt}
use Rattle.srs_path.specs.declared.outcomes.Outcome.{Outcome}
use Rattle.srs_path.specs.declared.outcomes.Outcome.TheVariants.{Inside, Outside, Cut, Left}
use Rattle.srs_path.specs.Views.{Budget, Entry}
use Rattle.srs_tree.specs.Tree.{History, path_eq, outcome_at}
use Rattle.srs_tree.specs.Legality.{IsLegal}
use Rattle.srs_tree.specs.Snapshots.{Snapshot}
use Rattle.srs_tree.specs.Preorder.{event_of, preorder_of}
use Rattle.srs_tree.specs.declared.queries.Said.{Said}
use Rattle.srs_tree.proofs.Preorders.{preorder_at}
use Rattle.srs_tree.proofs.PlannedSteps.{outcome_of_event}
use Rattle.srs_text.specs.Line.{HasNoLf}
use Rattle.srs_line.specs.Machine.{lines_text}
use Rattle.srs_line.specs.Fields.{tokens, line_of}
use Rattle.srs_line.proofs.MachineLaws.{line_once}
use Rattle.srs_line.proofs.FieldLaws.{says_once}
use Rattle.srs_line.proofs.TokenLemmas.{HasNoSpace, tokens_at}
use Rattle.srs_line.proofs.LineTexts.{says_line, line_no_lf}
use Rattle.srs_cert.specs.Texts.{ended, count_text}
use Rattle.srs_cert.specs.Certificates.{CertView, IsInRange, cert_text}
use Rattle.srs_cert.specs.Sayings.{said_text, IsSayable}
use Rattle.srs_cert.specs.Lives.{side_word, path_text, outcome_line, event_text, session_text, sessions_text, cert_of, IsLiveTextOf, LiveTextIsOne}
use Rattle.srs_file.specs.Grammar.{SpellsCertificate}
use Rattle.srs_file.proofs.LineShapes.{in_plain, out_plain, cut_plain, high_plain, count_fits, form_fits, cycle_fits, left_no_lf, end_no_lf, clear_no_lf}
use Rattle.srs_file.proofs.Spelled.{joined_append}
use Rattle.srs_file.proofs.SaidLaws.{tail_once, heads_differ, numbers_no_lf, said_line, said_is_line, said_no_lf, said_once, no_session_line, no_end_line}

-- the line of an event
abbrev event_line : Entry → List ℕ
event_line e = codes "e " ++ path_text e.path ++ 32 ∷ outcome_line e.outcome

head_line : (x y : List ℕ) (xs ys : List (List ℕ)) → x ∷ xs ≡ y ∷ ys → x ≡ y
head_line x y xs ys e = cc

tail_lines : (x y : List ℕ) (xs ys : List (List ℕ)) → x ∷ xs ≡ y ∷ ys → xs ≡ ys
tail_lines x y xs ys e = cc

one_outcome : (x y : Outcome) → Some x ≡ Some y → x ≡ y
one_outcome x y e = cc

same_parts : (p q : List Side) (x y : Outcome) → p ≡ q → x ≡ y → let e : Entry = record { path = p; outcome = x } in let f : Entry = record { path = q; outcome = y } in e ≡ f
same_parts p q x y e f = rw (e, f) refl

sides_dark : (path : List Side) → All (λ byte. 32 < byte) (flat_map side_word path)
sides_dark [] = All-nil (λ byte. 32 < byte)
sides_dark (Ge ∷ path) = All-cons (λ byte. 32 < byte) 103 (flat_map side_word path) (omega arith) (sides_dark path)
sides_dark (Lt ∷ path) = All-cons (λ byte. 32 < byte) 108 (flat_map side_word path) (omega arith) (sides_dark path)

path_dark : (path : List Side) → All (λ byte. 32 < byte) (path_text path)
path_dark [] = All-cons (λ byte. 32 < byte) 46 [] (omega arith) (All-nil (λ byte. 32 < byte))
path_dark (side ∷ path) = sides_dark (side ∷ path)

path_no_space : (path : List Side) → HasNoSpace (path_text path)
path_no_space path k d lt = let dark = path_dark path k d lt in omega arith

path_no_lf : (path : List Side) → HasNoLf (path_text path)
path_no_lf path k d lt = let dark = path_dark path k d lt in omega arith

outcome_no_lf : (o : Outcome) → IsInRange o → HasNoLf (outcome_line o)
outcome_no_lf (Inside entries) range = line_no_lf (codes "in") (pos (length entries) ∷ []) in_plain (count_fits (length entries) (omega (arith, range.short)))
outcome_no_lf (Outside cycle) range = line_no_lf (codes "out") (pos (length cycle) ∷ cycle) out_plain (cycle_fits cycle range)
outcome_no_lf (Cut h) range = line_no_lf (codes "cut") (h.a ∷ h.b ∷ h.c ∷ []) cut_plain (form_fits h range)
outcome_no_lf (Left cause) range = left_no_lf cause

spaced_no_lf : (xs : List ℕ) → HasNoLf xs → HasNoLf (32 ∷ xs)
spaced_no_lf xs h = All-cons (λ c. c ≢ 10) 32 xs (omega arith) h

event_no_lf : (e : Entry) → IsInRange e.outcome → HasNoLf (event_line e)
event_no_lf e range =
    All-cons (λ c. c ≢ 10) 101 (32 ∷ (path_text e.path ++ 32 ∷ outcome_line e.outcome)) (omega arith)
    (spaced_no_lf (path_text e.path ++ 32 ∷ outcome_line e.outcome)
    (All-append (λ c. c ≢ 10) (path_text e.path) (32 ∷ outcome_line e.outcome) (path_no_lf e.path) (spaced_no_lf (outcome_line e.outcome) (outcome_no_lf e.outcome range))))

-- a path has one text
sides_once : (p q : List Side) → flat_map side_word p ≡ flat_map side_word q → p ≡ q
sides_once [] [] e = refl
sides_once [] (Ge ∷ q) e = absurd (cc)
sides_once [] (Lt ∷ q) e = absurd (cc)
sides_once (Ge ∷ p) [] e = absurd (cc)
sides_once (Lt ∷ p) [] e = absurd (cc)
sides_once (Ge ∷ p) (Ge ∷ q) e = ap (λ (r : List Side). Ge ∷ r) (sides_once p q (tail_once 103 103 (flat_map side_word p) (flat_map side_word q) e))
sides_once (Ge ∷ p) (Lt ∷ q) e = absurd (heads_differ 103 108 (flat_map side_word p) (flat_map side_word q) e (omega arith))
sides_once (Lt ∷ p) (Ge ∷ q) e = absurd (heads_differ 108 103 (flat_map side_word p) (flat_map side_word q) e (omega arith))
sides_once (Lt ∷ p) (Lt ∷ q) e = ap (λ (r : List Side). Lt ∷ r) (sides_once p q (tail_once 108 108 (flat_map side_word p) (flat_map side_word q) e))

no_root : (side : Side) (path : List Side) → codes "." ≡ flat_map side_word (side ∷ path) → ⊥
no_root Ge path e = heads_differ 46 103 [] (flat_map side_word path) e (omega arith)
no_root Lt path e = heads_differ 46 108 [] (flat_map side_word path) e (omega arith)

path_once : (p q : List Side) → path_text p ≡ path_text q → p ≡ q
path_once [] [] e = refl
path_once [] (s ∷ q) e = absurd (no_root s q e)
path_once (s ∷ p) [] e = absurd (no_root s p (sym e))
path_once (s ∷ p) (t ∷ q) e = sides_once (s ∷ p) (t ∷ q) e

-- an event's line says its path
event_path_once : (e f : Entry) → event_line e ≡ event_line f → e.path ≡ f.path
event_path_once e f same =
    let later : path_text e.path ++ 32 ∷ outcome_line e.outcome ≡ path_text f.path ++ 32 ∷ outcome_line f.outcome =
    tail_once 32 32 _ _ (tail_once 101 101 _ _ same) in
    let split : path_text e.path ∷ tokens (outcome_line e.outcome) ≡ path_text f.path ∷ tokens (outcome_line f.outcome) =
    sym (tokens_at (path_text e.path) (outcome_line e.outcome) (path_no_space e.path)) ∙ ap tokens later ∙ tokens_at (path_text f.path) (outcome_line f.outcome) (path_no_space f.path) in
    path_once e.path f.path (cc)

-- each event has its outcome in the tree
abbrev Has : (List Side → Option Outcome) → History → Type 0
Has T [] = Unit {0}
Has T (e ∷ H) = (T e.path ≡ Some e.outcome) × Has T H

in_front : (e : Entry) (H : History) → Contains (e ∷ H) e
in_front e H = (0, omega arith, refl)

behind : (e f : Entry) (H : History) → Contains H f → Contains (e ∷ H) f
behind e f H k = let l = k.1 in (suc k.0, omega arith, k.2)

has_all : (T : List Side → Option Outcome) (H : History) → ((e : Entry) → Contains H e → T e.path ≡ Some e.outcome) → Has T H
has_all T [] h = tt
has_all T (e ∷ H) h = (h e (in_front e H), has_all T H (λ f k. h f (behind e f H k)))

same_event : (e f : Entry) → e.path ≡ f.path → e.outcome ≡ f.outcome → e ≡ f
same_event e f p o = same_parts e.path f.path e.outcome f.outcome p o

-- the lines and the tree give the history
history_once : (T : List Side → Option Outcome) (G H : History) → Has T G → Has T H → map event_line G ≡ map event_line H → G ≡ H
history_once T [] [] a b e = refl
history_once T [] (f ∷ H) a b e = absurd (cc)
history_once T (e ∷ G) [] a b same = absurd (cc)
history_once T (e ∷ G) (f ∷ H) a b same =
    let here : event_line e ≡ event_line f = head_line (event_line e) (event_line f) (map event_line G) (map event_line H) same in
    let path = event_path_once e f here in
    let outcome : e.outcome ≡ f.outcome = one_outcome e.outcome f.outcome (sym a.0 ∙ ap T path ∙ b.0) in
    ap₂ (λ (x : Entry) (xs : History). x ∷ xs) (same_event e f path outcome)
    (history_once T G H a.1 b.1 (tail_lines (event_line e) (event_line f) (map event_line G) (map event_line H) same))

-- no line has an LF
abbrev ArePlain : List (List ℕ) → Type 0
ArePlain [] = Unit {0}
ArePlain (line ∷ lines) = HasNoLf line × ArePlain lines

opened : (line : List ℕ) (lines : List (List ℕ)) (rest : List ℕ) → lines_text (line ∷ lines) ++ rest ≡ line ++ 10 ∷ (lines_text lines ++ rest)
opened line lines rest = simp append_assoc

-- so many lines at the front of a text are determined
lines_once : (xs ys : List (List ℕ)) (a b : List ℕ) → ArePlain xs → ArePlain ys → length xs ≡ length ys → lines_text xs ++ a ≡ lines_text ys ++ b → (xs ≡ ys) × (a ≡ b)
lines_once [] [] a b p q n e = (refl, e)
lines_once [] (y ∷ ys) a b p q n e = absurd (omega arith)
lines_once (x ∷ xs) [] a b p q n e = absurd (omega arith)
lines_once (x ∷ xs) (y ∷ ys) a b p q n e =
    let one = line_once x y (lines_text xs ++ a) (lines_text ys ++ b) (sym (opened x xs a) ∙ e ∙ opened y ys b) p.0 q.0 in
    let more = lines_once xs ys a b p.1 q.1 (omega arith) one.1 in
    (ap₂ (λ (l : List ℕ) (ls : List (List ℕ)). l ∷ ls) one.0 more.0, more.1)

events_plain : (H : History) → ((e : Entry) → Contains H e → IsInRange e.outcome) → ArePlain (map event_line H)
events_plain [] h = tt
events_plain (e ∷ H) h = (event_no_lf e (h e (in_front e H)), events_plain H (λ f k. h f (behind e f H k)))

joined_events : (H : History) → lines_text (map event_line H) ≡ flat_map event_text H
joined_events [] = refl
joined_events (e ∷ H) = ap (λ x. event_text e ++ x) (joined_events H)

-- an outcome of a history is in the range that all of them are in
range_at : (H : History) (p : List Side) (o : Outcome) → All (λ (e : Entry). IsInRange e.outcome) H → outcome_at H p ≡ Some o → IsInRange o
range_at [] p o all at = absurd (cc)
range_at (e ∷ H) p o all at = elim (path_eq e.path p) as (λ b. cond b (Some e.outcome) (outcome_at H p) ≡ Some o → IsInRange o) [
  | true ↦ λ here. rw (← one_outcome e.outcome o here) (All-head (λ (x : Entry). IsInRange x.outcome) e H all)
  | false ↦ λ there. range_at H p o (All-tail (λ (x : Entry). IsInRange x.outcome) e H all) there
] at

-- the lines of what the sessions were told
abbrev session_line : ℕ → List ℕ
session_line n = line_of (codes "session") (pos n ∷ [])

abbrev told_lines : ℕ → List (List Said) → List (List ℕ)
told_lines n [] = []
told_lines n (told ∷ more) = session_line n ∷ (map said_line told ++ told_lines (n + 1) more)

joined_said : (told : List Said) → lines_text (map said_line told) ≡ flat_map said_text told
joined_said [] = refl
joined_said (s ∷ told) = ap₂ (λ (x y : List ℕ). x ++ y) (sym (said_is_line s)) (joined_said told)

joined_told : (n : ℕ) (S : List (List Said))
    → lines_text (told_lines n S) ≡ flat_map session_text (enumerate_from n S)
joined_told n [] = refl
joined_told n (told ∷ S) =
    let head = ended (session_line n) in
    let parts : lines_text
    (map said_line told ++ told_lines
    (n + 1) S) ≡ flat_map said_text told ++ flat_map session_text (enumerate_from (n + 1) S) =
    joined_append (map said_line told) (told_lines (n + 1) S)
    ∙ ap₂ (λ (x y : List ℕ). x ++ y) (joined_said told) (joined_told (n + 1) S) in
    ap (λ x. head ++ x) parts
    ∙ sym (append_assoc head (flat_map said_text told)
    (flat_map session_text (enumerate_from (n + 1) S)))

-- no line has an LF, and none is `end`
abbrev AreBeforeEnd : List (List ℕ) → Type 0
AreBeforeEnd [] = Unit {0}
AreBeforeEnd (line ∷ lines) = HasNoLf line × (line ≡ codes "end" → ⊥) × AreBeforeEnd lines

said_before : (told : List Said) (more : List (List ℕ)) → AreBeforeEnd more
    → AreBeforeEnd (map said_line told ++ more)
said_before [] more h = h
said_before (s ∷ told) more h = (said_no_lf s, no_end_line s, said_before told more h)

session_no_lf : (n : ℕ) → HasNoLf (session_line n)
session_no_lf n = numbers_no_lf (codes "session") (pos n ∷ [])
    (clear_no_lf (codes "session") (search rules))

told_before : (n : ℕ) (S : List (List Said)) → AreBeforeEnd (told_lines n S)
told_before n [] = tt
told_before n (told ∷ S) = (
  session_no_lf n,
  (λ e. heads_differ 115 101 _ _ e (omega arith)),
  said_before told (told_lines (n + 1) S) (told_before (n + 1) S),
)

-- the lines before the first `end` are determined, and what follows it
lines_until : (xs ys : List (List ℕ)) (a b : List ℕ) → AreBeforeEnd xs → AreBeforeEnd ys
    → lines_text xs ++ (ended (codes "end") ++ a) ≡ lines_text ys ++ (ended (codes "end") ++ b)
    → (xs ≡ ys) × (a ≡ b)
lines_until [] [] a b p q e = (refl, append_cancel_left (ended (codes "end")) a b e)
lines_until [] (y ∷ ys) a b p q e =
    let one = line_once (codes "end") y a (lines_text ys ++ (ended (codes "end") ++ b))
    (e ∙ opened y ys (ended (codes "end") ++ b)) end_no_lf q.0 in absurd (q.1 (sym one.0))
lines_until (x ∷ xs) [] a b p q e =
    let one = line_once x (codes "end") (lines_text xs ++ (ended (codes "end") ++ a)) b
    (sym (opened x xs (ended (codes "end") ++ a)) ∙ e) p.0 end_no_lf in absurd (p.1 one.0)
lines_until (x ∷ xs) (y ∷ ys) a b p q e =
    let front = ended (codes "end") ++ a in
    let back = ended (codes "end") ++ b in
    let one = line_once x y (lines_text xs ++ front) (lines_text ys ++ back)
    (sym (opened x xs front) ∙ e ∙ opened y ys back) p.0 q.0 in
    let more = lines_until xs ys a b p.2 q.2 one.1 in
    (ap₂ (λ (l : List ℕ) (ls : List (List ℕ)). l ∷ ls) one.0 more.0, more.1)

-- nothing, or lines of which the first is that of a session
abbrev IsNext : List (List ℕ) → Type 0
IsNext [] = Unit {0}
IsNext (line ∷ lines) = (n : ℕ) × (line ≡ session_line n)

told_next : (n : ℕ) (S : List (List Said)) → IsNext (told_lines n S)
told_next n [] = tt
told_next n (told ∷ S) = (n, refl)

-- the lines of a session up to the next one say what it was told
session_once : (s t : List Said) (xs ys : List (List ℕ)) → All IsSayable s → All IsSayable t
    → IsNext xs → IsNext ys → map said_line s ++ xs ≡ map said_line t ++ ys → (s ≡ t) × (xs ≡ ys)
session_once [] [] xs ys p q f g e = (refl, e)
session_once [] (v ∷ t) [] ys p q f g e = absurd (cc)
session_once [] (v ∷ t) (x ∷ xs) ys p q f g e =
    absurd (no_session_line v f.0
    (sym (head_line x (said_line v) xs (map said_line t ++ ys) e) ∙ f.1))
session_once (u ∷ s) [] xs [] p q f g e = absurd (cc)
session_once (u ∷ s) [] xs (y ∷ ys) p q f g e =
    absurd (no_session_line u g.0 (head_line (said_line u) y (map said_line s ++ xs) ys e ∙ g.1))
session_once (u ∷ s) (v ∷ t) xs ys p q f g e =
    let here = said_once u v (All-head IsSayable u s p) (All-head IsSayable v t q)
    (head_line (said_line u) (said_line v) (map said_line s ++ xs) (map said_line t ++ ys) e) in
    let more = session_once s t xs ys (All-tail IsSayable u s p) (All-tail IsSayable v t q) f g
    (tail_lines (said_line u) (said_line v) (map said_line s ++ xs)
    (map said_line t ++ ys) e) in
    (ap₂ (λ (x : Said) (l : List Said). x ∷ l) here more.0, more.1)

sessions_once : (n : ℕ) (S T : List (List Said)) → All (All IsSayable) S → All (All IsSayable) T
    → told_lines n S ≡ told_lines n T → S ≡ T
sessions_once n [] [] p q e = refl
sessions_once n [] (t ∷ T) p q e = absurd (cc)
sessions_once n (s ∷ S) [] p q e = absurd (cc)
sessions_once n (s ∷ S) (t ∷ T) p q e =
    let later = tail_lines (session_line n) (session_line n)
    (map said_line s ++ told_lines (n + 1) S) (map said_line t ++ told_lines (n + 1) T) e in
    let here = session_once s t (told_lines (n + 1) S) (told_lines (n + 1) T)
    (All-head (All IsSayable) s S p) (All-head (All IsSayable) t T q) (told_next (n + 1) S)
    (told_next (n + 1) T) later in
    ap₂ (λ (x : List Said) (l : List (List Said)). x ∷ l) here.0
    (sessions_once (n + 1) S T (All-tail (All IsSayable) s S p)
    (All-tail (All IsSayable) t T q) here.1)

regroup : (live head events told end cert : List ℕ)
    → ((((live ++ (head ++ events)) ++ told) ++ end) ++ cert) ≡ (live ++ (head ++ [])) ++
    (events ++ (told ++ (end ++ cert)))
regroup live head events told end cert = simp (append_assoc, append-nil)

abbrev head_lines : ℕ → List (List ℕ)
head_lines n = line_of (codes "live") (pos 1 ∷ []) ∷ line_of (codes "journal") (pos n ∷ []) ∷ []

module _ (vs : List Vertex) (b : Budget) (H : History) (S : List (List Said)) (text : List ℕ)
    (legal : IsLegal (region_of vs) b.wits H) (t : IsLiveTextOf vs b H S text) where
  abbrev pub cert : CertView
  cert = cert_of vs b t.snapshot

  pub tree_is : (p : List Side) → outcome_at cert.events p ≡ outcome_at H p
  tree_is p = preorder_at t.snapshot p ∙ t.stands.entries p

  pub has : Has (outcome_at cert.events) H
  has = has_all (outcome_at cert.events) H (λ e k. tree_is e.path ∙ outcome_of_event (region_of vs) b.wits H legal e k)

  in_range : (e : Entry) → Contains H e → IsInRange e.outcome
  in_range e k = range_at cert.events e.path e.outcome t.certificate.ranges (tree_is e.path ∙ outcome_of_event (region_of vs) b.wits H legal e k)

  pub few : length H ≤ 65536
  few =
      let size : length cert.events ≡ length H = length-map (finite.entries t.snapshot.entries) event_of ∙ sym (finite.len-entries t.snapshot.entries) ∙ t.stands.count in
      omega (arith, size, t.certificate.within.cells, t.certificate.limits_are.cells)

  pub lines_plain : ArePlain (map event_line H)
  lines_plain = events_plain H in_range

  pub heads_plain : ArePlain (head_lines (length H))
  heads_plain = (
    line_no_lf (codes "live") (pos 1 ∷ []) (high_plain (codes "live") (search rules)) (count_fits 1 (omega arith)),
    (line_no_lf (codes "journal") (pos (length H) ∷ []) (high_plain (codes "journal") (search rules)) (count_fits (length H) few), tt),
  )

  pub text_is : text ≡ lines_text (head_lines (length H)) ++
      (lines_text (map event_line H) ++
      (lines_text (told_lines 1 S) ++ (ended (codes "end") ++ cert_text cert)))
  text_is =
      t.written ∙ rw (joined_events H, joined_told 1 S)
      (regroup (count_text (codes "live") 1) (count_text (codes "journal") (length H))
      (flat_map event_text H) (sessions_text S) (ended (codes "end")) (cert_text cert))

journal_once : (m n : ℕ) → m ≤ 65536 → n ≤ 65536 → head_lines m ≡ head_lines n → m ≡ n
journal_once m n small few e =
    let line : line_of (codes "journal") (pos m ∷ []) ≡ line_of (codes "journal") (pos n ∷ []) = cc in
    let word = high_plain (codes "journal") (search rules) in
    let said = says_line (codes "journal") (pos m ∷ []) word (count_fits m small) in
    let other = says_line (codes "journal") (pos n ∷ []) word (count_fits n few) in
    let numbers = says_once (codes "journal") (line_of (codes "journal") (pos n ∷ [])) (pos m ∷ []) (pos n ∷ []) (rw line at said) other in
    cc

same_size : (G H : History) → length G ≡ length H
    → length (map event_line G) ≡ length (map event_line H)
same_size G H e = omega (arith, length-map G event_line, length-map H event_line, e)

pub live_text_is_one : ((text : List ℕ) (b c : CertView) → SpellsCertificate text b → SpellsCertificate text c → b ≡ c) → LiveTextIsOne
live_text_is_one one vs ws a b G H S T text lg lh t u =
    let both = sym (text_is vs a G S text lg t) ∙ text_is ws b H T text lh u in
    let heads = lines_once (head_lines (length G)) (head_lines (length H)) _ _
    (heads_plain vs a G S text lg t) (heads_plain ws b H T text lh u) refl both in
    let count = journal_once (length G) (length H) (few vs a G S text lg t)
    (few ws b H T text lh u) heads.0 in
    let events = lines_once (map event_line G) (map event_line H) _ _
    (lines_plain vs a G S text lg t) (lines_plain ws b H T text lh u)
    (same_size G H count) heads.1 in
    let rest = lines_until (told_lines 1 S) (told_lines 1 T) (cert_text (cert vs a G S text lg t))
    (cert_text (cert ws b H T text lh u)) (told_before 1 S) (told_before 1 T) events.1 in
    let certs : cert vs a G S text lg t ≡ cert ws b H T text lh u =
    one (cert_text (cert vs a G S text lg t)) (cert vs a G S text lg t) (cert ws b H T text lh u)
    (record { certificate = t.certificate; spelled = refl })
    (record { certificate = u.certificate; spelled = rest.1 }) in
    let Tree = outcome_at (cert vs a G S text lg t).events in (
      ap (λ (c : CertView). c.vertices) certs,
      ap (λ (c : CertView). c.limits) certs,
      history_once Tree G H (has vs a G S text lg t)
          (subst (λ (c : CertView). Has (outcome_at c.events) H) (sym certs)
          (has ws b H T text lh u)) events.0,
      sessions_once 1 S T t.sayable u.sayable rest.0,
    )
