-- What is read as a certificate is its text.
use Rattle.std.proofs.Common.{◌≡◌, ◌+◌, ◌++◌, ℕ, pos, List, [], ◌∷◌, length, codes, flat_map, refl, sym, ap, ◌∙◌, inl, inr, arith, append_assoc, append-nil}
use Rattle.srs_path.specs.Views.{Budget}
use Rattle.srs_tree.specs.WholeTrees.{ListsWholeTree}
use Rattle.srs_line.specs.Machine.{lines_text, Runs, IsRead}
use Rattle.srs_line.proofs.LineTexts.{said_is}
use Rattle.srs_file.specs.declared.cert_reader.CertPhase.{CertPhase}
use Rattle.srs_file.specs.declared.cert_reader.CertPhase.TheVariants.{First, Polygon, Nodes, Done}
use Rattle.srs_file.specs.declared.cert_reader.CertReader.{CertReader}
use Rattle.srs_cert.specs.Texts.{ended, count_text, limits_text, head_text, outcome_text}
use Rattle.srs_cert.specs.Certificates.{outcomes_of, IsCertificate, cert_text}
use Rattle.srs_file.specs.Grammar.{SpellsCertificate}
use Rattle.srs_file.specs.CertReading.{StepsFrom, CertSteps, CertEnds, cert_start, read_view}
use Rattle.srs_file.specs.Ring.{IsFull}
use Rattle.srs_file.specs.Outline.{no_outline, IsWholeOutline}
use Rattle.srs_file.proofs.OutlineTexts.{outline_text, IsFine as IsFineOutline, outline_grows, whole_text as outline_whole}
use Rattle.srs_file.proofs.TreeTexts.{tree_text, IsGrown, root_grown, grows}

abbrev pub srs_text : List ℕ
srs_text = count_text (codes "srs") 1

-- the text that led to the state
abbrev pub spelled : CertPhase → CertReader → List ℕ
spelled First s = []
spelled Polygon s = srs_text ++ outline_text s.outline
spelled Nodes s = head_text s.outline.ring.vertices s.tree.limits ++ tree_text s.tree
spelled Done s = (head_text s.outline.ring.vertices s.tree.limits ++ tree_text s.tree) ++ ended (codes "end")

-- what holds of a state that good lines lead to
abbrev pub IsFine : CertPhase → CertReader → Type 0
IsFine First s = s.outline ≡ no_outline
IsFine Polygon s = IsFineOutline s.outline
IsFine Nodes s = IsFull s.outline.ring × IsGrown s.tree
IsFine Done s = IsFull s.outline.ring × IsGrown s.tree × (s.tree.pending ≡ [])

-- in front of what grows
after : (a b c l : List ℕ) → b ≡ c ++ l → a ++ b ≡ (a ++ c) ++ l
after a b c l e = ap (λ x. a ++ x) e ∙ sym (append_assoc a c l)

limits_said : (s : CertReader) (b : Budget) (line : List ℕ) → IsWholeOutline s.outline → ended line ≡ limits_text b
    → head_text s.outline.ring.vertices b ++ [] ≡ (srs_text ++ outline_text s.outline) ++ ended line
limits_said s b line whole e = rw (outline_whole s.outline whole, e) (append-nil (head_text s.outline.ring.vertices b))

step_text : (phase : CertPhase) (s t : CertReader) (line : List ℕ) → s.phase ≡ phase → StepsFrom phase s line t → IsFine phase s
    → (spelled t.phase t ≡ spelled phase s ++ ended line) × IsFine t.phase t
step_text First s t line at (p, e) fine =
    let said = ap ended (said_is (codes "srs") (pos 1 ∷ []) line p).0 in
    rw (e, fine) (append-nil srs_text ∙ sym said, (λ whole. absurd (let flag = whole.0 in cc)))
step_text Polygon s t line at (inl (a, outline, p, f)) fine =
    let more = outline_grows s.outline outline line a p in
    rw (f, at) (after srs_text (outline_text outline) (outline_text s.outline) (ended line) more.0, more.1)
step_text Polygon s t line at (inr (a, (b, p, e))) fine =
    rw e (limits_said s b line a (ap ended (said_is (codes "limits") (pos b.depth ∷ pos b.cells ∷ pos b.wits ∷ []) line p.0).0), (fine a, root_grown b p.1))
step_text Nodes s t line at (inl (a, tree, p, e)) fine =
    let g = grows s.tree tree line a fine.1 p in
    rw (e, at) (
      ap (λ (b : Budget). head_text s.outline.ring.vertices b ++ tree_text tree) g.limits_same ∙ after (head_text s.outline.ring.vertices s.tree.limits) (tree_text tree) (tree_text s.tree) (ended line) g.spelled,
      (fine.0, g.grown),
    )
step_text Nodes s t line at (inr (a, p, e)) fine = rw (e, p) (refl, (fine.0, fine.1, a))
step_text Done s t line at p fine = absurd p

pub runs_text : (s t : CertReader) (lines : List (List ℕ)) → Runs CertSteps s lines t → IsFine s.phase s → (spelled t.phase t ≡ spelled s.phase s ++ lines_text lines) × IsFine t.phase t
runs_text s t [] e fine = rw (← e) (sym (append-nil (spelled s.phase s)), fine)
runs_text s t (line ∷ lines) (u, step, plain, runs) fine =
    let one = step_text s.phase s u line refl step fine in
    let more = runs_text u t lines runs one.1 in
    (more.0 ∙ ap (λ x. x ++ lines_text lines) one.0 ∙ append_assoc (spelled s.phase s) (ended line) (lines_text lines), more.1)

whole_text : (s : CertReader) → IsFine Done s → spelled Done s ≡ cert_text (read_view s)
whole_text s fine =
    let zero = fine.1.awaited fine.2 in
    let done = flat_map outcome_text (outcomes_of s.tree.events) in
    let front = head_text s.outline.ring.vertices s.tree.limits in
    rw zero (ap (λ (x : List ℕ). (front ++ x) ++ ended (codes "end")) (append-nil done))

certificate_read : (s : CertReader) → IsFine Done s → IsCertificate (read_view s)
certificate_read s fine =
    let g = fine.1 in
    let none : s.tree.pending ≡ [] = fine.2 in
    let listed : ListsWholeTree s.tree.events = rw append-nil at (g.listed [] (rw none tt)) in
    record {
      polygon = fine.0.0;
      limits_are = g.limits_are;
      ranges = g.ranges;
      tree = listed;
      within = record { cells = let was = g.cells_are in omega (arith, was, g.room, ap length none); each = g.each };
    }

pub read_is_cert : (text : List ℕ) (last : CertReader) → IsRead CertSteps CertEnds cert_start text last → SpellsCertificate text (read_view last)
read_is_cert text last (count, reaches, end) =
    let all = runs_text cert_start last reaches.lines reaches.good refl in
    let fine : IsFine Done last = rw end at all.1 in
    let said : spelled Done last ≡ lines_text reaches.lines = rw end at all.0 in
    record { certificate = certificate_read last fine; spelled = reaches.whole ∙ append-nil (lines_text reaches.lines) ∙ sym said ∙ whole_text last fine }
