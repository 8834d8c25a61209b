-- What a step of the descent keeps.
use Rattle.std.proofs.Common.{◌≡◌, ◌≢◌, inl, inr, ℕ, zero, suc, ◌+◌, ◌-◌, ◌<◌, ◌≤◌, List, [], ◌∷◌, ◌++◌, length, Bool, true, false, true≢false, Option, None, Some, arith, ap, subst, sym, ◌∙◌, refl, get_or, length-append, length-set}
use Rattle.std.specs.Prelude.{◌⊎◌, not, cond, count_by}
use Rattle.std.proofs.Math.ListN.{set}
use Rattle.std.proofs.Math.Decide.{dec_lt}
use Rattle.std.proofs.Math.Seq.{get_or-append_right}
use Rattle.std.proofs.lemmas.List.{get_or-set_same, get_or-set_other, get_or_append_left, get_or_default}
use Rattle.std.proofs.lemmas.List.Sums.{sum_by-set}
use Rattle.srs_num.specs.declared.pairs.V2.{V2}
use Rattle.srs_map.specs.Step.{origin}
use Rattle.srs_graph.specs.declared.rows.Row.{Row}
use Rattle.srs_graph.specs.declared.descent.Visit.{Visit}
use Rattle.srs_graph.specs.Networks.{pair_at, row_at, IsInRow, AreRows}
use Rattle.srs_graph.specs.Marks.{mark_at, HasNoMarks, Ranked, IsOpen, AreMarks, IsPeeled}
use Rattle.srs_graph.specs.Descents.{visit_at, is_entered, AreNotEntered, StayEntered, AreSmall, IsRead, IsVisit, WaitsFor, TopWaitsFor, IsOnPath, IsOffPath, IsStuck, IsDescent}
use Rattle.srs_graph.proofs.Marking.{by_eq, keeps, marked, marks_none}
use Rattle.srs_graph.proofs.Meaning.{none_some}
use Rattle.srs_graph.proofs.Reading.{ranked_end, ranked_zero, read_none}
use Rattle.srs_graph.proofs.Paths.{longer, below, top, by_place, each_more, each_less, top_of, on_more, on_top, waits_more, waits_less, waits_top, apart_more, apart_less, apart_top}

pub stay_set : (es : List Bool) (k : ℕ) → k < length es → StayEntered es (set es k true)
stay_set es k h i e = by_eq i k
    (λ s. ap (is_entered (set es k true)) s ∙ get_or-set_same es k true false h)
    (λ d. get_or-set_other es k i true false d ∙ e)

-- the top of a path that waits
top_waits : (rows : List Row) (path : List Visit) (v : Visit) (j : ℕ) → WaitsFor rows v j → TopWaitsFor rows (path ++ v ∷ []) j
top_waits rows path v j w k e = subst (λ (u : Visit). WaitsFor rows u j) (sym (top path v k (omega (arith, longer path v, e)))) w

-- the descent with its top apart
pub record Topped (ps : List V2) (rows : List Row) (ms : List (Option ℕ)) (es : List Bool) (path : List Visit) (v : Visit) : Type 0 where
  pub marks : AreMarks ps rows ms
  pub len : length es ≡ length ps
  pub fresh : (i : ℕ) → is_entered es i ≡ false → mark_at ms i ≡ None
  pub visits : (k : ℕ) → k < length path → IsVisit ps rows ms (visit_at path k)
  pub been : (k : ℕ) → k < length path → is_entered es (visit_at path k).place ≡ true
  pub waits : (k : ℕ) → k + 1 < length path → WaitsFor rows (visit_at path k) (visit_at path (k + 1)).place
  pub apart : (j k : ℕ) → j < k → k < length path → (visit_at path j).place ≢ (visit_at path k).place
  pub left : (i : ℕ) → is_entered es i ≡ true → mark_at ms i ≡ None → v.place ≢ i → IsOnPath path i ⊎ ((s : IsStuck ps rows ms es path i) × (v.place ≢ s.next))
  pub visit : IsVisit ps rows ms v
  pub entered_top : is_entered es v.place ≡ true
  pub under : TopWaitsFor rows path v.place
  pub off : IsOffPath path v.place

module _ (ps : List V2) (rows : List Row) where
  pub raised : (ms : List (Option ℕ)) (es : List Bool) (path : List Visit) (v : Visit) → Topped ps rows ms es path v → IsDescent ps rows ms es (path ++ v ∷ [])
  raised ms es path v t = record {
    marks = t.marks;
    len = t.len;
    fresh = t.fresh;
    visits = each_more path v (IsVisit ps rows ms) t.visits t.visit;
    been = each_more path v (λ (u : Visit). is_entered es u.place ≡ true) t.been t.entered_top;
    waits = waits_more path v rows t.waits t.under;
    apart = apart_more path v t.apart t.off;
    left = λ i e n. by_eq v.place i
        (λ s. inl (subst (IsOnPath (path ++ v ∷ [])) s (on_top path v)))
        (λ d. elim (t.left i e n d) as (λ _. IsOnPath (path ++ v ∷ []) i ⊎ IsStuck ps rows ms es (path ++ v ∷ []) i) [
          | inl o ↦ inl (on_more path v i o)
          | inr s ↦ inr (record { not_zero = s.0.not_zero; next = s.0.next; in_row = s.0.in_row; no_mark = s.0.no_mark; entered_it = s.0.entered_it; off_path = each_more path v (λ (u : Visit). u.place ≢ s.0.next) s.0.off_path s.1 })
        ]);
  }

  pub lowered : (ms : List (Option ℕ)) (es : List Bool) (path : List Visit) (v : Visit) → IsDescent ps rows ms es (path ++ v ∷ []) → Topped ps rows ms es path v
  lowered ms es path v d = record {
    marks = d.marks;
    len = d.len;
    fresh = d.fresh;
    visits = each_less path v (IsVisit ps rows ms) d.visits;
    been = each_less path v (λ (u : Visit). is_entered es u.place ≡ true) d.been;
    waits = waits_less path v rows d.waits;
    apart = apart_less path v d.apart;
    left = λ i e n q. elim (d.left i e n) as (λ _. IsOnPath path i ⊎ ((s : IsStuck ps rows ms es path i) × (v.place ≢ s.next))) [
      | inl o ↦ inl (by_place path v o.0 o.1
          (λ l. (o.0, l, sym (ap (λ (u : Visit). u.place) (below path v o.0 l)) ∙ o.2))
          (λ s. absurd (q (sym (ap (λ (u : Visit). u.place) (top path v o.0 s)) ∙ o.2))))
      | inr s ↦ inr (
        record { not_zero = s.not_zero; next = s.next; in_row = s.in_row; no_mark = s.no_mark; entered_it = s.entered_it; off_path = each_less path v (λ (u : Visit). u.place ≢ s.next) s.off_path },
        top_of path v (λ (u : Visit). u.place ≢ s.next) s.off_path,
      )
    ];
    visit = top_of path v (IsVisit ps rows ms) d.visits;
    entered_top = top_of path v (λ (u : Visit). is_entered es u.place ≡ true) d.been;
    under = waits_top path v rows d.waits;
    off = apart_top path v d.apart;
  }

  -- the top has read on
  pub read_top : (ms : List (Option ℕ)) (es : List Bool) (path : List Visit) (v u : Visit) → Topped ps rows ms es path v → u.place ≡ v.place → IsRead (row_at rows v.place) ms u.next u.rank → Topped ps rows ms es path u
  read_top ms es path v u t e r = record {
    marks = t.marks;
    len = t.len;
    fresh = t.fresh;
    visits = t.visits;
    been = t.been;
    waits = t.waits;
    apart = t.apart;
    left = subst (λ (p : ℕ). (i : ℕ) → is_entered es i ≡ true → mark_at ms i ≡ None → p ≢ i → IsOnPath path i ⊎ ((s : IsStuck ps rows ms es path i) × (p ≢ s.next))) (sym e) t.left;
    visit = record {
      inside = subst (λ (p : ℕ). p < length ps) (sym e) t.visit.inside;
      not_zero = subst (λ (p : ℕ). pair_at ps p ≢ origin) (sym e) t.visit.not_zero;
      no_mark = subst (λ (p : ℕ). mark_at ms p ≡ None) (sym e) t.visit.no_mark;
      read = subst (λ (p : ℕ). IsRead (row_at rows p) ms u.next u.rank) (sym e) r;
    };
    entered_top = subst (λ (p : ℕ). is_entered es p ≡ true) (sym e) t.entered_top;
    under = subst (TopWaitsFor rows path) (sym e) t.under;
    off = subst (IsOffPath path) (sym e) t.off;
  }

  module _ (ms : List (Option ℕ)) (p n : ℕ) (h : p < length ms) (m : mark_at ms p ≡ None) where
    other : (i : ℕ) → i ≢ p → mark_at (set ms p (Some n)) i ≡ mark_at ms i
    other i d = get_or-set_other ms p i (Some n) None d

    read_stays : (r : Row) (k rank : ℕ) → IsRead r ms k rank → IsRead r (set ms p (Some n)) k rank
    read_stays r k rank s = record {
      each = λ j a b. let x = s.each j a b in (x.0, keeps ps rows ms p n h m j x.0 x.1, x.2);
      best = λ b. let x = s.best b in (x.0, x.1, x.2, x.3, keeps ps rows ms p n h m x.0 x.1 x.4, x.5);
      none = s.none;
      from = s.from;
      within = s.within;
    }

    visit_stays : (v : Visit) → IsVisit ps rows ms v → v.place ≢ p → IsVisit ps rows (set ms p (Some n)) v
    visit_stays v s d = record { inside = s.inside; not_zero = s.not_zero; no_mark = other v.place d ∙ s.no_mark; read = read_stays (row_at rows v.place) v.next v.rank s.read }

    -- p, which isn't on the path, has its mark
    settled : (es : List Bool) (path : List Visit) → AreMarks ps rows ms → Ranked ps rows ms p n → length es ≡ length ps → is_entered es p ≡ true
        → ((i : ℕ) → is_entered es i ≡ false → mark_at ms i ≡ None)
        → ((k : ℕ) → k < length path → IsVisit ps rows ms (visit_at path k))
        → ((k : ℕ) → k < length path → is_entered es (visit_at path k).place ≡ true)
        → ((k : ℕ) → k + 1 < length path → WaitsFor rows (visit_at path k) (visit_at path (k + 1)).place)
        → ((j k : ℕ) → j < k → k < length path → (visit_at path j).place ≢ (visit_at path k).place)
        → IsOffPath path p
        → ((i : ℕ) → is_entered es i ≡ true → mark_at ms i ≡ None → p ≢ i → IsOnPath path i ⊎ ((s : IsStuck ps rows ms es path i) × (p ≢ s.next)))
        → IsDescent ps rows (set ms p (Some n)) es path
    settled es path a r l b fresh visits been waits apart off left = record {
      marks = marked ps rows ms p n h m a r;
      len = l;
      fresh = λ i e. other i (λ s. true≢false (sym b ∙ ap (is_entered es) (sym s) ∙ e)) ∙ fresh i e;
      visits = λ k q. visit_stays (visit_at path k) (visits k q) (off k q);
      been = been;
      waits = waits;
      apart = apart;
      left = λ i e f. by_eq i p
          (λ s. absurd (none_some (sym f ∙ ap (mark_at (set ms p (Some n))) s ∙ get_or-set_same ms p (Some n) None h)))
          (λ d. elim (left i e (sym (other i d) ∙ f) (λ s. d (sym s))) as (λ _. IsOnPath path i ⊎ IsStuck ps rows (set ms p (Some n)) es path i) [
            | inl o ↦ inl o
            | inr s ↦ inr (record { not_zero = s.0.not_zero; next = s.0.next; in_row = s.0.in_row; no_mark = other s.0.next (λ q. s.1 (sym q)) ∙ s.0.no_mark; entered_it = s.0.entered_it; off_path = s.0.off_path })
          ]);
    }

  -- the top has read all of its row
  pub mark_top : (ms : List (Option ℕ)) (es : List Bool) (path : List Visit) (v : Visit) → AreRows (length ps) rows → Topped ps rows ms es path v → v.next ≡ (row_at rows v.place).start + (row_at rows v.place).len → IsDescent ps rows (set ms v.place (Some v.rank)) es path
  mark_top ms es path v a t e =
      settled ms v.place v.rank (omega (arith, t.visit.inside, t.marks.len)) t.visit.no_mark es path t.marks
      (ranked_end ps rows ms v.place v.next v.rank a t.visit.inside t.visit.not_zero e t.visit.read)
      t.len t.entered_top t.fresh t.visits t.been t.waits t.apart t.off t.left

  -- the top reads a place that was left with no mark: so all of the path is stuck
  pub clear_all : (ms : List (Option ℕ)) (es : List Bool) (path : List Visit) (v : Visit) → Topped ps rows ms es path v → v.next < (row_at rows v.place).start + (row_at rows v.place).len → mark_at ms v.next ≡ None → is_entered es v.next ≡ true → IsDescent ps rows ms es []
  clear_all ms es path v t l m b = record {
    marks = t.marks;
    len = t.len;
    fresh = t.fresh;
    visits = λ k h. absurd (omega arith);
    been = λ k h. absurd (omega arith);
    waits = λ k h. absurd (omega arith);
    apart = λ j k _ h. absurd (omega arith);
    left = λ i e n. inr (by_eq v.place i
        (λ s. subst (IsStuck ps rows ms es []) s top_stuck)
        (λ d. elim (t.left i e n d) as (λ _. IsStuck ps rows ms es [] i) [
          | inl o ↦ subst (IsStuck ps rows ms es []) o.2 (on_stuck o.0 o.1)
          | inr s ↦ record { not_zero = s.0.not_zero; next = s.0.next; in_row = s.0.in_row; no_mark = s.0.no_mark; entered_it = s.0.entered_it; off_path = λ k h. absurd (omega arith) }
        ]));
  }
    where
      top_stuck : IsStuck ps rows ms es [] v.place
      top_stuck = record { not_zero = t.visit.not_zero; next = v.next; in_row = (t.visit.read.from, l); no_mark = m; entered_it = b; off_path = λ k h. absurd (omega arith) }

      waiting : (u : Visit) (j : ℕ) → IsVisit ps rows ms u → WaitsFor rows u j → mark_at ms j ≡ None → is_entered es j ≡ true → IsStuck ps rows ms es [] u.place
      waiting u j s w f g = record { not_zero = s.not_zero; next = j; in_row = w.in_row; no_mark = f; entered_it = g; off_path = λ k h. absurd (omega arith) }

      on_stuck : (k : ℕ) → k < length path → IsStuck ps rows ms es [] (visit_at path k).place
      on_stuck k h = elim (dec_lt (k + 1) (length path)) as (λ _. IsStuck ps rows ms es [] (visit_at path k).place) [
        | yes q ↦ waiting (visit_at path k) (visit_at path (k + 1)).place (t.visits k h) (t.waits k q) (t.visits (k + 1) q).no_mark (t.been (k + 1) q)
        | no q ↦ waiting (visit_at path k) v.place (t.visits k h) (t.under k (omega arith)) t.visit.no_mark t.entered_top
      ]

  module _ (ms : List (Option ℕ)) (es : List Bool) (path : List Visit) (v u : Visit) (d : IsDescent ps rows ms es (path ++ v ∷ [])) (e : u.place ≡ v.place) (r : IsRead (row_at rows v.place) ms u.next u.rank) where
    went_on : Topped ps rows ms es path u
    went_on = read_top ms es path v u (lowered ms es path v d) e r

    pub read_all : AreRows (length ps) rows → u.next ≡ (row_at rows v.place).start + (row_at rows v.place).len → IsDescent ps rows (set ms u.place (Some u.rank)) es path
    read_all a q = mark_top ms es path u a went_on (subst (λ (p : ℕ). u.next ≡ (row_at rows p).start + (row_at rows p).len) (sym e) q)

    -- b is what is read of the flags
    pub read_to_stuck : AreRows (length ps) rows → u.next ≢ (row_at rows v.place).start + (row_at rows v.place).len → (u.next < (row_at rows v.place).start + (row_at rows v.place).len → mark_at ms u.next ≡ None)
        → (b : Bool) → b ≡ get_or es u.next b → b ≡ true → IsDescent ps rows ms es []
    read_to_stuck a q m b f g =
        let l : u.next < (row_at rows v.place).start + (row_at rows v.place).len = omega (arith, q, r.within) in
        let h : v.place < length ps = subst (λ (p : ℕ). p < length ps) e went_on.visit.inside in
        let n : u.next < length es = omega (arith, l, a.within v.place h, d.len) in
        clear_all ms es path u went_on (subst (λ (p : ℕ). u.next < (row_at rows p).start + (row_at rows p).len) (sym e) l) (m l) (get_or_default es u.next false b n ∙ sym f ∙ g)

    pub read_to_new : IsDescent ps rows ms es (path ++ u ∷ [])
    read_to_new = raised ms es path u went_on

    pub waits_there : u.next ≢ (row_at rows v.place).start + (row_at rows v.place).len → TopWaitsFor rows (path ++ u ∷ []) u.next
    waits_there q = top_waits rows path u u.next (record { next = refl; in_row = subst (λ (p : ℕ). IsInRow (row_at rows p) u.next) (sym e) (r.from, omega (arith, q, r.within)) })

  module _ (ms : List (Option ℕ)) (es : List Bool) (path : List Visit) (j : ℕ) (d : IsDescent ps rows ms es path) (h : j < length ps) (f : is_entered es j ≡ false) where
    in_flags : j < length es
    in_flags = omega (arith, d.len)

    here : is_entered (set es j true) j ≡ true
    here = get_or-set_same es j true false in_flags

    before : (i : ℕ) → i ≢ j → is_entered (set es j true) i ≡ is_entered es i
    before i q = get_or-set_other es j i true false q

    not_new : (i : ℕ) → is_entered es i ≡ true → i ≢ j
    not_new i e s = true≢false (sym e ∙ ap (is_entered es) s ∙ f)

    fresh : (i : ℕ) → is_entered (set es j true) i ≡ false → mark_at ms i ≡ None
    fresh i e = d.fresh i (sym (before i (λ s. true≢false (sym here ∙ ap (is_entered (set es j true)) (sym s) ∙ e))) ∙ e)

    off : IsOffPath path j
    off k q = not_new (visit_at path k).place (d.been k q)

    been : (k : ℕ) → k < length path → is_entered (set es j true) (visit_at path k).place ≡ true
    been k q = stay_set es j in_flags (visit_at path k).place (d.been k q)

    left : (i : ℕ) → is_entered (set es j true) i ≡ true → mark_at ms i ≡ None → j ≢ i → IsOnPath path i ⊎ ((s : IsStuck ps rows ms (set es j true) path i) × (j ≢ s.next))
    left i e n q = elim (d.left i (sym (before i (λ s. q (sym s))) ∙ e) n) as (λ _. IsOnPath path i ⊎ ((s : IsStuck ps rows ms (set es j true) path i) × (j ≢ s.next))) [
      | inl o ↦ inl o
      | inr s ↦ inr (
        record { not_zero = s.not_zero; next = s.next; in_row = s.in_row; no_mark = s.no_mark; entered_it = stay_set es j in_flags s.next s.entered_it; off_path = s.off_path },
        λ r. not_new s.next s.entered_it (sym r),
      )
    ]

    pub enter_zero : pair_at ps j ≡ origin → IsDescent ps rows (set ms j (Some 0)) (set es j true) path
    enter_zero z =
        settled ms j 0 (omega (arith, d.marks.len)) (d.fresh j f) (set es j true) path d.marks (ranked_zero ps rows ms j z)
        (length-set es j true ∙ d.len) here fresh d.visits been d.waits d.apart off left

    pub enter_more : pair_at ps j ≢ origin → TopWaitsFor rows path j → IsDescent ps rows ms (set es j true) (path ++ (record { place = j; next = (row_at rows j).start; rank = 0 }) ∷ [])
    enter_more z w = raised ms (set es j true) path (record { place = j; next = (row_at rows j).start; rank = 0 }) (record {
      marks = d.marks;
      len = length-set es j true ∙ d.len;
      fresh = fresh;
      visits = d.visits;
      been = been;
      waits = d.waits;
      apart = d.apart;
      left = left;
      visit = record { inside = h; not_zero = z; no_mark = d.fresh j f; read = read_none (row_at rows j) ms };
      entered_top = here;
      under = w;
      off = off;
    })

  pub descent_none : (ms : List (Option ℕ)) (es : List Bool) → HasNoMarks (length ps) ms → AreNotEntered (length ps) es → IsDescent ps rows ms es []
  descent_none ms es a b = record {
    marks = marks_none ps rows ms a;
    len = b.len;
    fresh = λ i _. a.none i;
    visits = λ k h. absurd (omega arith);
    been = λ k h. absurd (omega arith);
    waits = λ k h. absurd (omega arith);
    apart = λ j k _ h. absurd (omega arith);
    left = λ i e _. absurd (true≢false (sym e ∙ b.none i));
  }

  -- all was entered, and the path is empty
  pub all_peeled : (ms : List (Option ℕ)) (es : List Bool) → IsDescent ps rows ms es [] → ((i : ℕ) → i < length ps → is_entered es i ≡ true) → IsPeeled ps rows ms
  all_peeled ms es d a = record {
    marks = d.marks;
    left = λ i h e. elim (d.left i (a i h) e) as (λ _. IsOpen ps rows ms i) [
      | inl o ↦ absurd (omega (arith, o.1))
      | inr s ↦ record { not_zero = s.not_zero; on = record { next = s.next; in_row = s.in_row; no_mark = s.no_mark } }
    ];
  }

abbrev one : List Bool
one = false ∷ []

last : (j : ℕ) → is_entered one j ≡ false
last zero = refl
last (suc j) = refl

pub none_more : (n : ℕ) (es : List Bool) → AreNotEntered n es → AreNotEntered (n + 1) (es ++ false ∷ [])
none_more n es a = record { len = omega (arith, length-append es (false ∷ []), a.len); none = none }
  where
    none : (i : ℕ) → is_entered (es ++ false ∷ []) i ≡ false
    none i = elim (dec_lt i (length es)) as (λ _. is_entered (es ++ false ∷ []) i ≡ false) [
      | yes l ↦ get_or_append_left es (false ∷ []) false i l ∙ a.none i
      | no l ↦ get_or-append_right es (false ∷ []) i false (omega arith) ∙ last (i - length es)
    ]
