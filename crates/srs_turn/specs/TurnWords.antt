-- The rule of a turn, which holds between any two steps, and what each step tells.
use Rattle.std.specs.Prelude.{◌≡◌, ◌≢◌, ◌⊎◌, ℕ, zero, suc, List, [], ◌∷◌, length, Option, Some, None}
use mathlib.Core.Option.{some, none}
use lib.ListN.{get_elem?}
use Rattle.atomic_table.specs.Table.{State, Me, Step}
use Rattle.srs_turn.specs.declared.view.Role.{Role}
use Rattle.srs_turn.specs.declared.view.Role.TheVariants.{Idle, Holder, Joining, Spent}
use Rattle.srs_turn.specs.declared.view.View.{View}
use Rattle.srs_turn.specs.Prefixes.{Begins, longer}

module _ {E F : Type 0} where
  -- what a seat knows
  abbrev pub knows : Role E → List E → Option F → View E F
  knows role seen fixed = record { role = role; seen = seen; fixed = fixed }

  -- a seat that another took in
  abbrev pub spent_view : View E F
  spent_view = knows Spent [] None

  -- the seat that took in another
  abbrev pub joining_view : View E F → View E F → View E F
  joining_view v w = record v { role = Joining w.seen }

  -- A seat that isn't spent has seen a beginning of the counted list and knows the turn's `fixed`. The holder is the one with this number, and has seen the whole.
  abbrev pub Fits : ℕ → List E → F → ℕ → ℕ → List E → Option F → Role E → Type 0
  Fits lock list fixed holder id seen known Idle = Begins seen list × (known ≡ Some fixed)
  Fits lock list fixed holder id seen known Holder = (lock ≡ 1) × (holder ≡ id) × (seen ≡ list) × (known ≡ Some fixed)
  Fits lock list fixed holder id seen known (Joining other) = Begins seen list × Begins other list × (known ≡ Some fixed)
  Fits lock list fixed holder id seen known Spent = Unit {0}

-- the list of the seat that was taken in
abbrev pub taken_in : {E : Type 0} → Role E → List E
taken_in Idle = []
taken_in Holder = []
taken_in (Joining other) = other
taken_in Spent = []

-- where the turn is held, the seat with this number holds it
abbrev pub IsHeldBy : {E F : Type 0} → ℕ → ℕ → List (View E F) → Type 0
IsHeldBy {E} {F} lock holder views = lock ≡ 1 → (v : View E F) × (get_elem? views holder ≡ some v) × (v.role ≡ Holder)

-- the list of the book in the slot that was taken last
abbrev pub told_in : {B E : Type 0} → (B → List E) → List (ℕ × Option B) → List E
told_in told [] = []
told_in told ((slot, None) ∷ others) = []
told_in told ((slot, Some book) ∷ others) = told book

module _ {S E F : Type 0} where
  -- the seat holds nothing
  abbrev pub IsIdle : Me S (View E F) → Type 0
  IsIdle seat = (seat.0.role ≡ Idle) × (seat.1 ≡ [])

  -- The seat has seen the counted list, whose length it found.
  abbrev pub Counted : Step S → Me S (View E F) → ℕ → Me S (View E F) → Type 0
  Counted step old found new = IsIdle new × (new.0.fixed ≡ old.0.fixed) × Begins old.0.seen new.0.seen × (length new.0.seen ≡ found)

  -- the seat is as before
  abbrev pub Rested : Step S → Me S (View E F) → ℕ → Me S (View E F) → Type 0
  Rested step old found new = new ≡ old

  -- the seat gave up the turn, with its book
  abbrev pub Freed : Step S → Me S (View E F) → ℕ → Me S (View E F) → Type 0
  Freed step old found new = new ≡ (record old.0 { role = Idle }, [])

  -- One of the two lists begins the other, and the longer is kept.
  abbrev pub Compared : Step S → Me S (View E F) → ℕ → Me S (View E F) → Type 0
  Compared step old found new =
      (new ≡ (record old.0 { role = Idle; seen = longer old.0.seen (taken_in old.0.role) }, []))
      × (Begins old.0.seen (taken_in old.0.role) ⊎ Begins (taken_in old.0.role) old.0.seen)

module _ {B E F : Type 0} (told : B → List E) (fixed : B → F) where
  -- the first seat
  abbrev pub first_view : B → View E F
  first_view book = knows Idle (told book) (Some (fixed book))

  -- Where the turn is free, the book is in its slot, and its list is the counted one. Where it is held, the book is out.
  abbrev pub IsHome : ℕ → List E → F → List (mathlib.Core.Option.Option (Option B)) → Type 0
  IsHome zero list f homes = (book : B) × (homes ≡ some (Some book) ∷ []) × (told book ≡ list) × (fixed book ≡ f)
  IsHome (suc k) list f homes = (k ≡ 0) × (homes ≡ none ∷ [])

  -- There is one list, which the second word counts. All seats have seen beginnings of it, and one at most holds the book. Nothing is kept of the third word.
  pub record IsTurnTable (f : F) (s : State (Option B) (View E F)) : Type 0 where
    pub lock : ℕ
    pub list : List E
    pub holder : ℕ
    pub asleep : ℕ
    pub words : s.words ≡ lock ∷ length list ∷ asleep ∷ []
    pub home : IsHome lock list f s.homes
    pub held : IsHeldBy lock holder s.views
    pub each : (id : ℕ) (v : View E F) → get_elem? s.views id ≡ some v → Fits lock list f holder id v.seen v.fixed v.role

  -- the seat holds the turn and the book, and has seen the book's list
  abbrev pub HasBook : Me (Option B) (View E F) → Type 0
  HasBook seat = (seat.0.role ≡ Holder) × ((book : B) × (seat.1 ≡ (0, Some book) ∷ []) × (told book ≡ seat.0.seen) × (seat.0.fixed ≡ Some (fixed book)))

  -- The seat found the turn free and has the book, or found it held and is as before.
  abbrev pub Tried : Step (Option B) → Me (Option B) (View E F) → ℕ → Me (Option B) (View E F) → Type 0
  Tried step old found new = (new.0.fixed ≡ old.0.fixed) × Begins old.0.seen new.0.seen × (found ≡ 0 → HasBook new) × (found ≢ 0 → new ≡ old)

module _ {B E F : Type 0} (told : B → List E) where
  -- the holder has seen the list of the book in its slot
  abbrev pub Grew : Step (Option B) → Me (Option B) (View E F) → ℕ → Me (Option B) (View E F) → Type 0
  Grew step old found new = new ≡ (record old.0 { role = Holder; seen = told_in told old.1 }, old.1)
