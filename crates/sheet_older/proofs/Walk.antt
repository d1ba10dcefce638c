-- Counted things turned one by one where they stand: Going is the invariant of all three loops, whatever is counted.
-- The idea: the things turned so far and, behind them, those left as they were make up what stands there; with those left turned it is what is asked for.
-- Assumes nothing.
use mathlib.Core.Path.{◌≡◌, refl, sym, ◌∙◌, ap, ap₂}
use mathlib.Core.List.{List, [], ◌∷◌, ◌++◌, flat_map, append_assoc, append-nil}
use Prim.Native.Nat.{ℕ, ◌+◌, ◌-◌, ◌≤◌, ◌<◌}
use native.Mathlib.Omega.{arith}
use lib.IntN.{ℤ, pos}
use lib.ListN.{length, get_or}
use Rattle.whole.specs.Sums.{All}
use Rattle.whole.proofs.Sums.{flat_map-++}
use Rattle.plane.specs.Keys.{Held}
use Rattle.sheet_form.specs.Numbers.{counted}
use Rattle.sheet_older.specs.Standing.{Stands, Place, Turns}
use Rattle.sheet_older.proofs.Places.{stands_as, stands_past, stands_count}

-- What is left of a list l: the things that are turned stand there, then those left; they, and what those left are turned to by h, make up what l is turned to by g.
pub record Left {A : Type 0} (f : A → List ℤ) (g h : List A → List A) (Fit : A → Type 0) (front : List ℤ) (l : List A) (rest : List ℤ)
    (numbers : List ℕ) (here left : ℕ) : Type 0 where
  pub done : List A
  pub todo : List A
  pub goes : done ++ h todo ≡ g l
  pub stands : Stands numbers here (front ++ pos (length l) ∷ flat_map f done) (flat_map f todo ++ rest)
  pub many : length todo ≡ left
  pub fits : All Fit todo

-- While a counted list is turned, whichever stands at the place.
pub record Going {A : Type 0} (f : A → List ℤ) (g h : List A → List A) (Fit : A → Type 0) (numbers₀ : List ℕ) (at : ℕ) (numbers : List ℕ) (here left : ℕ) : Type 0 where
  pub held : All Held numbers
  pub long : length numbers ≡ length numbers₀
  pub reads : (front : List ℤ) (l : List A) (rest : List ℤ) → All Fit l → Stands numbers₀ at front (counted f l ++ rest) → Left f g h Fit front l rest numbers here left

-- As many things left, counted otherwise.
pub going_as : {A : Type 0} {f : A → List ℤ} {g h : List A → List A} {Fit : A → Type 0} {numbers₀ : List ℕ} {at : ℕ} {numbers : List ℕ} {here left left' : ℕ}
    → Going f g h Fit numbers₀ at numbers here left → left ≡ left' → Going f g h Fit numbers₀ at numbers here left'
going_as w e = rw e at w

-- Nothing is turned.
pub going_begin : {A : Type 0} (f : A → List ℤ) (g : List A → List A) (Fit : A → Type 0) (numbers : List ℕ) (at : ℕ) → All Held numbers
    → Going f g g Fit numbers at numbers (at + 1) (get_or numbers at 0 - 10_000_000)
unfolding flat_map
going_begin f g Fit numbers at held =
    record {
      held = held;
      long = refl;
      reads = λ front l rest fits s. let c = stands_count f l rest s in
          record { done = []; todo = l; goes = refl; stands = stands_past (pos (length l) ∷ []) (omega arith) s; many = omega (arith, c.1); fits = fits };
    }

module _ {A : Type 0} {f : A → List ℤ} {g h : List A → List A} {Fit : A → Type 0} {numbers₀ : List ℕ} {at : ℕ} {numbers : List ℕ} {here left : ℕ}
    (w : Going f g h Fit numbers₀ at numbers here left) where
  -- The next of the things left stands here.
  pub going_place : Place (counted f) (All Fit) numbers₀ at → 0 < left → Place f Fit numbers here
  unfolding flat_map
  going_place p k = go x.todo x.stands x.many x.fits
    where
      x : Left f g h Fit p.front p.thing p.rest numbers here left
      x = w.reads p.front p.thing p.rest p.fits p.stands

      go : (todo : List A) → Stands numbers here (p.front ++ pos (length p.thing) ∷ flat_map f x.done) (flat_map f todo ++ p.rest)
          → length todo ≡ left → All Fit todo → Place f Fit numbers here
      go [] s m a = absurd (omega arith)
      go (t ∷ l) s m a =
          record {
            held = w.held;
            front = p.front ++ pos (length p.thing) ∷ flat_map f x.done;
            thing = t;
            rest = flat_map f l ++ p.rest;
            fits = a.0;
            stands = stands_as refl (append_assoc (f t) (flat_map f l) p.rest) s;
          }

  -- One thing more is turned, by k; those behind it are turned by h'.
  pub going_more : {k : A → A} {h' : List A → List A} → ((a : A) (l : List A) → h (a ∷ l) ≡ k a ∷ h' l) → 0 < left
      → {numbers' : List ℕ} {next : ℕ} → Turns f k Fit numbers here numbers' next → Going f g h' Fit numbers₀ at numbers' next (left - 1)
  unfolding flat_map
  going_more {k} {h'} one more {numbers'} {next} v =
      record {
        held = v.held;
        long = v.long ∙ w.long;
        reads = λ front l rest fits s. let x = w.reads front l rest fits s in go front l rest x.done x.todo x.goes x.stands x.many x.fits;
      }
    where
      go : (front : List ℤ) (l : List A) (rest : List ℤ) (done todo : List A) → done ++ h todo ≡ g l
          → Stands numbers here (front ++ pos (length l) ∷ flat_map f done) (flat_map f todo ++ rest)
          → length todo ≡ left → All Fit todo → Left f g h' Fit front l rest numbers' next (left - 1)
      go front l rest done [] e s m a = absurd (omega arith)
      go front l rest done (t ∷ todo) e s m a =
          record {
            done = done ++ k t ∷ [];
            todo = todo;
            goes = append_assoc done (k t ∷ []) (h' todo) ∙ ap (λ z. done ++ z) (sym (one t todo)) ∙ e;
            stands = stands_as
                (append_assoc front (pos (length l) ∷ flat_map f done) (f (k t))
                ∙ ap (λ z. front ++ pos (length l) ∷ z) (ap (λ z. flat_map f done ++ z) (sym (append-nil (f (k t)))) ∙ sym (flat_map-++ f done (k t ∷ []))))
                refl
                (v.reads (front ++ pos (length l) ∷ flat_map f done) t (flat_map f todo ++ rest) a.0 (stands_as refl (append_assoc (f t) (flat_map f todo) rest) s));
            many = omega arith;
            fits = a.1;
          }

  -- All things are turned.
  pub going_done : h [] ≡ [] → ((l : List A) → length (g l) ≡ length l) → left ≤ 0 → Turns (counted f) g (All Fit) numbers₀ at numbers here
  unfolding flat_map
  going_done none same k =
      record {
        held = w.held;
        long = w.long;
        reads = λ front l rest fits s. let x = w.reads front l rest fits s in go front l rest x.done x.todo x.goes x.stands x.many;
      }
    where
      go : (front : List ℤ) (l : List A) (rest : List ℤ) (done todo : List A) → done ++ h todo ≡ g l
          → Stands numbers here (front ++ pos (length l) ∷ flat_map f done) (flat_map f todo ++ rest)
          → length todo ≡ left → Stands numbers here (front ++ counted f (g l)) rest
      go front l rest done [] e s m =
          let all : done ≡ g l = sym (append-nil done) ∙ ap (λ z. done ++ z) (sym none) ∙ e in
          stands_as (ap₂ (λ n z. front ++ pos n ∷ flat_map f z) (sym (same l)) all) refl s
      go front l rest done (t ∷ todo) e s m = absurd (omega arith)
