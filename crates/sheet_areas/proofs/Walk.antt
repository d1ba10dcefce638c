-- Counted things summed up one by one off the held numbers: Going is the invariant of both loops, whatever is counted.
-- The idea: the double area summed up so far and those of the things left are together that of the list, and it is as small as the edges passed are few.
-- Assumes nothing.
use mathlib.Core.Path.{◌≡◌, sym, ◌∙◌, ap, subst}
use mathlib.Core.List.{List, [], ◌∷◌, ◌++◌, map, flat_map, append_assoc}
use Prim.Native.Nat.{ℕ, ◌+◌, ◌-◌, ◌*◌, ◌≤◌, ◌<◌}
use native.Mathlib.Omega.{arith}
use lib.IntN.{ℤ, pos, ◌+ℤ◌}
use lib.ListN.{length, get_or, take, drop, length-append}
use lib.Seq.{take-take}
use mir.Syntax.{w64}
use mir.Val.{SFits, to_z, of_z}
use mir.Facts.{to_z-of_z}
use Rattle.whole.specs.Numbers.{Within}
use Rattle.whole.specs.Polynomials.{con, ◌:+◌, ◌:=◌}
use Rattle.whole.specs.Sums.{All, sum}
use Rattle.whole.proofs.Bound.{within_add, within_fits, exact}
use Rattle.whole.proofs.Ring.{solve}
use Rattle.whole.proofs.Sums.{all_take, sum-++}
use Rattle.plane.specs.Points.{Edge, cross}
use Rattle.plane.specs.Members.{Ring}
use Rattle.plane.specs.Corners.{millimetres}
use Rattle.plane.specs.Keys.{Held}
use Rattle.sheet_form.specs.Numbers.{point_numbers, counted, ring_numbers}
use Rattle.sheet_edges.specs.Standing.{NumbersAt}
use Rattle.sheet_edges.proofs.Walk.{count_first, point_first}
use Rattle.sheet_sums.proofs.Summing.{points_length}
use Rattle.sheet_areas.specs.declared.Summed.{Summed}
use Rattle.sheet_areas.specs.Standing.{Place, Sums}

-- What holds of the first m holds of the first n, which are no more.
pub all_fewer : (P : ℕ → Type 0) (n m : ℕ) (l : List ℕ) → n ≤ m → All P (take m l) → All P (take n l)
all_fewer P n m l h k = subst (All P) (take-take n m l h) (all_take P n (take m l) k)

-- What is left of a list l: the things left stand here, and what is summed up so far and their double areas are together that of l.
pub record Left {A : Type 0} (f : A → List ℤ) (e : A → List Edge) (Fit : A → Type 0) (l : List A) (rest : List ℤ) (numbers : List ℕ) (at here left : ℕ) (total : ℤ) : Type 0 where
  pub todo : List A
  pub passed : ℕ
  pub many : length todo ≡ left
  pub fits : All Fit todo
  pub goes : total +ℤ sum cross (flat_map e todo) ≡ sum cross (flat_map e l)
  pub edges : passed + length (flat_map e todo) ≡ length (flat_map e l)
  pub small : Within (400_000_000_000_000 * passed) total
  pub numbers_at : map millimetres (drop here numbers) ≡ flat_map f todo ++ rest
  pub ends : here + length (flat_map f todo) ≡ at + length (counted f l)

-- While a counted list is summed up, whichever stands at the place.
pub record Going {A : Type 0} (f : A → List ℤ) (e : A → List Edge) (Fit : A → Type 0) (numbers : List ℕ) (at here left : ℕ) (total : ℤ) : Type 0 where
  pub reads : (l : List A) (rest : List ℤ) → All Fit l → All Held (take (at + length (counted f l)) numbers) → NumbersAt (counted f) numbers at l rest
      → Left f e Fit l rest numbers at here left total

-- Nothing is summed up.
pub going_begin : {A : Type 0} (f : A → List ℤ) (e : A → List Edge) (Fit : A → Type 0) (numbers : List ℕ) (at : ℕ)
    → Going f e Fit numbers at (at + 1) (get_or numbers at 0 - 10_000_000) (pos 0)
going_begin f e Fit numbers at =
    record {
      reads = λ l rest fits held s. let c = count_first f numbers at l rest s in
          record {
            todo = l;
            passed = 0;
            many = omega (arith, c.1);
            fits = fits;
            goes = solve 1 (λ z. con (pos 0) :+ z := z) tt (sum cross (flat_map e l));
            edges = omega arith;
            small = record { size = omega arith };
            numbers_at = c.2;
            ends = omega arith;
          };
    }

-- The count of the list that stands at the place.
pub place_count : {A : Type 0} (f : A → List ℤ) {e : List A → List Edge} {Fit : List A → Type 0} {numbers : List ℕ} {at : ℕ} (p : Place (counted f) e Fit numbers at)
    → (at < length numbers) × (get_or numbers at 0 ≡ length p.thing + 10_000_000)
place_count f {numbers = numbers} {at = at} p = let c = count_first f numbers at p.thing p.rest p.numbers_at in (c.0, c.1)

-- What is summed up of the thing that stands at the place fits.
pub one_fits : {A : Type 0} {f : A → List ℤ} {e : A → List Edge} {Fit : A → Type 0} {numbers : List ℕ} {at : ℕ} → Place f e Fit numbers at
    → {r : Summed} → Sums f e Fit numbers at r → to_z w64 (of_z w64 r.area) ≡ r.area
one_fits {e = e} p {r} v =
    exact (400_000_000_000_000 * length (e p.thing)) r.area (omega (arith, p.few)) (v.reads p.thing p.rest p.fits p.held p.numbers_at).1

module _ {A : Type 0} {f : A → List ℤ} {e : A → List Edge} {Fit : A → Type 0} {numbers : List ℕ} {at here left : ℕ} {total : ℤ} (w : Going f e Fit numbers at here left total) where
  -- The next of the things left stands here.
  pub going_place : Place (counted f) (flat_map e) (All Fit) numbers at → 0 < left → Place f e Fit numbers here
  unfolding flat_map
  going_place p h = go x.todo x.many x.fits x.edges x.numbers_at x.ends
    where
      x : Left f e Fit p.thing p.rest numbers at here left total
      x = w.reads p.thing p.rest p.fits p.held p.numbers_at

      go : (todo : List A) → length todo ≡ left → All Fit todo → x.passed + length (flat_map e todo) ≡ length (flat_map e p.thing)
          → map millimetres (drop here numbers) ≡ flat_map f todo ++ p.rest → here + length (flat_map f todo) ≡ at + length (counted f p.thing) → Place f e Fit numbers here
      go [] m a g s d = absurd (omega arith)
      go (t ∷ l) m a g s d =
          record {
            thing = t;
            rest = flat_map f l ++ p.rest;
            fits = a.0;
            few = omega (arith, p.few, length-append (e t) (flat_map e l));
            numbers_at = s ∙ append_assoc (f t) (flat_map f l) p.rest;
            held = all_fewer Held (here + length (f t)) (at + length (counted f p.thing)) numbers (omega (arith, length-append (f t) (flat_map f l))) p.held;
          }

  -- One thing more is summed up.
  pub going_more : {r : Summed} → 0 < left → Sums f e Fit numbers here r → Going f e Fit numbers at r.next (left - 1) (total +ℤ r.area)
  unfolding flat_map
  going_more {r} h v =
      record {
        reads = λ l rest fits held s. let x = w.reads l rest fits held s in
            go l rest held x.todo x.passed x.many x.fits x.goes x.edges x.small x.numbers_at x.ends;
      }
    where
      go : (l : List A) (rest : List ℤ) → All Held (take (at + length (counted f l)) numbers) → (todo : List A) (passed : ℕ) → length todo ≡ left → All Fit todo
          → total +ℤ sum cross (flat_map e todo) ≡ sum cross (flat_map e l) → passed + length (flat_map e todo) ≡ length (flat_map e l) → Within (400_000_000_000_000 * passed) total
          → map millimetres (drop here numbers) ≡ flat_map f todo ++ rest → here + length (flat_map f todo) ≡ at + length (counted f l)
          → Left f e Fit l rest numbers at r.next (left - 1) (total +ℤ r.area)
      go l rest held [] passed m a g k b s d = absurd (omega arith)
      go l rest held (t ∷ todo) passed m a g k b s d =
          let long = length-append (f t) (flat_map f todo) in
          let y = v.reads t (flat_map f todo ++ rest) a.0 (all_fewer Held (here + length (f t)) (at + length (counted f l)) numbers (omega arith) held) (s ∙ append_assoc (f t) (flat_map f todo) rest) in
          let more : 400_000_000_000_000 * passed + 400_000_000_000_000 * length (e t) ≡ 400_000_000_000_000 * (passed + length (e t)) = omega arith in
          record {
            todo = todo;
            passed = passed + length (e t);
            many = omega arith;
            fits = a.1;
            goes = solve 3 (λ u z a. u :+ z :+ a := u :+ (z :+ a)) tt total r.area (sum cross (flat_map e todo))
                ∙ ap (λ z. total +ℤ (z +ℤ sum cross (flat_map e todo))) y.0 ∙ ap (λ z. total +ℤ z) (sym (sum-++ cross (e t) (flat_map e todo))) ∙ g;
            edges = omega (arith, length-append (e t) (flat_map e todo));
            small = subst (λ n. Within n (total +ℤ r.area)) more (within_add (400_000_000_000_000 * passed) (400_000_000_000_000 * length (e t)) total r.area b y.1);
            numbers_at = y.2;
            ends = omega (arith, y.3);
          }

  -- What is summed up fits.
  pub going_fits : Place (counted f) (flat_map e) (All Fit) numbers at → SFits w64 total
  going_fits p =
      let x = w.reads p.thing p.rest p.fits p.held p.numbers_at in
      within_fits (400_000_000_000_000 * x.passed) total (omega (arith, x.edges, p.few)) x.small

  -- All things are summed up.
  pub going_done : left ≤ 0 → Sums (counted f) (flat_map e) (All Fit) numbers at (record { area = total; next = here })
  unfolding flat_map
  going_done h =
      record { reads = λ l rest fits held s. let x = w.reads l rest fits held s in go l rest x.todo x.passed x.many x.goes x.edges x.small x.numbers_at x.ends }
    where
      go : (l : List A) (rest : List ℤ) (todo : List A) (passed : ℕ) → length todo ≡ left → total +ℤ sum cross (flat_map e todo) ≡ sum cross (flat_map e l)
          → passed + length (flat_map e todo) ≡ length (flat_map e l) → Within (400_000_000_000_000 * passed) total → map millimetres (drop here numbers) ≡ flat_map f todo ++ rest
          → here + length (flat_map f todo) ≡ at + length (counted f l)
          → (total ≡ sum cross (flat_map e l)) × Within (400_000_000_000_000 * length (flat_map e l)) total × (map millimetres (drop here numbers) ≡ rest) × (here ≡ at + length (counted f l))
      go l rest [] passed m g k b s d =
          let all : passed ≡ length (flat_map e l) = omega arith in
          (solve 1 (λ u. u := u :+ con (pos 0)) tt total ∙ g, subst (λ n. Within (400_000_000_000_000 * n) total) all b, s, omega arith)
      go l rest (t ∷ todo) passed m g k b s d = absurd (omega arith)

-- As many things left, counted otherwise.
pub going_as : {A : Type 0} {f : A → List ℤ} {e : A → List Edge} {Fit : A → Type 0} {numbers : List ℕ} {at here left left' : ℕ} {total : ℤ}
    → Going f e Fit numbers at here left total → left ≡ left' → Going f e Fit numbers at here left' total
going_as w e = rw e at w

-- One thing more is summed up, as the code adds it.
pub going_added : {A : Type 0} {f : A → List ℤ} {e : A → List Edge} {Fit : A → Type 0} {numbers : List ℕ} {at here left : ℕ} {total : ℤ} {r : Summed}
    → Place (counted f) (flat_map e) (All Fit) numbers at → Going f e Fit numbers at here left total → 0 < left → Sums f e Fit numbers here r
    → SFits w64 (to_z w64 (of_z w64 total) +ℤ to_z w64 (of_z w64 r.area))
    × Going f e Fit numbers at r.next (left - 1) (to_z w64 (of_z w64 (to_z w64 (of_z w64 total) +ℤ to_z w64 (of_z w64 r.area))))
going_added p w h v =
    let g = going_more w h v in
    rw (to_z-of_z {w = w64} (going_fits w p), one_fits (going_place w p h) v) (going_fits g p, rw (to_z-of_z {w = w64} (going_fits g p)) g)

-- Behind the points of a ring stands the rest.
points_behind : (numbers : List ℕ) (here : ℕ) (l : Ring) (rest : List ℤ) → map millimetres (drop here numbers) ≡ flat_map point_numbers l ++ rest
    → map millimetres (drop (here + 2 * length l) numbers) ≡ rest
unfolding flat_map
points_behind numbers here [] rest s = let e : here ≡ here + 2 * 0 = omega arith in ap (λ k. map millimetres (drop k numbers)) (sym e) ∙ s
points_behind numbers here (p ∷ l) rest s =
    let w = point_first numbers here p (flat_map point_numbers l ++ rest) s in
    let e : here + 2 + 2 * length l ≡ here + 2 * length (p ∷ l) = omega arith in
    ap (λ k. map millimetres (drop k numbers)) (sym e) ∙ points_behind numbers (here + 2) l rest w.2

pub ring_behind : (numbers : List ℕ) (at : ℕ) (r : Ring) (rest : List ℤ) → NumbersAt ring_numbers numbers at r rest → let next = at + 1 + 2 * (get_or numbers at 0 - 10_000_000) in
    (map millimetres (drop next numbers) ≡ rest) × (next ≡ at + length (ring_numbers r))
ring_behind numbers at r rest s =
    let c = count_first point_numbers numbers at r rest s in
    let e : at + 1 + 2 * (get_or numbers at 0 - 10_000_000) ≡ at + 1 + 2 * length r = omega arith in
    (ap (λ k. map millimetres (drop k numbers)) e ∙ points_behind numbers (at + 1) r rest c.2, omega (arith, points_length r))
