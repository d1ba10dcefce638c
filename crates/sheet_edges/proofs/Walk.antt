-- Counted things read one by one off the held numbers: Going is the invariant of all three loops, whatever is counted. Assumes nothing.
use mathlib.Core.Path.{◌≡◌, refl, sym, ◌∙◌, ap, ap₂, subst}
use mathlib.Core.List.{List, [], ◌∷◌, ◌++◌, map, flat_map, append_assoc, append-nil}
use Prim.Native.Nat.{ℕ, zero, suc, ◌+◌, ◌-◌, ◌*◌, ◌≤◌, ◌<◌}
use native.Mathlib.Omega.{arith}
use lib.IntN.{ℤ, pos, ◌+ℤ◌}
use lib.ListN.{length, get_or, take, drop, set, length-append}
use Rattle.whole.specs.Sums.{All}
use Rattle.whole.specs.Polynomials.{◌:+◌, ◌:-◌, ◌:=◌}
use Rattle.whole.proofs.Ring.{solve}
use Rattle.plane.specs.Points.{Point, Edge, ◌⟶◌}
use Rattle.plane.specs.Members.{Member, edges, member_edges}
use Rattle.plane.specs.Corners.{millimetres}
use Rattle.plane.specs.Keys.{point, Held, InRange, key_of, point_at, Key, pairs}
use Rattle.table.proofs.Bounds.{key_of_lem}
use Rattle.sheet_form.specs.Numbers.{point_numbers, counted, ring_numbers, member_numbers}
use Rattle.sheet_edges.specs.declared.Laid.{Laid}
use Rattle.sheet_edges.specs.Standing.{NumbersAt, corner_at, Room, Stored, Lays, LaysDown}
use Rattle.sheet_edges.proofs.Stores.{pairs-++, pairs_length, stored_none, stored_one, stored_more, from_length, to_length, front}

-- The first of the numbers from a place on.
first : (numbers : List ℕ) (at : ℕ) (z : ℤ) (rest : List ℤ) → map millimetres (drop at numbers) ≡ z ∷ rest
    → (at < length numbers) × (millimetres (get_or numbers at 0) ≡ z) × (map millimetres (drop (at + 1) numbers) ≡ rest)
first [] zero z rest h = absurd (let b : ◌≡◌ {A = ℕ} 0 1 = cc in omega arith)
first [] (suc at) z rest h = absurd (let b : ◌≡◌ {A = ℕ} 0 1 = cc in omega arith)
first (n ∷ numbers) zero z rest h = (omega arith, cc, cc)
first (n ∷ numbers) (suc at) z rest h =
    let w = first numbers at z rest h in
    let e : suc at + 1 ≡ suc (at + 1) = omega arith in (omega arith, w.1, ap (λ k. map millimetres (drop k (n ∷ numbers))) e ∙ w.2)

-- A count, as it is held.
count_held : (h n : ℕ) → millimetres h ≡ pos n → h ≡ n + 10_000_000
count_held h n e = cc (sym (again h) ∙ ap (λ z. z +ℤ pos 10_000_000) e)
  where
    again : (k : ℕ) → millimetres k +ℤ pos 10_000_000 ≡ pos k
    again k = solve 2 (λ k o. (k :- o) :+ o := k) tt (pos k) (pos 10_000_000)

-- What is left of a list l to read: with the edges laid down so far, those of the things left make the edges of l, and these things stand here, one behind the other.
pub record Left {A : Type 0} (f : A → List ℤ) (e : List A → List Edge) (numbers : List ℕ) (here left : ℕ) (done : List Edge) (l : List A) (rest : List ℤ) : Type 0 where
  pub todo : List A
  pub many : length todo ≡ left
  pub edges : done ++ e todo ≡ e l
  pub numbers_at : map millimetres (drop here numbers) ≡ flat_map f todo ++ rest
  pub within : here ≤ length numbers

-- While a counted list is read: corners are stored from place fill on, and they and what is left make up the list that stands at the place, whichever it is.
pub record Going {A : Type 0} (f : A → List ℤ) (e : List A → List Edge) (numbers : List ℕ) (at fill : ℕ) (from₀ to₀ from to : List ℕ) (here next left : ℕ) : Type 0 where
  pub starts : List ℕ
  pub ends : List ℕ
  pub stored : Stored from₀ to₀ fill starts ends from to next
  pub reads : (l : List A) (rest : List ℤ) → NumbersAt (counted f) numbers at l rest → Left f e numbers here left (pairs starts ends) l rest

-- The same places, counted otherwise.
pub going_as : {A : Type 0} {f : A → List ℤ} {e : List A → List Edge} {numbers : List ℕ} {at fill : ℕ} {from₀ to₀ from to : List ℕ} {here next left here' next' left' : ℕ}
    → Going f e numbers at fill from₀ to₀ from to here next left → here ≡ here' → next ≡ next' → left ≡ left' → Going f e numbers at fill from₀ to₀ from to here' next' left'
going_as w p q r = rw (p, q, r) at w

-- A counted list: its count stands at the place, and behind it its things, one behind the other.
pub count_first : {A : Type 0} (f : A → List ℤ) (numbers : List ℕ) (at : ℕ) (l : List A) (rest : List ℤ) → NumbersAt (counted f) numbers at l rest
    → (at < length numbers) × (get_or numbers at 0 ≡ length l + 10_000_000) × (map millimetres (drop (at + 1) numbers) ≡ flat_map f l ++ rest)
count_first f numbers at l rest s = let w = first numbers at (pos (length l)) (flat_map f l ++ rest) s in (w.0, count_held (get_or numbers at 0) (length l) w.1, w.2)

pub room_first : {A : Type 0} (f : A → List ℤ) {e : List A → List Edge} {numbers : List ℕ} {at fill : ℕ} {from to : List ℕ} → Room (counted f) e numbers at fill from to
    → (at < length numbers) × (10_000_000 ≤ get_or numbers at 0)
room_first f {numbers = numbers} {at = at} room = let w = count_first f numbers at room.thing room.rest room.numbers_at in (w.0, omega arith)

-- Nothing but the count is read.
pub going_begin : {A : Type 0} (f : A → List ℤ) (e : List A → List Edge) (numbers : List ℕ) (at fill : ℕ) (from to : List ℕ)
    → Going f e numbers at fill from to from to (at + 1) fill (get_or numbers at 0 - 10_000_000)
going_begin f e numbers at fill from to =
    record {
      starts = [];
      ends = [];
      stored = stored_none from to fill;
      reads = λ l rest s. let w = count_first f numbers at l rest s in record { todo = l; many = omega arith; edges = refl; numbers_at = w.2; within = omega arith };
    }

module _ {A : Type 0} {f : A → List ℤ} {numbers : List ℕ} {at fill : ℕ} {from₀ to₀ : List ℕ} where
  -- The next of the things to read, and room for its edges.
  pub going_room : {g : A → List Edge} {from to : List ℕ} {here next left : ℕ} → Room (counted f) (flat_map g) numbers at fill from₀ to₀
      → Going f (flat_map g) numbers at fill from₀ to₀ from to here next left → 0 < left → Room f g numbers here next from to
  unfolding flat_map
  going_room {g} {from} {to} {here} {next} {left} room w h = go x.todo x.many x.edges x.numbers_at
    where
      x : Left f (flat_map g) numbers here left (pairs w.starts w.ends) room.thing room.rest
      x = w.reads room.thing room.rest room.numbers_at

      go : (todo : List A) → length todo ≡ left → pairs w.starts w.ends ++ flat_map g todo ≡ flat_map g room.thing
          → map millimetres (drop here numbers) ≡ flat_map f todo ++ room.rest → Room f g numbers here next from to
      go [] m e s = absurd (omega arith)
      go (a ∷ t) m e s =
          let k = pairs_length w.starts w.ends w.stored.as_many in
          let p = ap length e in
          let q = length-append (pairs w.starts w.ends) (g a ++ flat_map g t) in
          let r = length-append (g a) (flat_map g t) in
          record {
            held = room.held;
            thing = a;
            rest = flat_map f t ++ room.rest;
            numbers_at = s ∙ append_assoc (f a) (flat_map f t) room.rest;
            from_room = omega (arith, room.from_room, w.stored.next_is, from_length w.stored);
            to_room = omega (arith, room.to_room, w.stored.next_is, to_length w.stored);
          }

  -- One thing more is read.
  pub going_more : {g : A → List Edge} {from₁ to₁ from₂ to₂ : List ℕ} {here next left : ℕ} {r : Laid} → Going f (flat_map g) numbers at fill from₀ to₀ from₁ to₁ here next left
      → 0 < left → Lays f g numbers here next from₁ to₁ from₂ to₂ r → Going f (flat_map g) numbers at fill from₀ to₀ from₂ to₂ r.at r.fill (left - 1)
  unfolding flat_map
  going_more {g} {here = here} {left = left} {r = r} w h y =
      record {
        starts = w.starts ++ y.starts;
        ends = w.ends ++ y.ends;
        stored = stored_more w.stored y.stored;
        reads = λ l rest s. let x = w.reads l rest s in go l rest x.todo x.many x.edges x.numbers_at;
      }
    where
      go : (l : List A) (rest : List ℤ) (todo : List A) → length todo ≡ left → pairs w.starts w.ends ++ flat_map g todo ≡ flat_map g l
          → map millimetres (drop here numbers) ≡ flat_map f todo ++ rest → Left f (flat_map g) numbers r.at (left - 1) (pairs (w.starts ++ y.starts) (w.ends ++ y.ends)) l rest
      go l rest [] m e s = absurd (omega arith)
      go l rest (a ∷ t) m e s =
          let z = y.reads a (flat_map f t ++ rest) (s ∙ append_assoc (f a) (flat_map f t) rest) in
          record {
            todo = t;
            many = omega arith;
            edges = rw (pairs-++ w.starts w.ends y.starts y.ends w.stored.as_many, z.0, append_assoc) e;
            numbers_at = z.1;
            within = z.2;
          }

  -- All things are read.
  pub going_done : (g : A → List Edge) {from to : List ℕ} {here next left : ℕ} → Going f (flat_map g) numbers at fill from₀ to₀ from to here next left → left ≤ 0
      → Lays (counted f) (flat_map g) numbers at fill from₀ to₀ from to (record { at = here; fill = next })
  unfolding flat_map
  going_done g {here = here} {left = left} w h =
      record { starts = w.starts; ends = w.ends; stored = w.stored; reads = λ l rest s. let x = w.reads l rest s in go l rest x.todo x.many x.edges x.numbers_at x.within }
    where
      go : (l : List A) (rest : List ℤ) (todo : List A) → length todo ≡ left → pairs w.starts w.ends ++ flat_map g todo ≡ flat_map g l → map millimetres (drop here numbers) ≡ flat_map f todo ++ rest
          → here ≤ length numbers → (pairs w.starts w.ends ≡ flat_map g l) × (map millimetres (drop here numbers) ≡ rest) × (here ≤ length numbers)
      go l rest [] m e s b = (sym (append-nil (pairs w.starts w.ends)) ∙ e, s, b)
      go l rest (a ∷ t) m e s b = absurd (omega arith)

-- Each of the numbers is one of a coordinate; behind the last 0 is taken.
held_at : (numbers : List ℕ) (i : ℕ) → All Held numbers → Held (get_or numbers i 0)
held_at [] zero h = omega arith
held_at [] (suc i) h = omega arith
held_at (n ∷ numbers) zero h = h.0
held_at (n ∷ numbers) (suc i) h = held_at numbers i h.1

module _ (numbers : List ℕ) (held : All Held numbers) where
  corner_in : (at : ℕ) → InRange (corner_at numbers at)
  corner_in at = record { x = held_at numbers at held; y = held_at numbers (at + 1) held }

  pub key_at : (at : ℕ) → Key (key_of (corner_at numbers at))
  key_at at = (key_of_lem (corner_at numbers at) (corner_in at)).0

  pub point_at_lem : (at : ℕ) → point_at (key_of (corner_at numbers at)) ≡ point (corner_at numbers at)
  point_at_lem at = (key_of_lem (corner_at numbers at) (corner_in at)).1

-- A point stands at the place.
pub point_first : (numbers : List ℕ) (at : ℕ) (p : Point) (rest : List ℤ) → NumbersAt point_numbers numbers at p rest
    → (at + 1 < length numbers) × (point (corner_at numbers at) ≡ p) × (map millimetres (drop (at + 2) numbers) ≡ rest)
point_first numbers at p rest s =
    let v = first numbers at p.x (p.y ∷ rest) s in
    let w = first numbers (at + 1) p.y rest v.2 in
    let e : at + 1 + 1 ≡ at + 2 = omega arith in (w.0, ap₂ (λ x y. record { x = x; y = y }) v.1 w.1, ap (λ k. map millimetres (drop k numbers)) (sym e) ∙ w.2)

module _ {numbers : List ℕ} {at fill : ℕ} {from₀ to₀ from to : List ℕ} {here next left : ℕ} where
  -- While two points are left, both stand there, and there is room for the edge between them.
  pub ring_room : Room ring_numbers edges numbers at fill from₀ to₀ → Going point_numbers edges numbers at fill from₀ to₀ from to here next left → 1 < left
      → (here + 3 < length numbers) × (next < length from) × (next < length to)
  unfolding flat_map
  ring_room room w h = go x.todo x.many x.edges x.numbers_at
    where
      x : Left point_numbers edges numbers here left (pairs w.starts w.ends) room.thing room.rest
      x = w.reads room.thing room.rest room.numbers_at

      go : (todo : List Point) → length todo ≡ left → pairs w.starts w.ends ++ edges todo ≡ edges room.thing
          → map millimetres (drop here numbers) ≡ flat_map point_numbers todo ++ room.rest → (here + 3 < length numbers) × (next < length from) × (next < length to)
      go [] m e s = absurd (omega arith)
      go (p ∷ []) m e s = absurd (omega arith)
      go (p ∷ q ∷ t) m e s =
          let u = point_first numbers here p (point_numbers q ++ flat_map point_numbers t ++ room.rest) s in
          let v = point_first numbers (here + 2) q (flat_map point_numbers t ++ room.rest) u.2 in
          let k = pairs_length w.starts w.ends w.stored.as_many in
          let a = ap length e in
          let b = length-append (pairs w.starts w.ends) ((p ⟶ q) ∷ edges (q ∷ t)) in
          (omega arith, omega (arith, room.from_room, w.stored.next_is, from_length w.stored), omega (arith, room.to_room, w.stored.next_is, to_length w.stored))

  -- One edge more.
  pub ring_more : All Held numbers → Going point_numbers edges numbers at fill from₀ to₀ from to here next left → 1 < left
      → Going point_numbers edges numbers at fill from₀ to₀ (set from next (key_of (corner_at numbers here))) (set to next (key_of (corner_at numbers (here + 2)))) (here + 2) (next + 1) (left - 1)
  unfolding flat_map
  ring_more held w h =
      record {
        starts = w.starts ++ key_of (corner_at numbers here) ∷ [];
        ends = w.ends ++ key_of (corner_at numbers (here + 2)) ∷ [];
        stored = stored_more w.stored (stored_one from to next (key_of (corner_at numbers here)) (key_of (corner_at numbers (here + 2))) (key_at numbers held here) (key_at numbers held (here + 2)));
        reads = λ l rest s. let x = w.reads l rest s in go l rest x.todo x.many x.edges x.numbers_at;
      }
    where
      go : (l : List Point) (rest : List ℤ) (todo : List Point) → length todo ≡ left → pairs w.starts w.ends ++ edges todo ≡ edges l → map millimetres (drop here numbers) ≡ flat_map point_numbers todo ++ rest
          → Left point_numbers edges numbers (here + 2) (left - 1) (pairs (w.starts ++ key_of (corner_at numbers here) ∷ []) (w.ends ++ key_of (corner_at numbers (here + 2)) ∷ [])) l rest
      go l rest [] m e s = absurd (omega arith)
      go l rest (p ∷ []) m e s = absurd (omega arith)
      go l rest (p ∷ q ∷ t) m e s =
          let u = point_first numbers here p (point_numbers q ++ flat_map point_numbers t ++ rest) s in
          let v = point_first numbers (here + 2) q (flat_map point_numbers t ++ rest) u.2 in
          let joined = pairs-++ w.starts w.ends (key_of (corner_at numbers here) ∷ []) (key_of (corner_at numbers (here + 2)) ∷ []) w.stored.as_many in
          record {
            todo = q ∷ t;
            many = omega arith;
            edges = rw (joined, point_at_lem numbers held here ∙ u.1, point_at_lem numbers held (here + 2) ∙ v.1, append_assoc) e;
            numbers_at = u.2;
            within = omega arith;
          }

  -- At most one point is left, from which no edge goes.
  pub ring_done : {r : Laid} → Going point_numbers edges numbers at fill from₀ to₀ from to here next left → left ≤ 1 → r.at ≡ here + 2 * left → r.fill ≡ next
      → Lays ring_numbers edges numbers at fill from₀ to₀ from to r
  unfolding flat_map
  ring_done {r} w h place all =
      record { starts = w.starts; ends = w.ends; stored = rw all w.stored; reads = λ l rest s. let x = w.reads l rest s in go l rest x.todo x.many x.edges x.numbers_at x.within }
    where
      go : (l : List Point) (rest : List ℤ) (todo : List Point) → length todo ≡ left → pairs w.starts w.ends ++ edges todo ≡ edges l → map millimetres (drop here numbers) ≡ flat_map point_numbers todo ++ rest
          → here ≤ length numbers → (pairs w.starts w.ends ≡ edges l) × (map millimetres (drop r.at numbers) ≡ rest) × (r.at ≤ length numbers)
      go l rest [] m e s b =
          let k : r.at ≡ here = omega arith in
          (sym (append-nil (pairs w.starts w.ends)) ∙ e, ap (λ n. map millimetres (drop n numbers)) k ∙ s, omega arith)
      go l rest (p ∷ []) m e s b =
          let k : r.at ≡ here + 2 = omega arith in
          let q = point_first numbers here p rest s in
          (sym (append-nil (pairs w.starts w.ends)) ∙ e, ap (λ n. map millimetres (drop n numbers)) k ∙ q.2, omega (arith, q.0))
      go l rest (p ∷ q ∷ t) m e s b = absurd (omega arith)

-- What is stored from place 0 on.
pub lays_down : {numbers : List ℕ} {at : ℕ} {from₀ to₀ from to : List ℕ} {r : Laid} → Room member_numbers member_edges numbers at 0 from₀ to₀
    → Lays member_numbers member_edges numbers at 0 from₀ to₀ from to r → LaysDown numbers at from₀ to₀ from to r
lays_down {numbers} {at} {from₀} {to₀} {from} {to} {r} room w =
    record {
      many = λ m rest s. many m (w.reads m rest s).0;
      edges = λ m rest s. ap₂ pairs f.0 t.0 ∙ (w.reads m rest s).0;
      behind = λ m rest s. (w.reads m rest s).1;
      within = λ m rest s. (w.reads m rest s).2;
      from_keys = subst (All Key) (sym f.0) w.stored.from_keys;
      to_keys = subst (All Key) (sym t.0) w.stored.to_keys;
      from_behind = f.1;
      to_behind = t.1;
      from_length = from_length w.stored;
      to_length = to_length w.stored;
    }
  where
    many : (m : Member) → pairs w.starts w.ends ≡ member_edges m → r.fill ≡ length (member_edges m)
    many m e = omega (arith, w.stored.next_is, ap length e, pairs_length w.starts w.ends w.stored.as_many)

    all : r.fill ≡ length (member_edges room.thing)
    all = many room.thing (w.reads room.thing room.rest room.numbers_at).0

    f : (take r.fill from ≡ w.starts) × (drop r.fill from ≡ drop r.fill from₀)
    f = front from₀ from w.starts r.fill w.stored.from_is (omega (arith, w.stored.next_is)) (omega (arith, all, w.stored.next_is, room.from_room))

    t : (take r.fill to ≡ w.ends) × (drop r.fill to ≡ drop r.fill to₀)
    t = front to₀ to w.ends r.fill w.stored.to_is (omega (arith, w.stored.next_is, w.stored.as_many)) (omega (arith, all, w.stored.next_is, w.stored.as_many, room.to_room))
