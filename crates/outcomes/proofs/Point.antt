-- What a held judged sheet goes on to at a point, as the code comes to it. The idea: the triangles off the held numbers are those of the table. Assumes nothing.
use mathlib.Core.Path.{◌≡◌, refl, sym, ◌∙◌, ap, ap₂}
use mathlib.Core.List.{List, [], ◌∷◌, map}
use mathlib.Core.Option.{Option, none, some}
use Prim.Native.Nat.{ℕ, zero, suc, ◌+◌, ◌-◌, ◌*◌, ◌≤◌, ◌<◌}
use native.Mathlib.Omega.{arith}
use lib.IntN.{ℤ}
use lib.ListN.{length, get_or, take}
use lib.Seq.{ext_get_or}
use Rattle.whole.specs.Sums.{All}
use Rattle.plane.specs.Points.{Point, Triangle}
use Rattle.plane.specs.Keys.{Held, key_of, point_at, triangle_at}
use Rattle.lent.specs.Stages.{and_then}
use Rattle.lent.specs.Answered.{Answered, answer_of}
use Rattle.table.specs.Sides.{triangles_of}
use Rattle.table.proofs.Shares.{length_triangles}
use Rattle.table_points.specs.Points.{triangle_of}
use Rattle.owners_marks.specs.Sets.{owners_of}
use Rattle.repair_regions.proofs.Regions.{map_from_at, length_map_from}
use Rattle.repair_longest.specs.Held.{point_held, lengths_held}
use Rattle.repair_point.specs.Point.{owner_there}
use Rattle.repair_point.specs.Held.{triangle_held, triangles_held, point_outcome}
use Rattle.sheet_form.specs.Numbers.{Sheet, member_numbers, counted}
use Rattle.sheet.specs.Held.{SheetHeld}
use Rattle.sheet_edges.specs.Standing.{corner_at}
use Rattle.sheet_edges.proofs.Triangles.{table_room, held_keys}
use Rattle.judged.specs.Judged.{Judged, repair_of}
use Rattle.judged.specs.Held.{JudgedHeld}
use Rattle.judged.proofs.Standing.{sets_many, repair_held}
use Rattle.judged.proofs.Sides.{point_held_lem}
use Rattle.outcomes.specs.declared.Wanted.TheVariants.{At}
use Rattle.outcomes.specs.Entries.{goes_on}
use Rattle.outcomes.proofs.Unwritten.{Unwritten, then_unwritten, nothing_written}

-- Triangle u of those whose corners these are.
triangle_at_lem : (keys : List ℕ) (n : ℕ) → length keys ≡ 3 * n → (u : ℕ) → u < n → (d : Triangle) → get_or (triangles_of keys) u d ≡ triangle_at keys u
triangle_at_lem [] n e u h d = absurd (omega arith)
triangle_at_lem (a ∷ []) n e u h d = absurd (omega arith)
triangle_at_lem (a ∷ b ∷ []) n e u h d = absurd (omega arith)
triangle_at_lem (a ∷ b ∷ c ∷ l) n e zero h d = refl
triangle_at_lem (a ∷ b ∷ c ∷ l) n e (suc u) h d =
    let p : suc (suc (suc (3 * u))) ≡ 3 * suc u = omega arith in
    let q : suc (suc (suc (3 * u + 1))) ≡ 3 * suc u + 1 = omega arith in
    let r : suc (suc (suc (3 * u + 2))) ≡ 3 * suc u + 2 = omega arith in
    triangle_at_lem l (n - 1) (omega arith) u (omega arith) d
    ∙ (λ i. record { a = point_at (get_or (a ∷ b ∷ c ∷ l) (p i) 0); b = point_at (get_or (a ∷ b ∷ c ∷ l) (q i) 0); c = point_at (get_or (a ∷ b ∷ c ∷ l) (r i) 0) })

-- For corners of n triangles, as they stand among held numbers at the front of a list: the triangles off the list.
module _ (size : ℕ) (long : List ℕ) (held : All Held (take size long)) (keys : List ℕ) (n : ℕ) (whole : length keys ≡ 3 * n)
    (laid : (k : ℕ) → k < length keys → get_or keys k 0 ≡ key_of (corner_at (take size long) (1 + 2 * k))) (room : 1 + 6 * n ≤ length (take size long)) where
  corner : (k : ℕ) → k < length keys → point_at (get_or keys k 0) ≡ point_held long k
  corner = point_held_lem size long held keys n whole laid room

  keys_triangles : triangles_held long n ≡ triangles_of keys
  keys_triangles =
      let many = length_map_from (triangle_held long) 0 n in
      ext_get_or (triangle_held long 0) (triangles_held long n) (triangles_of keys) (many ∙ sym (length_triangles keys n whole)) (λ u h.
      let l : u < n = omega (arith, many) in
      map_from_at (triangle_held long) n u (triangle_held long 0) l
      ∙ sym (λ i. record { a = corner (3 * u) (omega arith) i; b = corner (3 * u + 1) (omega arith) i; c = corner (3 * u + 2) (omega arith) i })
      ∙ sym (triangle_at_lem keys n whole u l (triangle_held long 0)))

table_held : {limit : ℕ} {n : Sheet} (size : ℕ) (long : List ℕ) → SheetHeld limit n (take size long) → triangles_held long (length n.table) ≡ n.table
table_held {n = n} size long h =
    let rest = counted member_numbers n.polygons in
    let k = held_keys (take size long) h.held n.table rest h.is in
    keys_triangles size long h.held k.0 (length n.table) k.1 k.3 (table_room (take size long) n.table rest h.is) ∙ k.2

module _ {j : Judged} {numbers opposite sets : List ℕ} (w : JudgedHeld j numbers opposite sets) (way : ℕ) (x y : ℤ) where
  abbrev z : Point
  z = record { x = x; y = y }

  pub point_on : point_outcome (record { x = x; y = y }) (triangles_held numbers (length sets)) way (lengths_held numbers (length opposite)) opposite (map owners_of sets) ≡ goes_on way (At x y) j
  point_on =
      ap₂ (λ a t. and_then a (owner_there (triangle_of z t))) (repair_held w way) (ap (triangles_held numbers) (sets_many w) ∙ table_held w.size numbers w.held)

  -- It writes nothing, so that any lent bytes suffice and stay as they were.
  pub point_answered : (lent : List ℕ) {r : ℕ} → r ≡ answer_of (goes_on way (At x y) j) [] → Answered (goes_on way (At x y) j) lent r lent
  point_answered lent = nothing_written (goes_on way (At x y) j) lent (then_unwritten (repair_of way j) (owner_there (triangle_of z j.sheet.table)) (λ l. nothing l (triangle_of z j.sheet.table)))
    where
      nothing : (l : List ℕ) (k : Option ℕ) → Unwritten (owner_there k l)
      nothing l none = tt
      nothing l (some k) = refl
