-- Reading the members of the sheet, both ways: where lists stand at a place, reading ends with code 0 and their numbers; and where it ends with
-- code 0, lists stand there. By induction on the bytes that are left, one turn at a time. Assumes nothing.
use mathlib.Core.Path.{◌≡◌, refl, sym, ◌∙◌, subst}
use mathlib.Core.Bool.{Bool, true, false}
use mathlib.Core.Logic.{◌⊎◌, inl, inr, ⊎_elim}
use mathlib.Core.List.{List, [], ◌++◌, flat_map, append_assoc}
use Prim.Native.Nat.{ℕ, ◌+◌, ◌^◌, ◌≤◌, ◌<◌}
use native.Mathlib.Omega.{arith}
use lib.Dec.{eqb}
use lib.ListN.{length, drop}
use Rattle.wkb.specs.declared.Cursor.{Cursor}
use Rattle.wkb_kinds.specs.declared.Slot.TheVariants.{Member}
use Rattle.wkb_kinds.specs.declared.Kind.{Kind}
use Rattle.wkb_kinds.specs.declared.Kind.TheVariants.{Polygon, MultiPolygon, Collection}
use Rattle.wkb_kinds.specs.Kinds.{type_of}
use Rattle.wkb.specs.Standard.{Pair, Geometry, ringed, holding, Geometries, none, ◌then◌, count, encode_ring, encode, encode_all}
use Rattle.wkb.specs.Steps.{kind_fault, count_fits, opened}
use Rattle.wkb.proofs.Allowed.{Allowed, allowed_member, allowed_part, polygon, parts, members}
use Rattle.sheet.specs.Reading.{Taken}
use Rattle.sheet.specs.Going.{reading}
use Rattle.sheet_standard.specs.Limits.{member_of, PolygonFits, FromTo, MemberFits, MembersFit, Each, PartFits}
use Rattle.lent_fields.proofs.Fields.{Bytes}
use Rattle.sheet_standard.proofs.Standard.Fields.{heading, heading_is, heads}
use Rattle.sheet_standard.proofs.Standard.Steps.{geometry_goes, GeometryRead, geometry_back}
use Rattle.sheet_standard.proofs.Standard.Left.{Left, left_bytes, Stands, Raw, outcome, Ends, no_list, Found, Through, Back}
use Rattle.sheet_standard.proofs.Standard.Levels.{Level, At, taking, begun, with_it, Fits, Inside, inner, part, own, second, third, fourth}
use Rattle.sheet_standard.proofs.Standard.Pending.{Pending, pending_outcome, taking_raw, pend, stood, pending_outcome_lem}
use Rattle.sheet_standard.proofs.Standard.Polygon.{rings_at, with_polygon, polygon_good, polygon_outcome, polygon_stands, polygon_pends}
use Rattle.sheet_standard.proofs.Standard.Entered.{put, entered, Children, below_without, Zero, got}
use Rattle.sheet_standard.proofs.Standard.Holding.{holding_good, holding_outcome, holding_stands, holding_pends}
use Rattle.sheet_standard.proofs.Standard.Opened.{slot_at, Whole, slot_at_lem, at_level, count_allowed, allowed_count, polygon_allowed, polygon_opened, polygon_taken, parts_opened, deeper, members_opened, inside_deeper, zero_deeper, zero_parts, taking_closed, other_taken, slot_whole, parts_allowed, members_allowed}

-- What a geometry within the limits is, at each level.
ringed_fits : (l : Level) (little : Bool) (kind : Kind) (rs : List (List Pair)) → Fits l (ringed little kind rs) → (kind ≡ Polygon) × PolygonFits rs
unfolding MemberFits
ringed_fits part little kind rs f = f
ringed_fits own little kind rs f = f
ringed_fits second little kind rs f = f
ringed_fits third little kind rs f = f
ringed_fits fourth little kind rs f = f

fits_ringed : (l : Level) (little : Bool) (rs : List (List Pair)) → PolygonFits rs → Fits l (ringed little Polygon rs)
unfolding MemberFits
fits_ringed part little rs f = (refl, f)
fits_ringed own little rs f = (refl, f)
fits_ringed second little rs f = (refl, f)
fits_ringed third little rs f = (refl, f)
fits_ringed fourth little rs f = (refl, f)

no_depth : (gs : Geometries) → MembersFit gs 0 → ⊥
unfolding MembersFit
no_depth none f = f
no_depth (g then gs) f = f

record HoldingFits (l : Level) (kind : Kind) (gs : Geometries) : Type 0 where
  whole : Whole l
  number : FromTo 1 64 (count gs)
  kinds : ((kind ≡ MultiPolygon) × Each PartFits gs) ⊎ ((kind ≡ Collection) × Children (deeper l) gs)

holding_fits : (l : Level) (little : Bool) (kind : Kind) (gs : Geometries) → Fits l (holding little kind gs) → HoldingFits l kind gs
unfolding MemberFits
holding_fits part little kind gs f = absurd f
holding_fits own little kind gs f = record { whole = tt; number = f.0; kinds = f.1 }
holding_fits second little kind gs f = record { whole = tt; number = f.0; kinds = f.1 }
holding_fits third little kind gs f = record { whole = tt; number = f.0; kinds = f.1 }
holding_fits fourth little kind gs f = record { whole = tt; number = f.0; kinds = ⊎_elim inl (λ k. absurd (no_depth gs k.1)) f.1 }

fits_holding : (l : Level) (little : Bool) (kind : Kind) (gs : Geometries) → HoldingFits l kind gs → Fits l (holding little kind gs)
unfolding MemberFits
fits_holding part little kind gs f = f.whole
fits_holding own little kind gs f = (f.number, f.kinds)
fits_holding second little kind gs f = (f.number, f.kinds)
fits_holding third little kind gs f = (f.number, f.kinds)
fits_holding fourth little kind gs f = (f.number, ⊎_elim inl (λ k. absurd k.1) f.kinds)

no_fourth : (l : Level) (s : List ℕ) (c : Cursor) (b : Taken) (gs : Geometries) → Raw s c b → At l c → Children (deeper l) gs → c.fourth ≡ 0
no_fourth part s c b gs r a f = absurd f
no_fourth own s c b gs r a f = (r.own a.0).3
no_fourth second s c b gs r a f = a.2
no_fourth third s c b gs r a f = a.2
no_fourth fourth s c b gs r a f = absurd f

-- A place where a geometry under a member comes next, at the level l.
pub record Next (s : List ℕ) (c : Cursor) (b : Taken) (l : Level) : Type 0 where
  pub raw : Raw s c b
  pub no_points : c.points ≡ 0
  pub no_rings : c.rings ≡ 0
  pub at_it : At l c

module _ (s : List ℕ) (c : Cursor) (b : Taken) (l : Level) (x : Next s c b l) where
  -- ---- forward
  polygon_through : (little : Bool) (rs : List (List Pair)) (w : Left) → PolygonFits rs → Pending s (taking l c) (ringed little Polygon rs) w → Through s c
      → Ends (reading s c b) (pending_outcome (taking l c) (begun l b) (ringed little Polygon rs) w)
  unfolding encode member_of
  polygon_through little rs w f h later =
      let n = length rs in
      let few : c.polygons < 64 = let m = h.polygons_fit in omega arith in
      let n4 : n < 256 ^ 4 = let m = f.0.1 in omega arith in
      let k4 : 3 < 256 ^ 4 = omega arith in
      let e : drop c.at s ≡ heading little 3 n ++ (flat_map (encode_ring little) rs ++ left_bytes w) =
      rw (heading_is little Polygon n, append_assoc (heading little 3 n) (flat_map (encode_ring little) rs) (left_bytes w)) at h.bytes in
      let q = heads s c.at little 3 n _ x.raw.within k4 n4 e in
      let r = taking_raw l s c b x.at_it x.raw in
      let z = taking_closed l c x.at_it in
      rw (
        geometry_goes s c b (slot_at l) little 3 n _ (at_level l c x.raw.member x.no_points x.no_rings x.at_it) (slot_at_lem l c x.raw.member x.at_it) q (polygon_allowed l c few) (count_allowed c.limit l n f.0),
        polygon_opened l c little n x.at_it few,
        polygon_taken l c b little n x.at_it,
        ← polygon_outcome s (taking l c) (begun l b) r z few n f.0.0 little q.nine rs w refl,
      )
      (later (rings_at n little (taking l c)) (with_polygon n (taking l c) (begun l b)) [] rs w (omega arith) (polygon_good s (taking l c) (begun l b) r z few n f.0.0 little q.nine)
      (polygon_stands s (taking l c) (begun l b) r z few n f.0.0 little q.nine rs w refl x.no_points f q.next h))

  -- A MultiPolygon or a collection, its parts or members becoming the level t.
  holding_through : (t : Level) → Inside t → Zero t (taking l c) → Whole l → (little : Bool) (kind : Kind) (gs : Geometries) (w : Left) → FromTo 1 64 (count gs) → Children t gs
      → type_of kind < 256 ^ 4 → eqb (type_of kind) 3 ≡ false → kind_fault Member c (type_of kind) ≡ 0 → opened Member c little (type_of kind) (count gs) ≡ entered t (count gs) (taking l c)
      → Pending s (taking l c) (holding little kind gs) w → Through s c → Ends (reading s c b) (pending_outcome (taking l c) (begun l b) (holding little kind gs) w)
  unfolding encode member_of
  holding_through t i z y little kind gs w f ch k4 k3 allowed place h later =
      let n = count gs in
      let n4 : n < 256 ^ 4 = let m = f.1 in omega arith in
      let e : drop c.at s ≡ heading little (type_of kind) n ++ (encode_all gs ++ left_bytes w) =
      rw (heading_is little kind n, append_assoc (heading little (type_of kind) n) (encode_all gs) (left_bytes w)) at h.bytes in
      let q = heads s c.at little (type_of kind) n _ x.raw.within k4 n4 e in
      let r = taking_raw l s c b x.at_it x.raw in
      let v = taking_closed l c x.at_it in
      let counts : count_fits c.limit Member n ≡ true = rw (slot_whole l y) at (count_allowed c.limit l n f) in
      rw (
        geometry_goes s c b Member little (type_of kind) n _ (at_level l c x.raw.member x.no_points x.no_rings x.at_it) (slot_at_lem l c x.raw.member x.at_it ∙ slot_whole l y) q allowed counts,
        place,
        other_taken l c (entered t n (taking l c)) b (type_of kind) n x.at_it k3,
        ← holding_outcome s (taking l c) (begun l b) r v t i z n f.0 little kind q.nine gs w refl ch h.below,
      )
      (later (entered t n (taking l c)) (begun l b) [] [] (put t gs w) (omega arith) (holding_good s (taking l c) (begun l b) r v t i z n f.0 little kind q.nine)
      (holding_stands s (taking l c) (begun l b) r v t i z n f.0 little kind q.nine gs w refl ch h.below x.no_points x.no_rings q.next h))

  pending_through : (g : Geometry) (w : Left) → Fits l g → Pending s (taking l c) g w → Through s c → Ends (reading s c b) (pending_outcome (taking l c) (begun l b) g w)
  pending_through (ringed little kind rs) w f h later =
      let k = ringed_fits l little kind rs f in
      subst (λ (t : Kind). Pending s (taking l c) (ringed little t rs) w → Ends (reading s c b) (pending_outcome (taking l c) (begun l b) (ringed little t rs) w)) (sym k.0)
      (λ h. polygon_through little rs w k.1 h later) h
  pending_through (holding little kind gs) w f h later =
      let k = holding_fits l little kind gs f in
      let n = count gs in
      ⊎_elim
      (λ p. subst (λ (t : Kind). Pending s (taking l c) (holding little t gs) w → Ends (reading s c b) (pending_outcome (taking l c) (begun l b) (holding little t gs) w)) (sym p.0)
      (λ h. holding_through part tt (zero_parts l c k.whole x.at_it) k.whole little MultiPolygon gs w k.number p.1 (omega arith) refl (parts_allowed c) (parts_opened l c little n k.whole x.at_it) h later) h)
      (λ p. subst (λ (t : Kind). Pending s (taking l c) (holding little t gs) w → Ends (reading s c b) (pending_outcome (taking l c) (begun l b) (holding little t gs) w)) (sym p.0)
      (λ h.
      let z = no_fourth l s c b gs x.raw x.at_it p.1 in
      holding_through (deeper l) (inside_deeper l c k.whole x.at_it z) (zero_deeper l s c b x.raw x.at_it) k.whole little Collection gs w k.number p.1 (omega arith) refl
      (members_allowed c z) (members_opened l s c b little n k.whole x.raw x.at_it z) h later) h)
      k.kinds

  pub geometry_through : (g : Geometry) (w : Left) → Stands s c b [] [] (with_it l g w) → Through s c → Ends (reading s c b) (outcome c b [] [] (with_it l g w))
  geometry_through g w h later =
      let k = below_without l c g w x.at_it h.below in
      rw (← pending_outcome_lem s c b g w x.raw l x.at_it (inner l s c b w x.raw x.at_it k.0))
      (pending_through g w k.1 (pend s c b g w x.raw l x.at_it h) later)

  -- ---- backward
  polygon_return : (little : Bool) (n : ℕ) → c.polygons < 64 → FromTo 1 64 n → c.at + 9 ≤ length s → drop c.at s ≡ heading little 3 n ++ drop (c.at + 9) s
      → (reading s (rings_at n little (taking l c)) (with_polygon n (taking l c) (begun l b))).code ≡ 0 → Back s c → Found s c b
  polygon_return little n few f nine e code later =
      let r = taking_raw l s c b x.at_it x.raw in
      let z = taking_closed l c x.at_it in
      let v = later (rings_at n little (taking l c)) (with_polygon n (taking l c) (begun l b)) (omega arith) (polygon_good s (taking l c) (begun l b) r z few n f.0 little nine) code in
      let rs = v.1 in
      let w = v.2 in
      let number : length rs ≡ n = v.3.polygon.rings_number in
      let st : Stands s (rings_at n little (taking l c)) (with_polygon n (taking l c) (begun l b)) [] rs w = rw (no_list v.0 (v.3.polygon.points_number ∙ x.no_points)) at v.3 in
      let h = polygon_pends s (taking l c) (begun l b) r z few n f.0 little nine rs w number e st in
      let fits : PolygonFits rs = ((omega (arith, f.0), omega (arith, f.1)), st.polygon.rings_fit) in
      ([], [], with_it l (ringed little Polygon rs) w, stood s c b (ringed little Polygon rs) w x.raw l x.at_it x.no_points x.no_rings (fits_ringed l little rs fits) h)

  holding_return : (t : Level) → Inside t → Zero t (taking l c) → (little : Bool) (kind : Kind) (n : ℕ) → FromTo 1 64 n → c.at + 9 ≤ length s
      → ((gs : Geometries) → Children t gs → FromTo 1 64 (count gs) → Fits l (holding little kind gs))
      → drop c.at s ≡ heading little (type_of kind) n ++ drop (c.at + 9) s → (reading s (entered t n (taking l c)) (begun l b)).code ≡ 0 → Back s c → Found s c b
  holding_return t i z little kind n f nine fits e code later =
      let r = taking_raw l s c b x.at_it x.raw in
      let y = taking_closed l c x.at_it in
      let v = later (entered t n (taking l c)) (begun l b) (omega arith) (holding_good s (taking l c) (begun l b) r y t i z n f.0 little kind nine) code in
      let k = got t n (taking l c) v.2 i z v.3.below in
      let st : Stands s (entered t n (taking l c)) (begun l b) [] [] (put t k.gs k.w) =
      rw k.is (rw (no_list v.0 (v.3.polygon.points_number ∙ x.no_points), no_list v.1 (v.3.polygon.rings_number ∙ x.no_rings)) at v.3) in
      let h = holding_pends s (taking l c) (begun l b) r y t i z n f.0 little kind nine k.gs k.w k.are.0 k.are.1 k.below e st in
      let m = k.are.0 in
      let fit : FromTo 1 64 (count k.gs) = (omega (arith, f.0), omega (arith, f.1)) in
      ([], [], with_it l (holding little kind k.gs) k.w, stood s c b (holding little kind k.gs) k.w x.raw l x.at_it x.no_points x.no_rings (fits k.gs k.are.1 fit) h)

  -- The type let through is a Polygon's: the same for parts and members.
  polygon_then : (k : GeometryRead s c b) → k.kind ≡ 3 → c.polygons < 64 → Back s c → Found s c b
  polygon_then k e few later =
      let slot = slot_at_lem l c x.raw.member x.at_it in
      let f : FromTo 1 64 k.n = allowed_count c.limit l k.n (rw slot at k.counts) in
      polygon_return k.little k.n few f k.nine (rw e at k.bytes)
      (rw (slot, e, polygon_opened l c k.little k.n x.at_it few, polygon_taken l c b k.little k.n x.at_it) at k.on_with) later

  whole_then : Whole l → (k : GeometryRead s c b) → Allowed c k.kind → Back s c → Found s c b
  whole_then y k (polygon e few) later = polygon_then k e few later
  whole_then y k (parts e) later =
      let slot = slot_at_lem l c x.raw.member x.at_it in
      let f : FromTo 1 64 k.n = allowed_count c.limit l k.n (rw slot at k.counts) in
      holding_return part tt (zero_parts l c y x.at_it) k.little MultiPolygon k.n f k.nine
      (λ gs ch n. fits_holding l k.little MultiPolygon gs (record { whole = y; number = n; kinds = inl (refl, ch) })) (rw e at k.bytes)
      (rw (slot ∙ slot_whole l y, e, parts_opened l c k.little k.n y x.at_it, other_taken l c (entered part k.n (taking l c)) b 6 k.n x.at_it refl) at k.on_with) later
  whole_then y k (members e z) later =
      let slot = slot_at_lem l c x.raw.member x.at_it in
      let f : FromTo 1 64 k.n = allowed_count c.limit l k.n (rw slot at k.counts) in
      holding_return (deeper l) (inside_deeper l c y x.at_it z) (zero_deeper l s c b x.raw x.at_it) k.little Collection k.n f k.nine
      (λ gs ch n. fits_holding l k.little Collection gs (record { whole = y; number = n; kinds = inr (refl, ch) })) (rw e at k.bytes)
      (rw (slot ∙ slot_whole l y, e, members_opened l s c b k.little k.n y x.raw x.at_it z, other_taken l c (entered (deeper l) k.n (taking l c)) b 7 k.n x.at_it refl) at k.on_with) later

  geometry_whole : Whole l → Bytes s → (reading s c b).code ≡ 0 → Back s c → Found s c b
  geometry_whole y bytes code later =
      let k = geometry_back s c b bytes (at_level l c x.raw.member x.no_points x.no_rings x.at_it) code in
      whole_then y k (allowed_member c k.kind (rw (slot_at_lem l c x.raw.member x.at_it ∙ slot_whole l y) at k.allowed)) later

pub geometry_return : (s : List ℕ) (c : Cursor) (b : Taken) (l : Level) → Next s c b l → Bytes s → (reading s c b).code ≡ 0 → Back s c → Found s c b
geometry_return s c b part x bytes code later =
    let k = geometry_back s c b bytes (at_level part c x.raw.member x.no_points x.no_rings x.at_it) code in
    let a = allowed_part c k.kind (rw (slot_at_lem part c x.raw.member x.at_it) at k.allowed) in
    polygon_then s c b part x k a.0 a.1 later
geometry_return s c b own x bytes code later = geometry_whole s c b own x tt bytes code later
geometry_return s c b fourth x bytes code later = geometry_whole s c b fourth x tt bytes code later
geometry_return s c b third x bytes code later = geometry_whole s c b third x tt bytes code later
geometry_return s c b second x bytes code later = geometry_whole s c b second x tt bytes code later
