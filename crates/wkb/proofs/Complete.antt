-- What it says that nothing more is to come of a member. Assumes nothing.
use mathlib.Core.Path.{◌≡◌, refl}
use mathlib.Core.Bool.{Bool, true, false, and-eq-true_iff}
use borrow.Author.Tests.{eqb-true, eq-eqb, not-true}
use Rattle.wkb.specs.declared.Cursor.{Cursor}
use Rattle.wkb.specs.Steps.{complete}

pub record Complete (c : Cursor) : Type 0 where
  pub no_header : c.header ≡ false
  pub no_second : c.second ≡ 0
  pub no_third : c.third ≡ 0
  pub no_fourth : c.fourth ≡ 0
  pub no_parts : c.parts ≡ 0
  pub no_rings : c.rings ≡ 0
  pub no_points : c.points ≡ 0

pub is_complete : (c : Cursor) → complete c ≡ true → Complete c
unfolding complete
is_complete c e =
    let e6 = (and-eq-true_iff _ _).0 e in
    let e5 = (and-eq-true_iff _ _).0 e6.0 in
    let e4 = (and-eq-true_iff _ _).0 e5.0 in
    let e3 = (and-eq-true_iff _ _).0 e4.0 in
    let e2 = (and-eq-true_iff _ _).0 e3.0 in
    let e1 = (and-eq-true_iff _ _).0 e2.0 in
    record {
      no_header = not-true c.header e1.0;
      no_second = eqb-true c.second 0 e1.1;
      no_third = eqb-true c.third 0 e2.1;
      no_fourth = eqb-true c.fourth 0 e3.1;
      no_parts = eqb-true c.parts 0 e4.1;
      no_rings = eqb-true c.rings 0 e5.1;
      no_points = eqb-true c.points 0 e6.1;
    }

pub complete_is : (c : Cursor) → Complete c → complete c ≡ true
unfolding complete
complete_is c h =
    rw (
      h.no_header,
      eq-eqb c.second 0 h.no_second,
      eq-eqb c.third 0 h.no_third,
      eq-eqb c.fourth 0 h.no_fourth,
      eq-eqb c.parts 0 h.no_parts,
      eq-eqb c.rings 0 h.no_rings,
      eq-eqb c.points 0 h.no_points,
    ) refl

pub not_complete : (c : Cursor) → (Complete c → ⊥) → complete c ≡ false
not_complete c h = go (complete c) refl
  where
    go : (t : Bool) → complete c ≡ t → t ≡ false
    go true e = absurd (h (is_complete c e))
    go false e = refl
