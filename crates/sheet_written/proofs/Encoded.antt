-- The standard's encoding of a tree is a list of bytes, each below 256: a byte order is, and the bytes of a number are. Assumes nothing.
use mathlib.Core.Bool.{Bool, true, false}
use mathlib.Core.List.{List, flat_map}
use Prim.Native.Nat.{ℕ, ◌<◌}
use lib.Dec.{lit<}
use lib.ListN.{length}
use Rattle.whole.specs.Sums.{All}
use Rattle.whole.proofs.Sums.{all-++, all_of, all-flat_map}
use Rattle.wkb_kinds.specs.declared.Kind.{Kind}
use Rattle.lent_little.specs.Ordered.{bytes, bytes_of}
use Rattle.wkb_kinds.specs.Kinds.{type_of}
use Rattle.wkb.specs.Standard.{Pair, Geometry, ringed, holding, Geometries, none, ◌then◌, count, order, header, encode_point, encode_ring, encode, encode_all}
use Rattle.lent_little.proofs.Ordered.{ordered_all, bytes_below}

abbrev Byte : ℕ → Type 0
Byte b = b < 256

number_bytes : (little : Bool) (n v : ℕ) → All Byte (bytes_of little n v)
number_bytes little n v = ordered_all little Byte (bytes n v) (bytes_below n v)

order_byte : (little : Bool) → Byte (order little)
order_byte true = lit< tt
order_byte false = lit< tt

header_bytes : (little : Bool) (kind : Kind) (n : ℕ) → All Byte (header little kind n)
unfolding header
header_bytes little kind n = (order_byte little, all-++ Byte (bytes_of little 4 (type_of kind)) (bytes_of little 4 n) (number_bytes little 4 _) (number_bytes little 4 n))

point_bytes : (little : Bool) (p : Pair) → All Byte (encode_point little p)
unfolding encode_point
point_bytes little p = all-++ Byte (bytes_of little 8 p.x) (bytes_of little 8 p.y) (number_bytes little 8 p.x) (number_bytes little 8 p.y)

-- The bytes of each thing of a list.
each_bytes : {A : Type 0} (f : A → List ℕ) → ((a : A) → All Byte (f a)) → (l : List A) → All Byte (flat_map f l)
each_bytes f h l = all-flat_map (λ a. Unit {0}) Byte f (λ a t. h a) l (all_of (λ a. Unit {0}) (λ a. tt) l)

ring_bytes : (little : Bool) (r : List Pair) → All Byte (encode_ring little r)
unfolding encode_ring
ring_bytes little r = all-++ Byte (bytes_of little 4 (length r)) (flat_map (encode_point little) r) (number_bytes little 4 _) (each_bytes (encode_point little) (point_bytes little) r)

mutual
  unfolding encode encode_all

  pub encode_bytes : (g : Geometry) → All Byte (encode g)
  encode_bytes (ringed little kind rs) = all-++ Byte (header little kind (length rs)) (flat_map (encode_ring little) rs) (header_bytes little kind (length rs)) (each_bytes (encode_ring little) (ring_bytes little) rs)
  encode_bytes (holding little kind gs) = all-++ Byte (header little kind (count gs)) (encode_all gs) (header_bytes little kind (count gs)) (all_bytes gs)

  all_bytes : (gs : Geometries) → All Byte (encode_all gs)
  all_bytes none = tt
  all_bytes (g then gs) = all-++ Byte (encode g) (encode_all gs) (encode_bytes g) (all_bytes gs)
