-- The double area of one ring.
use Rattle.std.specs.Prelude.{ℤ}
use Rattle.whole.specs.Sums.{sum}
use Rattle.plane.specs.Points.{cross}
use Rattle.plane.specs.Members.{Ring, edges}

-- The double area of one ring: the sum over its edges of px·qy - qx·py.
unfoldable pub ring_area : Ring → ℤ
ring_area r = sum cross (edges r)
