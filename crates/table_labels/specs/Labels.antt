-- What labels of triangles are compared with: the side across each side, and a count at each side.
use Rattle.std.specs.Prelude.{◌≡◌, List, ℕ, suc, ◌*◌, ◌<◌, length, get_or}

-- n triangles have three sides each; the number of a reverse is that of a side; there is a count for each side, and room to add 1.
pub record Sided (opposite counts : List ℕ) (n : ℕ) : Type 0 where
  pub three : length opposite ≡ 3 * n
  pub sides : (k o : ℕ) → k < length opposite → get_or opposite k 0 ≡ suc o → o < length opposite
  pub number : length counts ≡ length opposite
  pub room : (k : ℕ) → get_or counts k 0 < 4294967295
