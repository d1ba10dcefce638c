-- The examples of writing, one table, one claim: by computation.
use mathlib.Core.Path.{◌≡◌, refl}
use mathlib.Core.List.{map, flat_map}
use lib.Ieee.{of_int, to_bits}
use Rattle.lent_little.specs.Ordered.{bytes, ordered}
use Rattle.wkb.specs.Standard.{header, encode_point, encode_ring, encode, encode_all}
use Rattle.sheet_form.specs.Form.{many_in}
use Rattle.sheet_written.specs.Normal.{pattern_of, normal}
use Rattle.sheet_written.specs.Examples.{bytes_for, numbers, answers}

pub written_examples : map bytes_for numbers ≡ answers
unfolding flat_map many_in of_int to_bits bytes ordered header encode_point encode_ring encode encode_all pattern_of normal
written_examples = refl
