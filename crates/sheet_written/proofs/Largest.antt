-- A sheet at every limit: no sheet within the limits has more numbers or more normal bytes. By computation. Assumes nothing.
use mathlib.Core.Path.{◌≡◌, refl, ◌∙◌}
use mathlib.Core.List.{[], ◌∷◌, flat_map}
use lib.Dec.{T}
use lib.ListN.{length, replicate}
use Rattle.sheet_form.specs.Numbers.{Sheet, members, numbers_of}
use Rattle.sheet_written.specs.Fits.{origin, sheet_fits}
use Rattle.sheet_written.specs.Normal.{normal, written}
use Rattle.sheet_written.proofs.Measured.{holders, holders_in}
use Rattle.sheet_written.proofs.Sized.{written_length}

-- 1,024 triangles; 64 polygons of 16 parts, each of one ring of 4 points. Where the points are doesn't matter to the limits.
pub largest : Sheet
largest = record {
  table = replicate 1024 (record { a = origin; b = origin; c = origin });
  polygons = replicate 64 (replicate 16 (replicate 4 origin ∷ []));
}

pub largest_fits : T (sheet_fits members largest)
unfolding largest sheet_fits
largest_fits = tt

pub largest_numbers : length (numbers_of largest) ≡ 16450
unfolding largest flat_map
largest_numbers = refl

pub largest_written : length (written largest) ≡ 158290
unfolding largest normal holders holders_in
largest_written = written_length members largest largest_fits ∙ refl
