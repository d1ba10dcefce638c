-- What gives the writer a sheet: exactly the numbers forms of the sheets within the limits, each number as a little-endian i32. The idea: four
-- bytes are the i32 of their number, a number in range is that of its i32, and the numbers form tells the sheet (form-is). Assumes nothing.
use mathlib.Core.Path.{◌≡◌, refl, sym, ◌∙◌, ap, subst}
use mathlib.Core.Bool.{Bool, true, false, cond}
use mathlib.Core.Logic.{◌↔◌}
use mathlib.Core.List.{List, [], ◌∷◌, ◌++◌, flat_map}
use mathlib.Core.Option.{Option, none, some, none-ne-some, some-injective}
use mir.Syntax.{w32}
use mir.Val.{SFits, to_z, of_z}
use mir.ValLaws.{of_z_fits, to_z-of_z, of_z-to_z}
use Prim.Native.Nat.{ℕ, ◌*◌, ◌%◌, ◌^◌, ◌≤◌, ◌<◌}
use native.Mathlib.Omega.{arith}
use borrow.Author.Tests.{eq-eqb, eqb-true}
use lib.Dec.{T, eqb}
use lib.IntN.{ℤ, pos, negsuc}
use lib.ListN.{length, length-append}
use Rattle.whole.specs.Sums.{All}
use Rattle.whole.proofs.Sums.{all_of, all-flat_map}
use Rattle.plane.specs.Corners.{offset}
use Rattle.lent_little.specs.Ordered.{number, bytes}
use Rattle.lent_little.specs.Bytes.{i32}
use Rattle.lent_little.proofs.Ordered.{bytes_below, number_below, number_bytes, bytes_number}
use Rattle.sheet_form.specs.Numbers.{Sheet, numbers_of}
use Rattle.sheet_form.specs.Form.{sheet_in, numbers_in}
use Rattle.sheet_written.specs.Fits.{sheet_fits}
use Rattle.sheet_written.specs.Given.{limited, sheet_given}
use Rattle.sheet_form.proofs.Form.{form_is}
use Rattle.sheet_written.proofs.Held.{Small, numbers_small}

-- ---- bytes and their numbers
-- Four bytes are the i32 of their number.
four : (l : List ℕ) → length l ≡ 4 → All (λ x. x < 256) l → i32 (to_z w32 (number l)) ≡ l
four l e h = ap (bytes 4) (of_z-to_z w32 (number l) (record { fits = subst (λ k. number l < 256 ^ k) e (number_below l h) })) ∙ ap (λ k. bytes k (number l)) (sym e) ∙ bytes_number l h

fours : (s : List ℕ) → length s % 4 ≡ 0 → All (λ x. x < 256) s → flat_map i32 (numbers_in s) ≡ s
unfolding numbers_in flat_map
fours [] e h = refl
fours (a ∷ []) e h = absurd (let z : 0 < 0 = omega arith in omega (arith, z))
fours (a ∷ b ∷ []) e h = absurd (let z : 0 < 0 = omega arith in omega (arith, z))
fours (a ∷ b ∷ c ∷ []) e h = absurd (let z : 0 < 0 = omega arith in omega (arith, z))
fours (a ∷ b ∷ c ∷ d ∷ l) e h =
    ap (λ m. m ++ flat_map i32 (numbers_in l)) (four (a ∷ b ∷ c ∷ d ∷ []) refl (h.0, (h.1.0, (h.1.1.0, (h.1.1.1.0, tt)))))
    ∙ ap (λ m. a ∷ b ∷ c ∷ d ∷ m) (fours l (omega arith) h.1.1.1.1)

-- A number in range is that of its i32.
small_fits : (z : ℤ) → Small z → SFits w32 z
small_fits (pos n) h = record { sfits = omega arith }
small_fits (negsuc n) h = record { sfits = omega arith }

back : (z : ℤ) → Small z → to_z w32 (number (i32 z)) ≡ z
back z h = let f = small_fits z h in ap (to_z w32) (number_bytes 4 (of_z w32 z) (of_z_fits w32 z f).fits) ∙ to_z-of_z w32 z f

all_back : (l : List ℤ) → All Small l → numbers_in (flat_map i32 l) ≡ l
unfolding numbers_in flat_map bytes
all_back [] h = refl
all_back (z ∷ l) h = let e = back z h.0 in let r = all_back l h.1 in λ i. e i ∷ r i

-- Four bytes for each number.
pub form_length : (l : List ℤ) → length (flat_map i32 l) ≡ 4 * length l
unfolding flat_map bytes
form_length [] = omega arith
form_length (z ∷ l) = omega (arith, length-append (i32 z) (flat_map i32 l), form_length l)

-- They are bytes.
pub form_bytes : (l : List ℤ) → All (λ x. x < 256) (flat_map i32 l)
form_bytes l = all-flat_map (λ z. Unit {0}) (λ x. x < 256) i32 (λ z u. bytes_below 4 (of_z w32 z)) l (all_of (λ z. Unit {0}) (λ z. tt) l)

-- ---- the sheet that is given
limited_is : (limit : ℕ) (x : Option Sheet) (n : Sheet) → (limited limit x ≡ some n) ↔ (T (sheet_fits limit n) × (x ≡ some n))
limited_is limit none n = (λ e. absurd (none-ne-some n e), λ h. h.1)
limited_is limit (some m) n = (to (sheet_fits limit m) refl, from)
  where
    to : (b : Bool) → sheet_fits limit m ≡ b → cond b (some m) none ≡ some n → T (sheet_fits limit n) × (some m ≡ some n)
    to true e q = (subst (λ x. T (sheet_fits limit x)) (some-injective m n q) (subst T (sym e) tt), q)
    to false e q = absurd (none-ne-some n q)

    kept : (b : Bool) → T b → cond b (some m) none ≡ some m
    kept true t = refl
    kept false t = absurd t

    from : T (sheet_fits limit n) × (some m ≡ some n) → limited limit (some m) ≡ some n
    from (t, q) = kept (sheet_fits limit m) (subst (λ x. T (sheet_fits limit x)) (sym (some-injective m n q)) t) ∙ q

pub given_is : (limit : ℕ) (s : List ℕ) (n : Sheet) → (sheet_given limit s ≡ some n) ↔ ((length s % 4 ≡ 0) × T (sheet_fits limit n) × (numbers_of n ≡ numbers_in s))
unfolding sheet_given
given_is limit s n = (to (eqb (length s % 4) 0) refl, from)
  where
    to : (b : Bool) → eqb (length s % 4) 0 ≡ b → cond b (limited limit (sheet_in (numbers_in s))) none ≡ some n → (length s % 4 ≡ 0) × T (sheet_fits limit n) × (numbers_of n ≡ numbers_in s)
    to true e q = let k = (limited_is limit (sheet_in (numbers_in s)) n).0 q in (eqb-true (length s % 4) 0 e, k.0, (form_is (numbers_in s) n).0 k.1)
    to false e q = absurd (none-ne-some n q)

    from : (length s % 4 ≡ 0) × T (sheet_fits limit n) × (numbers_of n ≡ numbers_in s) → cond (eqb (length s % 4) 0) (limited limit (sheet_in (numbers_in s))) none ≡ some n
    from (z, t, e) = rw (eq-eqb (length s % 4) 0 z) ((limited_is limit (sheet_in (numbers_in s)) n).1 (t, (form_is (numbers_in s) n).1 e))

pub given_fits : (limit : ℕ) (s : List ℕ) (n : Sheet) → sheet_given limit s ≡ some n → T (sheet_fits limit n)
given_fits limit s n e = ((given_is limit s n).0 e).1

-- Bytes give a sheet exactly if it is within the limits and they are its numbers form.
pub given_form : (limit : ℕ) → limit ≤ offset → (s : List ℕ) → All (λ x. x < 256) s → (n : Sheet) → (sheet_given limit s ≡ some n) ↔ (T (sheet_fits limit n) × (flat_map i32 (numbers_of n) ≡ s))
given_form limit l s h n = (to, from)
  where
    to : sheet_given limit s ≡ some n → T (sheet_fits limit n) × (flat_map i32 (numbers_of n) ≡ s)
    to e = let g = (given_is limit s n).0 e in (g.1, ap (flat_map i32) g.2 ∙ fours s g.0 h)

    from : T (sheet_fits limit n) × (flat_map i32 (numbers_of n) ≡ s) → sheet_given limit s ≡ some n
    from (t, e) = (given_is limit s n).1 (omega (arith, ap length e, form_length (numbers_of n)), t, sym (all_back (numbers_of n) (numbers_small limit n l t)) ∙ ap numbers_in e)
