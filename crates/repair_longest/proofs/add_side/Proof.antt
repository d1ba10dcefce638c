-- `repair_longest::add_side` meets its contract: the number across the side, where there is one, has the side's length added to its sum. Assumes nothing.
use mathlib.Core.Path.{◌≡◌, refl, sym, ◌∙◌, ap, subst}
use mathlib.Core.List.{List, ◌∷◌}
use Prim.Native.Nat.{ℕ, zero, suc, ◌+◌, ◌-◌, ◌/◌, ◌≤◌, ◌<◌}
use native.Mathlib.Omega.{arith}
use borrow.Author.Rules.{rules}
use lib.ListN.{length, get_or, set, length-set}
use Rattle.whole.proofs.Sums.{all_at}
use Rattle.repair_choices.specs.Choices.{across, beyond}
use Rattle.repair_choices.specs.Adding.{preferred, Adding}
use Rattle.repair_choices.proofs.Adding.{adding_nothing, adding_side}
use Rattle.repair_longest.proofs.Held.{table_fewer, length_at}
use Rattle.repair_longest.proofs.add_side.Statement.{statement}
use Rattle.repair_longest.proofs.add_side.Tie as tie

-- The number across a side, where the table doesn't end there.
across_some : (opposite numbers : List ℕ) (x : ℕ) → (x ≡ 0 → ⊥) → beyond opposite numbers x ≡ get_or numbers ((x - 1) / 3) 0
across_some opposite numbers zero f = absurd (f refl)
across_some opposite numbers (suc o) f = let z : suc o - 1 ≡ o = omega arith in sym (ap (λ i. get_or numbers (i / 3) 0) z)

-- A side's length added.
added : {lengths opposite numbers sides sums : List ℕ} {best : ℕ} → Adding lengths opposite numbers sides sums best → (k m r long : ℕ) → across opposite numbers k ≡ m → 1 ≤ m → m ≤ 64
    → long ≡ get_or lengths k 0 → long ≤ 30_000_000 → r ≡ preferred (set sums m (get_or sums m 0 + long)) best m → Adding lengths opposite numbers (k ∷ sides) (set sums m (get_or sums m 0 + long)) r
added {lengths} {opposite} {numbers} {sides} {sums} {best} is k m r long e some few here short next =
    subst (Adding lengths opposite numbers (k ∷ sides) (set sums m (get_or sums m 0 + long))) (sym next)
    (subst (λ x. Adding lengths opposite numbers (k ∷ sides) (set sums m (get_or sums m 0 + x)) (preferred (set sums m (get_or sums m 0 + x)) best m)) (sym here)
    (adding_side is k m e some few (omega (arith, here))))

-- ---- places: the entry of the function, the side with a triangle across, the number read there, and that it is none but 0
abbrev start : tie.After-shared_slice_known-4-1 → tie.Start
start c = c.before.before.before.before.before

abbrev inner : tie.Else-o-eq0 → tie.Start
inner c = start c.before

abbrev read : tie.Else-m-eq0 → tie.Start
read c = inner c.before.before

abbrev reverse : tie.Start → ℕ
reverse c = get_or c.args.opposite.now c.args.k 0

abbrev number : tie.Start → ℕ
number c = get_or c.args.numbers.now ((reverse c - 1) / 3) 0

-- ---- what stands there
inside : (c : tie.Else-o-eq0) → (reverse (inner c) - 1) / 3 < length (inner c).args.numbers.now
inside c = let s = inner c in omega (arith, s.requires.0.there s.args.k (reverse s - 1) (omega (arith, c.if-o-eq0.false)), s.requires.0.sides)

small : (c : tie.Else-o-eq0) → number (inner c) ≤ 64
small c = all_at (λ x. x ≤ 64) 0 (inner c).args.numbers.now _ (inner c).requires.2 (inside c)

found : (c : tie.Else-o-eq0) → across (inner c).args.opposite.now (inner c).args.numbers.now (inner c).args.k ≡ number (inner c)
found c = across_some (inner c).args.opposite.now (inner c).args.numbers.now (reverse (inner c)) c.if-o-eq0.false

-- The sums at hand.
many : (c : tie.Start) → length c.args.sums.now ≡ 65
many c = c.requires.4.1.many

returns : tie.Need-returns-then-o-eq0
returns c = let a = (start c.before).args in λ sides is. adding_nothing is a.k (ap (beyond a.opposite.now a.numbers.now) c.if-o-eq0.true)

returns_2 : tie.Need-returns-then-m-eq0
returns_2 c = λ sides is. adding_nothing is (inner c.before.before).args.k (found c.before.before ∙ c.if-m-eq0.true)

side_length_requires : tie.Need-side_length-requires
side_length_requires c κs = let s = read c in table_fewer (s.args.k / 3 + 1) (omega (arith, s.requires.0.sides, s.requires.3)) s.requires.1

add_sums : tie.Need-overflow_add-sums
add_sums c =
    let l = c.before in
    let s = read l.before in
    record { fits = omega (arith, l.side_length.ensures.1, s.requires.4.1.small (number s), s.requires.4.2) }

preferred_requires : tie.Need-preferred-requires
preferred_requires c κs =
    let e = c.before.before in
    let s = read e in
    let n = length-set s.args.sums.now (number s) (get_or s.args.sums.now (number s) 0 + c.side_length.result) in
    (omega (arith, n, many s, s.requires.4.1.up_to), omega (arith, n, many s, small e.before.before))

returns_3 : tie.Need-returns
returns_3 c = λ sides is.
    let l = c.before.before in
    let e = l.before in
    let s = read e in
    let d = e.before.before in
    let a = l.side_length.ensures in
    let place = length_at s.args.table.now (length s.args.opposite.now) s.args.k s.requires.3 in
    added is s.args.k (number s) c.preferred.result l.side_length.result (found d) (omega (arith, e.if-m-eq0.false)) (small d) (a.0 ∙ sym place) (omega (arith, a.1)) c.preferred.ensures

pub add_side_spec : {M : Type 1} → statement M
add_side_spec =
    tie.close
    (tie.spec
    (λ c. search rules)
    (λ c. search rules)
    returns
    (λ c. search rules)
    (λ c. inside c.before)
    (λ c. record { fits = omega (arith, small c.before) })
    returns_2
    side_length_requires
    (λ c. record { fits = omega (arith, small c.before.before.before) })
    (λ c. omega (arith, many (read c.before.before), small c.before.before.before.before))
    add_sums
    (λ c. omega (arith, many (read c.before.before), small c.before.before.before.before))
    preferred_requires
    (λ c. search rules)
    returns_3)
