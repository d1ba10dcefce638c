-- `table_chains::side_in` meets its contract: the code of a side of the triangle was compared. Assumes nothing.
use mathlib.Core.Path.{◌≡◌, sym, ◌∙◌, ap}
use Prim.Native.Nat.{ℕ, suc, ◌-◌, ◌*◌, ◌<◌}
use native.Mathlib.Omega.{arith}
use borrow.Author.Rules.{rules}
use lib.ListN.{length, get_or}
use Rattle.table_chains.proofs.side_in.Statement.{statement}
use Rattle.table_chains.proofs.side_in.Tie as tie

-- ---- places: behind the two tests the triangle has three sides
abbrev start : tie.Else-codes-t → tie.Start
start c = c.before.before

last : (c : tie.Else-codes-t) → let a = (start c).args in (0 < 3 * a.t) × (3 * a.t - 1 < length a.codes.now)
last c = let t = (start c).args.t in let some : 0 < t = omega (arith, c.if-t-eq0.false) in (omega arith, omega (arith, c.if-codes-t.false))

-- A side that was found.
found : (c : tie.Else-codes-t) (k o : ℕ) → k ≡ suc o → o < 3 * (start c).args.t → get_or (start c).args.codes.now (k - 1) 0 ≡ (start c).args.code
    → (o < length (start c).args.codes.now) × (get_or (start c).args.codes.now o 0 ≡ (start c).args.code)
found c k o e h q = (omega (arith, (last c).0, (last c).1), let i : o ≡ k - 1 = omega arith in ap (λ i. get_or (start c).args.codes.now i 0) i ∙ q)

shared_slice_read_if3 : tie.Need-bounds-codes-t
shared_slice_read_if3 c = omega (arith, (last c.before).0, (last c.before).1)

returns_3 : tie.Need-returns-then-codes-t-2
returns_3 c = λ o e.
    let d = c.before.before in
    let i : 3 * (start d).args.t - 3 ≡ (3 * (start d).args.t - 2) - 1 = omega arith in
    found d (3 * (start d).args.t - 2) o e (omega (arith, (last d).0)) (ap (λ i. get_or (start d).args.codes.now i 0) (sym i) ∙ c.if-codes-t-2.true)

shared_slice_read_if4 : tie.Need-bounds-codes-t-2
shared_slice_read_if4 c = let d = c.before.before.before in omega (arith, (last d).0, (last d).1)

returns_4 : tie.Need-returns-then-codes-t-3
returns_4 c = λ o e.
    let d = c.before.before.before.before in
    let i : 3 * (start d).args.t - 2 ≡ (3 * (start d).args.t - 1) - 1 = omega arith in
    found d (3 * (start d).args.t - 1) o e (omega (arith, (last d).0)) (ap (λ i. get_or (start d).args.codes.now i 0) (sym i) ∙ c.if-codes-t-3.true)

shared_slice_read_if5 : tie.Need-bounds-codes-t-3
shared_slice_read_if5 c = (last c.before.before.before.before.before).1

returns_5 : tie.Need-returns-then-codes-t-4
returns_5 c = λ o e. let d = c.before.before.before.before.before.before in found d (3 * (start d).args.t) o e (omega arith) c.if-codes-t-4.true

pub side_in_spec : {M : Type 1} → statement M
side_in_spec =
    tie.close
    (tie.spec
    (λ c. search rules)
    (λ c. search rules)
    (λ c. search rules)
    (λ c. search rules)
    (λ c. search rules)
    (λ c. search rules)
    shared_slice_read_if3
    (λ c. search rules)
    (λ c. search rules)
    returns_3
    (λ c. search rules)
    (λ c. search rules)
    (λ c. search rules)
    shared_slice_read_if4
    (λ c. search rules)
    (λ c. search rules)
    returns_4
    (λ c. search rules)
    (λ c. search rules)
    (λ c. search rules)
    shared_slice_read_if5
    (λ c. search rules)
    returns_5
    (λ c. search rules))
