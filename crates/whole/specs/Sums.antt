-- Tests, sums and counts over lists, and net counts: how often a thing stands in a list, less how often its reverse does.
use Rattle.std.specs.Prelude.{Bool, true, false, cond, List, [], ◌∷◌, ℕ, ◌+◌, ◌≤◌, ℤ, pos, ◌+ℤ◌, ◌-ℤ◌}

-- Each member of the list has the property.
abbrev pub All : {A : Type 0} → (A → Type 0) → List A → Type 0
All P [] = Unit {0}
All P (a ∷ l) = P a × All P l

-- Each member of the list passes the test.
abbrev pub every : {A : Type 0} → (A → Bool) → List A → Bool
every p [] = true
every p (a ∷ l) = elim (p a) [ true ↦ every p l | false ↦ false ]

-- Some member of the list passes the test.
abbrev pub any : {A : Type 0} → (A → Bool) → List A → Bool
any p [] = false
any p (a ∷ l) = elim (p a) [ true ↦ true | false ↦ any p l ]

-- The members of the list that pass the test, in their order.
abbrev pub passing : {A : Type 0} → (A → Bool) → List A → List A
passing p [] = []
passing p (a ∷ l) = cond (p a) (a ∷ passing p l) (passing p l)

-- The sum of f over the members of the list.
abbrev pub sum : {A : Type 0} → (A → ℤ) → List A → ℤ
sum f [] = pos 0
sum f (a ∷ l) = f a +ℤ sum f l

-- 1 where a test is passed, else 0.
abbrev pub bit : Bool → ℕ
bit true = 1
bit false = 0

-- How often e stands in the list, by a test of equality.
abbrev pub count : {E : Type 0} → (E → E → Bool) → E → List E → ℕ
count same e [] = 0
count same e (x ∷ l) = bit (same x e) + count same e l

-- e stands in the list.
abbrev pub Among : {E : Type 0} → (E → E → Bool) → E → List E → Type 0
Among same e l = 1 ≤ count same e l

-- How often e stands in the list, less how often its reverse does.
unfoldable pub net : {E : Type 0} → (E → E → Bool) → (E → E) → E → List E → ℤ
net same flip e l = pos (count same e l) -ℤ pos (count same (flip e) l)
