-- Every refusal that an entry comes to stands in document 01's table. The idea: it is known exactly when an entry gives which code (Answers), and the
-- sheet read has at most 1,024 triangles and 64 polygons. Assumes nothing.
use mathlib.Core.Path.{◌≡◌, refl, sym, ◌∙◌, subst}
use mathlib.Core.Logic.{inl, inr, ⊎_elim}
use mathlib.Core.Bool.{Bool, true, false, ◌&&◌}
use mathlib.Core.List.{List, [], ◌∷◌}
use Prim.Native.Nat.{ℕ, zero, suc, ◌≤◌, ◌<◌}
use native.Mathlib.Omega.{arith}
use borrow.Author.Tests.{eq-eqb}
use lib.Dec.{T, eqb, leb, ltb, eqb→eq, leb→le, le→leb, ltb→lt}
use lib.ListN.{length, get_or}
use Rattle.whole.specs.Sums.{All, any}
use Rattle.whole.proofs.Sums.{and_left, and_right, and_both, every_all}
use Rattle.lent.specs.Stages.{refused}
use Rattle.lent.specs.Answered.{Written}
use Rattle.lent.proofs.Stages.{same_refusal}
use Rattle.sheet.proofs.Refusals.{Lawful}
use Rattle.sheet_form.specs.Numbers.{members}
use Rattle.sheet_modes.specs.Modes.{read_by}
use Rattle.outcomes.specs.declared.Wanted.{Wanted}
use Rattle.outcomes.specs.declared.Wanted.TheVariants.{OwnerSets, Owners, Boundary, Rings, RingRoom, At}
use Rattle.demands.specs.Refusals.{Row, alone, rows, in_row, Listed}
use Rattle.demands.specs.Entries.{Entry, numbers, areas, position, write, write_blob, owner_sets, owners, boundary, rings, ring_room, listing, owner_at, index, indexed, outcome_of}
use Rattle.demands.specs.Answers.{Refused, PolygonRefused, unread, breaks_a, breaks_b, breaks_c, unframed, not_carried, no_ground}
use Rattle.demands.specs.Index.{without}
use Rattle.demands.proofs.Index.{index_refuses, same_or_53}
use Rattle.demands.proofs.Stages.{read_lawful, no_higher, read_limits}
use Rattle.demands.proofs.Answers.{numbers_refuses, areas_refuses, position_refuses_nothing, write_refuses, write_blob_refuses, owner_sets_refuses, owners_refuses, boundary_refuses, rings_refuses, ring_room_refuses, listing_refuses_nothing}
use Rattle.demands.proofs.Points.{at_refuses}

-- ---- the table
any_at : {A : Type 0} (p : A → Bool) (d : A) (l : List A) (i : ℕ) → i < length l → T (p (get_or l i d)) → T (any p l)
any_at p d [] i h t = absurd (omega arith)
any_at p d (a ∷ l) zero h t = go (p a) t
  where
    go : (b : Bool) → T b → T (elim b [ true ↦ true | false ↦ any p l ])
    go true t = tt
    go false t = absurd t
any_at p d (a ∷ l) (suc i) h t = go (p a) (any_at p d l i (omega arith) t)
  where
    go : (b : Bool) → T (any p l) → T (elim b [ true ↦ true | false ↦ any p l ])
    go true t = tt
    go false t = t

-- Row i of the table, counted from 0.
abbrev row : ℕ → Row
row i = get_or rows i (alone 0)

in_row_lem : (i item : ℕ) → i < length rows → (row i).from ≤ item → item ≤ (row i).to → Listed (row i).code item
unfolding Listed
in_row_lem i item h low high =
    any_at (in_row (row i).code item) (alone 0) rows i h
    (and_both (eqb (row i).code (row i).code && leb (row i).from item) (leb item (row i).to)
    (and_both (eqb (row i).code (row i).code) (leb (row i).from item) (same (row i).code) (le→leb (row i).from item low)) (le→leb item (row i).to high))
  where
    same : (n : ℕ) → T (eqb n n)
    same n = subst T (sym (eq-eqb n n refl)) tt

-- Every code of the table is from 1 to 255.
pub code_fits : (code item : ℕ) → Listed code item → (1 ≤ code) × (code < 256)
unfolding Listed
code_fits code item = go rows (every_all small Small small_is rows tt)
  where
    Small : Row → Type 0
    Small row = (1 ≤ row.code) × (row.code < 256)

    small : Row → Bool
    small row = leb 1 row.code && ltb row.code 256

    small_is : (row : Row) → T (small row) → Small row
    small_is row t = (leb→le 1 row.code (and_left (leb 1 row.code) (ltb row.code 256) t), ltb→lt row.code 256 (and_right (leb 1 row.code) (ltb row.code 256) t))

    one : (row : Row) → Small row → T (in_row code item row) → (1 ≤ code) × (code < 256)
    one row h t =
        let e = eqb→eq row.code code (and_left (eqb row.code code) (leb row.from item) (and_left (eqb row.code code && leb row.from item) (leb item row.to) t)) in
        (omega (arith, h.0), omega (arith, h.1))

    go : (l : List Row) → All Small l → T (any (in_row code item) l) → (1 ≤ code) × (code < 256)
    go [] h t = absurd t
    go (row ∷ l) h t = choose (in_row code item row) (one row h.0) (go l h.1) t
      where
        choose : (b : Bool) → (T b → (1 ≤ code) × (code < 256)) → (T (any (in_row code item) l) → (1 ≤ code) × (code < 256))
            → T (elim b [ true ↦ true | false ↦ any (in_row code item) l ]) → (1 ≤ code) × (code < 256)
        choose true f g t = f tt
        choose false f g t = g t

-- ---- from reading
lawful_listed : (code item : ℕ) → (code ≡ 0 → ⊥) × Lawful members code item → Listed code item
lawful_listed zero item h = absurd (h.0 refl)
lawful_listed (suc zero) item h = in_row_lem 0 item (omega arith) (omega arith) (leb→le item 65 h.1)
lawful_listed (suc (suc zero)) item h = in_row_lem 1 item (omega arith) (omega arith) (leb→le item 65 h.1)
lawful_listed (suc (suc (suc zero))) item h = in_row_lem 2 item (omega arith) (omega arith) (leb→le item 65 h.1)
lawful_listed (suc (suc (suc (suc zero)))) item h = in_row_lem 3 item (omega arith) (omega arith) (leb→le item 65 h.1)
lawful_listed (suc (suc (suc (suc (suc zero))))) item h = in_row_lem 4 item (omega arith) (omega arith) (leb→le item 65 h.1)
lawful_listed (suc (suc (suc (suc (suc (suc zero)))))) item h = in_row_lem 5 item (omega arith) (omega arith) (leb→le item 65 h.1)
lawful_listed (suc (suc (suc (suc (suc (suc (suc zero))))))) item h = in_row_lem 6 item (omega arith) (omega arith) (omega (arith, eqb→eq item 0 h.1))
lawful_listed (suc (suc (suc (suc (suc (suc (suc (suc zero)))))))) item h = in_row_lem 7 item (omega arith) (omega arith) (leb→le item 65 h.1)
lawful_listed (suc (suc (suc (suc (suc (suc (suc (suc (suc code))))))))) item h = absurd (no_higher (suc (suc (suc (suc (suc (suc (suc (suc (suc code))))))))) item (omega arith) h.1)

-- A code of the table whose item is 0.
alone_listed : (i : ℕ) → i < length rows → (row i).from ≡ 0 → {code item : ℕ} → code ≡ (row i).code → item ≡ 0 → Listed code item
alone_listed i h e {code} {item} c z = subst (λ n. Listed n item) (sym c) (in_row_lem i item h (omega arith) (omega arith))

-- ---- from the entries
module _ (mode : ℕ) (s : List ℕ) (all : All (λ b. b < 256) s) where
  unread_listed : (code item : ℕ) → read_by members mode s ≡ refused code item → Listed code item
  unread_listed code item e =
      ⊎_elim (λ (c, i). alone_listed 23 (omega arith) refl c i)
      (⊎_elim (λ (c, i). ⊎_elim (λ c. alone_listed 17 (omega arith) refl c i) (λ c. alone_listed 18 (omega arith) refl c i) c) (lawful_listed code item))
      (read_lawful mode s code item e)

  refused_listed : {code item : ℕ} → Refused mode s code item → Listed code item
  refused_listed (unread {code} {item} e) = unread_listed code item e
  refused_listed (breaks_a {k} n p f) = in_row_lem 8 k (omega arith) f.low (omega (arith, f.high, (read_limits mode s all n p).few))
  refused_listed (breaks_b {k} n p a f) = in_row_lem 9 k (omega arith) f.low (omega (arith, f.high, (read_limits mode s all n p).few))
  refused_listed (breaks_c n p a b c) = in_row_lem 10 0 (omega arith) (omega arith) (omega arith)
  refused_listed (unframed n p r w) = in_row_lem 19 0 (omega arith) (omega arith) (omega arith)
  refused_listed (not_carried {k} n p r w f) = in_row_lem 11 k (omega arith) f.low (omega (arith, f.high, (read_limits mode s all n p).few_polygons))
  refused_listed (no_ground {k} n p r w f) = in_row_lem 12 k (omega arith) f.low (omega (arith, f.high, (read_limits mode s all n p).few_polygons))

-- An entry, in its mode.
module _ (s : List ℕ) (all : All (λ b. b < 256) s) where
  asked_listed : {mode way k code item : ℕ} → PolygonRefused mode s way k code item → Listed code item
  asked_listed {mode = mode} =
      ⊎_elim (refused_listed mode s all)
      (⊎_elim (λ h. alone_listed 15 (omega arith) refl h.0 h.1) (⊎_elim (λ h. alone_listed 21 (omega arith) refl h.0 h.1) (λ h. alone_listed 13 (omega arith) refl h.0 h.1)))

  -- Those that judge.
  judged_listed : (mode way : ℕ) (wanted : Wanted) (code item : ℕ) → outcome_of (without mode way wanted) s ≡ refused code item → Listed code item
  judged_listed mode way OwnerSets code item q = refused_listed mode s all ((owner_sets_refuses mode s all code item).0 q)
  judged_listed mode way Owners code item q =
      ⊎_elim (refused_listed mode s all) (⊎_elim (λ h. alone_listed 21 (omega arith) refl h.0 h.1) (λ h. alone_listed 13 (omega arith) refl h.0 h.1)) ((owners_refuses mode s all way code item).0 q)
  judged_listed mode way (Boundary k) code item q = asked_listed ((boundary_refuses mode s all way k code item).0 q)
  judged_listed mode way (Rings k) code item q = asked_listed ((rings_refuses mode s all way k code item).0 q)
  judged_listed mode way (RingRoom k) code item q = asked_listed ((ring_room_refuses mode s all way k code item).0 q)
  judged_listed mode way (At x y) code item q =
      ⊎_elim (refused_listed mode s all)
      (⊎_elim (λ h. alone_listed 21 (omega arith) refl h.0 h.1) (⊎_elim (λ h. alone_listed 13 (omega arith) refl h.0 h.1) (λ h. alone_listed 22 (omega arith) refl h.0 h.1)))
      ((at_refuses mode s all way x y code item).0 q)

  pub outcome_listed : (e : Entry) (code item : ℕ) → outcome_of e s ≡ refused code item → Listed code item
  outcome_listed (numbers mode) code item q = ⊎_elim (unread_listed mode s all code item) (λ h. alone_listed 19 (omega arith) refl h.0 h.1) ((numbers_refuses mode s all code item).0 q)
  outcome_listed (areas mode) code item q = ⊎_elim (unread_listed mode s all code item) (λ h. alone_listed 19 (omega arith) refl h.0 h.1) ((areas_refuses mode s all code item).0 q)
  outcome_listed (position mode) code item q = absurd (position_refuses_nothing mode s all code item q)
  outcome_listed write code item q = let (c, i, f) = (write_refuses s all code item).0 q in alone_listed 16 (omega arith) refl c i
  outcome_listed write_blob code item q = let (c, i, f) = (write_blob_refuses s all code item).0 q in alone_listed 16 (omega arith) refl c i
  outcome_listed (owner_sets mode) code item q = judged_listed mode 0 OwnerSets code item q
  outcome_listed (owners mode way) code item q = judged_listed mode way Owners code item q
  outcome_listed (boundary mode way k) code item q = judged_listed mode way (Boundary k) code item q
  outcome_listed (rings mode way k) code item q = judged_listed mode way (Rings k) code item q
  outcome_listed (ring_room mode way k) code item q = judged_listed mode way (RingRoom k) code item q
  outcome_listed (listing mode way) code item q = absurd (listing_refuses_nothing mode s all way code item q)
  outcome_listed (owner_at mode way x y) code item q = judged_listed mode way (At x y) code item q
  outcome_listed (index mode) code item q = refused_listed mode s all ((index_refuses mode s code item).0 q).0
  outcome_listed (indexed lent mode way wanted) code item q = elim (same_or_53 mode s lent way wanted) [
    | inl e ↦ judged_listed mode way wanted code item (sym e ∙ q)
    | inr e ↦ let (c, i) = (same_refusal {A = Written} 53 0 code item).0 (sym e ∙ q) in alone_listed 20 (omega arith) refl c i
  ]

-- The code of an answer that is too long.
pub short_listed : Listed 40 0
short_listed = in_row_lem 14 0 (omega arith) (omega arith) (omega arith)
