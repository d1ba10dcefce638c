-- `lent_text::put_digits`, which calls itself, meets its contract. Its tenth has one digit less. What `most` allows falls. Assumes nothing.
use native.Mathlib.Omega.{arith}
use borrow.Author.Rules.{rules}
use Rattle.lent_text.proofs.Texts.{put_behind, room_for_two, tenth_below, one_digit, last_digit}
use Prim.Native.Nat.{ℕ, ◌<◌}
use borrow.Fn.Kinds.{In}
use borrow.Fn.PlainCycle.{Measures, is, falls, and}
use Rattle.lent_text.proofs.put_digits.Reads as put-digits
use Rattle.lent_text.proofs.put_digits.Kinds as put-digits-kinds
use Rattle.lent_text.proofs.+put_digits.Lts-put_digits as put-digits-lts
use Rattle.lent_text.proofs.put.Reads as put_reads
use Rattle.lent_text.proofs.+put_digits.{statement}
use Rattle.lent_text.proofs.+put_digits.Tie.{close}

abbrev most : Measures 1 put-digits-kinds.ps ℕ
most κs a = a.1.1.1.0

-- ---- `most` is t: the contract may be assumed below t
module _ (t : ℕ) where
  abbrev asked : In 1 put-digits-kinds.ps
  asked = and 1 put-digits-kinds.ps (is 1 put-digits-kinds.ps most t) put-digits.Pre

  abbrev claims : put-digits-lts.Claims
  claims = (put_reads.Asked, put_reads.Learnt, and 1 put-digits-kinds.ps (falls 1 put-digits-kinds.ps ◌<◌ most t) put-digits.Pre, put-digits.Post)

  returns : put-digits-lts.Need-returns-then-n-le9 claims asked put-digits.Post
  returns c =
      let i = c in
      let a = i.args in
      let p = i.requires.1 in
      let e = c.put.ensures in
      (omega (arith, p.0, e.place), rw (one_digit a.most a.n p.0 i.if-n-le9.true) e)

  put_digits_requires : put-digits-lts.Need-put_digits-next-requires claims asked put-digits.Post
  put_digits_requires c κs =
      let a = c.args in
      let p = c.requires in
      let two = room_for_two a.most a.n c.if-n-le9.false p.1.2 in
      (omega (arith, two, p.0), (omega (arith, two), omega (arith, two, p.1.1), tenth_below a.most a.n p.1.0 p.1.2))

  returns_2 : put-digits-lts.Need-returns claims asked put-digits.Post
  returns_2 c =
      let l = c.before.before.before.before.before.before in
      let i = l in
      let a = i.args in
      let p = i.requires.1 in
      let d = l.put_digits-next.ensures in
      let e = c.put-2.ensures in
      (omega (arith, p.0, d.0, e.place), rw (last_digit a.most a.n p.0 i.if-n-le9.false) (put_behind (omega (arith, p.1)) d.1 e))

pub +put_digits_spec : {M : Type 1} → statement M
+put_digits_spec =
    close most
    (λ t. put-digits-lts.spec
    (claims t)
    (asked t)
    put-digits.Post
    (λ c. search rules)
    (λ c. search rules)
    (λ c κs. search rules)
    (λ c. search rules)
    (returns t)
    (λ c. search rules)
    (put_digits_requires t)
    (λ c. search rules)
    (λ c. search rules)
    (λ c κs. search rules)
    (λ c. search rules)
    (returns_2 t))
