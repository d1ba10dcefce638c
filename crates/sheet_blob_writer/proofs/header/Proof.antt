-- `sheet_blob_writer::header` meets its contract: four bytes, the number and the envelope, one behind the other. Assumes nothing.
use mathlib.Core.Path.{◌≡◌, sym, ap, ◌∙◌}
use mathlib.Core.List.{List, [], ◌∷◌, ◌++◌}
use Prim.Native.Nat.{ℕ}
use native.Mathlib.Omega.{arith}
use borrow.Author.Rules.{rules}
use lib.ListN.{length, length-set, length-append}
use lib.Seq.{sets, length-sets}
use Rattle.lent_little.specs.Ordered.{bytes}
use Rattle.lent_little.proofs.Ordered.{length_bytes}
use Rattle.lent_little.proofs.Stored.{sets_behind}
use Rattle.table.specs.Table.{Frame}
use Rattle.sheet_envelope.specs.declared.Envelope.{Envelope}
use Rattle.sheet_envelope.specs.Envelope.{around}
use Rattle.sheet_envelope.specs.Written.{envelope_bytes}
use Rattle.sheet_blob.specs.Blob.{encode_header}
use Rattle.sheet_blob_written.specs.Normal.{normal_header}
use Rattle.sheet_blob_written.proofs.Trip.{header_written}
use Rattle.sheet_blob_writer.proofs.header.Statement.{statement}
use Rattle.sheet_blob_writer.proofs.header.Tie as tie

abbrev front : List ℕ
front = 71 ∷ 80 ∷ 0 ∷ 3 ∷ []

-- The three stores.
stored : (number : ℕ) (f : Frame) (e : Envelope) (out p last : List ℕ) → e ≡ around f → p ≡ sets (sets out 0 front) 4 (bytes 4 number) → last ≡ sets p 8 (envelope_bytes e) → last ≡ sets out 0 (encode_header (normal_header number f))
stored number f e out p last q a b =
    b ∙ ap (λ x. sets p 8 (envelope_bytes x)) q ∙ ap (λ x. sets x 8 (envelope_bytes (around f))) (a ∙ sets_behind out front (bytes 4 number) 0 4 (omega arith))
    ∙ sets_behind out (front ++ bytes 4 number) (envelope_bytes (around f)) 0 8 (omega (arith, length-append front (bytes 4 number), length_bytes 4 number))
    ∙ ap (sets out 0) (sym (header_written number f))

returns : tie.Need-returns
returns c =
    let d = c.before.before in
    let e = d in
    stored _ _ _ _ _ _ e.of_frame.ensures e.put.ensures d.put-2.ensures

pub header_spec : {M : Type 1} → statement M
header_spec =
    tie.close
    (tie.spec
    (λ c. search rules)
    (λ c. simp length-set (omega arith))
    (λ c. simp length-set (omega arith))
    (λ c. simp length-set (omega arith))
    (λ c κs. search rules)
    (λ c κs. search rules)
    (λ c κs. search rules)
    (λ c. ap length (returns c) ∙ simp length-sets)
    returns)
