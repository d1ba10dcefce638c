-- Reasons with equal codes are the same reason, so that what a refusal stands for says all of it. The idea: a code is read back as the reason that has it.
use Rattle.std.proofs.Common.{◌≡◌, ℕ, ◌≤◌, refl, ap, sym, ◌∙◌, arith}
use Rattle.std.specs.Prelude.{cond, eqb}
use Rattle.lent.specs.declared.Reason.{Reason}
use Rattle.lent.specs.declared.Reason.TheVariants.{Short, ByteOrder, Kind, Count, Coordinate, Unclosed, Behind, Deep, Flat, Repeated, Outline, NotCarried, NoGround, NoOwner, Ungiven, Room, OffSheet, NoSheet, NoBlob, EnvelopeKind, OtherFrame, OtherIndex, Way, OffTable, Mode}
use Rattle.lent.specs.declared.Refusal.{Refusal}
use Rattle.lent.specs.Refusals.{code_of}

reason_of : ℕ → Reason
reason_of n =
    cond (eqb n 1) Short
    (cond (eqb n 2) ByteOrder
    (cond (eqb n 3) Kind
    (cond (eqb n 4) Count
    (cond (eqb n 5) Coordinate
    (cond (eqb n 6) Unclosed
    (cond (eqb n 7) Behind
    (cond (eqb n 8) Deep
    (cond (eqb n 10) Flat
    (cond (eqb n 11) Repeated
    (cond (eqb n 12) Outline
    (cond (eqb n 20) NotCarried
    (cond (eqb n 21) NoGround
    (cond (eqb n 30) NoOwner
    (cond (eqb n 31) Ungiven
    (cond (eqb n 40) Room
    (cond (eqb n 41) OffSheet
    (cond (eqb n 42) NoSheet
    (cond (eqb n 50) NoBlob
    (cond (eqb n 51) EnvelopeKind
    (cond (eqb n 52) OtherFrame
    (cond (eqb n 53) OtherIndex
    (cond (eqb n 54) Way
    (cond (eqb n 55) OffTable Mode)))))))))))))))))))))))

read_back : (r : Reason) → reason_of (code_of r) ≡ r
unfolding reason_of
read_back Short = refl
read_back ByteOrder = refl
read_back Kind = refl
read_back Count = refl
read_back Coordinate = refl
read_back Unclosed = refl
read_back Behind = refl
read_back Deep = refl
read_back Flat = refl
read_back Repeated = refl
read_back Outline = refl
read_back NotCarried = refl
read_back NoGround = refl
read_back NoOwner = refl
read_back Ungiven = refl
read_back Room = refl
read_back OffSheet = refl
read_back NoSheet = refl
read_back NoBlob = refl
read_back EnvelopeKind = refl
read_back OtherFrame = refl
read_back OtherIndex = refl
read_back Way = refl
read_back OffTable = refl
read_back Mode = refl

pub same_reason : {r r' : Reason} → code_of r ≡ code_of r' → r ≡ r'
same_reason {r} {r'} e = sym (read_back r) ∙ ap reason_of e ∙ read_back r'

pub equal_refusals : {f f' : Refusal} → code_of f.reason ≡ code_of f'.reason → f.item ≡ f'.item → f ≡ f'
equal_refusals c i = let r = same_reason c in λ k. record { reason = r k; item = i k }

-- No reason has code 0, which is that of success.
pub code_above : (r : Reason) → 1 ≤ code_of r
code_above Short = omega arith
code_above ByteOrder = omega arith
code_above Kind = omega arith
code_above Count = omega arith
code_above Coordinate = omega arith
code_above Unclosed = omega arith
code_above Behind = omega arith
code_above Deep = omega arith
code_above Flat = omega arith
code_above Repeated = omega arith
code_above Outline = omega arith
code_above NotCarried = omega arith
code_above NoGround = omega arith
code_above NoOwner = omega arith
code_above Ungiven = omega arith
code_above Room = omega arith
code_above OffSheet = omega arith
code_above NoSheet = omega arith
code_above NoBlob = omega arith
code_above EnvelopeKind = omega arith
code_above OtherFrame = omega arith
code_above OtherIndex = omega arith
code_above Way = omega arith
code_above OffTable = omega arith
code_above Mode = omega arith

pub no_success : (r : Reason) → code_of r ≡ 0 → ⊥
no_success r e = let h = code_above r in omega arith
