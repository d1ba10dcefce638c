-- The number that is answered fixes what the code came to, so that a contract that tells the number tells all: two outcomes of one are equal.
-- The idea: a code is below 256 and no reason's is 0, so item and code are read off the number.
use Rattle.std.proofs.Common.{◌≡◌, ℕ, ◌*◌, ◌+◌, ◌<◌, ap, arith}
use Rattle.std.specs.Prelude.{Result, Ok, Err}
use Rattle.lent.specs.declared.Reason.{Reason}
use Rattle.lent.specs.declared.Reason.TheVariants.{Short, ByteOrder, Kind, Count, Coordinate, Unclosed, Behind, Deep, Flat, Repeated, Outline, NotCarried, NoGround, NoOwner, Ungiven, Room, OffSheet, NoSheet, NoBlob, EnvelopeKind, OtherFrame, OtherIndex, Way, OffTable, Mode}
use Rattle.lent.specs.declared.Refusal.{Refusal}
use Rattle.lent.specs.Refusals.{code_of}
use Rattle.lent.specs.Told.{number_of}
use Rattle.lent.proofs.Refusals.{equal_refusals, code_above}

code_below : (r : Reason) → code_of r < 256
code_below Short = omega arith
code_below ByteOrder = omega arith
code_below Kind = omega arith
code_below Count = omega arith
code_below Coordinate = omega arith
code_below Unclosed = omega arith
code_below Behind = omega arith
code_below Deep = omega arith
code_below Flat = omega arith
code_below Repeated = omega arith
code_below Outline = omega arith
code_below NotCarried = omega arith
code_below NoGround = omega arith
code_below NoOwner = omega arith
code_below Ungiven = omega arith
code_below Room = omega arith
code_below OffSheet = omega arith
code_below NoSheet = omega arith
code_below NoBlob = omega arith
code_below EnvelopeKind = omega arith
code_below OtherFrame = omega arith
code_below OtherIndex = omega arith
code_below Way = omega arith
code_below OffTable = omega arith
code_below Mode = omega arith

pub same_number : (a b : Result ℕ Refusal) → number_of a ≡ number_of b → a ≡ b
same_number (Ok i) (Ok j) e = let q : i ≡ j = omega arith in ap Ok q
same_number (Ok i) (Err r) e = absurd (omega (arith, code_above r.reason, code_below r.reason))
same_number (Err r) (Ok i) e = absurd (omega (arith, code_above r.reason, code_below r.reason))
same_number (Err r) (Err s) e =
    let i : r.item ≡ s.item = omega (arith, code_below r.reason, code_below s.reason) in
    let c : code_of r.reason ≡ code_of s.reason = omega arith in
    ap Err (equal_refusals c i)
