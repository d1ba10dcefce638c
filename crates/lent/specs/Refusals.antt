-- How the code's refusal shows a stage of the road.
use Rattle.std.specs.Prelude.{ℕ}
use Rattle.lent.specs.Stages.{Answer, refused}
use Rattle.lent.specs.declared.Reason.{Reason}
use Rattle.lent.specs.declared.Reason.TheVariants.{Short, ByteOrder, Kind, Count, Coordinate, Unclosed, Behind, Deep, Flat, Repeated, Outline, NotCarried, NoGround, NoOwner, Ungiven, Room, OffSheet, NoSheet, NoBlob, EnvelopeKind, OtherFrame, OtherIndex, Way, OffTable, Mode}
use Rattle.lent.specs.declared.Refusal.{Refusal}

-- The code of each reason, in document 01's table "Refusal numbers" and document 02's requests.
abbrev pub code_of : Reason → ℕ
code_of Short = 1
code_of ByteOrder = 2
code_of Kind = 3
code_of Count = 4
code_of Coordinate = 5
code_of Unclosed = 6
code_of Behind = 7
code_of Deep = 8
code_of Flat = 10
code_of Repeated = 11
code_of Outline = 12
code_of NotCarried = 20
code_of NoGround = 21
code_of NoOwner = 30
code_of Ungiven = 31
code_of Room = 40
code_of OffSheet = 41
code_of NoSheet = 42
code_of NoBlob = 50
code_of EnvelopeKind = 51
code_of OtherFrame = 52
code_of OtherIndex = 53
code_of Way = 54
code_of OffTable = 55
code_of Mode = 57

-- A refusal passed on.
abbrev pub refused_as : {A : Type 0} → Refusal → Answer A
refused_as r = refused (code_of r.reason) r.item
