-- Reading a blob's header, field by field: letters, version, flags, number, envelope. At each field a missing byte comes before any fault of the value.
use Rattle.std.specs.Prelude.{Bool, cond, ◌&&◌, Option as Maybe, None, Some, Result, Ok, Err, List, ℕ, ◌/◌, ◌%◌, eqb, ltb, length, get_or}
use Rattle.std.proofs.Math.Option.{Option, none, some}
use Rattle.std.specs.Float.{binary64}
use Rattle.std.specs.Float.Ieee.{of_bits}
use Rattle.lent_little.specs.Ordered.{remains, word_at}
use Rattle.lent.specs.declared.Fault.{Fault}
use Rattle.lent.specs.declared.Reason.{Reason}
use Rattle.lent.specs.declared.Reason.TheVariants.{Short, NoBlob, EnvelopeKind}
use Rattle.sheet_envelope.specs.declared.Envelope.{Envelope}
use Rattle.sheet_envelope.specs.Envelope.{envelope_at}
use Rattle.sheet_blob.specs.declared.Opened.{Opened}
use Rattle.sheet_blob.specs.Blob.{Patterns, Header, encode_header}

-- What reading a header comes to: the header, or a refusal with its reason and position; its item is 0.
abbrev pub Opening : Type 0
Opening = Result Opened Fault

abbrev pub fault : Reason → ℕ → Fault
fault reason position = record { refusal = record { reason = reason; item = 0 }; position = position }

-- What follows where the test of a field holds, else a refusal with its reason and position.
abbrev pub needing : Bool → Reason → ℕ → Opening → Opening
needing test reason position next = cond test next (Err (fault reason position))

-- The bits of the flags: the byte order (1 little-endian), the envelope kind, and those that must be 0: empty, extended, reserved.
abbrev pub flags_at : List ℕ → ℕ
flags_at s = get_or s 3 0

abbrev pub little_in : List ℕ → Bool
little_in s = eqb (flags_at s % 2) 1

abbrev pub kind_in : List ℕ → ℕ
kind_in s = flags_at s / 2 % 8

abbrev pub others_in : List ℕ → ℕ
others_in s = flags_at s / 16

-- A header read: its number, where the sheet begins, and its envelope or none.
abbrev pub opened : List ℕ → ℕ → Maybe Envelope → Opening
opened s at envelope = Ok (record { number = word_at (little_in s) s 4; at = at; envelope = envelope })

-- The number, and the envelope of kind 1, one field of 32 bytes.
unfoldable pub rest_of : List ℕ → Opening
rest_of s =
    needing (remains s 4 4) Short 4
    (cond (eqb (kind_in s) 0) (opened s 8 None)
    (needing (remains s 8 32) Short 8
    (opened s 40 (Some (envelope_at (little_in s) s 8)))))

-- The letters `GP`, version 0, and the flags: 50 where the other bits aren't 0, then 51 for an envelope kind above 1. Their position is 0.
unfoldable pub opening_of : List ℕ → Opening
opening_of s =
    needing (remains s 0 2) Short 0
    (needing (eqb (get_or s 0 0) 71 && eqb (get_or s 1 0) 80) NoBlob 0
    (needing (remains s 2 1) Short 2
    (needing (eqb (get_or s 2 0) 0) NoBlob 0
    (needing (remains s 3 1) Short 3
    (needing (eqb (others_in s) 0) NoBlob 0
    (needing (ltb (kind_in s) 2) EnvelopeKind 0
    (rest_of s)))))))

-- ---- what is read of a header of the grammar
-- The doubles of the patterns, every NaN pattern the one NaN.
abbrev pub doubles_of : Option Patterns → Maybe Envelope
doubles_of none = None
doubles_of (some p) =
    Some (record { left = of_bits binary64 p.left; right = of_bits binary64 p.right; low = of_bits binary64 p.low; high = of_bits binary64 p.high })

-- Its number, the place behind it, and its doubles.
abbrev pub opened_as : Header → Opened
opened_as h = record { number = h.number; at = length (encode_header h); envelope = doubles_of h.envelope }
