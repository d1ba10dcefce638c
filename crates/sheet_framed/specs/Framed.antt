-- The frame of a sheet's table, which an envelope must equal.
use Rattle.table.specs.Table.{Frame, corners, frame_of}
use Rattle.sheet_form.specs.Numbers.{Sheet}

abbrev pub frame_on : Sheet → Frame
frame_on n = frame_of (corners n.table)
