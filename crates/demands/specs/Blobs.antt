-- What the promises on blobs speak of: the modes that read them, and which bytes are a blob of a sheet.
use Rattle.std.specs.Prelude.{◌≡◌, List, ℕ}
use Rattle.lent.specs.Stages.{value}
use Rattle.wkb.specs.Standard.{Geometry, encode}
use Rattle.sheet_form.specs.Numbers.{Sheet, members}
use Rattle.sheet_standard.specs.Limits.{SheetFits, sheet_of}
use Rattle.sheet_blob.specs.declared.Opened.{Opened}
use Rattle.sheet_blob.specs.Blob.{Header, HeaderFits, blob_of}
use Rattle.sheet_blob.specs.Opening.{opened_as}
use Rattle.sheet_modes.specs.Modes.{Edition, edited, blob, mode_of}

-- The mode reads blobs with a sheet of the edition.
abbrev pub ReadsBlobs : ℕ → Edition → Type 0
ReadsBlobs mode edition = mode_of mode ≡ value (record { form = blob; edition = edition })

-- The bytes are a blob with this header read and this sheet: a header of OGC 12-128 in either byte order, with any number and any envelope or none, and behind it the
-- standard's encoding of a tree of geometries within the limits that unfolds to a sheet, which is n in its edition.
pub record BlobOf (edition : Edition) (s : List ℕ) (r : Opened) (n : Sheet) : Type 0 where
  pub header : Header
  pub fits : HeaderFits header
  pub opened : r ≡ opened_as header
  pub tree : Geometry
  pub within : SheetFits members tree
  pub bytes : s ≡ blob_of header (encode tree)
  pub is : edited edition (sheet_of tree) ≡ n
