-- Each return is for what is at fault there, and where nothing is the rest decides.
use Rattle.std.proofs.Common.{◌∙◌, Err, sym, ap}
use Rattle.lent.specs.declared.Reason.TheVariants.{Short, NoBlob, EnvelopeKind}
use Rattle.sheet_blob.specs.Faults.{letters_cut, letters, version_cut, version, flags_cut, flags, kind}
use Rattle.sheet_blob.proofs.Refusals.{flagged, refused_for}
use Rattle.sheet_blob.proofs.header.Goals as goal

pub returns-then-s-lt2 : goal.returns-then-s-lt2
returns-then-s-lt2 c = ap Err c.fault.ensures ∙ sym (refused_for _ Short (letters_cut c.if-s-lt2.true))

pub returns-then-s-ne71 : goal.returns-then-s-ne71
returns-then-s-ne71 c = ap Err c.fault-then-s-ne71.ensures ∙ sym (refused_for _ NoBlob (letters c.if-s-lt2.false (λ e. c.if-s-ne71.true e.0)))

pub returns-then-s-ne80 : goal.returns-then-s-ne80
returns-then-s-ne80 c = ap Err c.fault-then-s-ne80.ensures ∙ sym (refused_for _ NoBlob (letters c.if-s-lt2.false (λ e. c.if-s-ne80.true e.1)))

pub returns-then-s-lt3 : goal.returns-then-s-lt3
returns-then-s-lt3 c = ap Err c.fault-then-s-lt3.ensures ∙ sym (refused_for _ Short (version_cut (c.if-s-lt2.false, c.if-s-ne71.false, c.if-s-ne80.false) c.if-s-lt3.true))

pub returns-then-s-ne0 : goal.returns-then-s-ne0
returns-then-s-ne0 c = ap Err c.fault-then-s-ne0.ensures ∙ sym (refused_for _ NoBlob (version (c.if-s-lt2.false, c.if-s-ne71.false, c.if-s-ne80.false) c.if-s-lt3.false c.if-s-ne0.true))

pub returns-then-s-lt4 : goal.returns-then-s-lt4
returns-then-s-lt4 c =
    ap Err c.fault-then-s-lt4.ensures
    ∙ sym (refused_for _ Short (flags_cut ((c.if-s-lt2.false, c.if-s-ne71.false, c.if-s-ne80.false), c.if-s-lt3.false, c.if-s-ne0.false) c.if-s-lt4.true))

pub returns-then-flags-ne0 : goal.returns-then-flags-ne0
returns-then-flags-ne0 c =
    ap Err c.fault-then-flags-ne0.ensures
    ∙ sym (refused_for _ NoBlob (flags ((c.if-s-lt2.false, c.if-s-ne71.false, c.if-s-ne80.false), c.if-s-lt3.false, c.if-s-ne0.false) c.if-s-lt4.false c.if-flags-ne0.true))

pub returns-then-flags-ge2 : goal.returns-then-flags-ge2
returns-then-flags-ge2 c =
    ap Err c.fault-then-flags-ge2.ensures
    ∙ sym (refused_for _ EnvelopeKind (kind ((c.if-s-lt2.false, c.if-s-ne71.false, c.if-s-ne80.false), c.if-s-lt3.false, c.if-s-ne0.false) c.if-s-lt4.false c.if-flags-ne0.false c.if-flags-ge2.true))

pub returns : goal.returns
returns c =
    c.rest.ensures
    ∙ sym (flagged _ (((c.if-s-lt2.false, c.if-s-ne71.false, c.if-s-ne80.false), c.if-s-lt3.false, c.if-s-ne0.false), c.if-s-lt4.false, c.if-flags-ne0.false, c.if-flags-ge2.false))
