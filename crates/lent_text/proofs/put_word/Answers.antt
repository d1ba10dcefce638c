-- What is copied over a part of the text stands between what stood before and behind that part.
use Rattle.std.proofs.Common.{refl, ◌∙◌, length, arith}
use Rattle.std.proofs.lemmas.Slice.{put_mid-paste}
use Rattle.lent_text.proofs.Texts.{word_put}
use Rattle.lent_text.proofs.put_word.Goals as goal

pub returns : goal.returns
returns c =
    let a = c.args in
    record {
      place = refl;
      text = put_mid-paste a.at _ a.text.now c.copy_from_slice.new.self a.word.now (length a.word.now) c.copy_from_slice.ensures.after (omega arith) refl ∙ word_put a.text.now a.word.now a.at (length a.word.now) refl;
    }
