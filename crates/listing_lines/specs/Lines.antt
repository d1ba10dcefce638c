-- The lines of the listing: their words, and a line for each polygon.
use Rattle.std.specs.Prelude.{List, [], ◌∷◌, ◌++◌, ℕ, suc, ℤ, pos}
use Rattle.lent_text.specs.Text.{ascii, line_of}

-- The words of the lines.
abbrev pub sheet_word : List ℕ
sheet_word = ascii "sheet"

abbrev pub polygon_word : List ℕ
polygon_word = ascii "polygon"

abbrev pub gap_word : List ℕ
gap_word = ascii "gap"

abbrev pub overlap_word : List ℕ
overlap_word = ascii "overlap"

abbrev pub after_word : List ℕ
after_word = ascii "after"

abbrev pub refused_word : List ℕ
refused_word = ascii "refused"

-- The line of a refusal: its code and its item.
abbrev pub refused_line : ℕ → ℕ → List ℕ
refused_line code item = line_of refused_word (pos code) (pos item)

-- The two lines of the verdict, each with its line feed.
abbrev pub clean_line : List ℕ
clean_line = ascii "verdict clean" ++ 10 ∷ []

abbrev pub repair_line : List ℕ
repair_line = ascii "verdict repair" ++ 10 ∷ []

-- A line for each polygon, from number k on: the word, the number, and a double area.
abbrev pub numbered : List ℕ → ℕ → List ℤ → List ℕ
numbered word k [] = []
numbered word k (area ∷ l) = line_of word (pos k) area ++ numbered word (suc k) l
