-- Text put into lent bytes: what stands there afterwards, every byte.
use Rattle.std.specs.Prelude.{◌≡◌, List, ◌++◌, ℕ, ◌+◌, length, take, drop}

-- The text after a word is put behind its first `at` bytes: these, the word, and the rest as it was.
unfoldable pub put_at : ℕ → List ℕ → List ℕ → List ℕ
put_at at word text = take at text ++ word ++ drop (at + length word) text

-- A word is put behind the first `at` bytes of a text: r is the place behind it, and the text comes to be `after`.
pub record Put (at : ℕ) (word before : List ℕ) (r : ℕ) (after : List ℕ) : Type 0 where
  pub place : r ≡ at + length word
  pub text : after ≡ put_at at word before
