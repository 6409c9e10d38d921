-- Text as bytes: the bytes of a quoted text, and bytes written into a part of a buffer.
use Rattle.std.specs.Prelude.{cond, List, [], ◌∷◌, ℕ, ◌+◌, leb, length, Option, Some, None}
use Prim.Native.Char.{code}
use Prim.Native.String.{String, [] as nothing, ◌∷◌ as followed}
use Rattle.std.proofs.lemmas.List.Edits.{sets}

-- the bytes of a text in ASCII
abbrev pub bytes : String → List ℕ
bytes nothing = []
bytes (followed c s) = code c ∷ bytes s

-- how many bytes were written, if there was room for them, and the buffer that is left
pub record Written : Type 0 where
  pub count : Option ℕ
  pub text : List ℕ

abbrev pub written : Option ℕ → List ℕ → Written
written n t = record { count = n; text = t }

-- the bytes bs written from a place of the text on, where there is room for all of them; else nothing is
unfoldable pub written_at : List ℕ → ℕ → List ℕ → Written
written_at text at bs = cond (leb (at + length bs) (length text)) (written (Some (length bs)) (sets text at bs)) (written None text)
